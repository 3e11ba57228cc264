-- Command names and minor keywords (this project's own).
use Rattle.std.specs.Prelude.{ℕ, ◌==◌, ◌&&◌, ◌||◌, Bool, true, false, if◌then◌else◌, List, [], ◌∷◌, codes}
use Rattle.std.specs.List.{list_any}
use Rattle.outer_syntax.specs.declared.bracket.Bracket.TheVariants.{Comment, String, Cartouche}
use Rattle.outer_syntax.specs.declared.row.Row.{Row}
use Rattle.outer_syntax.specs.declared.row.Row.TheVariants.{Space, Enclosed, Error, Symbol, LongIdent, Word, Sym}
use Rattle.outer_syntax.specs.declared.kind.Kind.{Kind}
use Rattle.outer_syntax.specs.declared.kind.Kind.TheVariants as kind

-- both are the same scalars
abbrev pub same : List ℕ → List ℕ → Bool
same [] [] = true
same [] (d ∷ ds) = false
same (c ∷ cs) [] = false
same (c ∷ cs) (d ∷ ds) = c == d && same cs ds

-- a command of the language that stands within a theory
abbrev pub is_inner_command : List ℕ → Bool
is_inner_command s = list_any (same s) (codes "axiom" ∷ codes "lemma" ∷ codes "load"
    ∷ codes "proof" ∷ codes "fix" ∷ codes "assume" ∷ codes "have" ∷ codes "show" ∷ codes "next"
    ∷ codes "qed" ∷ codes "by" ∷ [])

-- a command name of the language: one of these, or what begins or ends a theory
abbrev pub is_base_command : List ℕ → Bool
is_base_command s = same s (codes "theory") || same s (codes "end") || is_inner_command s

-- a minor keyword
abbrev pub is_minor_keyword : List ℕ → Bool
is_minor_keyword s = list_any (same s) (codes "imports" ∷ codes "keywords" ∷ codes "begin" ∷ [])

-- a command name where these names are in force beside the language's own
abbrev pub is_in_force : List (List ℕ) → List ℕ → Bool
is_in_force names s = is_base_command s || list_any (same s) names

-- the kind of a row's token; an identifier is a command, a keyword or neither, by the names
abbrev pub kind_of : (List ℕ → Bool) → Row → List ℕ → Kind
kind_of is_command Space s = kind.Space
kind_of is_command (Enclosed Comment) s = kind.Comment
kind_of is_command (Enclosed String) s = kind.String
kind_of is_command (Enclosed Cartouche) s = kind.Cartouche
kind_of is_command Error s = kind.Error
kind_of is_command Symbol s = kind.Symbol
kind_of is_command LongIdent s = kind.LongIdent
kind_of is_command Word s = if is_command s then kind.Command
    else (if is_minor_keyword s then kind.Keyword else kind.Ident)
kind_of is_command Sym s = kind.Sym

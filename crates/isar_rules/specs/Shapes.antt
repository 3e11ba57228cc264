-- The shapes of commands (after Isabelle's Isar, Wenzel 1999; this project's own choice).
use Rattle.std.specs.Prelude.{ℕ, ◌==◌, Bool, true, false, if◌then◌else◌, List, [], ◌∷◌, length, take, drop, map, fold, Option, Some, None}
use Rattle.std.specs.Option.{option_map_or, option_and_then}
use Rattle.outer_syntax.specs.Kinds.{is_command}
use Rattle.outer_syntax.specs.Lexing.{header_end}
use Rattle.outer_syntax.specs.Tokens.{text_of}
use Rattle.outer_syntax.specs.declared.token.Token.{Token}
use Rattle.outer_syntax.specs.Reading.{header_in}
use Rattle.doc_nodes.specs.Needs.{AliasList, meant, needs}
use Rattle.isar_rules.specs.declared.shape.Shape.{Shape}
use Rattle.isar_rules.specs.declared.shape.Shape.TheVariants as shape
use Rattle.isar_rules.specs.declared.verb.Verb.{Verb}
use Rattle.isar_rules.specs.declared.verb.Verb.TheVariants as verb
use Rattle.isar_rules.specs.Verbs.{verb_of}
use Rattle.isar_rules.specs.Words.{Word, name, quoted, colon, dash, words, spot, spot_of}

-- a command of words behind its own one: NAME is a name, FORM a quoted formula
abbrev pub worded : Verb → List Word → Option Shape
-- `end`
worded verb.End [] = Some shape.End
-- `axiom` NAME `:` FORM, `lemma` NAME `:` FORM
worded verb.Axiom (name n ∷ colon ∷ quoted f ∷ []) = Some (shape.Axiom n f)
worded verb.Lemma (name n ∷ colon ∷ quoted f ∷ []) = Some (shape.Lemma n f)
-- `proof` [`-`]
worded verb.Proof [] = Some (shape.Proof false)
worded verb.Proof (dash ∷ []) = Some (shape.Proof true)
-- `fix` NAME
worded verb.Fix (name n ∷ []) = Some (shape.Fix n)
-- `assume` [NAME `:`] FORM, `have` [NAME `:`] FORM
worded verb.Assume (quoted f ∷ []) = Some (shape.Assume None f)
worded verb.Assume (name n ∷ colon ∷ quoted f ∷ []) = Some (shape.Assume (Some n) f)
worded verb.Have (quoted f ∷ []) = Some (shape.Have None f)
worded verb.Have (name n ∷ colon ∷ quoted f ∷ []) = Some (shape.Have (Some n) f)
-- `show` FORM
worded verb.Show (quoted f ∷ []) = Some (shape.Show f)
-- `next`, `qed`
worded verb.Next [] = Some shape.Next
worded verb.Qed [] = Some shape.Qed
-- `by`, whatever follows
worded verb.By more = Some shape.By
worded _ _ = None

-- where the last token ends
abbrev pub last_stop : List Token → ℕ
last_stop tokens = fold (λ stop t. t.range.stop) 0 tokens

-- the tokens are a header and nothing behind it
abbrev pub is_header : List ℕ → List Token → Bool
is_header source tokens =
    option_map_or (λ stop. stop == last_stop tokens) (header_end source) false

-- `theory` NAME [`imports` NAME..] and so on, with so many imports
abbrev pub headed : List ℕ → ℕ → List Token → Option Shape
headed source count (first ∷ n ∷ more) = Some (shape.Theory (spot_of source n)
    (map (spot_of source) (take count (drop 1 more))))
headed source count _ = None

-- a header, which is read under the language's own names
abbrev pub header_shape : List ℕ → List Token → Option Shape
header_shape source tokens = if is_header source tokens
    then option_and_then (λ h. headed source (length h.imports) tokens) (header_in source) else None

-- `load` STRING, of a blob's name
abbrev pub load_shape : List ℕ → List Token → Option (List ℕ) → Option Shape
load_shape source (first ∷ blob ∷ more) (Some asked) = Some (shape.Load (spot asked blob.range))
load_shape source _ _ = None

-- the shape of a command, by its tokens with its own word as the first
abbrev pub shape_by : AliasList → List ℕ → List Token → Verb → Option Shape
shape_by aliases source tokens verb.Theory = header_shape source tokens
shape_by aliases source tokens verb.Load = load_shape source tokens (needs source aliases)
shape_by aliases source tokens v = worded v (words source (drop 1 tokens))

-- the shape of a command under these aliases; none where it is malformed
abbrev pub shape_of : AliasList → List ℕ → List Token → Option Shape
shape_of aliases source [] = None
shape_of aliases source (t ∷ ts) = if is_command t.kind
    then option_and_then (shape_by aliases source (t ∷ ts))
    (verb_of (meant aliases (text_of source t))) else None

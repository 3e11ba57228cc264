-- The shape of a command, by the command that its first token begins.
use Rattle.std.proofs.Common.{◌≡◌, ℕ, Bool, true, false, List, [], ◌∷◌, ◌≤◌, length, get_or, arith, Option, Some, None, refl, ap, sym, ◌∙◌}
use Rattle.std.specs.Prelude.{if◌then◌else◌}
use Rattle.std.specs.Option.{option_and_then}
use Rattle.outer_syntax.specs.Kinds.{is_command}
use Rattle.outer_syntax.specs.Tokens.{text_of}
use Rattle.outer_syntax.specs.declared.token.Token.{Token}
use Rattle.doc_nodes.specs.Needs.{AliasList, meant}
use Rattle.isar_rules.specs.declared.shape.Shape.TheVariants as shape
use Rattle.isar_rules.specs.declared.verb.Verb.{Verb}
use Rattle.isar_rules.specs.declared.verb.Verb.TheVariants as verb
use Rattle.isar_rules.specs.Verbs.{verb_of}
use Rattle.isar_rules.specs.Shapes.{shape_by, shape_of}
use Rattle.command_shapes.specs.Commands.{verb_in, is_by, begins_by}

moved : {A B : Type 0} (b : Bool) (f : A → Option B) (o : Option A) → (if b then option_and_then f o else None) ≡ option_and_then f (if b then o else None)
moved true f o = refl
moved false f o = refl

-- a command's shape is that of the command that its first token begins
pub shape_is : (aliases : AliasList) (source : List ℕ) (t : Token) (ts : List Token) (begun : Option Verb)
    → begun ≡ verb_in aliases source t
    → option_and_then (shape_by aliases source (t ∷ ts)) begun ≡ shape_of aliases source (t ∷ ts)
shape_is aliases source t ts begun is =
    ap (option_and_then (shape_by aliases source (t ∷ ts))) is
    ∙ sym (moved (is_command t.kind) (shape_by aliases source (t ∷ ts)) (verb_of (meant aliases (text_of source t))))

-- so it is where the list has a first token
pub shape_from : (aliases : AliasList) (source : List ℕ) (tokens : List Token) (d : Token) (begun : Verb) → 1 ≤ length tokens
    → Some begun ≡ verb_in aliases source (get_or tokens 0 d) → shape_by aliases source tokens begun ≡ shape_of aliases source tokens
shape_from aliases source [] d begun some is = absurd (omega arith)
shape_from aliases source (t ∷ ts) d begun some is = shape_is aliases source t ts (Some begun) is

by-shape : (aliases : AliasList) (source : List ℕ) (t : Token) (ts : List Token) (begun : Option Verb) → is_by begun ≡ true
    → option_and_then (shape_by aliases source (t ∷ ts)) begun ≡ Some shape.By
by-shape aliases source t ts (Some verb.By) e = refl
by-shape aliases source t ts _ e = absurd (cc e)

-- the shape of `by` is the same whatever follows
pub by-alone : (aliases : AliasList) (source : List ℕ) (t : Token) (ts : List Token) → begins_by aliases source t ≡ true
    → shape_of aliases source (t ∷ ts) ≡ Some shape.By
by-alone aliases source t ts e =
    sym (shape_is aliases source t ts (verb_in aliases source t) refl) ∙ by-shape aliases source t ts (verb_in aliases source t) e

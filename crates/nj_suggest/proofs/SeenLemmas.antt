-- What may be cited is what its name means in the scope.
use Rattle.std.proofs.Common.{◌≡◌, ℕ, suc, zero, Bool, true, false, not, List, [], ◌∷◌, take, find, bytes_eq, cond, Some, refl, ap, ◌∙◌}
use Rattle.std.specs.List.{AllByRecursion}
use Rattle.std.proofs.lemmas.Bool.{or_parts}
use Rattle.std.proofs.lemmas.Slice.Eq.{bytes_eq-Decides}
use Rattle.text_words.proofs.KnownLists.{unlike_turned}
use Rattle.nj_formula.specs.declared.formula.Formula.{Formula}
use Rattle.theory_ctx.specs.declared.local.Local.{Local}
use Rattle.suggest_rules.specs.declared.names.Names.{Names}
use Rattle.suggest_rules.specs.Names.{others, unhidden, citable, is_name_of, next_name, assuming}
use Rattle.nj_suggest.specs.Plain.{IsPlain}
use Rattle.nj_suggest.proofs.DotLemmas.{next_name-part}
use Rattle.nj_suggest.proofs.KnownFree.{next_free}

-- the name is of one part, and the first fact of this name is this one
pub record Means (locals : List Local) (local : Local) : Type 0 where
  pub plain : IsPlain local
  pub first : find (λ other. bytes_eq other.name local.name) locals ≡ Some local

abbrev pub Sees : List Local → List Local → Type 0
Sees locals facts = AllByRecursion (Means locals) facts

itself : (x : List ℕ) → bytes_eq x x ≡ true
itself x = (bytes_eq-Decides x x).1 refl

-- a fact with another name in front of it
behind : (new local : Local) (locals : List Local) → bytes_eq new.name local.name ≡ false → Means locals local → Means (new ∷ locals) local
behind new local locals other means = record {
  plain = means.plain;
  first = ap (λ b. cond b (Some new) (find (λ o. bytes_eq o.name local.name) locals)) other ∙ means.first;
}

front : (new : Local) (locals : List Local) → IsPlain new → Means (new ∷ locals) new
front new locals plain = record {
  plain = plain;
  first = ap (λ b. cond b (Some new) (find (λ o. bytes_eq o.name new.name) locals)) (itself new.name);
}

-- the facts but for those of a name, behind one of this name
rest_behind : (new : Local) (locals facts : List Local) → Sees locals facts → Sees (new ∷ locals) (others new.name facts)
rest_behind new locals [] sees = tt
rest_behind new locals (local ∷ facts) sees = go (rest_behind new locals facts sees.1) (bytes_eq local.name new.name) refl
  where
    go : Sees (new ∷ locals) (others new.name facts) → (b : Bool) → bytes_eq local.name new.name ≡ b → Sees (new ∷ locals) (cond (not b) (local ∷ others new.name facts) (others new.name facts))
    go more true e = more
    go more false e = (behind new local locals (unlike_turned local.name new.name e) sees.0, more)

unhidden-seen : (locals : List Local) → AllByRecursion IsPlain locals → Sees locals (unhidden locals)
unhidden-seen [] plain = tt
unhidden-seen (local ∷ locals) plain = (front local locals plain.0, rest_behind local locals (unhidden locals) (unhidden-seen locals plain.1))

front-seen : (n : ℕ) (locals facts : List Local) → Sees locals facts → Sees locals (take n facts)
front-seen zero locals facts sees = tt
front-seen (suc n) locals [] sees = tt
front-seen (suc n) locals (local ∷ facts) sees = (sees.0, front-seen n locals facts sees.1)

pub citable-seen : (locals : List Local) → AllByRecursion IsPlain locals → Sees locals (citable locals).facts
citable-seen locals plain = front-seen 16 locals (unhidden locals) (unhidden-seen locals plain)

-- facts of which none has the name, behind one that has it
all_behind : (new : Local) (locals facts : List Local) → is_name_of facts new.name ≡ false → Sees locals facts → Sees (new ∷ locals) facts
all_behind new locals [] e sees = tt
all_behind new locals (local ∷ facts) e sees =
    let parts = or_parts (bytes_eq local.name new.name) (is_name_of facts new.name) e in
    (behind new local locals (unlike_turned local.name new.name parts.0) sees.0, all_behind new locals facts parts.1 sees.1)

pub assuming-seen : (aliases : List (List ℕ)) (names : Names) (a : Formula) (locals : List Local) → Sees locals names.facts
    → Sees (record { name = next_name aliases names; formula = a } ∷ locals) (assuming aliases names a).facts
assuming-seen aliases names a locals sees =
    let new : Local = record { name = next_name aliases names; formula = a } in
    (front new locals (next_name-part aliases names), all_behind new locals names.facts (or_parts _ _ (next_free aliases names)).0 sees)

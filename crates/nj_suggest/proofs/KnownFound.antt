-- What was found was found in one of the ways in which it is looked for.
use Rattle.std.proofs.Common.{◌≡◌, Bool, true, false, List, [], ◌∷◌, cond, find, Option, Some, None, option_map, refl, inl, inr, ◌⊎◌, ⊎_elim}
use Rattle.std.specs.List.{AllByRecursion}
use Rattle.std.specs.Option.{option_or}
use Rattle.std.proofs.lemmas.Option.{same_Some}
use Rattle.theory_ctx.specs.declared.local.Local.{Local}
use Rattle.proof_terms.specs.declared.term.Term.{Term}
use Rattle.suggest_rules.specs.Search.{if_so, both, first_of}

pub either : (one other : Option Term) (t : Term) → option_or one other ≡ Some t → (one ≡ Some t) ⊎ (other ≡ Some t)
either None other t e = inr e
either (Some u) other t e = inl e

pub so : (test : Bool) (found : Option Term) (t : Term) → if_so test found ≡ Some t → (test ≡ true) × (found ≡ Some t)
so true found t e = (refl, e)
so false found t e = cc

-- what a function makes of what was found
pub record Mapped {A : Type 0} (make : A → Term) (found : Option A) (t : Term) : Type 0 where
  pub part : A
  pub found_is : found ≡ Some part
  pub made : make part ≡ t

pub mapped : (make : Term → Term) (found : Option Term) (t : Term) → option_map make found ≡ Some t → Mapped make found t
mapped make None t e = cc
mapped make (Some u) t e = record { part = u; found_is = refl; made = same_Some (make u) t e }

-- what a function makes of two parts
pub record Paired (make : Term → Term → Term) (one other : Option Term) (t : Term) : Type 0 where
  pub left : Term
  pub right : Term
  pub left_is : one ≡ Some left
  pub right_is : other ≡ Some right
  pub made : make left right ≡ t

pub paired : (make : Term → Term → Term) (one other : Option Term) (t : Term) → both make one other ≡ Some t → Paired make one other t
paired make None other t e = cc
paired make (Some u) None t e = cc
paired make (Some u) (Some v) t e = record { left = u; right = v; left_is = refl; right_is = refl; made = same_Some (make u v) t e }

-- the fact of which it was found
pub record Among (P : Local → Type 0) (try : Local → Option Term) (t : Term) : Type 0 where
  pub local : Local
  pub holds : P local
  pub found_is : try local ≡ Some t

pub among : (P : Local → Type 0) (try : Local → Option Term) (facts : List Local) (t : Term) → AllByRecursion P facts → first_of try facts ≡ Some t → Among P try t
among P try [] t all e = cc
among P try (local ∷ facts) t all e = ⊎_elim
    (λ here. record { local = local; holds = all.0; found_is = here })
    (λ later. among P try facts t all.1 later)
    (either (try local) (first_of try facts) t e)

-- the fact that passes
pub record Passing (P : Local → Type 0) (test : Local → Bool) (make : Local → Term) (t : Term) : Type 0 where
  pub local : Local
  pub holds : P local
  pub passes : test local ≡ true
  pub made : make local ≡ t

pub passing : (P : Local → Type 0) (test : Local → Bool) (make : Local → Term) (facts : List Local) (t : Term) → AllByRecursion P facts
    → option_map make (find test facts) ≡ Some t → Passing P test make t
passing P test make [] t all e = cc
passing P test make (local ∷ facts) t all e = go (λ is. passing P test make facts t all.1 is) (test local) refl e
  where
    go : (option_map make (find test facts) ≡ Some t → Passing P test make t) → (b : Bool) → test local ≡ b → option_map make (cond b (Some local) (find test facts)) ≡ Some t → Passing P test make t
    go later true passes is = record { local = local; holds = all.0; passes = passes; made = same_Some (make local) t is }
    go later false fails is = later is

-- What a name means stands in the scope.
use Rattle.std.proofs.Common.{◌≡◌, ◌⊎◌, ℕ, Bool, true, false, cond, List, [], ◌∷◌, map, filter, Option, Some, None, refl, sym, ◌∙◌, ap, subst, inl, inr, ⊎_elim}
use Rattle.std.specs.List.{find}
use Rattle.nj_formula.specs.declared.formula.Formula.{Formula}
use Rattle.nj_formula.specs.Meaning.{meaning}
use Rattle.nj_formula.specs.Statement.{Statement}
use Rattle.nj_kernel.specs.Sets.{members}
use Rattle.theory_ctx.specs.declared.local.Local.{Local}
use Rattle.theory_ctx.specs.Facts.{Fact, fact_of, facts_elsewhere, is_called, is_import}
use Rattle.theory_ctx.specs.Answers.{found}
use Rattle.theory_ctx.specs.Looked.{among, first_of, looked_by, name_parts}
use Rattle.theory_ctx.specs.Locals.{Scoped, local_of, local_first, looked_in}
use Rattle.proof_checks.specs.Scopes.{Stands}

find_member : {A : Type 0} (h : A → Statement) (p : A → Bool) (xs : List A) (x : A) → find p xs ≡ Some x → members (map h xs) (h x)
find_member h p [] x e = cc
find_member h p (y ∷ ys) x e = by (p y) refl (find_member h p ys x)
  where
    by : (b : Bool) → p y ≡ b → (find p ys ≡ Some x → members (map h ys) (h x)) → members (map h (y ∷ ys)) (h x)
    by true is rest = let same : y ≡ x = cc (sym (ap (λ b. cond b (Some y) (find p ys)) is) ∙ e) in inl (ap h same)
    by false is rest = inr (rest (sym (ap (λ b. cond b (Some y) (find p ys)) is) ∙ e))

filter_member : {A : Type 0} (h : A → Statement) (p : A → Bool) (xs : List A) (a : Statement) → members (map h (filter p xs)) a → members (map h xs) a
filter_member h p [] a m = m
filter_member h p (y ∷ ys) a m = by (p y) m (filter_member h p ys a)
  where
    by : (b : Bool) → members (map h (cond b (y ∷ filter p ys) (filter p ys))) a → (members (map h (filter p ys)) a → members (map h ys) a)
        → members (map h (y ∷ ys)) a
    by true m rest = ⊎_elim (λ e. inl e) (λ n. inr (rest n)) m
    by false m rest = inr (rest m)

-- a fact says the statement
abbrev In : List Fact → Statement → Type 0
In facts = members (map (λ fact. meaning fact.1) facts)

among_in : (xs : List Fact) (t : Option (List ℕ)) (n : List ℕ) (f : Formula) → among xs ≡ found t n f → In xs (meaning f)
among_in [] t n f e = cc
among_in (x ∷ []) t n f e = let same : x.1 ≡ f = cc in inl (ap meaning same)
among_in (x ∷ y ∷ more) t n f e = cc

first_in : (facts others : List Fact) (o : Option Fact) (t : Option (List ℕ)) (n : List ℕ) (f : Formula) → ((x : Fact) → o ≡ Some x → In facts (meaning x.1))
    → ((a : Statement) → In others a → In facts a) → first_of o others ≡ found t n f → In facts (meaning f)
first_in facts others (Some x) t n f one more e = let same : x.1 ≡ f = cc in subst (λ g. In facts (meaning g)) same (one x refl)
first_in facts others None t n f one more e = more (meaning f) (among_in others t n f e)

fact_in : (facts : List Fact) (own : List ℕ) (parts : List (List ℕ)) (t : Option (List ℕ)) (n : List ℕ) (f : Formula)
    → looked_by facts own parts ≡ found t n f → In facts (meaning f)
fact_in facts own [] t n f e = cc
fact_in facts own (m ∷ []) t n f e =
    first_in facts (facts_elsewhere own m facts) (fact_of own m facts) t n f (λ x is. find_member (λ fact. meaning fact.1) (is_called own m) facts x is)
    (λ a k. filter_member (λ fact. meaning fact.1) (is_import own m) facts a k) e
fact_in facts own (u ∷ m ∷ []) t n f e =
    first_in facts [] (fact_of u m facts) t n f (λ x is. find_member (λ fact. meaning fact.1) (is_called u m) facts x is) (λ a k. elim k [ ]) e
fact_in facts own (u ∷ m ∷ k ∷ more) t n f e = cc

local_in : (locals : List Local) (parts : List (List ℕ)) (l : Local) → local_of locals parts ≡ Some l → members (map (λ local. meaning local.formula) locals) (meaning l.formula)
local_in locals [] l e = cc
local_in locals (n ∷ []) l e = find_member (λ local. meaning local.formula) _ locals l e
local_in locals (n ∷ m ∷ more) l e = cc

pub looked_stands : (scope : Scoped) (name : List ℕ) (t : Option (List ℕ)) (n : List ℕ) (f : Formula) → looked_in scope name ≡ found t n f → Stands scope (meaning f)
looked_stands scope name t n f e = by (local_of scope.locals (name_parts name)) refl e
  where
    by : (o : Option Local) → local_of scope.locals (name_parts name) ≡ o → local_first o (looked_by scope.facts scope.theory (name_parts name)) ≡ found t n f → Stands scope (meaning f)
    by (Some l) is e = let same : l.formula ≡ f = cc in inl (subst (λ g. members (map (λ local. meaning local.formula) scope.locals) (meaning g)) same (local_in scope.locals (name_parts name) l is))
    by None is e = inr (fact_in scope.facts scope.theory (name_parts name) t n f e)

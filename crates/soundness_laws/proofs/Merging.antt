-- What merged facts of imports have: what one of the imports has.
use Rattle.std.proofs.Common.{◌≡◌, ◌⊎◌, ℕ, Bool, true, false, ◌&&◌, cond, List, [], ◌∷◌, find, fold, filter_map, Option, Some, None, refl, sym, ap, subst, ◌∙◌, inl, inr, ⊎_elim}
use Rattle.std.specs.List.{cons_option, list_all}
use Rattle.std.specs.Option.{option_and_then, option_or}
use Rattle.std.proofs.lemmas.Option.{none-some, same_Some}
use Rattle.nj_formula.specs.declared.formula.Formula.{Formula}
use Rattle.shared_map.specs.Changes.{united}
use Rattle.shared_map.specs.Pairs.{IsSorted, found}
use Rattle.shared_map.proofs.KnownFound.{found_united}
use Rattle.shared_map.proofs.KnownSorted.{IsSorted-united}
use Rattle.theory_ctx.specs.declared.fact_name.FactName.{FactName}
use Rattle.theory_ctx.specs.Facts.{Fact}
use Rattle.theory_ctx.specs.Order.{by_name, by_name_total}
use Rattle.soundness_laws.specs.Imports.{IsListed}
use Rattle.soundness_laws.proofs.Grown.{Has}

pub twice : {A B C : Type 0} (f : A → Option B) (g : B → Option C) (xs : List A) → filter_map g (filter_map f xs) ≡ filter_map (λ x. option_and_then g (f x)) xs
twice {B = B} f g [] = refl
twice {B = B} f g (x ∷ xs) = go (f x) (twice f g xs)
  where
    go : (o : Option B) → filter_map g (filter_map f xs) ≡ filter_map (λ y. option_and_then g (f y)) xs
        → filter_map g (cons_option o (filter_map f xs)) ≡ cons_option (option_and_then g o) (filter_map (λ y. option_and_then g (f y)) xs)
    go None e = e
    go (Some y) e = ap (cons_option (g y)) e

-- a test that all pass, one of them passes
pub all_pass : (test : List ℕ → Bool) (names : List (List ℕ)) (name : List ℕ) → list_all test names ≡ true → IsListed names name → test name ≡ true
all_pass test [] name all listed = absurd listed
all_pass test (n ∷ names) name all listed = go (test n) refl all listed (all_pass test names name)
  where
    go : (b : Bool) → test n ≡ b → (b && list_all test names) ≡ true → (n ≡ name) ⊎ IsListed names name
        → (list_all test names ≡ true → IsListed names name → test name ≡ true) → test name ≡ true
    go true e all listed rest = ⊎_elim (λ same. subst (λ x. test x ≡ true) same e) (rest all) listed
    go false e all listed rest = absurd (cc)

-- a test that nothing told of names passes, no such thing passes
pub told_passes : {X : Type 0} (told : List ℕ → Option X) (test : X → Bool) (names : List (List ℕ)) (name : List ℕ) (x : X) → find test (filter_map told names) ≡ None
    → IsListed names name → told name ≡ Some x → test x ≡ false
told_passes {X = X} told test [] name x none listed is = absurd listed
told_passes {X = X} told test (n ∷ names) name x none listed is = go (told n) refl none listed (told_passes told test names name x)
  where
    one : (y : X) → told n ≡ Some y → (b : Bool) → test y ≡ b → cond b (Some y) (find test (filter_map told names)) ≡ None → (n ≡ name) ⊎ IsListed names name
        → (find test (filter_map told names) ≡ None → IsListed names name → told name ≡ Some x → test x ≡ false) → test x ≡ false
    one y at true e none listed rest = absurd (none-some y (sym none))
    one y at false e none listed rest =
        ⊎_elim (λ same. subst (λ z. test z ≡ false) (same_Some y x (sym at ∙ ap told same ∙ is)) e) (λ more. rest none more is) listed

    go : (o : Option X) → told n ≡ o → find test (cons_option o (filter_map told names)) ≡ None → (n ≡ name) ⊎ IsListed names name
        → (find test (filter_map told names) ≡ None → IsListed names name → told name ≡ Some x → test x ≡ false) → test x ≡ false
    go None at none listed rest = ⊎_elim (λ same. absurd (none-some x (sym at ∙ ap told same ∙ is))) (λ more. rest none more is) listed
    go (Some y) at none listed rest = one y at (test y) refl none listed rest

module _ (part_of : List ℕ → Option (List Fact)) (fact : FactName) where
  -- one of the imports has it
  pub record Gives (names : List (List ℕ)) (f : Formula) : Type 0 where
    pub name : List ℕ
    pub listed : IsListed names name
    pub part : List Fact
    pub part_is : part_of name ≡ Some part
    pub has : Has part fact f

  abbrev pub AreSorted : List (List ℕ) → Type 0
  AreSorted names = (name : List ℕ) (part : List Fact) → IsListed names name → part_of name ≡ Some part → IsSorted by_name part

  later : (n : List ℕ) (names : List (List ℕ)) (f : Formula) → Gives names f → Gives (n ∷ names) f
  later n names f g = record { name = g.name; listed = inr g.listed; part = g.part; part_is = g.part_is; has = g.has }

  abbrev whole : List Fact → List (List ℕ) → List Fact
  whole acc names = fold (united by_name) acc (filter_map part_of names)

  either : (f : Formula) (o p : Option Formula) → option_or o p ≡ Some f → (o ≡ Some f) ⊎ (p ≡ Some f)
  either f None p e = inr e
  either f (Some g) p e = inl e

  pub fold_from : (f : Formula) (names : List (List ℕ)) (acc : List Fact) → IsSorted by_name acc → AreSorted names → Has (whole acc names) fact f → Has acc fact f ⊎ Gives names f
  fold_from f [] acc sorted each has = inl has
  fold_from f (n ∷ names) acc sorted each has = go (part_of n) refl (λ more s. fold_from f names more s (λ name part l is. each name part (inr l) is)) has
    where
      go : (o : Option (List Fact)) → part_of n ≡ o → ((more : List Fact) → IsSorted by_name more → Has (whole more names) fact f → Has more fact f ⊎ Gives names f)
          → Has (fold (united by_name) acc (cons_option o (filter_map part_of names))) fact f → Has acc fact f ⊎ Gives (n ∷ names) f
      go None is rest has = ⊎_elim inl (λ g. inr (later n names f g)) (rest acc sorted has)
      go (Some part) is rest has =
          ⊎_elim (λ h. ⊎_elim inl (λ in_part. inr (record { name = n; listed = inl refl; part = part; part_is = is; has = in_part }))
          (either f (found by_name fact acc) (found by_name fact part) (sym (found_united by_name_total acc part sorted fact) ∙ h)))
          (λ g. inr (later n names f g)) (rest (united by_name acc part) (IsSorted-united by_name_total acc part sorted (each n part (inl refl) is)) has)

  first_or : (f : Formula) (o p : Option Formula) → ((g : Formula) → o ≡ Some g → g ≡ f) → (o ≡ Some f) ⊎ (p ≡ Some f) → option_or o p ≡ Some f
  first_or f None p one here = ⊎_elim (λ bad. absurd (none-some f bad)) (λ e. e) here
  first_or f (Some g) p one here = ap Some (one g refl)

  pub fold_has : (f : Formula) (names : List (List ℕ)) (acc : List Fact) → IsSorted by_name acc → AreSorted names
      → ((g : Formula) → Has acc fact g → g ≡ f) → ((g : Formula) → Gives names g → g ≡ f) → Has acc fact f ⊎ Gives names f → Has (whole acc names) fact f
  fold_has f [] acc sorted each one other here = ⊎_elim (λ h. h) (λ g. absurd g.listed) here
  fold_has f (n ∷ names) acc sorted each one other here =
      go (part_of n) refl (λ more s o. fold_has f names more s (λ name part l is. each name part (inr l) is) o (λ g h. other g (later n names g h)))
    where
      first_none : part_of n ≡ None → Has acc fact f ⊎ Gives (n ∷ names) f → Has acc fact f ⊎ Gives names f
      first_none is here = ⊎_elim inl (λ g. ⊎_elim
          (λ same. absurd (none-some g.part (sym is ∙ ap part_of same ∙ g.part_is)))
          (λ l. inr (record { name = g.name; listed = l; part = g.part; part_is = g.part_is; has = g.has })) g.listed) here

      first_some : (part : List Fact) → part_of n ≡ Some part → Has acc fact f ⊎ Gives (n ∷ names) f → Has (united by_name acc part) fact f ⊎ Gives names f
      first_some part is here =
          let joined : (Has acc fact f ⊎ Has part fact f) → Has (united by_name acc part) fact f =
          λ h. found_united by_name_total acc part sorted fact ∙ first_or f (found by_name fact acc) (found by_name fact part) one h in
          ⊎_elim (λ h. inl (joined (inl h))) (λ g. ⊎_elim
          (λ same. inl (joined (inr (subst (λ x. Has x fact f) (same_Some g.part part (sym g.part_is ∙ ap part_of (sym same) ∙ is)) g.has))))
          (λ l. inr (record { name = g.name; listed = l; part = g.part; part_is = g.part_is; has = g.has })) g.listed) here

      one_joined : (part : List Fact) → part_of n ≡ Some part → (g : Formula) → Has (united by_name acc part) fact g → g ≡ f
      one_joined part is g h =
          ⊎_elim (one g) (λ in_part. other g (record { name = n; listed = inl refl; part = part; part_is = is; has = in_part }))
          (either g (found by_name fact acc) (found by_name fact part) (sym (found_united by_name_total acc part sorted fact) ∙ h))

      go : (o : Option (List Fact)) → part_of n ≡ o → ((more : List Fact) → IsSorted by_name more → ((g : Formula) → Has more fact g → g ≡ f) → Has more fact f ⊎ Gives names f → Has (whole more names) fact f)
          → Has (fold (united by_name) acc (cons_option o (filter_map part_of names))) fact f
      go None is rest = rest acc sorted one (first_none is here)
      go (Some part) is rest =
          rest (united by_name acc part) (IsSorted-united by_name_total acc part sorted (each n part (inl refl) is)) (one_joined part is) (first_some part is here)

  pub fold_sorted : (names : List (List ℕ)) (acc : List Fact) → IsSorted by_name acc → AreSorted names → IsSorted by_name (whole acc names)
  fold_sorted [] acc sorted each = sorted
  fold_sorted (n ∷ names) acc sorted each = go (part_of n) refl (λ more s. fold_sorted names more s (λ name part l is. each name part (inr l) is))
    where
      go : (o : Option (List Fact)) → part_of n ≡ o → ((more : List Fact) → IsSorted by_name more → IsSorted by_name (whole more names))
          → IsSorted by_name (fold (united by_name) acc (cons_option o (filter_map part_of names)))
      go None is rest = rest acc sorted
      go (Some part) is rest = rest (united by_name acc part) (IsSorted-united by_name_total acc part sorted (each n part (inl refl) is))

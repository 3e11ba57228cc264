-- Which names are in a set after a step.
use Rattle.std.proofs.Common.{◌≡◌, ℕ, Bool, true, false, ◌||◌, cond, List, [], ◌∷◌, map, Option, Some, None, refl, sym, ◌∙◌, ap}
use Rattle.std.specs.List.{list_any}
use Rattle.std.specs.Option.{is_some, option_or}
use Rattle.std.specs.Str.{bytes_eq}
use Rattle.std.proofs.lemmas.Cmp.{nat_list_cmp_total}
use Rattle.std.proofs.lemmas.Map.Text.{is_eq-slice_cmp}
use Rattle.std.proofs.lemmas.Slice.Eq.{bytes_eq-Decides}
use Rattle.nj_formula.specs.declared.argument.Argument.{Argument}
use Rattle.nj_formula.specs.Statement.{Statement, falsity, atom, neg, conj, disj, implies, every, exists}
use Rattle.nj_formula.specs.Free.{free_layer, is_free_in, is_free}
use Rattle.nj_formula.proofs.KnownArguments.{Each, fold-Free, fold-Bound, fold-Apply, by_forms}
use Rattle.shared_map.specs.Pairs.{found}
use Rattle.shared_map.specs.Changes.{put}
use Rattle.shared_map.proofs.KnownFound.{found_put}
use Rattle.theory_ctx.specs.Order.{by_bytes}
use Rattle.theory_ctx.specs.NameSets.{Names, has_name, with_name, with_all, names_layer, with_argument, with_free}

or_moved : (a b c : Bool) → (b || (a || c)) ≡ ((a || b) || c)
or_moved true true c = refl
or_moved true false c = refl
or_moved false true c = refl
or_moved false false c = refl

some_here : (b : Bool) (o : Option (Unit {0})) → is_some (cond b (Some tt) o) ≡ (b || is_some o)
some_here true o = refl
some_here false o = refl

module _ (x : List ℕ) where
  has_put : (y : List ℕ) (names : Names) → has_name (put by_bytes (y, tt) names) x ≡ (bytes_eq y x || has_name names x)
  has_put y names =
      ap is_some (found_put nat_list_cmp_total (y, tt) names x)
      ∙ ap (λ b. is_some (cond b (Some tt) (found by_bytes x names))) (is_eq-slice_cmp y x)
      ∙ some_here (bytes_eq y x) (found by_bytes x names)

  pub has_with_name : (y : List ℕ) (names : Names) → has_name (with_name y names) x ≡ (bytes_eq y x || has_name names x)
  has_with_name y names = go (has_name names y) refl
    where
      known : (b : Bool) → bytes_eq y x ≡ b → has_name names y ≡ true → has_name names x ≡ (b || has_name names x)
      known true same has = ap (has_name names) (sym ((bytes_eq-Decides y x).0 same)) ∙ has
      known false other has = refl

      go : (b : Bool) → has_name names y ≡ b → has_name (cond b names (put by_bytes (y, tt) names)) x ≡ (bytes_eq y x || has_name names x)
      go true has = known (bytes_eq y x) refl has
      go false none = has_put y names

  abbrev Stands : Argument → Type 0
  Stands a = (names : Names) → has_name (with_argument a names) x ≡ (is_free_in x a || has_name names x)

  has_all : (args : List Argument) → Each Stands args → (names : Names)
      → has_name (with_all (map with_argument args) names) x ≡ (list_any (λ free. free) (map (is_free_in x) args) || has_name names x)
  has_all [] each names = refl
  has_all (a ∷ args) each names =
      has_all args each.1 (with_argument a names)
      ∙ ap (λ b. list_any (λ free. free) (map (is_free_in x) args) || b) (each.0 names)
      ∙ or_moved (is_free_in x a) (list_any (λ free. free) (map (is_free_in x) args)) (has_name names x)

  has_with_argument : (a : Argument) → Stands a
  has_with_argument = by_forms Stands
      (λ y names. ap (λ step. has_name (step names) x) (fold-Free names_layer y)
      ∙ has_with_name y names ∙ sym (ap (λ b. b || has_name names x) (fold-Free (free_layer x) y)))
      (λ n names. ap (λ step. has_name (step names) x) (fold-Bound names_layer n)
      ∙ sym (ap (λ b. b || has_name names x) (fold-Bound (free_layer x) n)))
      (λ f args each names. ap (λ step. has_name (step names) x) (fold-Apply names_layer f args)
      ∙ has_all args each names ∙ sym (ap (λ b. b || has_name names x) (fold-Apply (free_layer x) f args)))

  each_stands : (args : List Argument) → Each Stands args
  each_stands [] = tt
  each_stands (a ∷ args) = (has_with_argument a, each_stands args)

  -- both parts of a statement
  both : (a b : Statement) → ((names : Names) → has_name (with_free a names) x ≡ (is_free x a || has_name names x))
      → ((names : Names) → has_name (with_free b names) x ≡ (is_free x b || has_name names x))
      → (names : Names) → has_name (with_free b (with_free a names)) x ≡ ((is_free x a || is_free x b) || has_name names x)
  both a b one other names =
      other (with_free a names) ∙ ap (λ c. is_free x b || c) (one names) ∙ or_moved (is_free x a) (is_free x b) (has_name names x)

  pub has_with_free : (s : Statement) (names : Names) → has_name (with_free s names) x ≡ (is_free x s || has_name names x)
  has_with_free falsity names = refl
  has_with_free (atom p args) names = has_all args (each_stands args) names
  has_with_free (neg a) names = has_with_free a names
  has_with_free (conj a b) names = both a b (has_with_free a) (has_with_free b) names
  has_with_free (disj a b) names = both a b (has_with_free a) (has_with_free b) names
  has_with_free (implies a b) names = both a b (has_with_free a) (has_with_free b) names
  has_with_free (every a) names = has_with_free a names
  has_with_free (exists a) names = has_with_free a names

  either : (o p : Option (Unit {0})) → is_some (option_or o p) ≡ (is_some o || is_some p)
  either None p = refl
  either (Some u) p = refl

  pub has_either : (names others both : Names) → found by_bytes x both ≡ option_or (found by_bytes x names) (found by_bytes x others)
      → has_name both x ≡ (has_name names x || has_name others x)
  has_either names others both is = ap is_some is ∙ either (found by_bytes x names) (found by_bytes x others)

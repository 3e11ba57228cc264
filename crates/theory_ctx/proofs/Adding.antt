-- What names mean among facts to which one is added.
use Rattle.std.proofs.Common.{◌≡◌, ◌≢◌, ℕ, Bool, true, false, cond, List, [], ◌∷◌, ◌++◌, filter, Some, None, refl, sym, ◌∙◌, ap}
use Rattle.std.specs.Option.{option_or}
use Rattle.std.proofs.lemmas.List.Elements.{filter-append}
use Rattle.std.proofs.lemmas.Slice.Eq.{bytes_eq-Decides}
use Rattle.std.specs.Ordering.{is_lt, is_gt}
use Rattle.std.specs.Str.{bytes_eq}
use Rattle.std.proofs.lemmas.Bool.{and_parts}
use Rattle.shared_map.specs.Pairs.{IsSorted}
use Rattle.shared_map.specs.Cuts.{before, behind, at_key}
use Rattle.shared_map.proofs.KnownFound.{without_none}
use Rattle.theory_ctx.specs.Facts.{Fact, is_called, fact_of, is_import, facts_elsewhere}
use Rattle.theory_ctx.specs.Order.{by_name, by_name_total}
use Rattle.theory_ctx.specs.Looked.{first_of, looked_by}
use Rattle.theory_ctx.specs.Merged.{extended_facts}
use Rattle.theory_ctx.proofs.NamedSo.{called_itself, called_other, import_other}
use Rattle.theory_ctx.proofs.Named.{fact_of_first}
use Rattle.theory_ctx.proofs.Merges.{fact_of-united}

-- two tests pick the same in either order
commute : (p q : Fact → Bool) (xs : List Fact) → filter p (filter q xs) ≡ filter q (filter p xs)
commute p q [] = refl
commute p q (x ∷ xs) = go (p x) refl (q x) refl (commute p q xs)
  where
    go : (a : Bool) → p x ≡ a → (b : Bool) → q x ≡ b → filter p (filter q xs) ≡ filter q (filter p xs)
        → filter p (cond b (x ∷ filter q xs) (filter q xs)) ≡ filter q (cond a (x ∷ filter p xs) (filter p xs))
    go true e true h rest =
        ap (λ c. cond c (x ∷ filter p (filter q xs)) (filter p (filter q xs))) e
        ∙ ap (λ l. x ∷ l) rest
        ∙ sym (ap (λ c. cond c (x ∷ filter q (filter p xs)) (filter q (filter p xs))) h)
    go true e false h rest = rest ∙ sym (ap (λ c. cond c (x ∷ filter q (filter p xs)) (filter q (filter p xs))) h)
    go false e true h rest = ap (λ c. cond c (x ∷ filter p (filter q xs)) (filter p (filter q xs))) e ∙ rest
    go false e false h rest = rest

-- the added fact is found by its name
pub fact_of-own : (x : Fact) (facts : List Fact)
    → fact_of x.0.theory x.0.name (extended_facts x facts) ≡ Some x
fact_of-own x facts =
    fact_of-united x.0.theory x.0.name (x ∷ []) facts (tt, tt)
    ∙ ap (λ b. option_or (cond b (Some x) None) (fact_of x.0.theory x.0.name facts)) (called_itself x)

pub fact_of-other : (t n : List ℕ) (x : Fact) (facts : List Fact) → is_called t n x ≡ false → fact_of t n (extended_facts x facts) ≡ fact_of t n facts
fact_of-other t n x facts e =
    fact_of-united t n (x ∷ []) facts (tt, tt) ∙ ap (λ b. option_or (cond b (Some x) None) (fact_of t n facts)) e

module _ (own n : List ℕ) (x : Fact) (facts : List Fact) where
  -- what is imported of the facts before the added one and behind it
  abbrev front : List Fact
  front = before (at_key by_name x.0) facts

  abbrev back : List Fact
  back = behind (at_key by_name x.0) facts

  parted : (b : Bool) → is_import own n x ≡ b → facts_elsewhere own n (extended_facts x facts) ≡ facts_elsewhere own n front ++ cond b (x ∷ facts_elsewhere own n back) (facts_elsewhere own n back)
  parted b e =
      filter-append (is_import own n) front (x ∷ back)
      ∙ ap (λ c. facts_elsewhere own n front ++ cond c (x ∷ facts_elsewhere own n back)
      (facts_elsewhere own n back)) e

  pub imported-added : is_import own n x ≡ true → facts_elsewhere own n (extended_facts x facts) ≡ extended_facts x (facts_elsewhere own n facts)
  imported-added e =
      parted true e
      ∙ ap (λ l. l ++ x ∷ facts_elsewhere own n back)
      (commute (is_import own n) (λ p. is_lt (at_key by_name x.0 p.0)) facts)
      ∙ ap (λ l. before (at_key by_name x.0) (facts_elsewhere own n facts) ++ x ∷ l) (commute (is_import own n) (λ p. is_gt (at_key by_name x.0 p.0)) facts)

  pub imported-kept : IsSorted by_name facts → fact_of x.0.theory x.0.name facts ≡ None → is_import own n x ≡ false
      → facts_elsewhere own n (extended_facts x facts) ≡ facts_elsewhere own n facts
  imported-kept sorted none e =
      parted false e ∙ sym (filter-append (is_import own n) front back)
      ∙ ap (facts_elsewhere own n) (sym (without_none by_name_total x.0 facts sorted (fact_of_first x.0.theory x.0.name facts ∙ none)))

-- names of other parts than those of the added fact
module _ (x : Fact) (facts : List Fact) (own : List ℕ) where
  other_long : (t m : List ℕ) → ((t ∷ m ∷ []) ≢ (x.0.theory ∷ x.0.name ∷ [])) → is_called t m x ≡ false
  other_long t m long = go (is_called t m x) refl
    where
      go : (b : Bool) → is_called t m x ≡ b → b ≡ false
      go false e = refl
      go true e =
          let same = and_parts (bytes_eq x.0.theory t) (bytes_eq x.0.name m) e in
          absurd
          (long
          (ap (λ a. a ∷ m ∷ []) (sym ((bytes_eq-Decides x.0.theory t).0 same.0))
          ∙ ap (λ a. x.0.theory ∷ a ∷ []) (sym ((bytes_eq-Decides x.0.name m).0 same.1))))

  pub looked_by-kept : (parts : List (List ℕ)) → IsSorted by_name facts → fact_of x.0.theory x.0.name facts ≡ None
      → parts ≢ (x.0.name ∷ []) → parts ≢ (x.0.theory ∷ x.0.name ∷ [])
      → looked_by (extended_facts x facts) own parts ≡ looked_by facts own parts
  looked_by-kept [] sorted none plain long = refl
  looked_by-kept (m ∷ []) sorted none plain long =
      let other : x.0.name ≢ m = λ same. plain (ap (λ a. a ∷ []) (sym same)) in
      ap (λ o. first_of o (facts_elsewhere own m (extended_facts x facts))) (fact_of-other own m x facts (called_other x own m other))
      ∙ ap (first_of (fact_of own m facts)) (imported-kept own m x facts sorted none (import_other x own m other))
  looked_by-kept (t ∷ m ∷ []) sorted none plain long = ap (λ o. first_of o []) (fact_of-other t m x facts (other_long t m long))
  looked_by-kept (t ∷ m ∷ k ∷ more) sorted none plain long = refl

-- Where a name is ambiguous, and which two facts are told.
use Rattle.std.proofs.Common.{arith, ◌≡◌, ℕ, true, List, [], ◌∷◌, Option, Some, None, refl, sym, ◌∙◌, ap, subst}
use Rattle.std.specs.Prelude.{All}
use Rattle.std.specs.Str.{bytes_eq}
use Rattle.std.specs.declared.cmp.Ordering.TheVariants.{Less, Equal}
use Rattle.std.specs.Ordering.{ordering_then}
use Rattle.std.specs.Prelude.{not}
use Rattle.std.proofs.lemmas.Cmp.{nat_list_cmp_total, tied_itself}
use Rattle.std.proofs.lemmas.List.Elements.{filter_passes}
use Rattle.std.proofs.lemmas.Slice.Eq.{bytes_eq-Decides}
use Rattle.std.proofs.lemmas.Bool.{and_parts}
use Rattle.shared_map.specs.Pairs.{IsSorted}
use Rattle.shared_map.proofs.KnownSorted.{IsSorted-filter}
use Rattle.theory_ctx.specs.Facts.{Fact, fact_of, is_import, facts_elsewhere}
use Rattle.theory_ctx.specs.Order.{by_bytes, by_name}
use Rattle.theory_ctx.specs.Spelled.{long_name}
use Rattle.theory_ctx.specs.Answers.{Answer, unknown, ambiguous}
use Rattle.theory_ctx.specs.Looked.{among, first_of, looked_by}
use Rattle.theory_ctx.specs.Ambiguity.{HasTwo}

abbrev is_ambiguous : Answer → Type 0
is_ambiguous (ambiguous a b) = Unit {0}
is_ambiguous answer = ⊥

no_other : (answer : Answer) (a b : List ℕ) → answer ≡ ambiguous a b → is_ambiguous answer
no_other answer a b e = subst is_ambiguous (sym e) tt

abbrev first_told : Answer → List ℕ
first_told (ambiguous a b) = a
first_told answer = []

abbrev second_told : Answer → List ℕ
second_told (ambiguous a b) = b
second_told answer = []

module _ (facts : List Fact) (own one other : List ℕ) where
  abbrev pub Told : List (List ℕ) → Type 0
  Told parts = (n : List ℕ) × (first : Fact) × (second : Fact) × (parts ≡ n ∷ []) × HasTwo facts own n first second
      × (one ≡ long_name first.0.theory first.0.name) × (other ≡ long_name second.0.theory second.0.name)

  long_told : (o : Option Fact) → first_of o [] ≡ ambiguous one other → ⊥
  long_told (Some g) e = no_other (first_of (Some g) []) one other e
  long_told None e = no_other unknown one other e

  pub told_of : (parts : List (List ℕ)) → looked_by facts own parts ≡ ambiguous one other → Told parts
  told_of [] e = absurd (no_other unknown one other e)
  told_of (n ∷ []) e = go (fact_of own n facts) refl (facts_elsewhere own n facts) refl e
    where
      go : (o : Option Fact) → fact_of own n facts ≡ o → (l : List Fact)
          → facts_elsewhere own n facts ≡ l
          → first_of o l ≡ ambiguous one other → Told (n ∷ [])
      go (Some g) h l k e = absurd (no_other (first_of (Some g) l) one other e)
      go None h [] k e = absurd (no_other unknown one other e)
      go None h (x ∷ []) k e = absurd (no_other (among (x ∷ [])) one other e)
      go None h (x ∷ y ∷ more) k e =
          (n, x, y, refl, record { none_own = h; others = (more, k) }, sym (ap first_told e), sym (ap second_told e))
  told_of (t ∷ n ∷ []) e = absurd (long_told (fact_of t n facts) e)
  told_of (t ∷ n ∷ k ∷ more) e = absurd (no_other unknown one other e)

  pub ambiguous_of : (parts : List (List ℕ)) → Told parts → looked_by facts own parts ≡ ambiguous one other
  ambiguous_of parts (n, first, second, plain, two, a, b) =
      ap (looked_by facts own) plain ∙ ap (λ o. first_of o (facts_elsewhere own n facts))
      two.none_own
      ∙ ap among two.others.1
      ∙ ap (λ z. ambiguous z (long_name second.0.theory second.0.name)) (sym a) ∙ ap (ambiguous one) (sym b)

-- two imported facts of a name lie in the order of their theories
pub theories_rise : (facts : List Fact) (own n : List ℕ) (first second : Fact) → IsSorted by_name facts → HasTwo facts own n first second
    → by_bytes first.0.theory second.0.theory ≡ Less
theories_rise facts own n first second sorted two =
    sym (ap (λ o. ordering_then o (by_bytes first.0.theory second.0.theory)) alike) ∙ rise.0.0
  where
    rise : IsSorted by_name (first ∷ second ∷ two.others.0)
    rise = subst (IsSorted by_name) two.others.1 (IsSorted-filter by_name (is_import own n) facts sorted)

    passed : All (λ x. is_import own n x ≡ true) (first ∷ second ∷ two.others.0)
    passed = subst (All (λ x. is_import own n x ≡ true)) two.others.1 (filter_passes (is_import own n) facts)

    named : (x : Fact) → is_import own n x ≡ true → x.0.name ≡ n
    named x e = (bytes_eq-Decides x.0.name n).0 (and_parts (not (bytes_eq x.0.theory own)) (bytes_eq x.0.name n) e).1

    alike : by_bytes first.0.name second.0.name ≡ Equal
    alike =
        ap (λ a. by_bytes a second.0.name) (named first (passed 0 first (omega arith))) ∙ ap (by_bytes n) (named second (passed 1 first (omega arith)))
        ∙ tied_itself nat_list_cmp_total n

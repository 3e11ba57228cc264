-- A set of names that has all that are free in facts.
use Rattle.std.proofs.Common.{◌≡◌, ℕ, Bool, true, false, ◌||◌, List, [], ◌∷◌, refl, sym, ◌∙◌, ap}
use Rattle.std.specs.List.{list_any}
use Rattle.std.proofs.lemmas.Bool.{or_left, false≢true}
use Rattle.std.proofs.Math.Bool.{or-true}
use Rattle.nj_formula.specs.declared.formula.Formula.{Formula}
use Rattle.nj_formula.specs.Meaning.{meaning}
use Rattle.nj_formula.specs.Free.{is_free}
use Rattle.shared_map.specs.Changes.{united}
use Rattle.shared_map.proofs.KnownSorted.{Each-united}
use Rattle.theory_ctx.specs.declared.fact_name.FactName.{FactName}
use Rattle.theory_ctx.specs.Facts.{Fact}
use Rattle.theory_ctx.specs.Order.{by_name}
use Rattle.theory_ctx.specs.Merged.{extended_facts}
use Rattle.theory_ctx.specs.NameSets.{Names, has_name, Covers, CoversAll}

covers_more : (names more : Names) → ((x : List ℕ) → has_name names x ≡ true → has_name more x ≡ true)
    → (facts : List Fact) → CoversAll names facts → CoversAll more facts
covers_more names more within [] each = tt
covers_more names more within (fact ∷ facts) each =
    (λ x free. within x (each.0 x free), covers_more names more within facts each.1)

or_right : (b c : Bool) → c ≡ true → (b || c) ≡ true
or_right b c e = ap (λ d. b || d) e ∙ or-true b

pub covers_added : (names more : Names) (name : FactName) (f : Formula) (facts : List Fact)
    → ((x : List ℕ) → has_name more x ≡ (is_free x (meaning f) || has_name names x))
    → CoversAll names facts → CoversAll more (extended_facts (name, f) facts)
covers_added names more name f facts is each =
    Each-united by_name (λ fact. Covers more fact.1) ((name, f) ∷ []) facts
    (λ x free. is x ∙ or_left (is_free x (meaning f)) (has_name names x) free, tt)
    (covers_more names more (λ x has. is x ∙ or_right (is_free x (meaning f)) (has_name names x) has) facts each)

pub covers_united : (names others both : Names) (facts more : List Fact)
    → ((x : List ℕ) → has_name both x ≡ (has_name names x || has_name others x))
    → CoversAll names facts → CoversAll others more → CoversAll both (united by_name facts more)
covers_united names others both facts more is each other =
    Each-united by_name (λ fact. Covers both fact.1) facts more
    (covers_more names both (λ x has. is x ∙ or_left (has_name names x) (has_name others x) has) facts each)
    (covers_more others both (λ x has. is x ∙ or_right (has_name names x) (has_name others x) has) more other)

-- a name that the set lacks is free in none of the facts
pub none_free : (names : Names) (x : List ℕ) → has_name names x ≡ false → (facts : List Fact) → CoversAll names facts
    → list_any (λ fact. is_free x (meaning fact.1)) facts ≡ false
none_free names x none [] each = refl
none_free names x none (fact ∷ facts) each = go (is_free x (meaning fact.1)) refl (none_free names x none facts each.1)
  where
    go : (b : Bool) → is_free x (meaning fact.1) ≡ b → list_any (λ other. is_free x (meaning other.1)) facts ≡ false
        → (b || list_any (λ other. is_free x (meaning other.1)) facts) ≡ false
    go true free rest = absurd (false≢true (sym none ∙ each.0 x free))
    go false absent rest = rest

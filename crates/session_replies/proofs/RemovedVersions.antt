-- What is told of versions that can be removed.
use Rattle.std.proofs.Common.{◌≡◌, ℕ, eqb, Bool, true, false, not, cond, ◌&&◌, ◌||◌, List, [], ◌∷◌, map, filter, find, Option, Some, None, refl, sym, ap, ◌∙◌, arith}
use Rattle.std.proofs.lemmas.Bool.{false≢true, eqb-true}
use Rattle.std.proofs.lemmas.Bool.Decides.{nat_tests}
use Rattle.std.specs.Prelude.{◌==◌, is_some}
use Rattle.std.specs.Option.{option_map}
use Rattle.text_words.specs.Members.{has}
use Rattle.text_words.proofs.KnownMembers.{has_passing}
use Rattle.core_tables.specs.declared.versions.Live.{Live}
use Rattle.core_tables.specs.declared.versions.Removing.TheVariants as answer
use Rattle.core_tables.specs.Live.{is_live}
use Rattle.core_tables.specs.Removal.{answer_by, removing}
use Rattle.exec_rules.specs.declared.version.Version.{Version}
use Rattle.language.specs.Lang.{Lang}
use Rattle.core_rules.specs.declared.event.Event.{Event}
use Rattle.core_rules.specs.Doc.{doc}
use Rattle.core_rules.specs.Legal.{IsLegal}
use Rattle.session_rules.specs.Replies.{live_among}
use Rattle.session_replies.specs.Removed.{IsRisen}
use Rattle.session_replies.proofs.RisingNumbers.{rising, filtered}
use Rattle.session_replies.proofs.AgedVersions.{live_rise}

-- what is found among these passes no test
all_pass : (p : ℕ → Bool) (ids : List ℕ) → find (λ id. not (p id)) ids ≡ None → (id : ℕ) → has ids id ≡ true → p id ≡ true
all_pass p [] none id is = absurd (false≢true is)
all_pass p (x ∷ ids) none id is = go (p x) refl none (all_pass p ids)
  where
    rest : (b : Bool) → (id == x) ≡ b → p x ≡ true → ((i : ℕ) → has ids i ≡ true → p i ≡ true) → p id ≡ true
    rest true e here more = ap p (eqb-true id x e) ∙ here
    rest false e here more = more id (sym (ap (λ b. b || has ids id) e) ∙ is)

    go : (b : Bool) → p x ≡ b → cond (not b) (Some x) (find (λ id. not (p id)) ids) ≡ None
        → (find (λ id. not (p id)) ids ≡ None → (i : ℕ) → has ids i ≡ true → p i ≡ true) → p id ≡ true
    go true here none more = rest (id == x) refl here (more none)
    go false here none more = absurd (cc)

-- where all can be removed, none is unknown
none_unknown : (o : Option ℕ) (tip : Bool) → answer_by o tip ≡ answer.Removed → o ≡ None
none_unknown (Some id) tip e = absurd (cc)
none_unknown None tip e = refl

-- a live version has its id
live_has : (live : List (Live Version)) (id : ℕ) → is_live live id ≡ true → has (map (λ one. one.id) live) id ≡ true
live_has [] id is = absurd (false≢true is)
live_has (one ∷ more) id is = go (one.id == id) refl is (live_has more id)
  where
    go : (b : Bool) → (one.id == id) ≡ b → is_some (option_map (λ x. x.version) (cond b (Some one) (find (λ x. x.id == id) more))) ≡ true
        → (is_live more id ≡ true → has (map (λ x. x.id) more) id ≡ true) → has (map (λ x. x.id) (one ∷ more)) id ≡ true
    go true e found rest = let same : eqb id one.id ≡ true = grind (arith, nat_tests) in ap (λ b. b || has (map (λ x. x.id) more) id) same
    go false e found rest = or_true (id == one.id) (rest found)
      where
        or_true : (b : Bool) {c : Bool} → c ≡ true → (b || c) ≡ true
        or_true true is = refl
        or_true false is = is

both_are : (ids live : List ℕ) (id : ℕ) → (has ids id ≡ true → has live id ≡ true) → (has ids id && has live id) ≡ has ids id
both_are ids live id is = go (has ids id) refl
  where
    go : (b : Bool) → has ids id ≡ b → (b && has live id) ≡ b
    go true e = is e
    go false e = refl

module _ {S : Type 0} (l : Lang S) where
  pub all_risen : (h : List Event) (ids : List ℕ) → IsLegal l h → removing (doc l h).live ids ≡ answer.Removed
      → IsRisen ids (live_among (doc l h) ids)
  all_risen h ids legal removed =
      let live : List ℕ = map (λ one. one.id) (doc l h).live in
      let known = all_pass (is_live (doc l h).live) ids (none_unknown _ _ removed) in
      record {
        rises = rising 0 (filter (has ids) live) (filtered (has ids) 0 live (live_rise l h legal));
        same = λ id. has_passing (has ids) live id ∙ both_are ids live id (λ is. live_has (doc l h).live id (known id is));
      }

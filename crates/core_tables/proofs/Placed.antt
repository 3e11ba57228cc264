-- Where a ready part stands, and where it goes with another priority.
use Rattle.std.proofs.Common.{◌≡◌, ◌≢◌, ◌⊎◌, ℕ, ◌+◌, ◌-◌, ◌<◌, ◌≤◌, Bool, true, false, cond, ltb, List, length, get_or, Option, Some, None, inl, inr, sym, ◌∙◌, ap, refl, subst, eqb, arith}
use Rattle.std.specs.Option.{option_map_or}
use Rattle.std.specs.Prelude.{option_map}
use Rattle.std.proofs.lemmas.Bool.{cases_lt}
use Rattle.std.proofs.lemmas.List.{get_or_default}
use Rattle.pide_base.specs.declared.part.Part.{Part}
use Rattle.pide_base.specs.declared.part.PartKind.{PartKind}
use Rattle.core_tables.specs.declared.priority.Priority.{Priority}
use Rattle.core_tables.specs.declared.priority.Priority.TheVariants as priority
use Rattle.core_tables.specs.declared.task.Standing.{Standing}
use Rattle.core_tables.specs.Order.{goes_before}
use Rattle.core_tables.specs.Tasks.{is_ready}
use Rattle.core_tables.specs.Ready.{Standings, AreReady, IsReadyPart, IsPlaceFor, with_standing, priority_of}
use Rattle.core_tables.specs.Changes.{ready_kind, with_priority}
use Rattle.core_tables.proofs.Changed.{here, elsewhere}
use Rattle.core_tables.proofs.KeptAlike.{ready_alike}
use Rattle.core_tables.proofs.PutIn.{put_in, taken_out, length-taken_out, below-taken_out, above-taken_out}
use Rattle.core_tables.proofs.ReadyLemmas.{ready_put_in, ready_taken_out}
use Rattle.core_tables.proofs.Unready.{IsUnready, other_exec, unready_changed}
use Rattle.core_tables.proofs.LastReady.{place_is}
use Rattle.core_tables.proofs.Meeting.{told_ready, told_unready}

-- what has no kind to be told is not ready
pub unready_if_untold : (o : Option Standing) → ready_kind o ≡ None → IsUnready o
unready_if_untold None untold r is = cc
unready_if_untold (Some s) untold r is =
    let P : Standing → Type 0 = λ t. is_ready t ≡ false in
    subst P (ap (λ o. option_map_or (λ t. t) o s) is) (told_unready s untold)

-- what has one is a ready part
pub ready_if_told : (all : Standings) (e : ℕ) (kind : PartKind) → ready_kind (all e) ≡ Some kind
    → IsReadyPart all (record { exec = e; kind = kind })
ready_if_told all e kind told = go (all e) refl told
  where
    go : (o : Option Standing) → all e ≡ o → ready_kind o ≡ Some kind → IsReadyPart all (record { exec = e; kind = kind })
    go None is m = cc
    go (Some s) is m = let t = told_ready s kind m in (s, is, t.1, t.0)

-- it stands at its place
pub stands_at : (all : Standings) (parts : List Part) (e i : ℕ) (kind : PartKind) (d : Part) → AreReady all parts
    → ready_kind (all e) ≡ Some kind → IsPlaceFor all (priority_of all e) e parts i
    → (i < length parts) × ((get_or parts i d).exec ≡ e)
stands_at all parts e i kind d r told place =
    let part : Part = record { exec = e; kind = kind } in
    let at = r.complete part (ready_if_told all e kind told) in
    let is_e : (get_or parts at.0 part).exec ≡ e = ap (λ (p : Part). p.exec) at.2 in
    let same : i ≡ at.0 = place_is all parts e i at.0 part r place at.1 is_e in
    let low : i < length parts = omega (arith, same, at.1) in
    (low, ap (λ (p : Part). p.exec) (get_or_default parts i d part low) ∙ ap (λ k. (get_or parts k part).exec) same ∙ is_e)

-- the place among the others
abbrev pub place_behind : ℕ → ℕ → ℕ
place_behind place other = cond (ltb other place) (place - 1) place

told_behind : (place other : ℕ) → ((other < place) × (place_behind place other ≡ place - 1)) ⊎ ((place ≤ other) × (place_behind place other ≡ place))
told_behind place other = go (cases_lt other place)
  where
    go : (other < place) ⊎ (place ≤ other) → ((other < place) × (place_behind place other ≡ place - 1)) ⊎ ((place ≤ other) × (place_behind place other ≡ place))
    go (inl less) = inl (less, grind arith)
    go (inr more) = inr (more, grind arith)

-- a place for the part, once it is taken out where it stood
pub place_left : (all : Standings) (p : Priority) (parts : List Part) (e i new : ℕ) (d : Part) → AreReady all parts
    → i < length parts → (get_or parts i d).exec ≡ e → IsPlaceFor all p e parts new
    → IsPlaceFor (with_standing all e None) p e (taken_out parts i) (place_behind new i)
place_left all p parts e i new d r low is_e place = record {
  within = by_within (told_behind new i);
  later = λ j c less. rw (others j c (omega (arith, less, by_within (told_behind new i)))) (later j c less (cases_lt j i) (told_behind new i));
  sooner = λ j c more within. rw (others j c within) (sooner j c more within (cases_lt j i) (told_behind new i));
}
  where
    n : length (taken_out parts i) + 1 ≡ length parts
    n = length-taken_out parts i low

    left : AreReady (with_standing all e None) (taken_out parts i)
    left = ready_taken_out all parts e None i d low is_e (λ q m. (let clash : None ≡ Some q = m in cc)) r

    by_within : ((i < new) × (place_behind new i ≡ new - 1)) ⊎ ((new ≤ i) × (place_behind new i ≡ new))
        → place_behind new i ≤ length (taken_out parts i)
    by_within (inl t) = omega (arith, t.0, t.1, n, place.within)
    by_within (inr t) = omega (arith, t.0, t.1, n, low)

    others : (j : ℕ) (c : Part) → j < length (taken_out parts i)
        → priority_of (with_standing all e None) (get_or (taken_out parts i) j c).exec ≡ priority_of all (get_or (taken_out parts i) j c).exec
    others j c within =
        let f = (get_or (taken_out parts i) j c).exec in
        let differ : f ≢ e = other_exec (with_standing all e None) e (get_or (taken_out parts i) j c)
        (λ q m. (let clash : None ≡ Some q = sym (here all e None) ∙ m in cc)) (left.sound j c within) in
        ap (λ o. option_map_or (λ s. s.priority) o priority.Fork) (elsewhere all e f None differ)

    later : (j : ℕ) (c : Part) → j < place_behind new i → (j < i) ⊎ (i ≤ j)
        → ((i < new) × (place_behind new i ≡ new - 1)) ⊎ ((new ≤ i) × (place_behind new i ≡ new))
        → let f = (get_or (taken_out parts i) j c).exec in goes_before p e (priority_of all f) f ≡ true
    later j c less (inl a) (inl t) = rw (below-taken_out parts i j c low a) (place.later j c (omega (arith, less, t.1)))
    later j c less (inl a) (inr t) = rw (below-taken_out parts i j c low a) (place.later j c (omega (arith, less, t.1)))
    later j c less (inr a) (inl t) = rw (above-taken_out parts i j c low a) (place.later (j + 1) c (omega (arith, less, t.1)))
    later j c less (inr a) (inr t) = absurd (omega (arith, less, a, t.0, t.1))

    sooner : (j : ℕ) (c : Part) → place_behind new i ≤ j → j < length (taken_out parts i) → (j < i) ⊎ (i ≤ j)
        → ((i < new) × (place_behind new i ≡ new - 1)) ⊎ ((new ≤ i) × (place_behind new i ≡ new))
        → let f = (get_or (taken_out parts i) j c).exec in goes_before p e (priority_of all f) f ≡ false
    sooner j c more within (inl a) (inl t) = absurd (omega (arith, more, a, t.0, t.1))
    sooner j c more within (inl a) (inr t) = rw (below-taken_out parts i j c low a) (place.sooner j c (omega (arith, more, t.1)) (omega (arith, a, low)))
    sooner j c more within (inr a) (inl t) = rw (above-taken_out parts i j c low a) (place.sooner (j + 1) c (omega (arith, more, t.1)) (omega (arith, n, within)))
    sooner j c more within (inr a) (inr t) = rw (above-taken_out parts i j c low a) (place.sooner (j + 1) c (omega (arith, more, t.1)) (omega (arith, n, within)))

-- a ready part with another priority
pub ranked_ready : (all : Standings) (p : Priority) (parts : List Part) (e i new : ℕ) (kind : PartKind) (d : Part)
    → AreReady all parts → ready_kind (all e) ≡ Some kind → i < length parts → (get_or parts i d).exec ≡ e
    → IsPlaceFor all p e parts new
    → AreReady (with_standing all e (option_map (with_priority p) (all e)))
    (put_in (taken_out parts i) (place_behind new i) (record { exec = e; kind = kind }))
ranked_ready all p parts e i new kind d r told low is_e place = go (ready_if_told all e kind told)
  where
    none : IsUnready None
    none q m = let clash : None ≡ Some q = m in cc

    at_none : IsUnready (with_standing all e None e)
    at_none q m = let clash : None ≡ Some q = sym (here all e None) ∙ m in cc

    go : IsReadyPart all (record { exec = e; kind = kind })
        → AreReady (with_standing all e (option_map (with_priority p) (all e)))
        (put_in (taken_out parts i) (place_behind new i) (record { exec = e; kind = kind }))
    go (s, is, k, ready) =
        let left = ready_taken_out all parts e None i d low is_e none r in
        let back = ready_put_in (with_standing all e None) (taken_out parts i) e (with_priority p s) (place_behind new i)
        at_none ready (place_left all p parts e i new d r low is_e place) left in
        let P : PartKind → Type 0 = λ m. AreReady (with_standing (with_standing all e None) e (Some (with_priority p s)))
        (put_in (taken_out parts i) (place_behind new i) (record { exec = e; kind = m })) in
        ready_alike (with_standing (with_standing all e None) e (Some (with_priority p s))) _ _
        (λ f. same f (eqb e f) refl) (subst P k back)
      where
        same : (f : ℕ) (b : Bool) → eqb e f ≡ b → with_standing all e (option_map (with_priority p) (all e)) f
            ≡ with_standing (with_standing all e None) e (Some (with_priority p s)) f
        same f true m = rw (m, is) refl
        same f false m = rw m refl

-- a part that is not ready isn't with another priority
pub ranked_unready : (all : Standings) (p : Priority) (parts : List Part) (e : ℕ) → AreReady all parts
    → ready_kind (all e) ≡ None → AreReady (with_standing all e (option_map (with_priority p) (all e))) parts
ranked_unready all p parts e r untold =
    unready_changed all parts e (option_map (with_priority p) (all e)) (unready_if_untold (all e) untold) (go (all e) untold) r
  where
    go : (o : Option Standing) → ready_kind o ≡ None → IsUnready (option_map (with_priority p) o)
    go None u q m = cc
    go (Some s) u q m =
        let P : Standing → Type 0 = λ t. is_ready t ≡ false in
        subst P (ap (λ o. option_map_or (λ t. t) o (with_priority p s)) m) (told_unready s u)

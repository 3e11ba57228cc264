-- What is ready where one execution's part changes.
use Rattle.std.proofs.Common.{◌≡◌, ◌≢◌, ℕ, ◌+◌, ◌<◌, ◌≤◌, true, false, List, [], ◌∷◌, ◌++◌, length, get_or, Option, Some, sym, ◌∙◌, ap, subst, arith, refl, ◌⊎◌, inl, inr, rules}
use Rattle.std.specs.List.{Contains}
use Rattle.std.specs.Option.{option_map_or}
use Rattle.std.proofs.lemmas.Bool.{cases_eq, cases_lt}
use Rattle.std.proofs.lemmas.List.{get_or_default, places}
use Rattle.pide_base.specs.declared.part.Part.{Part}
use Rattle.core_tables.specs.declared.priority.Priority.TheVariants as priority
use Rattle.core_tables.specs.declared.task.Standing.{Standing}
use Rattle.core_tables.specs.Tasks.{is_ready}
use Rattle.core_tables.specs.Ready.{Standings, priority_of, comes_first, IsReadyPart, AreReady, IsPlaceFor, with_standing}
use Rattle.core_tables.proofs.Changed.{either_first, here}
use Rattle.core_tables.proofs.Places.{All-put_in, Contains-put_in, Contains-new, AllPairs-put_in, All-taken_out, AllPairs-taken_out, Contains-taken_out}
use Rattle.core_tables.proofs.PutIn.{put_in, taken_out}
use Rattle.core_tables.proofs.KnownOrder.{not_itself}
use Rattle.core_tables.proofs.LastReady.{all_but_last}
use Rattle.core_tables.proofs.Unready.{IsUnready, other_exec, same_order, stays, back, still, sound_still, order_still}

-- a part becomes ready
pub ready_put_in : (all : Standings) (parts : List Part) (e : ℕ) (s : Standing) (i : ℕ)
    → IsUnready (all e) → is_ready s ≡ true → IsPlaceFor all s.priority e parts i → AreReady all parts
    → AreReady (with_standing all e (Some s)) (put_in parts i (record { exec = e; kind = s.kind }))
ready_put_in all parts e s i old ready place r = record {
  sound = All-put_in (IsReadyPart more) parts i x place.within (sound_still all parts e (Some s) old r)
      (s, here all e (Some s), refl, ready);
  complete = λ part is. complete part is (cases_eq part.exec e);
  order = AllPairs-put_in (λ p q. comes_first more q.exec p.exec ≡ true) parts i x place.within
      (order_still all parts e (Some s) old r) before behind;
}
  where
    more : Standings
    more = with_standing all e (Some s)

    x : Part
    x = record { exec = e; kind = s.kind }

    complete : (part : Part) → IsReadyPart more part → (part.exec ≡ e) ⊎ (part.exec ≡ e → ⊥)
        → Contains (put_in parts i x) part
    complete part is (inr differ) = Contains-put_in parts i x part place.within (r.complete part (back all parts e (Some s) part differ is))
    complete part (q, is, kind, ready') (inl same) =
        let one : Some q ≡ Some s = sym is ∙ ap more same ∙ here all e (Some s) in
        let kinds : s.kind ≡ part.kind = sym (ap (λ o. option_map_or (λ t. t.kind) o part.kind) one) ∙ kind in
        let this : x ≡ part = λ j. record { exec = sym same j; kind = kinds j } in
        let P : Part → Type 0 = λ y. Contains (put_in parts i x) y in
        subst P this (Contains-new parts i x place.within)

    mine : priority_of more e ≡ s.priority
    mine = ap (λ o. option_map_or (λ t. t.priority) o priority.Fork) (here all e (Some s))

    other_priority : (f : Part) → f.exec ≢ e → priority_of more f.exec ≡ priority_of all f.exec
    other_priority f differ =
        ap (λ o. option_map_or (λ t. t.priority) o priority.Fork) (stays all parts e (Some s) f differ)

    differs : (k : ℕ) (d : Part) → k < length parts → (get_or parts k d).exec ≢ e
    differs k d low = other_exec all e (get_or parts k d) old (r.sound k d low)

    before : (k : ℕ) (d : Part) → k < i → comes_first more e (get_or parts k d).exec ≡ true
    before k d low = rw (mine, other_priority (get_or parts k d) (differs k d (omega (arith, low, place.within)))) (place.later k d low)

    behind : (k : ℕ) (d : Part) → i ≤ k → k < length parts → comes_first more (get_or parts k d).exec e ≡ true
    behind k d low high =
        let f = get_or parts k d in
        let differ : f.exec ≢ e = differs k d high in
        rw (mine, other_priority f differ) (either_first s.priority (priority_of all f.exec) e f.exec
        (λ same. differ (sym same)) (place.sooner k d low high))

-- the part at a place is ready no more
pub ready_taken_out : (all : Standings) (parts : List Part) (e : ℕ) (s : Option Standing) (i : ℕ) (d : Part)
    → i < length parts → (get_or parts i d).exec ≡ e → IsUnready s → AreReady all parts
    → AreReady (with_standing all e s) (taken_out parts i)
ready_taken_out all parts e s i d within is_e new r = record {
  sound = All-taken_out (IsReadyPart more) parts i within
      (λ k d differ low. still all parts e s (get_or parts k d) (differs k d differ low) (r.sound k d low));
  complete = complete;
  order = AllPairs-taken_out (λ p q. comes_first more q.exec p.exec ≡ true) parts i within
      (λ j k d a b low high.
      let p = get_or parts j d in let q = get_or parts k d in
      same_order all more q.exec p.exec (stays all parts e s q (differs k d b high))
      (stays all parts e s p (differs j d a (omega (arith, low, high)))) (r.order j k d low high));
}
  where
    more : Standings
    more = with_standing all e s

    -- no other part is of the execution, since none is taken before itself
    differs : (k : ℕ) (d : Part) → k ≢ i → k < length parts → (get_or parts k d).exec ≢ e
    differs k d' differ low same = go (cases_lt k i)
      where
        here_e : (get_or parts i d').exec ≡ e
        here_e = ap (λ (p : Part). p.exec) (get_or_default parts i d' d within) ∙ is_e

        clash : (m n : ℕ) → m < n → n < length parts → (get_or parts m d').exec ≡ e → (get_or parts n d').exec ≡ e → ⊥
        clash m n low high a b =
            let first : comes_first all (get_or parts n d').exec (get_or parts m d').exec ≡ true = r.order m n d' low high in
            let itself : comes_first all e e ≡ true = rw (a, b) at first in
            let never : comes_first all e e ≡ false = not_itself (priority_of all e) e in
            let no_way : true ≡ false = sym itself ∙ never in cc

        go : (k < i) ⊎ (i ≤ k) → ⊥
        go (inl lower) = clash k i lower within same here_e
        go (inr higher) = clash i k (omega (arith, higher, differ)) low here_e same

    complete : (part : Part) → IsReadyPart more part → Contains (taken_out parts i) part
    complete part is =
        let apart : part.exec ≢ e = other_exec more e part (λ x h. new x (sym (here all e s) ∙ h)) is in
        let at = r.complete part (back all parts e s part apart is) in
        Contains-taken_out parts i part within at.0 (λ same. apart (
        ap (λ (p : Part). p.exec) (sym at.2) ∙ ap (λ k. (get_or parts k part).exec) same
        ∙ ap (λ (p : Part). p.exec) (get_or_default parts i part d within) ∙ is_e)) at.1 at.2

-- the last of the ready parts is ready no more
pub last_taken : (all : Standings) (parts : List Part) (part : Part) (s : Option Standing) → IsUnready s
    → AreReady all (parts ++ part ∷ []) → AreReady (with_standing all part.exec s) parts
last_taken all parts part s unready r =
    let n : length (parts ++ part ∷ []) ≡ length parts + 1 = search (rules, places) in
    let last : get_or (parts ++ part ∷ []) (length parts) part ≡ part = grind (arith, places) in
    let P : List Part → Type 0 = λ ps. AreReady (with_standing all part.exec s) ps in
    subst P (all_but_last parts part) (ready_taken_out all (parts ++ part ∷ []) part.exec s (length parts) part
    (omega (arith, n)) (ap (λ (p : Part). p.exec) last) unready r)

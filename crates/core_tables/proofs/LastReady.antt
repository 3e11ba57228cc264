-- The last of the ready parts is the next.
use Rattle.std.proofs.Common.{◌≡◌, ℕ, ◌+◌, ◌<◌, ◌≤◌, true, false, List, [], ◌∷◌, ◌++◌, length, get_or, sym, ◌∙◌, ap, subst, arith, ◌⊎◌, inl, inr, rules}
use Rattle.std.specs.List.{Contains}
use Rattle.std.proofs.lemmas.Bool.{cases_lt}
use Rattle.std.proofs.lemmas.List.{places, same_lists}
use Rattle.pide_base.specs.declared.part.Part.{Part}
use Rattle.core_tables.specs.Order.{goes_before}
use Rattle.core_tables.specs.Ready.{Standings, priority_of, comes_first, IsReadyPart, AreReady, IsNext, IsPlaceFor}
use Rattle.core_tables.proofs.PutIn.{taken_out}
use Rattle.core_tables.proofs.KnownOrder.{not_itself, not_both}

-- the last of the ready parts is taken next
pub last_is_next : (all : Standings) (parts : List Part) (part : Part) → AreReady all (parts ++ part ∷ [])
    → IsNext all part
last_is_next all parts part r = record { ready = ready; first = first }
  where
    n : length (parts ++ part ∷ []) ≡ length parts + 1
    n = search (rules, places)

    last : (d : Part) → get_or (parts ++ part ∷ []) (length parts) d ≡ part
    last d = grind (arith, places)

    ready : IsReadyPart all part
    ready = rw (last part) at (r.sound (length parts) part (omega (arith, n)))

    first : (other : Part) → IsReadyPart all other → comes_first all other.exec part.exec ≡ false
    first other is = go (r.complete other is)
      where
        go : Contains (parts ++ part ∷ []) other → comes_first all other.exec part.exec ≡ false
        go (k, low, at) = by (cases_lt k (length parts))
          where
            by : (k < length parts) ⊎ (length parts ≤ k) → comes_first all other.exec part.exec ≡ false
            by (inl before) =
                let pair : comes_first all (get_or (parts ++ part ∷ []) (length parts) other).exec
                (get_or (parts ++ part ∷ []) k other).exec ≡ true = r.order k (length parts) other before (omega (arith, n)) in
                let sooner : comes_first all part.exec other.exec ≡ true = rw (last other, at) at pair in
                not_both (priority_of all part.exec) (priority_of all other.exec) part.exec other.exec sooner
            by (inr high) =
                let e : k ≡ length parts = omega (arith, high, low, n) in
                let same : part ≡ other = sym (last other) ∙ ap (λ m. get_or (parts ++ part ∷ []) m other) (sym e) ∙ at in
                let P : Part → Type 0 = λ q. comes_first all q.exec part.exec ≡ false in
                subst P same (not_itself (priority_of all part.exec) part.exec)

-- what is left without the last
pub all_but_last : (parts : List Part) (part : Part) → taken_out (parts ++ part ∷ []) (length parts) ≡ parts
all_but_last parts part = same_lists _ _ (search (rules, places)) (λ k d h. grind (arith, places))

-- the place of a part that is there
pub place_is : (all : Standings) (parts : List Part) (e i k : ℕ) (d : Part) → AreReady all parts
    → IsPlaceFor all (priority_of all e) e parts i → k < length parts → (get_or parts k d).exec ≡ e → i ≡ k
place_is all parts e i k d r place low is = go (cases_lt i k) (cases_lt k i)
  where
    itself : goes_before (priority_of all e) e (priority_of all (get_or parts k d).exec) (get_or parts k d).exec ≡ false
    itself = rw is (not_itself (priority_of all e) e)

    go : (i < k) ⊎ (k ≤ i) → (k < i) ⊎ (i ≤ k) → i ≡ k
    go (inl less) _ =
        let pair : comes_first all (get_or parts k d).exec (get_or parts i d).exec ≡ true = r.order i k d less low in
        let one : goes_before (priority_of all e) e (priority_of all (get_or parts i d).exec) (get_or parts i d).exec ≡ true = rw is at pair in
        let other = place.sooner i d (omega arith) (omega (arith, less, low)) in
        let clash : true ≡ false = sym one ∙ other in cc
    go (inr _) (inl more) =
        let one = place.later k d more in
        let clash : true ≡ false = sym one ∙ itself in cc
    go (inr a) (inr b) = omega (arith, a, b)

-- The last of the ready parts of a queue is the next one.
use Rattle.std.proofs.Common.{◌≡◌, ◌<◌, ◌≤◌, ◌-◌, true, false, List, length, get_or, sym, ◌∙◌, ap, subst, arith, ◌⊎◌, inl, inr}
use Rattle.std.specs.List.{Contains}
use Rattle.std.proofs.lemmas.Bool.{cases_lt}
use Rattle.std.proofs.lemmas.List.{get_or_default}
use Rattle.pide_base.specs.declared.part.Part.{Part}
use Rattle.core_tables.specs.Ready.{Standings, priority_of, comes_first, IsReadyPart, AreReady, IsNext}
use Rattle.core_tables.proofs.KnownOrder.{not_itself, not_both}

-- where none is there, none is ready
pub none_is_ready : (all : Standings) (parts : List Part) (part : Part) → length parts < 1 → AreReady all parts
    → IsReadyPart all part → ⊥
none_is_ready all parts part none r is = go (r.complete part is)
  where
    go : Contains parts part → ⊥
    go (k, low, at) = omega (arith, low, none)

-- the last of the ready parts is taken next
pub last_is_next : (all : Standings) (parts : List Part) (d : Part) → 0 < length parts → AreReady all parts
    → IsNext all (get_or parts (length parts - 1) d)
last_is_next all parts d some r = record { ready = r.sound (length parts - 1) d (omega (arith, some)); first = first }
  where
    first : (other : Part) → IsReadyPart all other → comes_first all other.exec (get_or parts (length parts - 1) d).exec ≡ false
    first other is = go (r.complete other is)
      where
        same : get_or parts (length parts - 1) other ≡ get_or parts (length parts - 1) d
        same = get_or_default parts (length parts - 1) other d (omega (arith, some))

        go : Contains parts other → comes_first all other.exec (get_or parts (length parts - 1) d).exec ≡ false
        go (k, low, at) = by (cases_lt k (length parts - 1))
          where
            by : (k < length parts - 1) ⊎ (length parts - 1 ≤ k) → comes_first all other.exec (get_or parts (length parts - 1) d).exec ≡ false
            by (inl before) =
                let last : Part = get_or parts (length parts - 1) d in
                let pair : comes_first all (get_or parts (length parts - 1) other).exec (get_or parts k other).exec ≡ true =
                r.order k (length parts - 1) other before (omega (arith, some)) in
                let sooner : comes_first all last.exec other.exec ≡ true =
                sym (ap (λ (p : Part). comes_first all p.exec other.exec) same)
                ∙ sym (ap (λ (p : Part). comes_first all (get_or parts (length parts - 1) other).exec p.exec) at) ∙ pair in
                not_both (priority_of all last.exec) (priority_of all other.exec) last.exec other.exec sooner
            by (inr high) =
                let last : Part = get_or parts (length parts - 1) d in
                let e : k ≡ length parts - 1 = omega (arith, high, low, some) in
                let it : other ≡ last = sym at ∙ ap (λ m. get_or parts m other) e ∙ same in
                subst (λ (q : Part). comes_first all q.exec last.exec ≡ false) (sym it) (not_itself (priority_of all last.exec) last.exec)

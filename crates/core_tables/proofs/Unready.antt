-- What is not ready stays so where another part changes.
use Rattle.std.proofs.Common.{◌≡◌, ◌≢◌, ℕ, true, false, List, get_or, Option, Some, sym, ◌∙◌, ap, arith}
use Rattle.std.specs.List.{All, AllPairs}
use Rattle.pide_base.specs.declared.part.Part.{Part}
use Rattle.core_tables.specs.declared.task.Standing.{Standing}
use Rattle.core_tables.specs.Tasks.{is_ready}
use Rattle.core_tables.specs.Ready.{Standings, comes_first, IsReadyPart, AreReady, with_standing}
use Rattle.core_tables.proofs.Changed.{here, elsewhere}

-- what stands there is not ready
abbrev pub IsUnready : Option Standing → Type 0
IsUnready s = (r : Standing) → s ≡ Some r → is_ready r ≡ false

-- so a ready part is another execution's
pub other_exec : (all : Standings) (e : ℕ) (part : Part) → IsUnready (all e) → IsReadyPart all part → part.exec ≢ e
other_exec all e part unready (r, is, kind, ready) same =
    let no_r : is_ready r ≡ false = unready r (ap all (sym same) ∙ is) in
    let clash : false ≡ true = sym no_r ∙ ready in cc

-- a part stays ready where its execution's part stands as before
pub moves_ready : (all more : Standings) (part : Part) → more part.exec ≡ all part.exec
    → IsReadyPart all part → IsReadyPart more part
moves_ready all more part same (r, is, kind, ready) = (r, same ∙ is, kind, ready)

pub same_order : (all more : Standings) (e f : ℕ) → more e ≡ all e → more f ≡ all f
    → comes_first all e f ≡ true → comes_first more e f ≡ true
same_order all more e f a b before = rw (a, b) before

module _ (all : Standings) (parts : List Part) (e : ℕ) (s : Option Standing) where
  -- a part of another execution stands as before
  pub stays : (p : Part) → p.exec ≢ e → with_standing all e s p.exec ≡ all p.exec
  stays p differ = elsewhere all e p.exec s differ

  pub back : (part : Part) → part.exec ≢ e → IsReadyPart (with_standing all e s) part → IsReadyPart all part
  back part differ is = moves_ready (with_standing all e s) all part (sym (stays part differ)) is

  pub still : (part : Part) → part.exec ≢ e → IsReadyPart all part → IsReadyPart (with_standing all e s) part
  still part differ is = moves_ready all (with_standing all e s) part (stays part differ) is

  -- nothing changes where the part was not ready, but perhaps is
  pub sound_still : IsUnready (all e) → AreReady all parts → All (IsReadyPart (with_standing all e s)) parts
  sound_still old r k d low =
      still (get_or parts k d) (other_exec all e (get_or parts k d) old (r.sound k d low)) (r.sound k d low)

  pub order_still : IsUnready (all e) → AreReady all parts
      → AllPairs (λ p q. comes_first (with_standing all e s) q.exec p.exec ≡ true) parts
  order_still old r i j d low high =
      let p = get_or parts i d in let q = get_or parts j d in
      let first : IsReadyPart all p = r.sound i d (omega (arith, low, high)) in
      same_order all (with_standing all e s) q.exec p.exec
      (stays q (other_exec all e q old (r.sound j d high)))
      (stays p (other_exec all e p old first)) (r.order i j d low high)

  pub unready_changed : IsUnready (all e) → IsUnready s → AreReady all parts → AreReady (with_standing all e s) parts
  unready_changed old new r = record {
    sound = sound_still old r;
    complete = λ part is.
        let differ : part.exec ≢ e = other_exec (with_standing all e s) e part
        (λ x h. new x (sym (here all e s) ∙ h)) is in
        r.complete part (back part differ is);
    order = order_still old r;
  }

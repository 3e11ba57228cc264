-- The loads by which a seat sees more of the history keep the rule.
use Rattle.std.proofs.Common.{◌≡◌, ℕ, List, length, set, get_or, sym, refl, ap, ◌∙◌, subst, arith, length-set, Option, inl, inr}
use Rattle.std.proofs.lemmas.List.{set-get_or}
use mathlib.Core.Logic.{dite}
use native.Mathlib.Decide.{dec_le}
use mathlib.Core.List.{IsPrefix}
use mathlib.Core.Option.{some, none}
use lib.ListN.{get_elem?}
use Rattle.atomic_table.specs.Table.{State, Me, step, keeps, Allows}
use Rattle.hist_lock.specs.declared.view.Doing.{Doing}
use Rattle.hist_lock.specs.declared.view.Stage.TheVariants.{Idle, Holds}
use Rattle.hist_lock.specs.Entries.{own}
use Rattle.hist_lock.specs.Rule.{AtStage, Kept}
use Rattle.hist_lock.specs.Steps.{watched, learned, saw}
use Rattle.hist_lock.proofs.Entries.{prefix_refl, prefix_shorter}
use Rattle.hist_lock.proofs.Seats.{tickets_set}
use Rattle.hist_lock.proofs.Kept.{idle_live, gone_stays, same_place, moved}

module _ {S E : Type 0} (entries : S → List E) (whose : E → ℕ) (legal : List E → Type 0) where
  abbrev Rule : State (Option S) (Doing E) → Type 0
  Rule = Kept entries whose legal

  -- a seat without a ticket sees a legal beginning of the history
  sees : (s : State (Option S) (Doing E)) (k : Rule s) (i id : ℕ) (d : Doing E) (xs : List E) → get_elem? s.views id ≡ some d → d.stage ≡ Idle → IsPrefix xs k.log → legal xs
      → Rule record { words = set s.words i (get_or s.words i 0); homes = s.homes; views = set s.views id (saw d xs d.view.mine) }
  sees s k i id d xs at idle begins is_legal =
      let live = idle_live d.stage idle in let w : Doing E = saw d xs d.view.mine in let o = k.known id d at live in let same = tickets_set s.views id d w at in let counted = k.counted in
      moved entries whose legal s k id d w at live _ s.homes k.log k.drawn k.served k.owner k.phase (set-get_or s.words i 0 ∙ k.words) k.short k.legal_log (prefix_refl k.log) (λ c n. refl) (omega arith)
      (same_place entries whose legal s.homes s.views k.log k.served id d w k.phase at (λ e. let h : Idle ≡ Holds k.served = sym idle ∙ e in cc) k.placed)
      (subst (AtStage k.log k.drawn k.served k.owner k.phase id xs) (sym idle) tt) (λ j e other _ b. b)
      (λ _. record {
        caller = o.caller;
        seen = (begins, is_legal);
        told = o.told;
        mine = o.mine;
        joined = λ n x l. gone_stays entries whose legal k.log k.log s.views id d w at live (λ c m. refl) _ (o.joined n x l);
        made = λ z. length-set s.views id w ∙ o.made z;
      })

  pub watches : (n id : ℕ) (me : Me (Option S) (Doing E)) → me.0.stage ≡ Idle → Allows Rule n id me 2 (λ y. y) (watched entries whose legal (step n 2 0 0 none) me)
  watches n id me idle s k deep at _ = let o = k.known id me.0 at (idle_live me.0.stage idle) in (
    saw me.0 k.log me.0.view.mine,
    keeps,
    tt,
    sees s k 2 id me.0 k.log at idle (prefix_refl k.log) k.legal_log,
    (k.log, ap (λ ws. get_or ws 2 0) k.words, o.seen.0, k.legal_log, ap (λ c. own whose c k.log) o.caller ∙ o.mine, refl),
  )

  pub learns : (n id : ℕ) (me : Me (Option S) (Doing E)) → me.0.stage ≡ Idle → Allows Rule n id me 0 (λ y. y) (learned entries whose legal (step n 0 0 0 none) me)
  learns n id me idle s k deep at _ = let d : Doing E = me.0 in let o = k.known id d at (idle_live d.stage idle) in
      dite (dec_le (length d.view.seen) (length d.told))
      (λ l. (
        saw d d.told d.view.mine,
        keeps,
        tt,
        sees s k 0 id d d.told at idle o.told.0 o.told.1,
        (d.told, record { is_either = inr refl; first = prefix_shorter d.view.seen d.told k.log o.seen.0 o.told.0 l; second = prefix_refl d.told }, o.told.1, refl),
      ))
      (λ l. (
        saw d d.view.seen d.view.mine,
        keeps,
        tt,
        sees s k 0 id d d.view.seen at idle o.seen.0 o.seen.1,
        (d.view.seen, record { is_either = inl refl; first = prefix_refl d.view.seen; second = prefix_shorter d.told d.view.seen k.log o.told.0 o.seen.0 (omega arith) }, o.seen.1, refl),
      ))

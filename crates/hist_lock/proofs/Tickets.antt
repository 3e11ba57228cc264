-- The steps of the queue keep the rule.
use Rattle.std.proofs.Common.{◌≡◌, ℕ, eqb, ◌+◌, ◌%◌, ◌^◌, ◌<◌, List, [], ◌∷◌, cond, length, set, get_or, sym, refl, ap, ◌∙◌, arith, Option, ne_eqb, eq-eqb}
use Rattle.std.proofs.Math.Nat.{mod-add-mod}
use mathlib.Core.Option.{none}
use Rattle.atomic_table.specs.Table.{State, Me, step, keeps, Allows}
use Rattle.hist_lock.specs.declared.view.Doing.{Doing}
use Rattle.hist_lock.specs.declared.view.Stage.{Stage}
use Rattle.hist_lock.specs.declared.view.Stage.TheVariants.{Idle, Waits, Holds, Spent}
use Rattle.hist_lock.specs.Rule.{Phase, ticket, AtStage, Kept}
use Rattle.hist_lock.specs.Steps.{drew, staged}
use Rattle.hist_lock.proofs.Entries.{prefix_refl}
use Rattle.hist_lock.proofs.Seats.{tickets_set}
use Rattle.hist_lock.proofs.Kept.{idle_live, restaged, same_place, moved}

module _ {S E : Type 0} (entries : S → List E) (whose : E → ℕ) (legal : List E → Type 0) where
  abbrev Rule : State (Option S) (Doing E) → Type 0
  Rule = Kept entries whose legal

  abbrev M : Type 0
  M = Me (Option S) (Doing E)

  -- the others' stages, where a ticket is drawn
  drawn_by : (log : List E) (drawn served : ℕ) (owner : ℕ → ℕ) (phase : Phase) (id j : ℕ) (seen : List E) (st : Stage)
      → AtStage log drawn served owner phase j seen st → AtStage log (drawn + 1) served (λ u. cond (eqb u drawn) id (owner u)) phase j seen st
  drawn_by log drawn served owner phase id j seen Idle a = tt
  drawn_by log drawn served owner phase id j seen (Waits t) a = let l : t < drawn = a.2 in
      (ap (λ b. cond b id (owner t)) (ne_eqb t drawn (λ e. omega arith)) ∙ a.0, a.1, omega arith)
  drawn_by log drawn served owner phase id j seen (Holds t) a = let l : t < drawn = a.2 in
      (ap (λ b. cond b id (owner t)) (ne_eqb t drawn (λ e. omega arith)) ∙ a.0, a.1, omega arith, a.3, a.4)
  drawn_by log drawn served owner phase id j seen Spent a = tt

  pub draws : (n id : ℕ) (me : M) → me.0.stage ≡ Idle → Allows Rule n id me 0 (λ y. (y + 1) % 2 ^ 64) (drew (step n 0 1 0 none) me)
  draws n id me idle s k deep at _ = let live = idle_live me.0.stage idle in let w : Doing E = staged me.0 (Waits k.drawn) in let owner' : ℕ → ℕ = λ u. cond (eqb u k.drawn) id (k.owner u) in
      let none_had : ticket me.0.stage ≡ 0 = ap ticket idle in let one_more = tickets_set s.views id me.0 w at in let counted = k.counted in (
        w,
        keeps,
        tt,
        moved entries whose legal s k id me.0 w at live _ s.homes k.log (k.drawn + 1) k.served owner' k.phase
            (ap (λ ws. set ws 0 ((get_or ws 0 0 + 1) % 2 ^ 64)) k.words ∙ ap (λ x. x ∷ (k.served % 2 ^ 64) ∷ length k.log ∷ []) (mod-add-mod k.drawn (2 ^ 64) 1))
            k.short k.legal_log (prefix_refl k.log) (λ c n. refl) (omega arith)
            (same_place entries whose legal s.homes s.views k.log k.served id me.0 w k.phase at (λ e. let h : Idle ≡ Holds k.served = sym idle ∙ e in cc) k.placed)
            (ap (λ b. cond b id (k.owner k.drawn)) (eq-eqb k.drawn k.drawn refl), omega arith, omega arith)
            (λ j e other _ a. drawn_by k.log k.drawn k.served k.owner k.phase id j e.view.seen e.stage a)
            (λ _. restaged entries whose legal s k id me.0 (Waits k.drawn) at live),
        (k.drawn, ap (λ ws. get_or ws 0 0) k.words, refl),
      )

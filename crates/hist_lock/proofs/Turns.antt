-- The look that takes the turn and the step that passes it on keep the rule.
use Rattle.std.proofs.Common.{◌≡◌, ◌≢◌, ℕ, ◌+◌, ◌%◌, ◌^◌, ◌<◌, ◌≤◌, List, [], ◌∷◌, length, set, get_or, sym, refl, ap, ◌∙◌, subst, arith, length-set, Option, Some}
use Rattle.std.proofs.lemmas.List.{set-get_or}
use Rattle.std.proofs.Math.Nat.{mod-add-mod}
use mathlib.Core.Logic.{dite}
use native.Mathlib.Decide.{ℕ_discrete}
use mathlib.Core.List.{IsPrefix}
use mathlib.Core.Option.{some, none}
use lib.ListN.{get_elem?}
use Rattle.atomic_table.specs.Table.{State, Me, step, keeps, takes, gives, put_back, Allows}
use Rattle.atomic_table.proofs.Lists.{set_here, one_turn}
use Rattle.hist_lock.specs.declared.view.Doing.{Doing}
use Rattle.hist_lock.specs.declared.view.Stage.{Stage}
use Rattle.hist_lock.specs.declared.view.Stage.TheVariants.{Idle, Waits, Holds, Spent}
use Rattle.hist_lock.specs.Entries.{own}
use Rattle.hist_lock.specs.Known.{Fits}
use Rattle.hist_lock.specs.Rule.{Phase, home, out, ticket, AtStage, InPlace, Kept}
use Rattle.hist_lock.specs.Steps.{looked, passed, staged, saw, ticket_of}
use Rattle.hist_lock.proofs.Entries.{prefix_refl}
use Rattle.hist_lock.proofs.Seats.{at_inside, at_same, tickets_set, tickets_le}
use Rattle.hist_lock.proofs.Kept.{waits_live, holds_live, gone_stays, restaged, moved, unmoved}

module _ {E : Type 0} where
  -- the others at their stages, where one seat has the turn
  pub others_wait : (log log' : List E) (drawn served : ℕ) (owner : ℕ → ℕ) (phase phase' : Phase) (id j : ℕ) (seen : List E) (st : Stage) → owner served ≡ id → j ≢ id
      → AtStage log drawn served owner phase j seen st → AtStage log' drawn served owner phase' j seen st
  others_wait log log' drawn served owner phase phase' id j seen Idle mine other a = tt
  others_wait log log' drawn served owner phase phase' id j seen (Waits t) mine other a = a
  others_wait log log' drawn served owner phase phase' id j seen (Holds t) mine other a = absurd (other (sym a.0 ∙ (ap owner a.1 ∙ mine)))
  others_wait log log' drawn served owner phase phase' id j seen Spent mine other a = tt

  -- the same, where it passes the turn on
  others_near : (log : List E) (drawn served : ℕ) (owner : ℕ → ℕ) (phase phase' : Phase) (id j : ℕ) (seen : List E) (st : Stage) → owner served ≡ id → j ≢ id
      → AtStage log drawn served owner phase j seen st → AtStage log drawn (served + 1) owner phase' j seen st
  others_near log drawn served owner phase phase' id j seen Idle mine other a = tt
  others_near log drawn served owner phase phase' id j seen (Waits t) mine other a =
      let later : t ≢ served = λ e. other (sym a.0 ∙ (ap owner e ∙ mine)) in let l : served ≤ t = a.1 in (a.0, omega arith, a.2)
  others_near log drawn served owner phase phase' id j seen (Holds t) mine other a = absurd (other (sym a.0 ∙ (ap owner a.1 ∙ mine)))
  others_near log drawn served owner phase phase' id j seen Spent mine other a = tt

module _ {S E : Type 0} (entries : S → List E) (whose : E → ℕ) (legal : List E → Type 0) where
  abbrev Rule : State (Option S) (Doing E) → Type 0
  Rule = Kept entries whose legal

  abbrev M : Type 0
  M = Me (Option S) (Doing E)

  -- where a seat that waits has the ticket that is served, the state is at home
  at_home : (s : State (Option S) (Doing E)) (k : Rule s) (id t : ℕ) (d : Doing E) (p : Phase) → get_elem? s.views id ≡ some d → d.stage ≡ Waits t → k.owner k.served ≡ id
      → InPlace entries s.homes s.views k.log k.served p → (x : S) × (get_elem? s.homes 0 ≡ some (some (Some x))) × (entries x ≡ k.log)
  at_home s k id t d home at waits mine h = h
  at_home s k id t d (out j) at waits mine h =
      let e : Doing E = h.0 in
      let a : AtStage k.log k.drawn k.served k.owner k.phase j e.view.seen (Holds k.served) = subst (AtStage k.log k.drawn k.served k.owner k.phase j e.view.seen) h.2 (k.staged j e h.1) in
      let same : j ≡ id = sym a.0 ∙ mine in
      let f : d ≡ e = at_same s.views id j d e (sym same) at h.1 in
      let g : Waits t ≡ Holds k.served = sym waits ∙ (ap (λ (z : Doing E). z.stage) f ∙ h.2) in absurd (cc)

  takes_turn : (n id : ℕ) (me : M) (t : ℕ) → me.0.stage ≡ Waits t → (s : State (Option S) (Doing E)) (k : Rule s) → get_elem? s.views id ≡ some me.0 → k.served ≡ t
      → (w : Doing E) × (x : S) × (get_elem? s.homes 0 ≡ some (some (Some x)))
      × Rule record { words = set s.words 1 (get_or s.words 1 0); homes = set s.homes 0 none; views = set s.views id w } × Fits entries whose legal me.0.view x
      × (w ≡ staged (saw me.0 (entries x) me.0.view.mine) (Holds (ticket_of me.0.stage)))
  takes_turn n id me t waits s k at turn =
      let d : Doing E = me.0 in let live = waits_live d.stage t waits in
      let a : AtStage k.log k.drawn k.served k.owner k.phase id d.view.seen (Waits t) = subst (AtStage k.log k.drawn k.served k.owner k.phase id d.view.seen) waits (k.staged id d at) in
      let mine : k.owner k.served ≡ id = ap k.owner turn ∙ a.0 in
      let h = at_home s k id t d k.phase at waits mine k.placed in let x : S = h.0 in let is : entries x ≡ k.log = h.2 in
      let o = k.known id d at live in
      let t_is : ticket_of d.stage ≡ t = ap ticket_of waits in
      let w : Doing E = staged (saw d (entries x) d.view.mine) (Holds (ticket_of d.stage)) in
      let had : ticket d.stage ≡ 1 = ap ticket waits in let more = tickets_set s.views id d w at in let counted = k.counted in let below : t < k.drawn = a.2 in (
        w,
        x,
        h.1,
        moved entries whose legal s k id d w at live _ (set s.homes 0 none) k.log k.drawn k.served k.owner (out id) (set-get_or s.words 1 0 ∙ k.words) k.short k.legal_log (prefix_refl k.log)
            (λ c n. refl) (omega arith) (w, set_here s.views id w (at_inside s.views id d at), ap (λ z. Holds z) (t_is ∙ sym turn))
            (ap k.owner t_is ∙ a.0, t_is ∙ sym turn, omega arith, refl, is)
            (λ j e other _ b. others_wait k.log k.log k.drawn k.served k.owner k.phase (out id) id j e.view.seen e.stage mine other b)
            (λ _. record {
              caller = o.caller;
              seen = (subst (λ (l : List E). IsPrefix l k.log) (sym is) (prefix_refl k.log), subst legal (sym is) k.legal_log);
              told = o.told;
              mine = o.mine;
              joined = λ i y l. gone_stays entries whose legal k.log k.log s.views id d w at live (λ c n. refl) _ (o.joined i y l);
              made = λ z. length-set s.views id w ∙ o.made z;
            }),
        record {
          is_legal = subst legal (sym is) k.legal_log;
          seen = subst (IsPrefix d.view.seen) (sym is) o.seen.0;
          mine = ap (λ c. own whose c (entries x)) o.caller ∙ (ap (own whose id) is ∙ o.mine);
        },
        refl,
      )

  pub looks : (n id : ℕ) (me : M) (t : ℕ) → me.0.stage ≡ Waits t → Allows Rule n id me 1 (λ y. y) (looked entries whose legal (step n 1 0 0 none) me)
  looks n id me t waits s k deep at _ =
      let a : AtStage k.log k.drawn k.served k.owner k.phase id me.0.view.seen (Waits t) = subst (AtStage k.log k.drawn k.served k.owner k.phase id me.0.view.seen) waits (k.staged id me.0 at) in
      let found : get_or s.words 1 0 ≡ k.served % 2 ^ 64 = ap (λ ws. get_or ws 1 0) k.words in
      let counted = k.counted in let low = tickets_le s.views in let few = k.few in let after : k.served ≤ t = a.1 in let below : t < k.drawn = a.2 in
      let t_is : ticket_of me.0.stage ≡ t = ap ticket_of waits in
      dite (ℕ_discrete (get_or s.words 1 0) (ticket_of me.0.stage % 2 ^ 64))
      (λ hit. let turn : k.served ≡ t = one_turn k.served t (2 ^ 64) after (omega arith) (sym found ∙ (hit ∙ ap (λ z. z % 2 ^ 64) t_is)) in
      let r = takes_turn n id me t waits s k at turn in
      (r.0, takes 0 (Some r.1), r.2, r.3, ((λ _. (r.1, r.4, ap (λ (z : Doing E). (z, (0, Some r.1) ∷ me.1)) r.5)), λ miss. absurd (miss hit))))
      (λ miss. (me.0, keeps, tt, unmoved entries whose legal s k 1 id me.0 at, ((λ hit. absurd (miss hit)), λ _. refl)))

  pub passes : (n id : ℕ) (me : M) (t : ℕ) (y : S) → 0 < n → me.0.stage ≡ Holds t → me.1 ≡ (0, Some y) ∷ [] → entries y ≡ me.0.view.seen
      → Allows Rule n id me 1 (λ z. (z + 1) % 2 ^ 64) (passed (step n 1 1 0 none) me)
  passes n id me t y room has holds is s k deep at _ =
      let d : Doing E = me.0 in let live = holds_live d.stage t has in let w : Doing E = staged d Idle in
      let a : AtStage k.log k.drawn k.served k.owner k.phase id d.view.seen (Holds t) = subst (AtStage k.log k.drawn k.served k.owner k.phase id d.view.seen) has (k.staged id d at) in
      let mine : k.owner k.served ≡ id = ap k.owner (sym a.1) ∙ a.0 in
      let had : ticket d.stage ≡ 1 = ap ticket has in let less = tickets_set s.views id d w at in let counted = k.counted in (
        w,
        gives,
        tt,
        moved entries whose legal s k id d w at live _ (put_back s.homes me.1) k.log k.drawn (k.served + 1) k.owner home
            (ap (λ ws. set ws 1 ((get_or ws 1 0 + 1) % 2 ^ 64)) k.words ∙ ap (λ x. (k.drawn % 2 ^ 64) ∷ x ∷ length k.log ∷ []) (mod-add-mod k.served (2 ^ 64) 1))
            k.short k.legal_log (prefix_refl k.log) (λ c n. refl) (omega arith)
            (y, ap (λ cs. get_elem? (put_back s.homes cs) 0) holds ∙ set_here s.homes 0 (some (Some y)) (omega arith), is ∙ a.4)
            tt
            (λ j e other _ b. others_near k.log k.drawn k.served k.owner k.phase home id j e.view.seen e.stage mine other b)
            (λ _. restaged entries whose legal s k id d Idle at live),
        refl,
      )

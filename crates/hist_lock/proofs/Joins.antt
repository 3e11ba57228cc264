-- The join of two seats keeps the rule.
use Rattle.std.proofs.Common.{◌≡◌, ◌≢◌, ℕ, List, length, set, sym, refl, ap, ◌∙◌, subst, arith, length-set, Option}
use Rattle.std.proofs.lemmas.List.Elements.{All-append, All-cons}
use mathlib.Core.Option.{some}
use lib.ListN.{get_elem?}
use Rattle.atomic_table.specs.Table.{State, Joins}
use Rattle.atomic_table.proofs.Lists.{set_else, set_here}
use Rattle.hist_lock.specs.declared.view.Joined.{Joined}
use Rattle.hist_lock.specs.declared.view.Doing.{Doing}
use Rattle.hist_lock.specs.declared.view.Stage.TheVariants.{Idle, Holds, Spent}
use Rattle.hist_lock.specs.Entries.{own}
use Rattle.hist_lock.specs.Rule.{ticket, AtStage, IsGone, Knows, Kept}
use Rattle.hist_lock.specs.Steps.{absorbed, spent_seat}
use Rattle.hist_lock.specs.Callers.{brings}
use Rattle.hist_lock.proofs.Seats.{at_inside, stays, tickets_set}
use Rattle.hist_lock.proofs.Kept.{idle_live, gone_stays, same_place, reseated}

module _ {S E : Type 0} (entries : S → List E) (whose : E → ℕ) (legal : List E → Type 0) where
  abbrev Rule : State (Option S) (Doing E) → Type 0
  Rule = Kept entries whose legal

  knows_gone : (log : List E) (vs vs' : List (Doing E)) (j : ℕ) (e : Doing E) → length vs' ≡ length vs → ((r : Joined E) → IsGone whose legal log vs r → IsGone whose legal log vs' r)
      → Knows whose legal log vs j e → Knows whose legal log vs' j e
  knows_gone log vs vs' j e long gone k = record {
    caller = k.caller;
    seen = k.seen;
    told = k.told;
    mine = k.mine;
    joined = λ i x l. gone _ (k.joined i x l);
    made = λ z. long ∙ k.made z;
  }

  pub joins : (id : ℕ) (d : Doing E) (other : ℕ) (e : Doing E) → d.stage ≡ Idle → e.stage ≡ Idle → Joins Rule id d other e (absorbed d e) spent_seat
  joins id d other e d_idle e_idle s k at apart there =
      let w : Doing E = absorbed d e in let u : Doing E = spent_seat in let vs : List (Doing E) = set s.views id w in let vs' : List (Doing E) = set vs other u in
      let d_live = idle_live d.stage d_idle in let e_live = idle_live e.stage e_idle in
      let long : length vs' ≡ length s.views = length-set vs other u ∙ length-set s.views id w in let few = k.few in let counted = k.counted in
      let had : ticket e.stage ≡ 0 = ap ticket e_idle in let first = tickets_set s.views id d w at in let then = tickets_set vs other e u there in
      let there' : get_elem? s.views other ≡ some e = sym (set_else s.views id other w apart) ∙ there in
      let o = k.known id d at d_live in let p = k.known other e there' e_live in
      let gone : (r : Joined E) → IsGone whose legal k.log s.views r → IsGone whose legal k.log vs' r = λ r g.
      gone_stays entries whose legal k.log k.log vs other e u there e_live (λ c n. refl) r (gone_stays entries whose legal k.log k.log s.views id d w at d_live (λ c n. refl) r g) in
      let ended : IsGone whose legal k.log vs' record { caller = e.view.caller; mine = e.view.mine } = record {
        spent = (u, ap (get_elem? vs') p.caller ∙ set_here vs other u (at_inside vs other e there), refl);
        mine = ap (λ c. own whose c k.log) p.caller ∙ p.mine;
      } in
      let P : Joined E → Type 0 = IsGone whose legal k.log vs' in reseated entries whose legal s k vs'
      (omega arith)
      (omega arith)
      (same_place entries whose legal s.homes vs k.log k.served other e u k.phase there (λ f. let h : Idle ≡ Holds k.served = sym e_idle ∙ f in cc)
      (same_place entries whose legal s.homes s.views k.log k.served id d w k.phase at (λ f. let h : Idle ≡ Holds k.served = sym d_idle ∙ f in cc) k.placed))
      (stays (λ j f. AtStage k.log k.drawn k.served k.owner k.phase j f.view.seen f.stage) vs other u tt (λ j f _ a.
      stays (λ j f. AtStage k.log k.drawn k.served k.owner k.phase j f.view.seen f.stage) s.views id w (subst (AtStage k.log k.drawn k.served k.owner k.phase id d.view.seen) (sym d_idle) tt) (λ j f _ a. k.staged j f a) j f a))
      (stays (λ j f. f.stage ≢ Spent → Knows whose legal k.log vs' j f) vs other u (λ lives. absurd (lives refl)) (λ j f _ a.
      stays (λ j f. f.stage ≢ Spent → Knows whose legal k.log vs' j f) s.views id w
      (λ _. record {
        caller = o.caller;
        seen = o.seen;
        told = p.seen;
        mine = o.mine;
        joined = All-append P d.view.joined (brings e.view) (λ i x l. gone _ (o.joined i x l)) (All-cons P _ e.view.joined ended (λ i x l. gone _ (p.joined i x l)));
        made = λ z. long ∙ o.made z;
      })
      (λ j f _ b lives. knows_gone k.log s.views vs' j f long gone (k.known j f b lives)) j f a))
      (λ c l. k.no_other c (omega arith))

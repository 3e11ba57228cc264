-- The split of a seat keeps the rule.
use Rattle.std.proofs.Common.{◌≡◌, ◌≢◌, ◌⊎◌, ℕ, zero, suc, ◌+◌, ◌^◌, ◌<◌, List, [], ◌∷◌, ◌++◌, length, set, sym, refl, ap, ◌∙◌, subst, ⊎_elim, inl, inr, arith, length-set, length-append, Option}
use Rattle.std.proofs.lemmas.List.Elements.{All-nil}
use mathlib.Core.Option.{some, some-injective, some-ne-none}
use mathlib.Core.Option as maybe
use lib.ListN.{get_elem?}
use Rattle.atomic_table.specs.Table.{State, Splits}
use Rattle.atomic_table.proofs.Lists.{at_longer}
use Rattle.hist_lock.specs.declared.view.Joined.{Joined}
use Rattle.hist_lock.specs.declared.view.Doing.{Doing}
use Rattle.hist_lock.specs.declared.view.Stage.TheVariants.{Idle, Holds, Spent}
use Rattle.hist_lock.specs.Rule.{Phase, home, out, ticket, tickets, AtStage, IsGone, Knows, InPlace, Kept}
use Rattle.hist_lock.specs.Steps.{parent_seat, child_seat}
use Rattle.hist_lock.proofs.Seats.{at_inside, stays, tickets_set}
use Rattle.hist_lock.proofs.Kept.{idle_live, gone_stays, same_place, reseated}

at_snoc : {A : Type 0} (l : List A) (a b : A) (j : ℕ) → get_elem? (l ++ a ∷ []) j ≡ some b → (get_elem? l j ≡ some b) ⊎ ((j ≡ length l) × (a ≡ b))
at_snoc [] a b zero e = inr (refl, some-injective a b e)
at_snoc [] a b (suc j) e = absurd (some-ne-none b (sym e))
at_snoc (x ∷ xs) a b zero e = inl e
at_snoc (x ∷ xs) a b (suc j) e = ⊎_elim (λ (h : get_elem? xs j ≡ some b). inl h) (λ (h : (j ≡ length xs) × (a ≡ b)). inr (ap suc h.0, h.1)) (at_snoc xs a b j e)

tickets-snoc : {E : Type 0} (vs : List (Doing E)) (w : Doing E) → tickets (vs ++ w ∷ []) ≡ tickets vs + ticket w.stage
tickets-snoc [] w = omega arith
tickets-snoc (v ∷ vs) w = omega (arith, tickets-snoc vs w)

module _ {S E : Type 0} (entries : S → List E) (whose : E → ℕ) (legal : List E → Type 0) where
  abbrev Rule : State (Option S) (Doing E) → Type 0
  Rule = Kept entries whose legal

  gone_longer : (log : List E) (vs : List (Doing E)) (w : Doing E) (r : Joined E) → IsGone whose legal log vs r → IsGone whose legal log (vs ++ w ∷ []) r
  gone_longer log vs w r g = record { spent = (g.spent.0, at_longer vs (w ∷ []) r.caller g.spent.0 g.spent.1, g.spent.2); mine = g.mine }

  place_longer : (homes : List (maybe.Option (Option S))) (vs : List (Doing E)) (w : Doing E) (log : List E) (served : ℕ) (p : Phase) → InPlace entries homes vs log served p → InPlace entries homes (vs ++ w ∷ []) log served p
  place_longer homes vs w log served home h = h
  place_longer homes vs w log served (out j) h = (h.0, at_longer vs (w ∷ []) j h.0 h.1, h.2)

  pub splits : (id : ℕ) (d : Doing E) → d.stage ≡ Idle → d.view.caller ≡ 0 → d.view.made + 1 < 2 ^ 32 → Splits Rule id d (parent_seat d) (child_seat d)
  splits id d idle first room s k at =
      let live = idle_live d.stage idle in let o = k.known id d at live in let is_first : id ≡ 0 = sym o.caller ∙ first in let many = o.made is_first in let inside = at_inside s.views id d at in
      let w : Doing E = parent_seat d in let u : Doing E = child_seat d in let vs : List (Doing E) = set s.views id w in let long : length vs ≡ length s.views = length-set s.views id w in
      let longer : length (vs ++ u ∷ []) ≡ length s.views + 1 = omega (arith, length-append vs (u ∷ [])) in
      let same = tickets_set s.views id d w at in let counted = k.counted in let few = k.few in
      let gone = λ (r : Joined E) (g : IsGone whose legal k.log s.views r). gone_longer k.log vs u r (gone_stays entries whose legal k.log k.log s.views id d w at live (λ c n. refl) r g) in reseated entries whose legal s k (vs ++ u ∷ [])
      (omega arith)
      (omega (arith, tickets-snoc vs u))
      (place_longer s.homes vs u k.log k.served k.phase (same_place entries whose legal s.homes s.views k.log k.served id d w k.phase at (λ e. let h : Idle ≡ Holds k.served = sym idle ∙ e in cc) k.placed))
      (λ j e there. ⊎_elim
      (λ (h : get_elem? vs j ≡ some e). stays (λ j f. AtStage k.log k.drawn k.served k.owner k.phase j f.view.seen f.stage) s.views id w (subst (AtStage k.log k.drawn k.served k.owner k.phase id d.view.seen) (sym idle) tt) (λ j f _ a. k.staged j f a) j e h)
      (λ (h : (j ≡ length vs) × (u ≡ e)). subst (λ (f : Doing E). AtStage k.log k.drawn k.served k.owner k.phase j f.view.seen f.stage) h.1 tt) (at_snoc vs u e j there))
      (λ j e there lives. ⊎_elim
      (λ (h : get_elem? vs j ≡ some e). stays (λ j f. f.stage ≢ Spent → Knows whose legal k.log (vs ++ u ∷ []) j f) s.views id w
      (λ _. record {
        caller = o.caller;
        seen = o.seen;
        told = o.told;
        mine = o.mine;
        joined = λ i x l. gone _ (o.joined i x l);
        made = λ _. omega arith;
      })
      (λ j f other a lively. let b = k.known j f a lively in record {
        caller = b.caller;
        seen = b.seen;
        told = b.told;
        mine = b.mine;
        joined = λ i x l. gone _ (b.joined i x l);
        made = λ z. absurd (other (z ∙ sym is_first));
      }) j e h lives)
      (λ (h : (j ≡ length vs) × (u ≡ e)). subst (λ (f : Doing E). Knows whose legal k.log (vs ++ u ∷ []) j f) h.1 (let at_end = h.0 in record {
        caller = omega arith;
        seen = o.seen;
        told = o.seen;
        mine = k.no_other j (omega arith);
        joined = All-nil (IsGone whose legal k.log (vs ++ u ∷ []));
        made = λ z. absurd (omega arith);
      })) (at_snoc vs u e j there))
      (λ c l. k.no_other c (omega arith))

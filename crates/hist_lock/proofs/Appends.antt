-- The step that appends an entry keeps the rule.
use Rattle.std.proofs.Common.{◌≡◌, ◌≢◌, ℕ, ◌+◌, ◌%◌, ◌^◌, ◌<◌, List, [], ◌∷◌, ◌++◌, length, set, get_or, sym, refl, ap, ◌∙◌, subst, arith, length-set, length-append, Option, Some}
use Rattle.std.proofs.Math.Nat.{mod-eq_of_lt}
use mathlib.Core.List.{IsPrefix}
use mathlib.Core.Option.{none}
use Rattle.atomic_table.specs.Table.{Me, step, keeps, Allows}
use Rattle.atomic_table.proofs.Lists.{set_here}
use Rattle.hist_lock.specs.declared.view.Doing.{Doing}
use Rattle.hist_lock.specs.declared.view.Stage.TheVariants.{Holds}
use Rattle.hist_lock.specs.Entries.{own}
use Rattle.hist_lock.specs.Rule.{out, AtStage, Kept}
use Rattle.hist_lock.specs.Steps.{appended, saw, held, SeesEntry}
use Rattle.hist_lock.proofs.Entries.{prefix_refl, prefix_trans, own_other}
use Rattle.hist_lock.proofs.Seats.{at_inside, tickets_set}
use Rattle.hist_lock.proofs.Kept.{holds_live, gone_stays, moved}
use Rattle.hist_lock.proofs.Turns.{others_wait}

module _ {S E : Type 0} (entries : S → List E) (whose : E → ℕ) (legal : List E → Type 0) where
  pub appends : (n id : ℕ) (me : Me (Option S) (Doing E)) (t : ℕ) (y : S) (e : E) → me.0.stage ≡ Holds t → me.1 ≡ (0, Some y) ∷ [] → entries y ≡ me.0.view.seen ++ e ∷ []
      → whose e ≡ me.0.view.caller → legal (entries y) → length (entries y) < 2 ^ 64
      → Allows (Kept entries whose legal) n id me 2 (λ z. (z + 1) % 2 ^ 64) (appended entries whose legal (step n 2 1 0 none) me)
  appends n id me t y e has holds is by_me is_legal short s k deep at _ =
      let d : Doing E = me.0 in let live = holds_live d.stage t has in let log' : List E = held entries whose legal me.1 in
      let a : AtStage k.log k.drawn k.served k.owner k.phase id d.view.seen (Holds t) = subst (AtStage k.log k.drawn k.served k.owner k.phase id d.view.seen) has (k.staged id d at) in
      let o = k.known id d at live in
      let mine : k.owner k.served ≡ id = ap k.owner (sym a.1) ∙ a.0 in
      let y_is : log' ≡ entries y = ap (held entries whose legal) holds in
      let longer : log' ≡ k.log ++ e ∷ [] = y_is ∙ (is ∙ ap (λ l. l ++ e ∷ []) a.4) in
      let short' : length log' < 2 ^ 64 = subst (λ (l : List E). length l < 2 ^ 64) (sym y_is) short in
      let one_more : length k.log + 1 ≡ length log' = omega (arith, ap length longer, length-append k.log (e ∷ [])) in
      let w : Doing E = saw d log' (own whose d.view.caller log') in let same = tickets_set s.views id d w at in let counted = k.counted in
      let grows : IsPrefix k.log log' = (e ∷ [], sym longer) in let others = λ (c : ℕ) (m : c ≢ id). ap (own whose c) longer ∙ own_other whose c k.log e (λ f. m (sym f ∙ (by_me ∙ o.caller))) in (
        w,
        keeps,
        tt,
        moved entries whose legal s k id d w at live _ s.homes log' k.drawn k.served k.owner (out id)
            (ap (λ ws. set ws 2 ((get_or ws 2 0 + 1) % 2 ^ 64)) k.words ∙ ap (λ x. (k.drawn % 2 ^ 64) ∷ (k.served % 2 ^ 64) ∷ x ∷ []) (mod-eq_of_lt (omega arith) ∙ one_more))
            short' (subst legal (sym y_is) is_legal) grows others (omega arith)
            (w, set_here s.views id w (at_inside s.views id d at), has ∙ ap (λ z. Holds z) a.1)
            (subst (AtStage log' k.drawn k.served k.owner (out id) id log') (sym has) (a.0, a.1, a.2, refl, refl))
            (λ j f other _ b. others_wait k.log log' k.drawn k.served k.owner k.phase (out id) id j f.view.seen f.stage mine other b)
            (λ _. record {
              caller = o.caller;
              seen = (prefix_refl log', subst legal (sym y_is) is_legal);
              told = (prefix_trans d.told k.log log' o.told.0 grows, o.told.1);
              mine = ap (λ c. own whose c log') (sym o.caller);
              joined = λ i x l. gone_stays entries whose legal k.log log' s.views id d w at live others _ (o.joined i x l);
              made = λ z. length-set s.views id w ∙ o.made z;
            }),
        refl,
      )

  -- what the step tells, at the state that the seat holds
  pub sees_entry : (m m' : Me (Option S) (Doing E)) → m' ≡ (saw m.0 (held entries whose legal m.1) (own whose m.0.view.caller (held entries whose legal m.1)), m.1) → SeesEntry entries whose legal m m'
  sees_entry m m' is y holds = is ∙ ap (λ (xs : List E). (saw m.0 xs (own whose m.0.view.caller xs), m.1)) (ap (held entries whose legal) holds)

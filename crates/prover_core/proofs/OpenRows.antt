-- An execution of the table has an unfinished part exactly where it is open.
use Rattle.std.proofs.Common.{◌≡◌, ℕ, Bool, true, false, cond, not, ◌||◌, List, [], ◌∷◌, map, Some, None, refl, ap, sym, ◌∙◌}
use Rattle.std.specs.List.{list_any}
use Rattle.std.specs.Option.{option_map, option_map_or}
use Rattle.text_words.specs.Members.{has}
use Rattle.pide_base.specs.declared.part.PartKind.{PartKind}
use Rattle.core_tables.specs.Progress.{is_done}
use Rattle.exec_rules.specs.declared.home.Home.{Home}
use Rattle.exec_rules.specs.declared.home.Input.{Input}
use Rattle.exec_rules.specs.declared.home.Input.TheVariants as input
use Rattle.language.specs.Lang.{Lang}
use Rattle.core_rules.specs.declared.event.Event.{Event}
use Rattle.core_rules.specs.Numbered.{numbered}
use Rattle.core_rules.specs.Assigned.{is_assigned}
use Rattle.core_rules.specs.Settings.{made_of, setting}
use Rattle.core_rules.specs.Parts.{kinds_by}
use Rattle.core_rules.specs.Standing.{is_finished, is_open}
use Rattle.core_rules.specs.Doc.{Doc}
use Rattle.prover_core.specs.Progress.{Completed, part, completed_in, progress_by, result, execution_by, row_by, row_of}
use Rattle.prover_core.specs.Kept.{IsKnown}
use Rattle.prover_core.proofs.KindsNext.{is_in, finished_is}

module _ {R : Type 0} (brings : PartKind → R) where
  -- all parts are finished where none is unfinished
  pub progress_done : (taken : Input) (f : Bool) (c : Completed)
      → is_done (progress_by brings f taken c) ≡ not (list_any (λ k. not (is_in k c)) (kinds_by taken f))
  progress_done (input.First head) f c = by f c.eval c.fork c.print
    where
      by : (f a b z : Bool) → is_done (progress_by brings f (input.First head) (record { eval = a; fork = b; print = z }))
          ≡ not (list_any (λ k. not (is_in k (record { eval = a; fork = b; print = z }))) (kinds_by (input.First head) f))
      by f false b z = refl
      by false true b z = refl
      by true true true z = refl
      by true true false z = refl
  progress_done (input.Next e) f c = by f c.eval c.fork c.print
    where
      by : (f a b z : Bool) → is_done (progress_by brings f (input.Next e) (record { eval = a; fork = b; print = z }))
          ≡ not (list_any (λ k. not (is_in k (record { eval = a; fork = b; print = z }))) (kinds_by (input.Next e) f))
      by f false b z = refl
      by false true b z = refl
      by true true true z = refl
      by true true false z = refl
  progress_done (input.Print e) f c = by f c.eval c.fork c.print
    where
      by : (f a b z : Bool) → is_done (progress_by brings f (input.Print e) (record { eval = a; fork = b; print = z }))
          ≡ not (list_any (λ k. not (is_in k (record { eval = a; fork = b; print = z }))) (kinds_by (input.Print e) f))
      by f a b true = refl
      by f a b false = refl

module _ {S : Type 0} (l : Lang S) (h : List Event) (d : Doc) (e : ℕ) where
  pub open_kinds : (ks : List PartKind) → list_any (λ p. not (is_finished h p)) (map (λ k. part e k) ks)
      ≡ list_any (λ k. not (is_in k (completed_in h e))) ks
  open_kinds [] = refl
  open_kinds (k ∷ ks) = ap (λ b. not b || list_any (λ p. not (is_finished h p)) (map (λ x. part e x) ks)) (finished_is h e k)
      ∙ ap (λ b. not (is_in k (completed_in h e)) || b) (open_kinds ks)

  -- how far an execution is that a live version assigns, cancelled or not
  pub row_with_mark : (b : Bool) (x : IsKnown l d.homes e) → is_assigned d.live e ≡ true
      → cond (is_assigned d.live e) (row_by l b e (completed_in h e) (numbered d.homes e) (setting l d.homes e)) None
      ≡ Some (execution_by l b e (completed_in h e) x.home x.works_on)
  row_with_mark b x live = ap (λ a. cond a (row_by l b e (completed_in h e) (numbered d.homes e) (setting l d.homes e)) None) live
      ∙ ap (λ o. row_by l b e (completed_in h e) o (setting l d.homes e)) x.homed
      ∙ ap (λ o. option_map (execution_by l b e (completed_in h e) x.home) o) x.setting_is

  pub row_known : (x : IsKnown l d.homes e) → is_assigned d.live e ≡ true
      → row_of l h d e ≡ Some (execution_by l (has d.cancelled e) e (completed_in h e) x.home x.works_on)
  row_known x live = row_with_mark (has d.cancelled e) x live

  -- it is done where it is not open
  pub done_closed : (x : IsKnown l d.homes e)
      → is_done (execution_by l (has d.cancelled e) e (completed_in h e) x.home x.works_on).progress ≡ not (is_open l h d.homes e)
  done_closed x = progress_done (result l e x.works_on) x.home.input (made_of l x.works_on).forks (completed_in h e)
      ∙ ap not (sym (open_kinds (kinds_by x.home.input (made_of l x.works_on).forks)))
      ∙ ap (λ o. not (list_any (λ p. not (is_finished h p)) (map (λ k. part e k) (kinds_by x.home.input (option_map_or (λ s. (made_of l s).forks) o false)))))
      (sym x.setting_is)
      ∙ ap (λ o. not (list_any (λ p. not (is_finished h p)) (option_map_or
      (λ (y : Home). map (λ k. part e k) (kinds_by y.input (option_map_or (λ s. (made_of l s).forks) (setting l d.homes e) false))) o [])))
      (sym x.homed)

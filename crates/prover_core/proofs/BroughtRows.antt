-- What came of a part is what its execution is finished with.
use Rattle.std.proofs.Common.{◌≡◌, ℕ, Bool, true, false, not, List, ◌∷◌, Option, Some, None, refl, ap, sym, ◌∙◌}
use Rattle.std.specs.Option.{option_map, option_map_or, option_and_then}
use Rattle.std.proofs.lemmas.Bool.{and_parts}
use Rattle.text_words.specs.Members.{has}
use Rattle.pide_base.specs.declared.part.Part.{Part}
use Rattle.pide_base.specs.declared.part.PartKind.{PartKind}
use Rattle.pide_base.specs.declared.part.PartKind.TheVariants as kind
use Rattle.core_tables.specs.declared.execution.Execution.{Execution}
use Rattle.core_tables.specs.Finish.{finished_in}
use Rattle.exec_rules.specs.declared.home.Home.{Home}
use Rattle.language.specs.Lang.{Lang}
use Rattle.core_rules.specs.declared.event.Event.{Event}
use Rattle.core_rules.specs.declared.event.Event.TheVariants.{Finished}
use Rattle.core_rules.specs.Assigned.{is_assigned}
use Rattle.core_rules.specs.Settings.{Setting, made_of, setting}
use Rattle.core_rules.specs.Parts.{forks}
use Rattle.core_rules.specs.Standing.{held, standing}
use Rattle.core_rules.specs.Doc.{Doc, doc}
use Rattle.core_rules.specs.Ready.{is_wanted}
use Rattle.core_jobs.specs.declared.done.Done.{Done}
use Rattle.core_jobs.specs.Runs.{done_in}
use Rattle.core_jobs.specs.Fits.{IsDoneOf}
use Rattle.prover_core.specs.Brought.{brought, forks_told}
use Rattle.prover_core.specs.Progress.{completed_in, and_also, next_kind, kind_behind, result, execution_by, row_of}
use Rattle.prover_core.specs.Kept.{Tables, IsKept, IsKnown}
use Rattle.prover_core.proofs.FinishedRows.{finishes_in}
use Rattle.prover_core.proofs.OpenRows.{row_known}
use Rattle.prover_core.proofs.PartsAlike.{completed_here}

module _ {S : Type 0} (l : Lang S) where
  -- what comes of a part brings what its kind does, and tells whether the command forks
  brings : (e : ℕ) (s : Setting S) (k : PartKind) → brought k (result l e s k) (forks_told (result l e s k))
      ≡ brought k (result l e s k) (made_of l s).forks
  brings e s kind.Eval = refl
  brings e s kind.Fork = refl
  brings e s kind.Print = refl

  behind : (e : ℕ) (s : Setting S) (k : PartKind) → kind_behind k (forks_told (result l e s k)) ≡ kind_behind k (made_of l s).forks
  behind e s kind.Eval = refl
  behind e s kind.Fork = refl
  behind e s kind.Print = refl

  -- what came of it in a setting that is known
  made_in : (p : Part) (done : Done S) (o : Option (Setting S)) (s : Setting S) → o ≡ Some s → option_map (done_in l p) o ≡ Some done
      → done ≡ result l p.exec s p.kind
  made_in p done None s is at = absurd (cc)
  made_in p done (Some x) s is at =
      let same : x ≡ s = cc in
      let here : done_in l p x ≡ done = cc in
      sym here ∙ ap (done_in l p) same

  -- of the very part
  pub right_for : (homes : List Home) (p : Part) (done : Done S) → p ≡ done.part → IsDoneOf l homes done
      → option_map (done_in l p) (setting l homes p.exec) ≡ Some done
  right_for homes p done same right = ap (λ (q : Part). option_map (done_in l q) (setting l homes q.exec)) same ∙ right

  module _ (h : List Event) (t : Tables S) (k : IsKept l h t) (who : ℕ) (p : Part) (done : Done S) (holds : held h who ≡ Some p)
      (wanted : is_wanted (doc l h) p.exec ≡ true) (right : option_map (done_in l p) (setting l (doc l h).homes p.exec) ≡ Some done) where
    abbrev pub d : Doc
    d = doc l h

    live : is_assigned d.live p.exec ≡ true
    live = (and_parts (is_assigned d.live p.exec) (not (has d.cancelled p.exec)) wanted).0

    not_cancelled : has d.cancelled p.exec ≡ false
    not_cancelled = not_true (has d.cancelled p.exec) (and_parts (is_assigned d.live p.exec) (not (has d.cancelled p.exec)) wanted).1
      where
        not_true : (b : Bool) → not b ≡ true → b ≡ false
        not_true true x = absurd (cc)
        not_true false x = refl

    pub known : IsKnown l d.homes p.exec
    known = k.known p.exec live

    next_p : next_kind known.home.input (made_of l known.works_on).forks (completed_in h p.exec) ≡ Some p.kind
    next_p = ap (λ o. next_kind known.home.input (option_map_or (λ s. (made_of l s).forks) o false) (completed_in h p.exec)) (sym known.setting_is)
        ∙ ap (λ o. option_and_then (λ (x : Home). next_kind x.input (forks l d.homes p.exec) (completed_in h p.exec)) o) (sym known.homed)
        ∙ k.held_next who p holds

    made_here : done ≡ result l p.exec known.works_on p.kind
    made_here = made_in p done (setting l d.homes p.exec) known.works_on known.setting_is right

    was : t.rows p.exec ≡ Some (execution_by l false p.exec (completed_in h p.exec) known.home known.works_on)
    was = k.rows p.exec ∙ row_known l h d p.exec known live
        ∙ ap (λ b. Some (execution_by l b p.exec (completed_in h p.exec) known.home known.works_on)) not_cancelled

    brought_is : brought p.kind done (forks_told done) ≡ brought p.kind (result l p.exec known.works_on p.kind) (made_of l known.works_on).forks
    brought_is = ap (λ x. brought p.kind x (forks_told x)) made_here ∙ brings p.exec known.works_on p.kind

    -- how far its execution is then
    abbrev pub now : Execution (Done S)
    now = execution_by l false p.exec (and_also p.kind (completed_in h p.exec)) known.home known.works_on

    pub can_finish : option_and_then (finished_in (brought p.kind done (forks_told done))) (t.rows p.exec) ≡ Some now
    can_finish = ap (option_and_then (finished_in (brought p.kind done (forks_told done)))) was
        ∙ ap (λ x. finished_in x (execution_by l false p.exec (completed_in h p.exec) known.home known.works_on)) brought_is
        ∙ finishes_in l p.exec (completed_in h p.exec) known.home known.works_on p.kind (k.in_order p.exec) next_p

    pub row_then : Some now ≡ row_of l (Finished who p ∷ h) d p.exec
    row_then = sym (row_known l (Finished who p ∷ h) d p.exec known live
        ∙ ap (λ b. Some (execution_by l b p.exec (completed_in (Finished who p ∷ h) p.exec) known.home known.works_on)) not_cancelled
        ∙ ap (λ c. Some (execution_by l false p.exec c known.home known.works_on)) (completed_here (standing h) p.exec p.kind))

    -- what comes behind the part
    pub behind_is : kind_behind p.kind (forks_told done) ≡ kind_behind p.kind (forks l d.homes p.exec)
    behind_is = ap (λ x. kind_behind p.kind (forks_told x)) made_here ∙ behind p.exec known.works_on p.kind
        ∙ ap (λ o. kind_behind p.kind (option_map_or (λ s. (made_of l s).forks) o false)) (sym known.setting_is)

-- What a job of a ready part takes up is there, and is what its execution works on.
use Rattle.std.proofs.Common.{◌≡◌, ℕ, Bool, true, false, cond, List, [], ◌∷◌, Some, None, refl, ap, sym, ◌∙◌}
use Rattle.std.proofs.lemmas.Bool.{false≢true, and_parts}
use Rattle.std.specs.List.{AllByRecursion, list_all}
use Rattle.std.specs.Option.{option_map, option_map_or, option_and_then}
use Rattle.text_words.proofs.KnownOptions.{one_of}
use Rattle.pide_base.specs.declared.part.Part.{Part}
use Rattle.pide_base.specs.declared.part.PartKind.{PartKind}
use Rattle.pide_base.specs.declared.part.PartKind.TheVariants as kind
use Rattle.core_tables.specs.declared.execution.Progress.TheVariants.{Evaluating}
use Rattle.core_tables.specs.Progress.{result_of}
use Rattle.exec_rules.specs.declared.home.Home.{Home}
use Rattle.exec_rules.specs.declared.home.Input.{Input}
use Rattle.exec_rules.specs.declared.home.Input.TheVariants as input
use Rattle.language.specs.Lang.{Lang}
use Rattle.core_rules.specs.declared.event.Event.{Event}
use Rattle.core_rules.specs.Numbered.{numbered}
use Rattle.core_rules.specs.Assigned.{assigns, is_assigned}
use Rattle.core_rules.specs.Settings.{Setting, made_of, state_behind, behind_among, settings, setting}
use Rattle.core_rules.specs.Parts.{sources_of, evaluation}
use Rattle.core_rules.specs.Standing.{Standing, Free, Held, Done, is_unclaimed, standing, is_done, is_finished}
use Rattle.core_rules.specs.Doc.{Doc, doc}
use Rattle.core_rules.specs.Ready.{has_inputs}
use Rattle.core_rules.specs.Sources.{is_evaluation, IsSource, HasHome}
use Rattle.core_jobs.specs.declared.input.Input.{Input as Taken}
use Rattle.core_jobs.specs.Jobs.{setting_of}
use Rattle.prover_core.specs.Progress.{Completed, part, completed_in, progress_by, behind_eval, result}
use Rattle.core_jobs.specs.Inputs.{state_of, state_left, found_input}
use Rattle.prover_core.specs.Kept.{Tables, IsKept, IsKnown}
use Rattle.prover_core.proofs.Olders.{olders}
use Rattle.prover_core.proofs.OpenRows.{row_known}
use Rattle.prover_core.proofs.FoundInputs.{IsFound, found_taken}

module _ {S : Type 0} (l : Lang S) where
  evaluated : (e : ℕ) (w : Setting S) (f b : Bool)
      → option_and_then state_left (result_of kind.Eval (behind_eval (result l e w) f b)) ≡ Some (state_behind l w)
  evaluated e w false b = refl
  evaluated e w true false = refl
  evaluated e w true true = refl

  -- the state that a finished evaluation left
  left_by : (e : ℕ) (w : Setting S) (f : Bool) (taken : Input) (c : Completed) → is_evaluation taken ≡ true → c.eval ≡ true
      → option_and_then state_left (result_of kind.Eval (progress_by (result l e w) f taken c)) ≡ Some (state_behind l w)
  left_by e w f (input.First head) c is done =
      ap (λ b. option_and_then state_left (result_of kind.Eval (cond b (behind_eval (result l e w) f c.fork) Evaluating))) done ∙ evaluated e w f c.fork
  left_by e w f (input.Next x) c is done =
      ap (λ b. option_and_then state_left (result_of kind.Eval (cond b (behind_eval (result l e w) f c.fork) Evaluating))) done ∙ evaluated e w f c.fork
  left_by e w f (input.Print x) c is done = absurd (false≢true is)

  all_finished : (test : ℕ → Bool) (P : ℕ → Type 0) (fs : List ℕ) → AllByRecursion P fs → list_all test fs ≡ true
      → AllByRecursion (λ f. P f × (test f ≡ true)) fs
  all_finished test P [] all done = tt
  all_finished test P (f ∷ fs) all done =
      let parts = and_parts (test f) (list_all test fs) done in
      ((all.0, parts.0), all_finished test P fs all.1 parts.1)

  all_mapped : (P Q : ℕ → Type 0) (fs : List ℕ) → ((f : ℕ) → P f → Q f) → AllByRecursion P fs → AllByRecursion Q fs
  all_mapped P Q [] step all = tt
  all_mapped P Q (f ∷ fs) step all = (step f all.0, all_mapped P Q fs step all.1)

  module _ (h : List Event) (t : Tables S) (k : IsKept l h t) (live : (e : ℕ) → assigns (doc l h).tip e ≡ true
      → is_assigned (doc l h).live e ≡ true) where
    abbrev d : Doc
    d = doc l h

    -- the state behind a finished evaluation is in the table
    finished_state : (e f : ℕ) → IsSource d d.tip e f → is_finished h (evaluation f) ≡ true
        → (w : Setting S) × (setting l d.homes f ≡ Some w) × (state_of (t.rows f) ≡ Some (state_behind l w))
    finished_state e f source done =
        let known : IsKnown l d.homes f = k.known f (live f source.assigned) in
        let home_is : known.home ≡ source.home = one_of (numbered d.homes f) known.home source.home known.homed source.homed in (
          known.works_on,
          known.setting_is,
          ap state_of (k.rows f ∙ row_known l h d f known (live f source.assigned))
              ∙ left_by f known.works_on (made_of l known.works_on).forks known.home.input (completed_in h f)
              (ap (λ (x : Home). is_evaluation x.input) home_is ∙ source.evaluates) done,
        )

    -- what is needed for the job of a part
    pub record JobFound (p : Part) : Type 0 where
      pub home : Home
      pub known : t.homes p.exec ≡ Some home
      pub input : Taken S
      pub found : found_input l d.tip.nodes (λ f. state_of (t.rows f)) home.input ≡ Some input
      pub works_on : setting l d.homes p.exec
          ≡ Some (setting_of l (record { part = p; source = home.source; blob = home.blob; input = input }))

    module _ (begun : (p : Part) → is_unclaimed (standing h p) ≡ false → has_inputs h d.homes p ≡
        true) where
      done_not_free : (s : Standing) → is_done s ≡ true → is_unclaimed s ≡ false
      done_not_free Free is = absurd (false≢true is)
      done_not_free (Held w) is = refl
      done_not_free Done is = refl

      own_sources : (e : ℕ) (x : Home) → numbered d.homes e ≡ Some x → has_inputs h d.homes (part e kind.Eval) ≡ true
          → list_all (λ f. is_finished h (evaluation f)) (sources_of x.input) ≡ true
      own_sources e x at all = sym (ap (λ o. list_all (λ f. is_finished h (evaluation f)) (option_map_or (λ (y : Home). sources_of y.input) o [])) at) ∙ all

      -- what an execution takes up is finished, where a part of it waits for nothing
      sources_done : (e : ℕ) (x : Home) (kd : PartKind) → numbered d.homes e ≡ Some x → has_inputs h d.homes (part e kd) ≡ true
          → list_all (λ f. is_finished h (evaluation f)) (sources_of x.input) ≡ true
      sources_done e x kind.Eval at all = own_sources e x at all
      sources_done e x kind.Print at all = own_sources e x at all
      sources_done e x kind.Fork at all =
          let own = (and_parts (is_finished h (evaluation e)) true all).0 in
          own_sources e x at (begun (evaluation e) (done_not_free (standing h (evaluation e)) own))

      pub job_found : (p : Part) → HasHome l d d.tip p.exec → assigns d.tip p.exec ≡ true → has_inputs h d.homes p ≡ true → JobFound p
      job_found p has_home assigned inputs =
          let old = olders l d.homes p.exec has_home.home has_home.homed in
          let done = sources_done p.exec has_home.home p.kind has_home.homed inputs in
          let both = all_finished (λ f. is_finished h (evaluation f)) (IsSource d d.tip p.exec) (sources_of has_home.home.input)
          has_home.sources done in
          let all = all_mapped (λ f. IsSource d d.tip p.exec f × (is_finished h (evaluation f) ≡ true))
          (IsFound l d.tip.nodes (λ f. state_of (t.rows f)) (behind_among l (settings l old.older)))
          (sources_of has_home.home.input) (λ f so.
          let state = finished_state p.exec f so.0 so.1 in record {
            state = state_behind l state.0;
            found = state.2;
            right = ap (option_map (state_behind l)) (old.same f so.0.older ∙ state.1);
          }) both in
          let found = found_taken l d.tip.nodes (λ f. state_of (t.rows f)) (behind_among l (settings l old.older))
          has_home.home.input has_home.begins all in record {
            home = has_home.home;
            known = k.homes p.exec ∙ ap (λ b. cond b (numbered d.homes p.exec) None) (live p.exec assigned) ∙ has_home.homed;
            input = found.0;
            found = found.1;
            works_on = old.works_on ∙ ap (option_map (λ state.
                record { source = has_home.home.source; blob = has_home.home.blob; state = state })) found.2;
          }

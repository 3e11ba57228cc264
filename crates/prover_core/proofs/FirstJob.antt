-- The job of the first ready part.
use Rattle.std.proofs.Common.{◌≡◌, ◌↔◌, ℕ, Bool, true, false, cond, not, ◌&&◌, List, Option, Some, None, refl, ap, sym, subst, ◌∙◌}
use Rattle.std.specs.Prelude.{is_some}
use Rattle.std.specs.Option.{IsSome, option_map}
use Rattle.std.proofs.lemmas.Bool.{and_parts}
use Rattle.std.proofs.lemmas.Option.{same_Some}
use Rattle.doc_nodes.specs.Imports.{NodeList}
use Rattle.text_words.specs.Members.{has}
use Rattle.text_words.proofs.KnownOptions.{one_of}
use Rattle.pide_base.specs.declared.part.Part.{Part}
use Rattle.pide_base.specs.declared.part.PartKind.{PartKind}
use Rattle.core_tables.specs.Live.{tip_of}
use Rattle.exec_rules.specs.declared.home.Home.{Home}
use Rattle.exec_rules.specs.declared.version.Version.{Version}
use Rattle.language.specs.Lang.{Lang}
use Rattle.core_rules.specs.declared.event.Event.{Event}
use Rattle.core_rules.specs.Assigned.{assigns}
use Rattle.core_rules.specs.Settings.{setting}
use Rattle.core_rules.specs.Standing.{is_unclaimed, standing}
use Rattle.core_rules.specs.Doc.{doc}
use Rattle.core_rules.specs.Ready.{is_part, is_wanted, has_inputs, is_ready, IsFirst, first_ready}
use Rattle.core_rules.specs.Sources.{HasHome}
use Rattle.core_jobs.specs.declared.input.Input.{Input as Taken}
use Rattle.core_jobs.specs.Jobs.{JobContent, setting_of}
use Rattle.prover_core.specs.Progress.{next_of}
use Rattle.prover_core.specs.Tasks.{present_kind}
use Rattle.core_jobs.specs.Inputs.{state_of, found_input}
use Rattle.prover_core.specs.Kept.{Tables, IsKept}
use Rattle.prover_core.proofs.FirstOf.{first_present}
use Rattle.prover_core.proofs.TipLive.{Laws, tip_live}
use Rattle.prover_core.proofs.JobInputs.{JobFound, job_found}

module _ {S : Type 0} (l : Lang S) (h : List Event) (t : Tables S) (k : IsKept l h t) (laws : Laws l h)
    (first : (p : Part) → (first_ready l h ≡ Some p) ↔ IsFirst l h p)
    (none : (first_ready l h ≡ None) ↔ ((p : Part) → is_ready l h p ≡ false))
    (homes : (e : ℕ) → assigns (doc l h).tip e ≡ true → HasHome l (doc l h) (doc l h).tip e)
    (begun : (p : Part) → is_unclaimed (standing h p) ≡ false → has_inputs h (doc l h).homes p ≡
    true) where
  present_assigned : (e : ℕ) (kd : PartKind) → present_kind l h (doc l h) e ≡ Some kd → assigns (doc l h).tip e ≡ true
  present_assigned e kd is = go (assigns (doc l h).tip e) is
    where
      go : (b : Bool) → cond (b && not (has (doc l h).cancelled e)) (next_of l h (doc l h) e) None ≡ Some kd → b ≡ true
      go true is = refl
      go false is = absurd (cc)

  pub first_job : (p : Part) → first_ready l h ≡ Some p → JobFound l h t k (tip_live l h t k) p
  first_job p is =
      let assigned = present_assigned p.exec p.kind (first_present l h t k laws first none p is) in
      let a = and_parts (is_part l (doc l h).homes p) (is_wanted (doc l h) p.exec
      && (is_unclaimed (standing h p) && has_inputs h (doc l h).homes p)) ((first p).0 is).ready in
      let b = and_parts (is_wanted (doc l h) p.exec)
      (is_unclaimed (standing h p) && has_inputs h (doc l h).homes p) a.1 in
      let inputs = (and_parts (is_unclaimed (standing h p)) (has_inputs h (doc l h).homes p)
      b.1).1 in
      job_found l h t k (tip_live l h t k) begun p (homes p.exec assigned) assigned inputs

  abbrev known : ℕ → Option S
  known f = state_of (t.rows f)

  -- by the nodes of the tip, and what the table knows
  pub job_there : (p : Part) → first_ready l h ≡ Some p → (nodes : NodeList) → nodes ≡ (tip_of t.versions).nodes
      → (home : Home) → t.homes p.exec ≡ Some home → IsSome (found_input l nodes known home.input)
  job_there p is nodes same home at =
      let job = first_job p is in
      ap is_some (ap (λ ns. found_input l ns known home.input) (same ∙ ap (λ (v : Version). v.nodes) k.tip)
      ∙ ap (λ (x : Home). found_input l (doc l h).tip.nodes known x.input) (same_Some home job.home (sym at ∙ job.known))
      ∙ job.found)

  pub job_right : (p : Part) → first_ready l h ≡ Some p → (nodes : NodeList) → nodes ≡ (tip_of t.versions).nodes
      → (home : Home) → t.homes p.exec ≡ Some home → (x : Taken S) → found_input l nodes known home.input ≡ Some x
      → setting l (doc l h).homes p.exec
      ≡ Some (setting_of l (record { part = p; source = home.source; blob = home.blob; input = x }))
  job_right p is nodes same home at x found =
      let job = first_job p is in
      let it : job.home ≡ home = same_Some job.home home (sym job.known ∙ at) in
      let input : job.input ≡ x = one_of (found_input l nodes known home.input) job.input x
      (ap (λ ns. found_input l ns known home.input) (same ∙ ap (λ (v : Version). v.nodes) k.tip)
      ∙ ap (λ (y : Home). found_input l (doc l h).tip.nodes known y.input) (sym it) ∙ job.found) found in
      job.works_on
      ∙ ap (λ (y : Home). Some (setting_of l (record { part = p; source = y.source; blob = y.blob; input = job.input }))) it
      ∙ ap (λ z. Some (setting_of l (record { part = p; source = home.source; blob = home.blob; input = z }))) input

-- a job that is made of these
pub job_made : {S : Type 0} (l : Lang S) (homes : List Home) (p q : Part) (source s : List ℕ) (blob b : Option (List ℕ)) (x : Taken S)
    → q ≡ p → s ≡ source → b ≡ blob
    → setting l homes p.exec ≡ Some (setting_of l (record { part = p; source = source; blob = blob; input = x }))
    → (j : JobContent S) → j ≡ record { part = q; source = s; blob = b; input = x }
    → (j.part ≡ p) × (setting l homes j.part.exec ≡ Some (setting_of l j))
job_made {S} l homes p q source s blob b x same is has_blob right j made =
    subst (λ (y : JobContent S). (y.part ≡ p) × (setting l homes y.part.exec ≡ Some (setting_of l y))) (sym made) (
      same,
      ap (λ (y : Part). setting l homes y.exec) same ∙ right
          ∙ ap (λ y. Some (setting_of l (record { part = q; source = y; blob = blob; input = x }))) (sym is)
          ∙ ap (λ y. Some (setting_of l (record { part = q; source = s; blob = y; input = x }))) (sym has_blob),
    )

-- what is in a table by one of its parts
pub there_by : {A B : Type 0} (f : A → B) (o : Option A) (a : A) → o ≡ Some a → option_map f o ≡ Some (f a)
there_by f o a is = ap (option_map f) is

pub never_by : {A B : Type 0} (f : A → B) (o : Option A) (b : B) → option_map f o ≡ Some b → o ≡ None → ⊥
never_by f o b is none = absurd (cc)

-- Commands in or behind a theory, none of which reports an error, add just what they state to its
-- facts.
use Rattle.std.proofs.Common.{if◌then◌else◌, ◌≡◌, ℕ, List, [], ◌∷◌, ◌++◌, filter_map, Some, Ok, Err, refl, sym, subst}
use Rattle.shared_map.specs.Pairs.{IsSorted}
use Rattle.theory_ctx.specs.Facts.{Fact}
use Rattle.theory_ctx.specs.Order.{by_name}
use Rattle.outer_syntax.specs.declared.token.Token.{Token}
use Rattle.report_markup.specs.declared.report.Report.{Report}
use Rattle.doc_nodes.specs.Needs.{source_tokens}
use Rattle.doc_nodes.specs.declared.node.Entry.{Entry}
use Rattle.doc_nodes.specs.declared.node.Node.{Node}
use Rattle.exec_rules.specs.Kept.{BlobList}
use Rattle.core_rules.specs.Settings.{Setting, state_behind}
use Rattle.core_rules.specs.Scratch.{set_in, run_from, state_after}
use Rattle.isar_rules.specs.declared.shape.Shape.{Shape}
use Rattle.isar_rules.specs.declared.shape.Shape.TheVariants as shape
use Rattle.isar_rules.specs.declared.state.Place.{Place}
use Rattle.isar_rules.specs.declared.state.Place.TheVariants as place
use Rattle.isar_rules.specs.declared.state.State.{State}
use Rattle.isar_rules.specs.BlobLines.{Listed}
use Rattle.isar_rules.specs.Effects.{Effect}
use Rattle.isar_rules.specs.Errors.{Tried}
use Rattle.isar_rules.specs.Isar.{isar}
use Rattle.isar_rules.specs.Kept.{errors_in}
use Rattle.isar_rules.specs.Reports.{announced, error_report}
use Rattle.isar_rules.specs.Starts.{facts_at}
use Rattle.isar_rules.specs.Steps.{aliases_at, tried, made_effect}
use Rattle.isar_rules.proofs.KnownTried.{IfTried}
use Rattle.soundness_laws.specs.Axioms.{shape_in}
use Rattle.soundness_laws.specs.Clean.{IsClean, AreClean}
use Rattle.soundness_laws.specs.Stated.{facts_stated}
use Rattle.proof_state.specs.declared.levels.Levels.{Levels}
use Rattle.proof_state.specs.declared.levels.Levels.TheVariants.{Closed, Prove, State as Block}
use Rattle.soundness_laws.specs.Stated.{are_closed}
use Rattle.soundness_laws.proofs.Adding.{Adds, AddsAt, Goes, due, seen}
use Rattle.soundness_laws.proofs.Closing.{tried_adds}
use Rattle.soundness_laws.proofs.Goals.{IsOpen, open_goals}
use Rattle.soundness_laws.proofs.Grown.{Grows, no_more, and_more}
use Rattle.soundness_laws.proofs.KnownFine.{AreFine, fine, front, behind, unordered}

-- what comes of a try, where no error is reported
pub record Came (P : Effect → Type 0) (p : Place) : Type 0 where
  pub effect : Effect
  pub is : p ≡ effect.place
  pub so : P effect

pub came : (P : Effect → Type 0) (source : List ℕ) (tokens : List Token) (before : State) (t : Tried Effect) (more : List Report) → IfTried P t
    → errors_in ((made_effect source tokens before t).reports ++ more) ≡ [] → Came P (made_effect source tokens before t).state.place
came P source tokens before (Ok e) more so clean = record { effect = e; is = refl; so = so }
came P source tokens before (Err text) more so clean =
    let made : List Report = (made_effect source tokens before (Err text)).reports in
    let refused : AreFine (announced source tokens ++ error_report source text ∷ []) = unordered _ (front made more (fine (made ++ more) clean)) in
    absurd (let no = (behind (announced source tokens) (error_report source text ∷ []) refused).0 in cc)

-- a place behind commands, and the facts that they add to those of a place
pub record Ends (node : List ℕ) (facts : List Fact) (stated : List Listed) (new : Place) : Type 0 where
  pub goes : Goes node new
  pub grows : Grows node facts stated (seen new)
  pub sorted : IsSorted by_name facts → IsSorted by_name (seen new)

-- commands behind a command
ends_on : (node : List ℕ) (p q r : Place) (before after : List Listed) → Adds node p q before after → Ends node (seen q) after r → Ends node (seen p) before r
ends_on node p q r before after adds ends = record {
  goes = ends.goes;
  grows = subst (λ l. Grows node (seen p) l (seen r)) (sym adds.split) (and_more node (seen p) adds.more (seen q) after (seen r) adds.grows ends.grows);
  sorted = λ is. ends.sorted (adds.sorted is);
}

abbrev pub shapes : List (Setting State) → List Shape
shapes = filter_map shape_in

no_due : (node : List ℕ) (p : Place) → Goes node p → due p [] ++ [] ≡ []
no_due node (place.Start n given keyword) goes = refl
no_due node place.Outside goes = refl
no_due node (place.Theory theory) goes = refl
no_due node (place.Proof theory name goal levels) goes = none levels goes.2
  where
    none : (l : Levels) → IsOpen l → ◌++◌ {A = Listed} (if are_closed (open_goals l) [] then (name, goal) ∷ [] else []) [] ≡ []
    none Closed some = absurd some
    none (Prove inner around) some = refl
    none (Block block around) some = refl
no_due node (place.End theory) goes = refl

module _ (s : Setting State) where
  abbrev tokens : List Token
  tokens = source_tokens (aliases_at s.state.place s.state.aliases) s.source

  -- a command that reports no error
  pub step_came : (P : Effect → Type 0) → IsClean s → IfTried P (tried s.blob s.state.place (shape_in s)) → Came P (state_behind isar s).place
  step_came P clean so = came P s.source tokens s.state (tried s.blob s.state.place (shape_in s)) _ so clean

module _ (name : List ℕ) (node : Node) (blobs : BlobList) where
  abbrev pub coming : Place → List (Setting State) → List Listed
  coming p commands = due p (shapes commands) ++ facts_stated commands

  pub rest_ends : (entries : List Entry) (state : State) → Goes name state.place → AreClean (run_from isar node blobs entries state)
      → Ends name (seen state.place) (coming state.place (run_from isar node blobs entries state)) (state_after isar state (run_from isar node blobs entries state)).place
  rest_ends [] state goes clean = record {
    goes = goes;
    grows = subst (λ l. Grows name (seen state.place) l (seen state.place)) (sym (no_due name state.place goes)) (no_more name (seen state.place));
    sorted = λ s. s;
  }
  rest_ends (e ∷ es) state goes clean =
      let s : Setting State = set_in node blobs e state in
      let next : State = state_behind isar s in
      let more : List (Setting State) = run_from isar node blobs es next in
      let step = step_came s (AddsAt name (shapes more) (facts_stated more) s.blob state.place (shape_in s)) clean.0
      (tried_adds name (shapes more) (facts_stated more) s.blob state.place (shape_in s) goes) in
      let adds : Adds name state.place next.place (coming state.place (s ∷ more)) (coming next.place more) =
      subst (λ p. Adds name state.place p (coming state.place (s ∷ more)) (coming p more)) (sym step.is) step.so in
      ends_on name state.place next.place _ (coming state.place (s ∷ more)) (coming next.place more) adds (rest_ends es next adds.goes clean.1)

-- facts are seen in or behind a theory
pub sees : (node : List ℕ) (p : Place) → Goes node p → facts_at p ≡ Some (seen p)
sees node (place.Start n given keyword) goes = absurd goes
sees node place.Outside goes = absurd goes
sees node (place.Theory theory) goes = refl
sees node (place.Proof theory name goal levels) goes = refl
sees node (place.End theory) goes = refl

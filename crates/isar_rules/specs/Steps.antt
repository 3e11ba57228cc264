-- What a command makes of the state before it (the Isar language, Wenzel 1999).
use Rattle.std.specs.Prelude.{ℕ, false, List, [], ◌∷◌, ◌++◌, Option, Some, None, Ok, Err}
use Rattle.outer_syntax.specs.declared.token.Token.{Token}
use Rattle.report_markup.specs.Sorting.{ordered_reports}
use Rattle.language.specs.declared.made.Made.{Made}
use Rattle.doc_nodes.specs.Needs.{AliasList, source_tokens}
use Rattle.isar_rules.specs.declared.shape.Shape.{Shape}
use Rattle.isar_rules.specs.declared.shape.Shape.TheVariants as shape
use Rattle.isar_rules.specs.declared.state.Place.{Place}
use Rattle.isar_rules.specs.declared.state.Place.TheVariants as place
use Rattle.isar_rules.specs.declared.state.State.{State}
use Rattle.isar_rules.specs.Shapes.{shape_of}
use Rattle.isar_rules.specs.Errors.{Tried, malformed, not_allowed}
use Rattle.isar_rules.specs.Reports.{announced, error_report}
use Rattle.isar_rules.specs.Theories.{beginning_effect, axiom_made, lemma_made}
use Rattle.isar_rules.specs.Loads.{load_made}
use Rattle.isar_rules.specs.Proofs.{proof_made}
use Rattle.isar_rules.specs.Effects.{Effect, makes}

-- a command of this shape at a place: each is allowed at some places alone
abbrev pub acted : Option (List ℕ) → Place → Shape → Tried Effect
acted blob (place.Start node given keyword) (shape.Theory name imports) =
    beginning_effect node given keyword name imports
acted blob (place.Theory theory) shape.End = Ok (makes (place.End theory) [])
acted blob (place.Theory theory) (shape.Axiom name quoted) = axiom_made theory name quoted
acted blob (place.Theory theory) (shape.Lemma name quoted) = lemma_made theory name quoted
acted blob (place.Theory theory) (shape.Load name) = load_made blob theory name
acted blob (place.Proof theory name goal levels) s = proof_made theory name goal levels s
acted blob _ _ = Err not_allowed

-- the same, unless the command is malformed
abbrev pub tried : Option (List ℕ) → Place → Option Shape → Tried Effect
tried blob place None = Err malformed
tried blob place (Some s) = acted blob place s

-- the aliases in force at a place: none at the beginning of a node, where its header stands
abbrev pub aliases_at : Place → AliasList → AliasList
aliases_at (place.Start node given keyword) aliases = []
aliases_at _ aliases = aliases

-- an error leaves the place, but a first command that is refused begins no theory
abbrev pub after_error : Place → Place
after_error (place.Start node given keyword) = place.Outside
after_error place = place

-- what is made, of the source and its tokens
abbrev pub made_effect : List ℕ → List Token → State → Tried Effect → Made State
made_effect source tokens before (Ok effect) = record {
  state = record before { place = effect.place };
  reports = ordered_reports (announced source tokens ++ effect.reports);
  forks = effect.forks;
}
made_effect source tokens before (Err text) = record {
  state = record before { place = after_error before.place };
  reports = ordered_reports (announced source tokens ++ error_report source text ∷ []);
  forks = false;
}

-- what a command of these tokens makes
abbrev pub step_on : List ℕ → Option (List ℕ) → State → AliasList → List Token → Made State
step_on source blob before aliases tokens = made_effect source tokens before
    (tried blob before.place (shape_of aliases source tokens))

-- what a command makes of the state before it, with the text of the blob that it asks for
abbrev pub step : List ℕ → Option (List ℕ) → State → Made State
step source blob before = let aliases = aliases_at before.place before.aliases in
    step_on source blob before aliases (source_tokens aliases source)

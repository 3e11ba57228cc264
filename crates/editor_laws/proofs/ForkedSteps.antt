-- What a command makes: whether it forks, and the aliases behind it.
use Rattle.std.proofs.Common.{◌≡◌, inl, inr, ℕ, Bool, true, false, if◌then◌else◌, List, []}
use Rattle.std.proofs.Common.{◌∷◌, ◌++◌, Option, Some, Ok, Err, refl, sym, ap, ◌∙◌}
use Rattle.std.specs.Prelude.{◌&&◌}
use Rattle.outer_syntax.specs.Kinds.{is_command}
use Rattle.outer_syntax.specs.Tokens.{text_of}
use Rattle.outer_syntax.specs.declared.token.Token.{Token}
use Rattle.report_markup.specs.declared.kind.ReportKind.TheVariants as kind
use Rattle.report_markup.specs.Sorting.{ordered_reports}
use Rattle.doc_nodes.specs.Needs.{source_tokens}
use Rattle.mirror_rules.specs.Forking.{is_quiet, may_fork, forks_by}
use Rattle.isar_rules.specs.declared.state.Place.{Place}
use Rattle.isar_rules.specs.declared.state.Place.TheVariants as place
use Rattle.isar_rules.specs.declared.state.State.{State}
use Rattle.isar_rules.specs.Errors.{Tried}
use Rattle.isar_rules.specs.Effects.{Effect}
use Rattle.isar_rules.specs.Reports.{report, name_is, announced, error_report}
use Rattle.isar_rules.specs.Shapes.{shape_of}
use Rattle.isar_rules.specs.Kept.{IsDoneOrRefused}
use Rattle.isar_rules.specs.Steps.{tried, aliases_at, after_error, made_effect, step}
use Rattle.isar_rules.proofs.KnownTried.{IfTried}
use Rattle.editor_laws.proofs.QuietOrders.{quiet_order, quiet_is, loud_is}
use Rattle.editor_laws.proofs.SaidShapes.{shape_says}
use Rattle.editor_laws.proofs.ActedForks.{IsBehind, Leads, tried_leads}

and-false : (b : Bool) → (b && false) ≡ false
and-false true = refl
and-false false = refl

and-true : (b : Bool) → (b && true) ≡ b
and-true true = refl
and-true false = refl

-- an error is told
loud : (source : List ℕ) (tokens : List Token) (text : List ℕ)
    → is_quiet (announced source tokens ++ error_report source text ∷ []) ≡ false
loud source [] text = refl
loud source (t ∷ ts) text = go (is_command t.kind)
  where
    go : (b : Bool)
        → is_quiet
        ((if b then report kind.Command t.range (name_is (text_of source t) ∷ []) [] ∷ [] else [])
        ++ error_report source text ∷ []) ≡ false
    go true = refl
    go false = refl

made-forks : (source : List ℕ) (tokens : List Token) (before : State) (b : Bool) (t : Tried Effect)
    → IfTried (Leads b) t
    → IsDoneOrRefused before (made_effect source tokens before t)
    → (made_effect source tokens before t).forks
    ≡ (b && is_quiet (made_effect source tokens before t).reports)
made-forks source tokens before b (Ok e) leads (inl none) =
    leads.0 ∙ sym (and-true b)
    ∙ ap (λ q. b && q) (sym (quiet_is (ordered_reports (announced source tokens ++ e.reports))
    none))
made-forks source tokens before b (Ok e) leads (inr (text, one, left)) =
    left.forks ∙ sym (and-false b)
    ∙ ap (λ q. b && q)
    (sym (loud_is (ordered_reports (announced source tokens ++ e.reports)) text one))
made-forks source tokens before b (Err text) leads done =
    sym (and-false b)
    ∙ ap (λ q. b && q)
    (sym (quiet_order (announced source tokens ++ error_report source text ∷ [])
    ∙ loud source tokens text))

leads : (source : List ℕ) (blob : Option (List ℕ)) (before : State)
    → (let aliases = aliases_at before.place before.aliases in
    let tokens = source_tokens aliases source in
    IfTried (Leads (may_fork aliases source))
    (tried blob before.place (shape_of aliases source tokens)))
leads source blob before =
    let aliases = aliases_at before.place before.aliases in
    let tokens = source_tokens aliases source in
    tried_leads blob before.place (shape_of aliases source tokens) (may_fork aliases source)
    (shape_says aliases source tokens)

pub step_forks : (source : List ℕ) (blob : Option (List ℕ)) (before : State)
    → IsDoneOrRefused before (step source blob before)
    → (step source blob before).forks
    ≡ forks_by (may_fork (aliases_at before.place before.aliases) source)
    (Some (step source blob before).reports)
step_forks source blob before done =
    let aliases = aliases_at before.place before.aliases in
    let tokens = source_tokens aliases source in
    made-forks source tokens before (may_fork aliases source)
    (tried blob before.place (shape_of aliases source tokens)) (leads source blob before) done

-- a command that is refused leads behind the header too
error-behind : (p : Place) → IsBehind (after_error p)
error-behind (place.Start node given keyword) aliases = refl
error-behind place.Outside aliases = refl
error-behind (place.Theory theory) aliases = refl
error-behind (place.Proof theory name goal proof) aliases = refl
error-behind (place.End theory) aliases = refl

-- the same aliases, and in force
pub record LeadsBehind (before behind : State) : Type 0 where
  pub place : IsBehind behind.place
  pub aliases : behind.aliases ≡ before.aliases

made-behind : (source : List ℕ) (tokens : List Token) (before : State) (b : Bool) (t : Tried Effect)
    → IfTried (Leads b) t
    → LeadsBehind before (made_effect source tokens before t).state
made-behind source tokens before b (Ok e) leads = record { place = leads.1; aliases = refl }
made-behind source tokens before b (Err text) leads =
    record { place = error-behind before.place; aliases = refl }

pub step_behind : (source : List ℕ) (blob : Option (List ℕ)) (before : State)
    → LeadsBehind before (step source blob before).state
step_behind source blob before =
    let aliases = aliases_at before.place before.aliases in
    let tokens = source_tokens aliases source in
    made-behind source tokens before (may_fork aliases source)
    (tried blob before.place (shape_of aliases source tokens)) (leads source blob before)

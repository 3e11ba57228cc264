-- An accepted command forks just where it is `by`, and leads behind the node's header.
use Rattle.std.proofs.Common.{◌≡◌, ℕ, Bool, true, false, if◌then◌else◌, List, [], ◌∷◌, Option, Some}
use Rattle.std.proofs.Common.{None, Ok, Err, refl, subst}
use Rattle.std.specs.Bool.{⊤}
use Rattle.nj_formula.specs.declared.formula.Formula.{Formula}
use Rattle.theory_ctx.specs.Facts.{Fact}
use Rattle.doc_nodes.specs.Names.{equal}
use Rattle.doc_nodes.specs.Needs.{AliasList}
use Rattle.proof_state.specs.declared.levels.Levels.{Levels}
use Rattle.proof_state.specs.declared.levels.Levels.TheVariants.{Closed, Prove, State}
use Rattle.proof_state.specs.Steps.{Command, step, show, by}
use Rattle.report_markup.specs.declared.report.Report.{Report}
use Rattle.isar_rules.specs.declared.shape.Shape.{Shape}
use Rattle.isar_rules.specs.declared.shape.Shape.TheVariants as shape
use Rattle.isar_rules.specs.declared.shape.Spot.{Spot}
use Rattle.isar_rules.specs.declared.state.Given.{Given}
use Rattle.isar_rules.specs.declared.state.Theory.{Theory}
use Rattle.isar_rules.specs.declared.state.Place.{Place}
use Rattle.isar_rules.specs.declared.state.Place.TheVariants as place
use Rattle.isar_rules.specs.Errors.{and_then, formula_in, name_differs, name_taken}
use Rattle.isar_rules.specs.BlobLines.{listed_facts}
use Rattle.isar_rules.specs.Reports.{def_report, formula_report}
use Rattle.isar_rules.specs.Effects.{Effect, makes}
use Rattle.isar_rules.specs.Theories.{facts_or_bad_import, begins, beginning_effect, has_fact, stated_effect}
use Rattle.isar_rules.specs.Loads.{load_made, blob_or, with_all, facts_or_bad_line as listed_or}
use Rattle.isar_rules.specs.Proofs.{Ordered, with_formula, ordered_command, levels_or, effect_of, stands}
use Rattle.isar_rules.specs.Proofs.{proof_made}
use Rattle.isar_rules.specs.Steps.{acted, tried, aliases_at}
use Rattle.isar_rules.proofs.KnownTried.{IfTried, chained, always}
use Rattle.editor_laws.proofs.SaidShapes.{by_shape, IfSaid}

-- behind the header, where the node's aliases are in force
abbrev pub IsBehind : Place → Type 0
IsBehind place = (aliases : AliasList) → aliases_at place aliases ≡ aliases

-- what comes of a command, by whether it is `by`
abbrev pub Leads : Bool → Effect → Type 0
Leads b e = (e.forks ≡ b) × IsBehind e.place

begins-leads : (name : Spot) (imports : List Spot) (keyword : Option (List ℕ)) (facts : List Fact)
    → IfTried (Leads false) (begins name imports keyword facts)
begins-leads name imports (Some k) facts = tt
begins-leads name imports None facts = (refl, λ aliases. refl)

begun-leads : (node : List ℕ) (given : Given) (keyword : Option (List ℕ)) (name : Spot)
    (imports : List Spot)
    → IfTried (Leads false) (beginning_effect node given keyword name imports)
begun-leads node given keyword name imports = go (equal name.text node)
  where
    go : (b : Bool)
        → IfTried (Leads false)
        (if b then and_then (facts_or_bad_import given) (begins name imports keyword) else Err
        name_differs)
    go true = chained (λ _. ⊤) (Leads false) (facts_or_bad_import given)
        (begins name imports keyword)
        (always (facts_or_bad_import given)) (λ facts _. begins-leads name imports keyword facts)
    go false = tt

stated-leads : (next : Formula → Place) (theory : Theory) (name quoted : Spot)
    → ((f : Formula) → IsBehind (next f))
    → IfTried (Leads false) (stated_effect next theory name quoted)
stated-leads next theory name quoted behind =
    chained (λ _. ⊤) (Leads false) (formula_in quoted.text) _ (always (formula_in quoted.text))
    (λ f _. go f (has_fact name.text theory))
  where
    go : (f : Formula) (b : Bool) → IfTried (Leads false) (if b then Err (name_taken name.text)
        else Ok (makes (next f) (def_report theory.name name ∷ formula_report quoted f ∷ [])))
    go f true = tt
    go f false = (refl, behind f)

load-leads : (blob : Option (List ℕ)) (theory : Theory) (name : Spot)
    → IfTried (Leads false) (load_made blob theory name)
load-leads blob theory name =
    chained (λ _. ⊤) (Leads false) (blob_or name.text blob) _ (always _)
    (λ text _. chained (λ _. ⊤) (Leads false) (listed_or (listed_facts text)) _ (always _)
    (λ facts _. chained (λ _. ⊤) (Leads false) (with_all theory facts) _ (always _)
    (λ more _. (refl, λ aliases. refl))))

by_command : Command → Bool
by_command by = true
by_command _ = false

OrderSays : Bool → Ordered → Type 0
OrderSays b o = by_command o.0 ≡ b

formula-says : (command : Formula → Command) (name : Option Spot) (quoted : Spot)
    → ((f : Formula) → by_command (command f) ≡ false)
    → IfTried (OrderSays false) (with_formula command name quoted)
unfolding OrderSays
formula-says command name quoted other =
    chained (λ _. ⊤) (OrderSays false) (formula_in quoted.text) _ (always (formula_in quoted.text))
    (λ f _. other f)

ordered-says : (facts : List Fact) (s : Shape) (levels : Levels)
    → IfTried (OrderSays (by_shape s)) (ordered_command facts s levels)
unfolding OrderSays by_command
ordered-says facts (shape.Proof dash) (Prove goal around) = refl
ordered-says facts shape.By (Prove goal around) = refl
ordered-says facts (shape.Fix x) (State block around) = refl
ordered-says facts (shape.Assume name quoted) (State block around) =
    formula-says _ name quoted (λ f. refl)
ordered-says facts (shape.Have name quoted) (State block around) =
    formula-says _ name quoted (λ f. refl)
ordered-says facts (shape.Show quoted) (State block around) =
    formula-says show None quoted (λ f. refl)
ordered-says facts shape.Next (State block around) = refl
ordered-says facts shape.Qed (State block around) = refl
ordered-says facts _ _ = tt

stands-behind : (theory : Theory) (name : List ℕ) (goal : Formula) (levels : Levels)
    → IsBehind (stands theory name goal levels)
stands-behind theory name goal Closed aliases = refl
stands-behind theory name goal levels aliases = refl

effect-leads : (b : Bool) (c : Command) (after : Place) (reports : List Report) → by_command c ≡ b
    → IsBehind after → Leads b (effect_of c after reports)
unfolding by_command
effect-leads b by after reports is behind = (is, behind)
effect-leads b _ after reports is behind = (is, behind)

proof-leads : (theory : Theory) (name : List ℕ) (goal : Formula) (levels : Levels) (s : Shape)
    → IfTried (Leads (by_shape s)) (proof_made theory name goal levels s)
unfolding OrderSays
proof-leads theory name goal levels s =
    chained (OrderSays (by_shape s)) (Leads (by_shape s)) (ordered_command theory.facts s levels) _
    (ordered-says theory.facts s levels)
    (λ o is. chained (λ _. ⊤) (Leads (by_shape s)) (levels_or (step o.0 levels)) _
    (always (levels_or (step o.0 levels)))
    (λ after _. effect-leads (by_shape s) o.0 (stands theory name goal after) o.1 is
    (stands-behind theory name goal after)))

acted-leads : (blob : Option (List ℕ)) (p : Place) (s : Shape)
    → IfTried (Leads (by_shape s)) (acted blob p s)
acted-leads blob (place.Start node given keyword) (shape.Theory name imports) =
    begun-leads node given keyword name imports
acted-leads blob (place.Theory theory) shape.End = (refl, λ aliases. refl)
acted-leads blob (place.Theory theory) (shape.Axiom name quoted) =
    stated-leads _ theory name quoted (λ f aliases. refl)
acted-leads blob (place.Theory theory) (shape.Lemma name quoted) =
    stated-leads _ theory name quoted (λ f aliases. refl)
acted-leads blob (place.Theory theory) (shape.Load name) = load-leads blob theory name
acted-leads blob (place.Proof theory name goal levels) s = proof-leads theory name goal levels s
acted-leads blob _ _ = tt

pub tried_leads : (blob : Option (List ℕ)) (p : Place) (s : Option Shape) (b : Bool) → IfSaid b s
    → IfTried (Leads b) (tried blob p s)
tried_leads blob p None b is = tt
tried_leads blob p (Some s) b is =
    subst (λ c. IfTried (Leads c) (acted blob p s)) is (acted-leads blob p s)

-- Each command is done or refused, and its reports are tidy.
use Rattle.std.proofs.Common.{◌≡◌, ℕ, Bool, true, false, if◌then◌else◌, List, [], ◌∷◌, ◌++◌, length, map, Option, Some, None, Ok, Err, refl, ap, inl, inr, arith}
use Rattle.std.specs.List.{AllByRecursion}
use Rattle.std.specs.Ordering.{is_gt}
use Rattle.text_words.proofs.KnownLists.{each-both, each-so}
use Rattle.pide_base.specs.declared.range.Range.{Range}
use Rattle.outer_syntax.specs.Kinds.{is_command}
use Rattle.outer_syntax.specs.declared.token.Token.{Token}
use Rattle.report_markup.specs.declared.report.Report.{Report}
use Rattle.report_markup.specs.Order.{report_cmp}
use Rattle.report_markup.specs.Ranges.{AreTreelike, IsTreelike}
use Rattle.report_markup.specs.Sorting.{insert_if, ordered_reports}
use Rattle.language.specs.Laws.{LiesIn, reports_of}
use Rattle.doc_nodes.specs.Needs.{source_tokens}
use Rattle.isar_rules.specs.declared.shape.Shape.{Shape}
use Rattle.isar_rules.specs.declared.state.Place.{Place}
use Rattle.isar_rules.specs.declared.state.State.{State}
use Rattle.isar_rules.specs.Errors.{Tried}
use Rattle.isar_rules.specs.Reports.{announced, error_report}
use Rattle.isar_rules.specs.Effects.{Effect}
use Rattle.isar_rules.specs.Shapes.{shape_of}
use Rattle.isar_rules.specs.Isar.{isar}
use Rattle.isar_rules.specs.Steps.{tried, made_effect, aliases_at, step}
use Rattle.isar_rules.specs.Kept.{errors_in, IsDoneOrRefused}
use Rattle.isar_rules.specs.Shown.{suggested_at, suggestion}
use Rattle.proof_terms.specs.Cited.{IsPlaceOf}
use Rattle.proof_terms.specs.declared.term.Term.{Term}
use Rattle.proof_terms.proofs.KnownCiting.{all_in}
use Rattle.isar_rules.proofs.Tokens.{Rises, Within, range-within, ranges-treelike, source-rises}
use Rattle.isar_rules.proofs.Good.{IsGood, IsPlaced, good_announced, word_report}
use Rattle.isar_rules.proofs.KnownQuiet.{IsQuiet, sorted, no_errors}
use Rattle.isar_rules.proofs.Citing.{fork-placed}
use Rattle.isar_rules.proofs.Spots.{IfShape, shape-is}
use Rattle.isar_rules.proofs.Clean.{IsClean, InSource, acted-clean}
use Rattle.isar_rules.proofs.KnownTried.{IfTried}

-- reports lie in the source, and any two are equal in range, nested or disjoint
pub record AreTidyIn (source : List ℕ) (reports : List Report) : Type 0 where
  pub lie : AllByRecursion (LiesIn source) reports
  pub treelike : IsTreelike reports

tried-clean : (source : List ℕ) (tokens : List Token) (blob : Option (List ℕ)) (p : Place) (s : Option Shape)
    → IfShape (InSource source tokens) s → IfTried (IsClean source tokens) (tried blob p s)
tried-clean source tokens blob p None spots = tt
tried-clean source tokens blob p (Some s) spots = acted-clean source tokens blob p s spots

one-error : (source : List ℕ) (tokens : List Token) (text : List ℕ) → errors_in (ordered_reports (announced source tokens ++ error_report source text ∷ [])) ≡ text ∷ []
one-error source [] text = refl
one-error source (t ∷ ts) text = go (is_command t.kind)
  where
    by_order : (b : Bool) → errors_in (insert_if b (word_report source t) (error_report source text) [] (word_report source t ∷ [])) ≡ text ∷ []
    by_order true = refl
    by_order false = refl

    go : (b : Bool) → errors_in (ordered_reports ((if b then word_report source t ∷ [] else []) ++ error_report source text ∷ [])) ≡ text ∷ []
    go true = by_order (is_gt (report_cmp (word_report source t) (error_report source text)))
    go false = refl

made-kept : (source : List ℕ) (tokens : List Token) (before : State) (t : Tried Effect) → IfTried (IsClean source tokens) t → IsDoneOrRefused before (made_effect source tokens before t)
made-kept source tokens before (Ok e) clean =
    inl (no_errors _ (each-so (IsGood source tokens) IsQuiet (λ r g. g.quiet) _
    (sorted (IsGood source tokens) _ (each-both (IsGood source tokens) _ _ (good_announced source tokens) clean))))
made-kept source tokens before (Err text) clean = inr (text, one-error source tokens text, record { state = refl; forks = refl })

module _ (source : List ℕ) (tokens : List Token) where
  abbrev Placed : Report → Type 0
  Placed r = IsPlaced source tokens r.range

  if-forks : (forks : Bool) (rs : List Report) → AllByRecursion Placed rs → AllByRecursion Placed (if forks then rs else [])
  if-forks true rs all = all
  if-forks false rs all = tt

  suggestion-placed : (t : Option Term) → AllByRecursion Placed (suggestion source t)
  suggestion-placed None = tt
  suggestion-placed (Some t) = (inl refl, tt)

  made-placed : (before : State) (t : Tried Effect) → IfTried (IsClean source tokens) t → AllByRecursion Placed (made_effect source tokens before t).reports
  made-placed before (Ok e) clean =
      sorted Placed _ (each-both Placed _ _ (each-so (IsGood source tokens) Placed (λ r g. g.placed) _ (good_announced source tokens))
      (each-so (IsGood source tokens) Placed (λ r g. g.placed) _ clean))
  made-placed before (Err text) clean =
      sorted Placed _ (each-both Placed _ _ (each-so (IsGood source tokens) Placed (λ r g. g.placed) _ (good_announced source tokens)) (inl refl, tt))

  module _ (rises : Rises 0 (length source) tokens) where
    within : (r : Range) → IsPlaced source tokens r → Within 0 (length source) r
    within r (inl e) =
        let starts : r.start ≡ 0 = ap (λ x. x.start) e in
        let stops : r.stop ≡ length source = ap (λ x. x.stop) e in
        record { starts = omega arith; rises = omega (arith, starts); stops = omega (arith, stops) }
    within r (inr here) = range-within 0 (length source) tokens r rises here

    lies : (r : Report) → Placed r → LiesIn source r
    lies r placed = let w = within r.range placed in (w.rises, (w.starts, w.stops))

    treelike : (r s : Range) → IsPlaced source tokens r → IsPlaced source tokens s → AreTreelike r s
    treelike r s (inl e) there =
        let starts : r.start ≡ 0 = ap (λ x. x.start) e in
        let stops : r.stop ≡ length source = ap (λ x. x.stop) e in
        inr (inr (inr (omega (arith, starts), omega (arith, stops, (within s there).stops))))
    treelike r s (inr here) (inl e) =
        let starts : s.start ≡ 0 = ap (λ x. x.start) e in
        let stops : s.stop ≡ length source = ap (λ x. x.stop) e in
        inr (inr (inl (omega (arith, starts), omega (arith, stops, (within r (inr here)).stops))))
    treelike r s (inr here) (inr there) = ranges-treelike 0 (length source) tokens r s rises here there

    pub tidy : (rs : List Report) → AllByRecursion Placed rs → AreTidyIn source rs
    tidy rs all = record {
      lie = each-so Placed (LiesIn source) lies rs all;
      treelike = each-so Placed _ (λ r here. each-so Placed _ (λ s there. treelike r.range s.range here there) rs all) rs all;
    }

shape-clean : (source : List ℕ) (blob : Option (List ℕ)) (before : State)
    → (let aliases = aliases_at before.place before.aliases in
    let tokens = source_tokens aliases source in
    IfTried (IsClean source tokens) (tried blob before.place (shape_of aliases source tokens)))
shape-clean source blob before =
    let aliases = aliases_at before.place before.aliases in
    let tokens = source_tokens aliases source in
    tried-clean source tokens blob before.place (shape_of aliases source tokens) (shape-is (IsPlaceOf tokens) aliases source tokens (all_in tokens))

pub step-kept : (source : List ℕ) (blob : Option (List ℕ)) (before : State) → IsDoneOrRefused before (step source blob before)
step-kept source blob before = made-kept source _ before _ (shape-clean source blob before)

-- what is reported of a command, of its fork and of its print
pub all-placed : (source : List ℕ) (blob : Option (List ℕ)) (before : State)
    → AllByRecursion (Placed source (source_tokens (aliases_at before.place before.aliases) source)) (reports_of isar source blob before)
all-placed source blob before =
    let tokens = source_tokens (aliases_at before.place before.aliases) source in
    let behind = (step source blob before).state in
    each-both (Placed source tokens) _ _
    (each-both (Placed source tokens) _ _ (made-placed source tokens before _ (shape-clean source blob before))
    (if-forks source tokens (step source blob before).forks _ (fork-placed source tokens before.place)))
    (inl refl, suggestion-placed source tokens (suggested_at (map (λ pair. pair.0) behind.aliases) behind.place))

pub all-tidy : (source : List ℕ) (blob : Option (List ℕ)) (before : State) → AreTidyIn source (reports_of isar source blob before)
all-tidy source blob before =
    let aliases = aliases_at before.place before.aliases in
    tidy source (source_tokens aliases source) (source-rises aliases source) _ (all-placed source blob before)

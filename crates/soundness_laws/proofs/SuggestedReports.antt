-- The report of a suggestion tells the text of the proof that is suggested.
use Rattle.std.proofs.Common.{◌≡◌, ℕ, Bool, true, false, List, [], ◌∷◌, ◌++◌, drop, Option, Some, None, sym, refl, ap, arith, length, length-append}
use Rattle.std.proofs.lemmas.Bool.{both_ways}
use Rattle.proof_terms.specs.declared.term.Term.{Term}
use Rattle.suggest_rules.specs.TermText.{by_text}
use Rattle.report_markup.specs.declared.kind.ReportKind.{ReportKind}
use Rattle.report_markup.specs.declared.kind.ReportKind.TheVariants as kind
use Rattle.report_markup.specs.declared.report.Report.{Report}
use Rattle.isar_rules.specs.Reports.{report, whole}
use Rattle.isar_rules.specs.Shown.{suggestion}
use Rattle.soundness_laws.specs.Suggesting.{IsAmong}

-- the term that is suggested, of which this is the text
pub record IsOf (o : Option Term) (text : List ℕ) : Type 0 where
  pub term : Term
  pub is : o ≡ Some term
  pub text_is : text ≡ by_text term

-- the text of the first report, and whether it is that of a state
first_text : List Report → List ℕ
first_text [] = []
first_text (r ∷ rs) = r.text

is_state : ReportKind → Bool
is_state kind.State = true
is_state _ = false

first_state : List Report → Bool
first_state [] = false
first_state (r ∷ rs) = is_state r.kind

in_suggestion : (source text : List ℕ) (o : Option Term) (before after : List Report) → suggestion source o ≡ before ++ report kind.Suggest (whole source) [] text ∷ after → IsOf o text
unfolding first_text
in_suggestion source text None [] after e = absurd (cc (e))
in_suggestion source text None (r ∷ before) after e = absurd (cc (e))
in_suggestion source text (Some t) [] after e = record { term = t; is = refl; text_is = sym (ap first_text e) }
in_suggestion source text (Some t) (r ∷ before) after e =
    absurd (omega (arith, ap length e, length-append before (report kind.Suggest (whole source) [] text ∷ after)))

pub suggested_text : (source text first : List ℕ) (o : Option Term)
    → IsAmong (report kind.Suggest (whole source) [] text) (report kind.State (whole source) [] first ∷ suggestion source o) → IsOf o text
unfolding is_state first_state
suggested_text source text first o ([], after, e) = absurd (both_ways true (ap first_state e) refl)
suggested_text source text first o (r ∷ before, after, e) = in_suggestion source text o before after (ap (drop 1) e)

-- Reports that stand on tokens or on the whole source, and are no errors.
use Rattle.std.proofs.Common.{◌≡◌, ◌⊎◌, ℕ, Bool, true, false, if◌then◌else◌, List, [], ◌∷◌, refl, inl, inr}
use Rattle.std.specs.List.{AllByRecursion}
use Rattle.pide_base.specs.declared.range.Range.{Range}
use Rattle.outer_syntax.specs.declared.token.Token.{Token}
use Rattle.outer_syntax.specs.Kinds.{is_command}
use Rattle.report_markup.specs.declared.report.Report.{Report}
use Rattle.outer_syntax.specs.Tokens.{text_of}
use Rattle.report_markup.specs.declared.kind.ReportKind.TheVariants as kind
use Rattle.isar_rules.specs.Reports.{report, name_is, whole, announced}
use Rattle.proof_terms.specs.Cited.{IsPlaceOf}
use Rattle.isar_rules.proofs.KnownQuiet.{IsQuiet}

module _ (source : List ℕ) (tokens : List Token) where
  -- a token's range, or the whole source
  abbrev pub IsPlaced : Range → Type 0
  IsPlaced r = (r ≡ whole source) ⊎ IsPlaceOf tokens r

  pub record IsGood (r : Report) : Type 0 where
    pub placed : IsPlaced r.range
    pub quiet : IsQuiet r

  -- a report of a token
  pub good_token : (r : Report) → IsPlaceOf tokens r.range → IsQuiet r → IsGood r
  good_token r here quiet = record { placed = inr here; quiet = quiet }

-- the report of a command's word
abbrev pub word_report : List ℕ → Token → Report
word_report source t = report kind.Command t.range (name_is (text_of source t) ∷ []) []

pub good_announced : (source : List ℕ) (tokens : List Token) → AllByRecursion (IsGood source tokens) (announced source tokens)
good_announced source [] = tt
good_announced source (t ∷ ts) = go (is_command t.kind)
  where
    go : (b : Bool) → AllByRecursion (IsGood source (t ∷ ts)) (if b then word_report source t ∷ [] else [])
    go true = (record { placed = inr (inl refl); quiet = refl }, tt)
    go false = tt

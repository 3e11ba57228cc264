-- The first fault of tokens that are no proof term has a plain text.
use Rattle.std.proofs.Common.{ℕ, List, [], ◌∷◌, Option, IfSome, Result, Ok, Err, refl, subst}
use Rattle.std.specs.List.{AllByRecursion}
use Rattle.outer_syntax.specs.Tokens.{text_of}
use Rattle.outer_syntax.specs.declared.token.Token.{Token}
use Rattle.proof_terms.specs.declared.fault.TermFault.{TermFault}
use Rattle.proof_terms.specs.declared.term.Term.{Term}
use Rattle.proof_terms.specs.Answers.{Answers}
use Rattle.proof_terms.specs.Faults.{Awaited, in_slot, Judged, judge, goes_on, first_fault}
use Rattle.proof_terms.specs.Marks.{mark_of, marks}
use Rattle.proof_terms.specs.Reading.{deepest, proof_of}
use Rattle.proof_terms.specs.Slots.{proof}
use Rattle.editor_laws.proofs.PlainTexts.{spelled}
use Rattle.editor_laws.proofs.TokenNames.{TokenPlain}
use Rattle.editor_laws.proofs.TermNames.{TermPlain}
use Rattle.editor_laws.proofs.ReadNames.{marks_plain, term_plain}
use Rattle.editor_laws.proofs.JudgedMarks.{FaultPlain, IfJudged, mark_judged}

gone_on : (j : Judged) (later : List Awaited → Option TermFault) → IfJudged j
    → ((next : List Awaited) → IfSome (later next) FaultPlain) → IfSome (goes_on j later) FaultPlain
gone_on (Ok awaited) later is each = each awaited
gone_on (Err fault) later is each = is

first_plain : (source : List ℕ) (ts : List Token) (awaited : List Awaited)
    → IfSome (first_fault awaited (marks source ts)) FaultPlain
first_plain source [] [] = tt
first_plain source (t ∷ ts) [] = spelled refl
first_plain source [] (a ∷ awaited) = spelled refl
first_plain source (t ∷ ts) (a ∷ awaited) =
    gone_on (judge a (mark_of source t) awaited) (λ next. first_fault next (marks source ts))
    (mark_judged awaited a t.kind (text_of source t) t.range)
    (λ next. first_plain source ts next)

-- what is known of terms: tokens are the one that the function gives, or have its fault
abbrev pub TermLaw : Type 0
TermLaw = (ms : _) → Answers ms (proof_of ms)

abbrev pub IfProof : Result Term TermFault → Type 0
IfProof (Ok t) = TermPlain t
IfProof (Err fault) = FaultPlain fault

pub proof_plain : TermLaw → (source : List ℕ) (ts : List Token)
    → AllByRecursion (TokenPlain source) ts → IfProof (proof_of (marks source ts))
proof_plain law source ts all = go (proof_of (marks source ts)) (law (marks source ts))
  where
    go : (r : Result Term TermFault) → Answers (marks source ts) r → IfProof r
    go (Ok t) is = term_plain is (marks_plain source ts all)
    go (Err fault) is =
        subst (λ o. IfSome o FaultPlain) is (first_plain source ts (in_slot deepest proof ∷ []))

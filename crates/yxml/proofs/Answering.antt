-- A text without fault spells the body that its marks make.
use Rattle.std.proofs.Common.{◌≡◌, ℕ, ◌+◌, ◌-◌, List, [], ◌∷◌, ◌++◌, length, Bool, true, false, ◌↔◌, Option, Some, None, Ok, Err, refl, sym, subst, ap, ◌∙◌}
use Rattle.std.specs.Bool.{if◌then◌else◌, ◌==◌}
use Rattle.std.specs.List.{slice_split}
use Rattle.std.proofs.lemmas.Bool.{eqb-true}
use Rattle.yxml.specs.declared.tree.Tree.{Tree}
use Rattle.yxml.specs.Bodies.{body_of}
use Rattle.yxml.specs.Marks.{Mark, opening, closing, words, open_after}
use Rattle.yxml.proofs.KnownBuilding.{balanced-marks}
use Rattle.yxml.proofs.KnownNesting.{within-closes}
use Rattle.yxml.specs.declared.fault.YxmlFault.{YxmlFault}
use Rattle.yxml.specs.declared.fault.YxmlFault.TheVariants.{Unbalanced}
use Rattle.yxml.specs.Answer.{answer_by, body_in}
use Rattle.yxml.specs.Reading.{said, is_x, is_y, nesting_fault, marks_said, marks_from, marks_in, first_fault, fault_in}
use Rattle.yxml.specs.Spelling.{merged_texts, Spells}
use Rattle.yxml.proofs.Depths.{chunks-within, or_later-None}
use Rattle.yxml.proofs.Joining.{merged-within}
use Rattle.yxml.proofs.Spelled.{one_body}
use Rattle.yxml.proofs.KnownMerged.{merged_open}

open_after-append : (d : ℕ) (xs ys : List Mark) → open_after d (xs ++ ys) ≡ open_after (open_after d xs) ys
open_after-append d [] ys = refl
open_after-append d (opening name attributes ∷ xs) ys = open_after-append (d + 1) xs ys
open_after-append d (closing ∷ xs) ys = open_after-append (d - 1) xs ys
open_after-append d (words text ∷ xs) ys = open_after-append d xs ys

none-open : (d end : ℕ) (b : Bool) → (d == 0) ≡ b
    → (let o : Option YxmlFault = if b then None else Some (Unbalanced end) in o ≡ None) → d ≡ 0
none-open d end true e h = eqb-true d 0 e
none-open d end false e h = absurd (cc)

-- chunks without fault leave nothing open
chunks-balanced : (d at : ℕ) (chunks : List (List ℕ)) (end : ℕ) → first_fault d at chunks end ≡ None
    → open_after d (marks_from at chunks) ≡ 0
chunks-balanced d at [] end e = none-open d end (d == 0) refl e
chunks-balanced d at (chunk ∷ chunks) end e =
    let here : List Mark = marks_said (said at (slice_split is_y chunk)) in
    let both = or_later-None (nesting_fault d at (said at (slice_split is_y chunk))) _ e in
    open_after-append d here (marks_from (at + length chunk + 1) chunks)
    ∙ chunks-balanced (open_after d here) (at + length chunk + 1) chunks end both.1

-- where no fault is, there is a body
pub spelled : (text : List ℕ) → fault_in text ≡ None
    → Spells text (body_of (merged_texts (marks_in text)))
spelled text e =
    let within = merged-within 0 (marks_in text) (chunks-within 0 0 (slice_split is_x text) (length text) e) in
    let closes = within-closes 0 (merged_texts (marks_in text)) within in
    let none = merged_open 0 (marks_in text) ∙ chunks-balanced 0 0 (slice_split is_x text) (length text) e in
    record {
      faultless = e;
      same = sym (balanced-marks (merged_texts (marks_in text)) (
        closes,
        none,
      ));
    }

ok_same : (ms : List Mark) (body : List Tree) → answer_by None ms ≡ Ok body → body_of ms ≡ body
ok_same ms body e = cc

body-by : (text : List ℕ) (body : List Tree) (o : Option YxmlFault) → fault_in text ≡ o
    → (answer_by o (merged_texts (marks_in text)) ≡ Ok body) ↔ (Spells text body)
body-by text body None e =
    (λ is. subst (Spells text) (ok_same (merged_texts (marks_in text)) body is) (spelled text e), λ s. ap Ok (one_body text _ body (spelled text e) s))
body-by text body (Some f) e = (λ is. absurd (cc), λ s. absurd (let no : None ≡ Some f = sym s.faultless ∙ e in cc))

-- the function gives just the body that is spelled
pub answer-body : (text : List ℕ) (body : List Tree) → (body_in text ≡ Ok body) ↔ (Spells text body)
answer-body text body = body-by text body (fault_in text) refl

fault-by : (o : Option YxmlFault) (ms : List Mark) (f : YxmlFault) → (answer_by o ms ≡ Err f) ↔ (o ≡ Some f)
fault-by None ms f = (λ is. absurd (cc), λ is. absurd (cc))
fault-by (Some g) ms f = (λ is. cc, λ is. cc)

-- or just the first fault
pub answer-fault : (text : List ℕ) (f : YxmlFault) → (body_in text ≡ Err f) ↔ (fault_in text ≡ Some f)
answer-fault text f = fault-by (fault_in text) (merged_texts (marks_in text)) f

-- A text without fault has one body, which stands at its beginning.
use Rattle.std.proofs.Common.{◌≡◌, ℕ, ◌+◌, ◌≤◌, List, [], ◌++◌, None, Ok, append-nil, sym, subst, ap, ◌∙◌, arith}
use Rattle.yxml.specs.declared.tree.Tree.{Tree}
use Rattle.yxml.specs.Bodies.{body_of, ClosesOpen}
use Rattle.yxml.specs.Marks.{marks, open_after}
use Rattle.yxml.specs.Normal.{IsNormal, height, most_nested}
use Rattle.yxml.proofs.KnownNesting.{Nests-trees, within-closes}
use Rattle.yxml.specs.Answer.{answer_by, body_in}
use Rattle.yxml.specs.Reading.{marks_in, fault_in}
use Rattle.yxml.specs.Spelling.{merged_texts, Spells}
use Rattle.yxml.proofs.KnownMerged.{merged_open}
use Rattle.message_values.specs.Inside.{inside, body_at, IsClosed}
use Rattle.message_values.proofs.Inside.{all-inside}
use Rattle.message_values.proofs.Merged.{closes-unmerged}

-- the end tags of a normal body close what is open in it, and all of that
body-closes : (body : List Tree) → IsNormal body → ClosesOpen 0 (marks body) × (open_after 0 (marks body) ≡ 0)
body-closes body n =
    let nests = Nests-trees body in
    let room : 0 + height body ≤ most_nested = omega (arith, n.nested) in
    let same = append-nil (marks body) in (
      subst (ClosesOpen 0) same (within-closes 0 (marks body ++ []) (nests.within 0 [] room tt)),
      ap (open_after 0) (sym same) ∙ nests.balanced 0 [],
    )

module _ (text : List ℕ) (body : List Tree) (spells : Spells text body) (normal : IsNormal body) where
  text-closes : ClosesOpen 0 (marks_in text)
  text-closes = closes-unmerged 0 (marks_in text) (subst (ClosesOpen 0) (sym spells.same) (body-closes body normal).0)

  all_of_it : inside 0 (marks_in text) ≡ marks_in text
  all_of_it = all-inside 0 (marks_in text) text-closes

  pub whole_closed : IsClosed text
  whole_closed = ap (open_after 0) all_of_it ∙ sym (merged_open 0 (marks_in text)) ∙ ap (open_after 0) spells.same ∙ (body-closes body normal).1

  pub whole_body : fault_in text ≡ None → Ok (body_at text) ≡ body_in text
  whole_body none = ap (λ ms. Ok (body_of (merged_texts ms))) all_of_it ∙ sym (ap (λ fault. answer_by fault (merged_texts (marks_in text))) none)

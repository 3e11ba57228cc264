-- How far a text has been read, and what its chunks that are left still say.
use Rattle.std.proofs.Common.{◌≡◌, ◌≢◌, ℕ, ◌+◌, List, [], ◌∷◌, ◌++◌, length, Some, None, sym, ap, ◌∙◌}
use Rattle.std.specs.List.{slice_split}
use Rattle.std.specs.Bool.{if◌then◌else◌}
use Rattle.std.proofs.lemmas.Bool.{ne_eqb}
use Rattle.std.proofs.lemmas.List.{append-nil}
use Rattle.yxml.specs.declared.tree.Tree.{Tree}
use Rattle.yxml.specs.Marks.{marks, open_after}
use Rattle.yxml.specs.declared.builder.Builder.{Builder}
use Rattle.yxml.specs.declared.fault.YxmlFault.{YxmlFault}
use Rattle.yxml.specs.declared.fault.YxmlFault.TheVariants.{Unbalanced}
use Rattle.yxml.specs.Builder.{base, flat, IsSettled, HasRead}
use Rattle.yxml.specs.Reading.{said, is_x, is_y, nesting_fault, or_later, marks_said, first_fault, fault_in, marks_in, marks_from}
use Rattle.yxml.specs.Spelling.{merged_texts, Spells}
use Rattle.yxml.proofs.Settled.{merged-last}

pub record Progress (text : List ℕ) (b : Builder) (at : ℕ) (chunks : List (List ℕ)) : Type 0 where
  pub fault : fault_in text ≡ first_fault (length b.stack) at chunks (length text)
  pub marks : merged_texts (marks_in text) ≡ merged_texts (flat b ++ marks_from at chunks)
  pub settled : IsSettled (base b)

-- nothing is read yet
pub started : (text : List ℕ) (b : Builder) → flat b ≡ [] → IsSettled (base b) → length b.stack ≡ 0 → Progress text b 0 (slice_split is_x text)
started text b none settled depth = record {
  fault = ap (λ d. first_fault d 0 (slice_split is_x text) (length text)) (sym depth);
  marks = ap (λ ms. merged_texts (ms ++ marks_in text)) (sym none);
  settled = settled;
}

-- the chunk says its marks
pub taken : (text : List ℕ) (b c : Builder) (at : ℕ) (chunk : List ℕ) (chunks : List (List ℕ)) → Progress text b at (chunk ∷ chunks)
    → nesting_fault (length b.stack) at (said at (slice_split is_y chunk)) ≡ None → HasRead b c (marks_said (said at (slice_split is_y chunk)))
    → Progress text c (at + length chunk + 1) chunks
taken text b c at chunk chunks p fine takes = record {
  fault = p.fault ∙ ap (λ f. or_later f (first_fault (open_after (length b.stack) (marks_said (said at (slice_split is_y chunk)))) (at + length chunk + 1) chunks (length text))) fine ∙ ap (λ d. first_fault d (at + length chunk + 1) chunks (length text)) (sym takes.depth);
  marks = p.marks ∙ sym (takes.reads (marks_from (at + length chunk + 1) chunks));
  settled = takes.settled p.settled;
}

-- the chunk is at fault
pub faulted : (text : List ℕ) (b : Builder) (at : ℕ) (chunk : List ℕ) (chunks : List (List ℕ)) (f : YxmlFault) → Progress text b at (chunk ∷ chunks)
    → nesting_fault (length b.stack) at (said at (slice_split is_y chunk)) ≡ Some f → fault_in text ≡ Some f
faulted text b at chunk chunks f p e = p.fault
    ∙ ap (λ o. or_later o (first_fault (open_after (length b.stack) (marks_said (said at (slice_split is_y chunk)))) (at + length chunk + 1) chunks (length text))) e

-- an element is left open at the end
pub left_open : (text : List ℕ) (b : Builder) (at : ℕ) → Progress text b at [] → length b.stack ≢ 0 → fault_in text ≡ Some (Unbalanced (length text))
left_open text b at p some = p.fault ∙ ap (λ t. if t then None else Some (Unbalanced (length text))) (ne_eqb (length b.stack) 0 some)

-- everything is read
pub finished : (text : List ℕ) (b : Builder) (at : ℕ) (body : List Tree) → Progress text b at [] → length b.stack ≡ 0 → marks body ≡ flat b → Spells text body
finished text b at body p none same = record {
  faultless = p.fault ∙ ap (λ d. first_fault d at [] (length text)) none;
  same = p.marks ∙ ap merged_texts (append-nil (flat b)) ∙ merged-last (base b) b.text p.settled ∙
      sym same;
}

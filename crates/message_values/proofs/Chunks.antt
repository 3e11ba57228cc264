-- What the first chunk of a text says, and what the rest of it says.
use Rattle.std.proofs.Common.{◌≡◌, ◌≢◌, ℕ, ◌+◌, ◌<◌, List, [], ◌∷◌, ◌++◌, length, Option, Some, None, Err, refl, sym, ◌∙◌, ap, arith, MatchOption, eq-eqb}
use Rattle.std.specs.Borrow.{Bor}
use Rattle.std.specs.List.{slice_split}
use Rattle.std.proofs.Math.Dec.{eqb}
use Rattle.std.proofs.Math.ListN.{length-append}
use Rattle.std.proofs.lemmas.List.Splits.{slice_split_none, slice_split_at}
use Rattle.std.proofs.lemmas.Str.Pattern.{IsSplitOnceResult, split_parts}
use Rattle.yxml.specs.declared.tree.Attribute.{Attribute}
use Rattle.yxml.specs.declared.fault.YxmlFault.TheVariants.{BadTag, BadText}
use Rattle.yxml.specs.Cut.{IsCut}
use Rattle.yxml.specs.Reading.{is_x, is_y, said, tag_said, start_said, attributes_of, marks_said, marks_from, first_fault}
use Rattle.yxml.proofs.KnownPieces.{lacks_byte, pieces_some}
use Rattle.message_values.specs.Chunks.{IsFirstChunk}

-- a text is cut at an ASCII character
pub cut_there : (c : ℕ) (bs : List ℕ) (r : Option (Bor (List ℕ) × Bor (List ℕ))) → IsSplitOnceResult c bs r → c < 128
    → MatchOption r (slice_split (λ b. eqb b c) bs ≡ bs ∷ []) (λ x. IsCut (λ b. eqb b c) bs x.0.now x.1.now)
cut_there c bs None h small = slice_split_none (λ b. eqb b c) bs (lacks_byte c bs (split_parts c bs None h small))
cut_there c bs (Some x) h small =
    let parts = split_parts c bs (Some x) h small in
    record {
      pieces = ap (slice_split (λ b. eqb b c)) parts.0 ∙ slice_split_at (λ b. eqb b c) x.0.now c x.1.now (lacks_byte c _ parts.1) (eq-eqb c c refl);
      sizes = omega (arith, length-append x.0.now (c ∷ x.1.now), ap length parts.0);
    }

start-at : (a b : ℕ) (name : List ℕ) (attributes : Option (List Attribute)) → marks_said (start_said a name attributes) ≡ marks_said (start_said b name attributes)
start-at a b name (Some attributes) = refl
start-at a b name None = refl

tag-at : (a b : ℕ) (pieces : List (List ℕ)) → marks_said (tag_said a pieces) ≡ marks_said (tag_said b pieces)
tag-at a b [] = refl
tag-at a b ([] ∷ []) = refl
tag-at a b ([] ∷ piece ∷ pieces) = refl
tag-at a b ((x ∷ xs) ∷ pieces) = start-at a b (x ∷ xs) (attributes_of pieces)

said-at : (a b : ℕ) (pieces : List (List ℕ)) → marks_said (said a pieces) ≡ marks_said (said b pieces)
said-at a b [] = refl
said-at a b ([] ∷ []) = refl
said-at a b ((x ∷ xs) ∷ []) = refl
said-at a b ([] ∷ piece ∷ pieces) = tag-at a b (piece ∷ pieces)
said-at a b ((x ∷ xs) ∷ piece ∷ pieces) = refl

-- where chunks stand makes no difference to their marks
marks-at : (a b : ℕ) (chunks : List (List ℕ)) → marks_from a chunks ≡ marks_from b chunks
marks-at a b [] = refl
marks-at a b (chunk ∷ chunks) =
    ap (λ ms. ms ++ marks_from (a + length chunk + 1) chunks) (said-at a b (slice_split is_y chunk))
    ∙ ap (λ ms. marks_said (said b (slice_split is_y chunk)) ++ ms) (marks-at (a + length chunk + 1) (b + length chunk + 1) chunks)

pub first_of_more : (text chunk rest : List ℕ) → IsCut is_x text chunk rest → IsFirstChunk text chunk rest
first_of_more text chunk rest cut = record {
  marks = ap (marks_from 0) cut.pieces
      ∙ ap (λ ms. marks_said (said 0 (slice_split is_y chunk)) ++ ms) (marks-at (0 + length chunk + 1) 0 (slice_split is_x rest));
  fault = λ depth at end. ap (λ chunks. first_fault depth at chunks end) cut.pieces;
  smaller = λ some. omega (arith, cut.sizes);
  within = omega (arith, cut.sizes);
  parted = λ some. omega (arith, cut.sizes);
}

pub only_one : (text : List ℕ) → slice_split is_x text ≡ text ∷ [] → IsFirstChunk text text []
only_one text one = record {
  marks = ap (marks_from 0) one;
  fault = λ depth at end. ap (λ chunks. first_fault depth at chunks end) one;
  smaller = λ some. some;
  within = omega arith;
  parted = λ some. absurd (omega (arith, some));
}

tag_nameless : (at : ℕ) (pieces : List (List ℕ)) → pieces ≢ [] → Err (BadTag at) ≡ tag_said at ([] ∷ pieces)
tag_nameless at [] some = absurd (some refl)
tag_nameless at (piece ∷ pieces) some = refl

-- a tag with attributes and no name
pub nameless : (at : ℕ) (text before after : List ℕ) → IsCut is_y text before after → before ≡ [] → Err (BadTag at) ≡ tag_said at (slice_split is_y text)
nameless at text before after cut none = tag_nameless at (slice_split is_y after) (pieces_some is_y after)
    ∙ sym (ap (tag_said at) (cut.pieces ∙ ap (λ name. name ∷ slice_split is_y after) none))

text_parted : (at : ℕ) (before : List ℕ) (pieces : List (List ℕ)) → before ≢ [] → pieces ≢ [] → Err (BadText at) ≡ said at (before ∷ pieces)
text_parted at [] pieces text some = absurd (text refl)
text_parted at (b ∷ bs) [] text some = absurd (some refl)
text_parted at (b ∷ bs) (piece ∷ pieces) text some = refl

-- a text with Y in it
pub parted_text : (at : ℕ) (chunk before after : List ℕ) → IsCut is_y chunk before after → before ≢ [] → Err (BadText at) ≡ said at (slice_split is_y chunk)
parted_text at chunk before after cut some = text_parted at before (slice_split is_y after) some (pieces_some is_y after) ∙ sym (ap (said at) cut.pieces)

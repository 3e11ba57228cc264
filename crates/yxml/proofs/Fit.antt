-- The marks that chunks say are fit.
use Rattle.std.proofs.Common.{◌≡◌, ℕ, ◌<◌, ◌+◌, List, [], ◌∷◌, length, Bool, true, false, ◌&&◌, Option, Some, None, refl, subst, ap, arith, nat_lt}
use Rattle.std.specs.Bool.{if◌then◌else◌}
use Rattle.std.specs.List.{AllByRecursion, slice_split, position_or_len, before_first, after_first}
use Rattle.std.proofs.Math.ListN.{length-take}
use Rattle.std.proofs.lemmas.List.Splits.{slice_split_first}
use Rattle.std.proofs.lemmas.List.Sums.{split_at_first}
use Rattle.std.proofs.lemmas.Bool.{ltb-true}
use Rattle.yxml.specs.declared.tree.Attribute.{Attribute}
use Rattle.yxml.specs.Normal.{Lacks, IsPlain, IsFilled, IsAttribute, IsFit}
use Rattle.yxml.specs.Reading.{said, tag_said, start_said, attribute_of, attributes_of, with_attribute, marks_said, marks_from, marks_in, is_x, is_y, is_equals}
use Rattle.text_words.proofs.KnownLists.{each-both, each-part, each-so}
use Rattle.yxml.proofs.Pieces.{IsPiece, each-piece, all-true}

abbrev IfAttribute : Option Attribute → Type 0
IfAttribute (Some a) = IsAttribute a
IfAttribute None = Unit {0}

abbrev IfAttributes : Option (List Attribute) → Type 0
IfAttributes (Some list) = AllByRecursion IsAttribute list
IfAttributes None = Unit {0}

-- a plain piece with its first '=' after something
attribute-parts : (piece : List ℕ) → IsPlain piece → 0 < position_or_len is_equals piece → position_or_len is_equals piece < length piece
    → IsAttribute (record { key = before_first is_equals piece; value = after_first is_equals piece })
attribute-parts piece plain some small =
    let n = position_or_len is_equals piece in
    let parts = split_at_first is_equals piece 0 small in
    let five = each-part _ _ _ (subst (Lacks 5) parts plain.0) in
    let six = each-part _ _ _ (subst (Lacks 6) parts plain.1) in
    let first = subst (AllByRecursion (IsPiece is_equals (λ _. Unit {0}))) (slice_split_first is_equals piece 0 small) (each-piece is_equals (λ _. Unit {0}) piece (all-true piece)) in
    (((λ e. omega (arith, length-take n piece, ap length e)), (five.0, six.0)), first.0.1, (five.1.1, six.1.1))

attribute-fit : (piece : List ℕ) → IsPlain piece → IfAttribute (attribute_of piece)
attribute-fit piece plain = go (nat_lt 0 n) (nat_lt n (length piece)) refl refl where
  n : ℕ
  n = position_or_len is_equals piece

  go : (a b : Bool) → nat_lt 0 (position_or_len is_equals piece) ≡ a → nat_lt (position_or_len is_equals piece) (length piece) ≡ b
      → IfAttribute (if a && b then Some (record { key = before_first is_equals piece; value = after_first is_equals piece }) else None)
  go true true e f = attribute-parts piece plain (ltb-true _ _ e) (ltb-true _ _ f)
  go true false e f = tt
  go false b e f = tt

with-fit : (a : Option Attribute) (list : Option (List Attribute)) → IfAttribute a → IfAttributes list → IfAttributes (with_attribute a list)
with-fit (Some a) (Some list) h k = (h, k)
with-fit (Some a) None h k = tt
with-fit None list h k = tt

attributes-fit : (pieces : List (List ℕ)) → AllByRecursion IsPlain pieces → IfAttributes (attributes_of pieces)
attributes-fit [] h = tt
attributes-fit (piece ∷ pieces) h = with-fit (attribute_of piece) (attributes_of pieces) (attribute-fit piece h.0) (attributes-fit pieces h.1)

start-fit : (at : ℕ) (name : List ℕ) (list : Option (List Attribute)) → IsFilled name → IfAttributes list → AllByRecursion IsFit (marks_said (start_said at name list))
start-fit at name (Some list) h k = ((h, k), tt)
start-fit at name None h k = tt

filled : (b : ℕ) (bs : List ℕ) → IsPlain (b ∷ bs) → IsFilled (b ∷ bs)
filled b bs plain = ((λ e. absurd (cc)), plain)

tag-fit : (at : ℕ) (pieces : List (List ℕ)) → AllByRecursion IsPlain pieces → AllByRecursion IsFit (marks_said (tag_said at pieces))
tag-fit at [] h = tt
tag-fit at ([] ∷ []) h = (tt, tt)
tag-fit at ([] ∷ piece ∷ pieces) h = tt
tag-fit at ((b ∷ bs) ∷ pieces) h = start-fit at (b ∷ bs) (attributes_of pieces) (filled b bs h.0) (attributes-fit pieces h.1)

pub said-fit : (at : ℕ) (pieces : List (List ℕ)) → AllByRecursion IsPlain pieces → AllByRecursion IsFit (marks_said (said at pieces))
said-fit at [] h = tt
said-fit at ([] ∷ []) h = tt
said-fit at ((b ∷ bs) ∷ []) h = (filled b bs h.0, tt)
said-fit at ([] ∷ piece ∷ pieces) h = tag-fit at (piece ∷ pieces) h.1
said-fit at ((b ∷ bs) ∷ piece ∷ pieces) h = tt

-- chunks without X say fit marks
chunks-fit : (at : ℕ) (chunks : List (List ℕ)) → AllByRecursion (Lacks 5) chunks → AllByRecursion IsFit (marks_from at chunks)
chunks-fit at [] h = tt
chunks-fit at (chunk ∷ chunks) h = each-both IsFit _ _ (said-fit at (slice_split is_y chunk) (each-piece is_y (λ b. is_x b ≡ false) chunk h.0)) (chunks-fit (at + length chunk + 1) chunks h.1)

-- the marks of any text are fit
pub marks-fit : (text : List ℕ) → AllByRecursion IsFit (marks_in text)
marks-fit text = chunks-fit 0 (slice_split is_x text) (each-so _ _ (λ piece h. h.1) _ (each-piece is_x (λ _. Unit {0}) text (all-true text)))

-- The attributes of a tag, some of which are read.
use Rattle.std.proofs.Common.{◌≡◌, ℕ, List, [], ◌∷◌, ◌++◌, Option, Some, None, refl, sym, append_assoc, ap, ◌∙◌}
use Rattle.std.specs.List.{slice_split}
use Rattle.yxml.specs.declared.tree.Attribute.{Attribute}
use Rattle.yxml.specs.Cut.{IsCut}
use Rattle.yxml.specs.Reading.{with_attribute, attribute_of, attributes_of, is_y}

-- the attributes that are read, with those of the rest behind them
abbrev pub behind : List Attribute → Option (List Attribute) → Option (List Attribute)
behind read (Some rest) = Some (read ++ rest)
behind read None = None

behind-more : (read : List Attribute) (a : Attribute) (rest : Option (List Attribute))
    → behind read (with_attribute (Some a) rest) ≡ behind (read ++ a ∷ []) rest
behind-more read a (Some rest) = ap Some (sym (append_assoc read (a ∷ []) rest))
behind-more read a None = refl

module _ (whole : Option (List Attribute)) (read : List Attribute) (rest : List ℕ)
    (is : whole ≡ behind read (attributes_of (slice_split is_y rest))) where
  step : (before after : List ℕ) → IsCut is_y rest before after → (o : Option Attribute) → attribute_of before ≡ o
      → whole ≡ behind read (with_attribute o (attributes_of (slice_split is_y after)))
  step before after cut o e = is ∙ ap (λ ps. behind read (attributes_of ps)) cut.pieces
      ∙ ap (λ p. behind read (with_attribute p (attributes_of (slice_split is_y after)))) e

  -- the next piece is no attribute
  pub next_bad : (before after : List ℕ) → IsCut is_y rest before after → attribute_of before ≡ None → whole ≡ None
  next_bad before after cut e = step before after cut None e

  -- the next piece is one
  pub next_good : (before after : List ℕ) (a : Attribute) → IsCut is_y rest before after → attribute_of before ≡ Some a
      → whole ≡ behind (read ++ a ∷ []) (attributes_of (slice_split is_y after))
  next_good before after a cut e = step before after cut (Some a) e ∙ behind-more read a _

  last : slice_split is_y rest ≡ rest ∷ [] → (o : Option Attribute) → attribute_of rest ≡ o → whole ≡ behind read (with_attribute o (Some []))
  last one o e = is ∙ ap (λ ps. behind read (attributes_of ps)) one ∙ ap (λ p. behind read (with_attribute p (Some []))) e

  pub last_bad : slice_split is_y rest ≡ rest ∷ [] → attribute_of rest ≡ None → whole ≡ None
  last_bad one e = last one None e

  pub last_good : (a : Attribute) → slice_split is_y rest ≡ rest ∷ [] → attribute_of rest ≡ Some a → whole ≡ Some (read ++ a ∷ [])
  last_good a one e = last one (Some a) e

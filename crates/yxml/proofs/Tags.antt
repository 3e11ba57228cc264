-- What the pieces of a chunk say.
use Rattle.std.proofs.Common.{◌≡◌, ◌≢◌, ℕ, List, [], ◌∷◌, Some, Err, refl, ap, ◌∙◌}
use Rattle.std.specs.List.{slice_split}
use Rattle.yxml.specs.declared.fault.YxmlFault.TheVariants.{BadTag, BadText}
use Rattle.yxml.specs.Cut.{IsCut}
use Rattle.yxml.specs.Reading.{said, tag_said, is_y, nesting_fault}
use Rattle.yxml.proofs.KnownPieces.{pieces_some}

tag-empty : (at : ℕ) (ps : List (List ℕ)) → ps ≢ [] → tag_said at ([] ∷ ps) ≡ Err (BadTag at)
tag-empty at [] some = absurd (some refl)
tag-empty at (p ∷ ps) some = refl

-- a name is missing before attributes
pub bad-tag : (at : ℕ) (text before after : List ℕ) → IsCut is_y text before after → before ≡ [] → tag_said at (slice_split is_y text) ≡ Err (BadTag at)
bad-tag at text before after cut empty = ap (tag_said at) (cut.pieces ∙ ap (λ b. b ∷ slice_split is_y after) empty)
    ∙ tag-empty at (slice_split is_y after) (pieces_some is_y after)

text-cut : (depth at : ℕ) (text : List ℕ) (ps : List (List ℕ)) → text ≢ [] → ps ≢ []
    → nesting_fault depth at (said at (text ∷ ps)) ≡ Some (BadText at)
text-cut depth at [] ps some more = absurd (some refl)
text-cut depth at (b ∷ bs) [] some more = absurd (more refl)
text-cut depth at (b ∷ bs) (p ∷ ps) some more = refl

-- Y stands inside a text
pub bad-text : (depth at : ℕ) (chunk before after : List ℕ) → IsCut is_y chunk before after → before ≢ []
    → nesting_fault depth at (said at (slice_split is_y chunk)) ≡ Some (BadText at)
bad-text depth at chunk before after cut some = ap (λ ps. nesting_fault depth at (said at ps)) cut.pieces
    ∙ text-cut depth at before (slice_split is_y after) some (pieces_some is_y after)

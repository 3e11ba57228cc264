-- What is left of the local facts of several blocks.
use Rattle.std.proofs.Common.{◌≡◌, ℕ, ◌+◌, ◌-◌, ◌<◌, ◌≤◌, List, [], ◌∷◌, ◌++◌, length, Some, sym, ◌∙◌, ap, subst, arith}
use Rattle.std.specs.Prelude.{drop}
use Rattle.std.specs.List.{slice_get}
use Rattle.std.proofs.Math.Seq.{drop-append-add}
use Rattle.std.proofs.lemmas.List.{drop_all, drop_more, get_or_append_left, length-append}
use Rattle.std.proofs.lemmas.Option.{slice_get_within, get_or_from_slice_get}
use Rattle.theory_ctx.specs.declared.local.Local.{Local}
use Rattle.theory_ctx.specs.Locals.{joined}

-- the blocks from one on are this block and those behind it
from_block : (blocks : List (List Local)) (i : ℕ) (block : List Local) → slice_get blocks i ≡ Some block
    → joined (drop i blocks) ≡ block ++ joined (drop (i + 1) blocks)
from_block blocks i block at =
    ap joined (drop_more blocks i block (slice_get_within blocks i block at)
    ∙ ap (λ b. b ∷ drop (i + 1) blocks) (get_or_from_slice_get blocks i block block at))

front_of : (block behind : List Local) (place : ℕ) (local : Local) → slice_get block place ≡ Some local
    → drop place (block ++ behind) ≡ local ∷ drop (place + 1) (block ++ behind)
front_of block behind place local at =
    let less : place < length block = slice_get_within block place local at in
    let within : place < length (block ++ behind) = omega (arith, less, length-append block behind) in
    drop_more (block ++ behind) place local within
    ∙ ap (λ y. y ∷ drop (place + 1) (block ++ behind))
    (get_or_append_left block behind local place less ∙ get_or_from_slice_get block place local local at)

-- a fact of the block comes first
pub step_in : (blocks : List (List Local)) (i place : ℕ) (block : List Local) (local : Local) → slice_get blocks i ≡ Some block
    → slice_get block place ≡ Some local → drop place (joined (drop i blocks)) ≡ local ∷ drop (place + 1) (joined (drop i blocks))
step_in blocks i place block local at here =
    subst (λ l. drop place l ≡ local ∷ drop (place + 1) l) (sym (from_block blocks i block at))
    (front_of block (joined (drop (i + 1) blocks)) place local here)

-- a block that has no more is passed
pub step_behind : (blocks : List (List Local)) (i place : ℕ) (block : List Local) → slice_get blocks i ≡ Some block → length block ≤ place
    → drop (place - length block) (joined (drop (i + 1) blocks)) ≡ drop place (joined (drop i blocks))
step_behind blocks i place block at past =
    let behind = joined (drop (i + 1) blocks) in
    let whole : length block + (place - length block) ≡ place = omega (arith, past) in
    sym (drop-append-add block behind (place - length block))
    ∙ (ap (λ n. drop n (block ++ behind)) whole ∙ ap (drop place) (sym (from_block blocks i block at)))

-- behind the last block nothing is left
pub none_left : (blocks : List (List Local)) (i place : ℕ) → length blocks ≤ i → drop place (joined (drop i blocks)) ≡ []
none_left blocks i place past =
    ap (λ l. drop place (joined l)) (drop_all i blocks past) ∙ drop_all place [] (omega arith)

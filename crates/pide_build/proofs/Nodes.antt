-- The replies of some nodes.
use Rattle.std.proofs.Common.{◌≡◌, ◌≤◌, ◌-◌, ℕ, suc, ◌+◌, List, [], ◌∷◌, ◌++◌, length, map, get_or, take, drop, refl, sym, ap, ap₂, ◌∙◌, arith}
use Rattle.std.specs.List.{flat_map, sum_by}
use Rattle.std.proofs.lemmas.List.{length-map}
use Rattle.std.proofs.lemmas.List.Sums.{sum_by-cons}
use Rattle.reply_messages.specs.declared.told.Told.TheVariants as tells
use Rattle.pide_build.specs.declared.telling.BuiltNode.{BuiltNode}
use Rattle.pide_build.specs.declared.replies.NodeReply.{NodeReply}
use Rattle.pide_build.specs.Replies.{errors_of, node_reply, replies_of, spelled}
use Rattle.pide_build.specs.Telling.{bytes_of, reply_of}

-- the first one's stands before those of the others
pub first_node : (all : List NodeReply) (reply : NodeReply) → 1 ≤ length all → reply ≡ get_or all 0 reply
    → flat_map (λ one. one.bytes) all ≡ reply.bytes ++ flat_map (λ one. one.bytes) (take (length all - 1) (drop 1 all))
first_node [] reply some is = absurd (omega arith)
first_node (r ∷ rs) reply some is =
    ap (λ (x : NodeReply). x.bytes ++ flat_map (λ one. one.bytes) rs) (sym is)
    ∙ ap (λ xs. reply.bytes ++ flat_map (λ one. one.bytes) xs) (whole rs (length (r ∷ rs) - 1) (omega arith))
  where
    all_of : (xs : List NodeReply) → take (length xs) xs ≡ xs
    all_of [] = refl
    all_of (x ∷ xs) = ap (λ ys. x ∷ ys) (all_of xs)

    whole : (xs : List NodeReply) (n : ℕ) → n ≡ length xs → xs ≡ take n xs
    whole xs n long = sym (ap (λ k. take k xs) long ∙ all_of xs)

-- what is told of nodes is what a build replies of them
all_bytes : (all : List BuiltNode) → flat_map (λ reply. reply.bytes) (map reply_of all) ≡ flat_map node_reply all
all_bytes [] = refl
all_bytes (b ∷ bs) = ap (λ bytes. node_reply b ++ bytes) (all_bytes bs)

all_errors : (all : List BuiltNode) → sum_by (λ reply. reply.errors) (map reply_of all) ≡ sum_by errors_of all
all_errors [] = refl
all_errors (b ∷ bs) =
    sum_by-cons (λ (reply : NodeReply). reply.errors) (reply_of b) (map reply_of bs) ∙ ap (λ sum. errors_of b + sum) (all_errors bs)
    ∙ sym (sum_by-cons errors_of b bs)

pub told_so : (all : List BuiltNode) → bytes_of (map reply_of all) ≡ replies_of all
told_so all =
    ap₂ (λ bytes total. bytes ++ spelled total) (all_bytes all)
    (ap₂ tells.Total (length-map all reply_of) (all_errors all))

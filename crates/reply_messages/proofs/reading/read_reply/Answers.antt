-- What is found among the replies of the word's kind.
use Rattle.std.proofs.Common.{◌≡◌, ◌≢◌, ◌∷◌, [], ℕ, List, length, drop, slice_index_or, refl, sym, ap, subst, ◌∙◌}
use Rattle.reply_messages.specs.FoundReplies.{FindsReply, FindsOf, texts}
use Rattle.reply_messages.proofs.Alike.{if_ok}
use Rattle.reply_messages.proofs.Contents.{of_kind}
use Rattle.reply_messages.proofs.reading.read_reply.Goals as goal

first_chunk : (chunks : List (List ℕ)) (name : List ℕ) → length chunks ≢ 0 → name ≡ slice_index_or chunks 0 [] → chunks ≡ name ∷ drop 1 chunks
first_chunk [] name some is = absurd (some refl)
first_chunk (chunk ∷ chunks) name some is = ap (λ c. c ∷ chunks) (sym is)

pub returns : goal.returns
returns c =
    let whole = first_chunk c.args.message.now c.chunk.result.now (λ e. c.if-count-eq0.false (c.count.ensures ∙ e)) c.chunk.ensures in
    let behind = ap texts c.as_slice.ensures.value ∙ c.in_ok-arguments.ensures in
    if_ok _ _ c.reply_at.result
    (λ found h. subst (λ chunks. FindsReply chunks found) (sym whole)
    (of_kind c.in-Some.kind c.chunk.result.now (drop 1 c.args.message.now) found (sym c.in-Some.ensures) (subst (λ chunks. FindsOf c.in-Some.kind chunks found) behind h)))
    c.reply_at.ensures

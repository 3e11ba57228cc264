-- A reply is told by its chunks alone.
use Rattle.std.proofs.Common.{◌≡◌, ℕ, List, [], get_or, refl, sym, ap, subst, ◌∙◌, Option, Some, None}
use Rattle.std.proofs.lemmas.Fmt.{decimal_injective}
use Rattle.reply_messages.specs.declared.told.Told.{Told}
use Rattle.reply_messages.specs.declared.told.Told.TheVariants as tells
use Rattle.reply_messages.specs.Replies.{reply_chunks}
use Rattle.reply_messages.specs.declared.kind.ReplyKind.{ReplyKind}
use Rattle.reply_messages.specs.declared.kind.ReplyKind.TheVariants.{Assign, Markup, Cancelled, Idle, Removed, Settled, Protocol, Refused, Claimed, Report as Reported, Dropped, Built, Total}
use Rattle.reply_messages.specs.Kinds.{Content, reply_of}
use Rattle.reply_messages.specs.FoundReplies.{IsReply, FindsReply}
use Rattle.reply_messages.proofs.Contents.{kind_of, content_of, made, begins_with, named, kind_told}
use Rattle.reply_messages.proofs.OneChunk.{one_ids, one_nodes, one_reports, one_id, one_worker, one_flag, one_part, one_protocol}
use Rattle.reply_messages.proofs.Refusals.{one_refusal}

-- the chunk of this number
chunk : ℕ → List (List ℕ) → List ℕ
chunk n chunks = get_or chunks n []

of_one_kind : (kind : ReplyKind) (c d : Content kind) → IsReply (reply_of kind c) → IsReply (reply_of kind d)
    → reply_chunks (reply_of kind c) ≡ reply_chunks (reply_of kind d) → reply_of kind c ≡ reply_of kind d
unfolding chunk
of_one_kind Assign (v, ns) (w, ms) x y e =
    ap (λ a. tells.Assign a ns) (one_id v w x.fits.0 y.fits.0 (ap (chunk 1) e))
    ∙ ap (λ a. tells.Assign w a) (one_nodes ns ms x.fits.1 y.fits.1 (ap (chunk 2) e))
of_one_kind Markup (v, n, rs, ps, o) (w, m, ss, qs, p) x y e =
    ap (λ a. tells.Markup a n rs ps o) (one_id v w x.fits.0 y.fits.0 (ap (chunk 1) e))
    ∙ ap (λ a. tells.Markup w a rs ps o) (ap (chunk 2) e)
    ∙ ap (λ a. tells.Markup w m a ps o) (one_reports rs ss x.fits.2 y.fits.2 (ap (chunk 3) e))
    ∙ ap (λ a. tells.Markup w m ss a o) (one_ids ps qs x.fits.3 y.fits.3 (ap (chunk 4) e))
    ∙ ap (λ a. tells.Markup w m ss qs a) (one_flag o p (ap (chunk 5) e))
of_one_kind Cancelled c d x y e = ap tells.Cancelled (one_id c d x.fits y.fits (ap (chunk 1) e))
of_one_kind Idle c d x y e = ap tells.Idle (one_id c d x.fits y.fits (ap (chunk 1) e))
of_one_kind Removed c d x y e = ap tells.Removed (one_ids c d x.fits y.fits (ap (chunk 1) e))
of_one_kind Settled (v, s) (w, t) x y e =
    ap (λ a. tells.Settled a s) (one_id v w x.fits.0 y.fits.0 (ap (chunk 1) e))
    ∙ ap (λ a. tells.Settled w a) (one_ids s t x.fits.1 y.fits.1 (ap (chunk 2) e))
of_one_kind Protocol c d x y e = ap tells.Protocol (one_protocol c d (ap (chunk 1) e))
of_one_kind Refused c d x y e = ap tells.Refused (one_refusal c d (ap (chunk 1) e))
of_one_kind Claimed (w, p) (v, q) x y e =
    ap (λ a. tells.Claimed a p) (one_worker w v x.fits.0 y.fits.0 (ap (chunk 1) e))
    ∙ ap (λ a. tells.Claimed v a) (one_part p q x.fits.1 y.fits.1 (ap (chunk 2) e) (ap (chunk 3) e))
of_one_kind Reported (p, r) (q, s) x y e =
    ap (λ a. tells.Report a r) (one_part p q x.fits.0 y.fits.0 (ap (chunk 1) e) (ap (chunk 2) e))
    ∙ ap (λ a. tells.Report q a) (one_reports r s x.fits.1 y.fits.1 (ap (chunk 3) e))
of_one_kind Dropped p q x y e = ap tells.Dropped (one_part p q x.fits y.fits (ap (chunk 1) e) (ap (chunk 2) e))
of_one_kind Built (n, r) (m, s) x y e =
    ap (λ a. tells.Built a r) (ap (chunk 1) e) ∙ ap (λ a. tells.Built m a) (one_reports r s x.fits.1 y.fits.1 (ap (chunk 2) e))
of_one_kind Total (n, f) (m, g) x y e =
    ap (λ a. tells.Total a f) (decimal_injective n m x.fits.0 y.fits.0 (ap (chunk 1) e))
    ∙ ap (λ a. tells.Total m a) (decimal_injective f g x.fits.1 y.fits.1 (ap (chunk 2) e))

same_kind : (told other : Told) → reply_chunks told ≡ reply_chunks other → kind_of told ≡ kind_of other
same_kind told other e =
    let same : Some (kind_of told) ≡ Some (kind_of other) = sym (kind_told told _ _ (e ∙ begins_with other)) ∙ named (kind_of other) in cc

pub one_reply : (told other : Told) → IsReply told → IsReply other → reply_chunks told ≡ reply_chunks other → told ≡ other
one_reply told other x y e =
    sym (made told)
    ∙ subst (λ k. (c : Content k) → reply_of k c ≡ other → reply_of (kind_of told) (content_of told) ≡ reply_of k c)
    (same_kind told other e)
    (λ c is. of_one_kind (kind_of told) (content_of told) c (subst IsReply (sym (made told)) x) (subst IsReply (sym is) y) (ap reply_chunks (made told) ∙ e ∙ sym (ap reply_chunks is)))
    (content_of other) (made other)
    ∙ made other

-- what is found in a reply's chunks is the reply
pub read_back : (told : Told) (found : Option Told) → IsReply told → FindsReply (reply_chunks told) found → found ≡ Some told
read_back told None is none = absurd (none told is refl)
read_back told (Some other) is h = ap Some (one_reply other told h.0 is h.1)

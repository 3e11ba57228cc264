-- Each reply is of one kind, and its word tells which.
use Rattle.std.proofs.Common.{◌≡◌, ◌≢◌, ℕ, bytes_eq, List, [], ◌∷◌, Option, Some, None, refl, sym, ap, subst, ◌∙◌}
use Rattle.text_words.proofs.KnownLists.{found_passes}
use Rattle.message_values.proofs.KnownTrees.{same_bytes}
use Rattle.reply_messages.specs.declared.told.Told.{Told}
use Rattle.reply_messages.specs.declared.told.Told.TheVariants as tells
use Rattle.reply_messages.specs.Replies.{reply_chunks}
use Rattle.reply_messages.specs.declared.kind.ReplyKind.{ReplyKind}
use Rattle.reply_messages.specs.declared.kind.ReplyKind.TheVariants.{Assign, Markup, Cancelled, Idle, Removed, Settled, Protocol, Refused, Claimed, Report as Reported, Dropped, Built, Total}
use Rattle.reply_messages.specs.Kinds.{word, kinds, kind_named, Content, reply_of}
use Rattle.reply_messages.specs.FoundReplies.{IsReply, FindsReply, FindsOf}

-- the kind of a reply
abbrev pub kind_of : Told → ReplyKind
kind_of (tells.Assign version nodes) = Assign
kind_of (tells.Markup version node reports pending outdated) = Markup
kind_of (tells.Cancelled exec) = Cancelled
kind_of (tells.Idle exec) = Idle
kind_of (tells.Removed versions) = Removed
kind_of (tells.Settled version stuck) = Settled
kind_of (tells.Protocol protocol) = Protocol
kind_of (tells.Refused reason) = Refused
kind_of (tells.Claimed worker part) = Claimed
kind_of (tells.Report part reports) = Reported
kind_of (tells.Dropped part) = Dropped
kind_of (tells.Built node reports) = Built
kind_of (tells.Total nodes errors) = Total

-- what it tells
abbrev pub content_of : (told : Told) → Content (kind_of told)
content_of (tells.Assign version nodes) = (version, nodes)
content_of (tells.Markup version node reports pending outdated) = (version, node, reports, pending, outdated)
content_of (tells.Cancelled exec) = exec
content_of (tells.Idle exec) = exec
content_of (tells.Removed versions) = versions
content_of (tells.Settled version stuck) = (version, stuck)
content_of (tells.Protocol protocol) = protocol
content_of (tells.Refused reason) = reason
content_of (tells.Claimed worker part) = (worker, part)
content_of (tells.Report part reports) = (part, reports)
content_of (tells.Dropped part) = part
content_of (tells.Built node reports) = (node, reports)
content_of (tells.Total nodes errors) = (nodes, errors)

pub made : (told : Told) → reply_of (kind_of told) (content_of told) ≡ told
made (tells.Assign version nodes) = refl
made (tells.Markup version node reports pending outdated) = refl
made (tells.Cancelled exec) = refl
made (tells.Idle exec) = refl
made (tells.Removed versions) = refl
made (tells.Settled version stuck) = refl
made (tells.Protocol protocol) = refl
made (tells.Refused reason) = refl
made (tells.Claimed worker part) = refl
made (tells.Report part reports) = refl
made (tells.Dropped part) = refl
made (tells.Built node reports) = refl
made (tells.Total nodes errors) = refl

-- what stands behind the first
abbrev pub behind : List (List ℕ) → List (List ℕ)
behind [] = []
behind (chunk ∷ chunks) = chunks

pub begins_with : (told : Told) → reply_chunks told ≡ word (kind_of told) ∷ behind (reply_chunks told)
begins_with (tells.Assign version nodes) = refl
begins_with (tells.Markup version node reports pending outdated) = refl
begins_with (tells.Cancelled exec) = refl
begins_with (tells.Idle exec) = refl
begins_with (tells.Removed versions) = refl
begins_with (tells.Settled version stuck) = refl
begins_with (tells.Protocol protocol) = refl
begins_with (tells.Refused reason) = refl
begins_with (tells.Claimed worker part) = refl
begins_with (tells.Report part reports) = refl
begins_with (tells.Dropped part) = refl
begins_with (tells.Built node reports) = refl
begins_with (tells.Total nodes errors) = refl

pub named : (kind : ReplyKind) → kind_named (word kind) ≡ Some kind
named Assign = refl
named Markup = refl
named Cancelled = refl
named Idle = refl
named Removed = refl
named Settled = refl
named Protocol = refl
named Refused = refl
named Claimed = refl
named Reported = refl
named Dropped = refl
named Built = refl
named Total = refl

pub word_of : (name : List ℕ) (kind : ReplyKind) → kind_named name ≡ Some kind → word kind ≡ name
word_of name kind e = same_bytes (word kind) name (found_passes (λ k. bytes_eq (word k) name) kinds kind e)

-- the word of a reply whose chunks begin so is its kind's
pub kind_told : (told : Told) (name : List ℕ) (arguments : List (List ℕ)) → reply_chunks told ≡ name ∷ arguments → kind_named name ≡ Some (kind_of told)
kind_told told name arguments e =
    let whole : word (kind_of told) ∷ behind (reply_chunks told) ≡ name ∷ arguments = sym (begins_with told) ∙ e in
    let first : word (kind_of told) ≡ name = cc in
    ap kind_named (sym first) ∙ named (kind_of told)

-- what is found among the replies of the kind is found among all
pub of_kind : (kind : ReplyKind) (name : List ℕ) (arguments : List (List ℕ)) (found : Option Told) → kind_named name ≡ Some kind
    → FindsOf kind arguments found → FindsReply (name ∷ arguments) found
of_kind kind name arguments (Some told) e h = (h.0, h.1 ∙ ap (λ w. w ∷ arguments) (word_of name kind e))
of_kind kind name arguments None e none = λ told is f.
    let same : Some kind ≡ Some (kind_of told) = sym e ∙ kind_told told name arguments f in
    let kinds : kind ≡ kind_of told = cc in
    subst (λ k. (content : Content k) → IsReply (reply_of k content) → reply_chunks (reply_of k content) ≢ word k ∷ arguments) kinds none
    (content_of told) (subst IsReply (sym (made told)) is)
    (ap reply_chunks (made told) ∙ f ∙ ap (λ w. w ∷ arguments) (sym (word_of name kind e) ∙ ap word kinds))

-- no reply begins with a word that is no kind's
pub no_kind : (name : List ℕ) (arguments : List (List ℕ)) → kind_named name ≡ None → FindsReply (name ∷ arguments) None
no_kind name arguments e = λ told is f. let other : None ≡ Some (kind_of told) = sym e ∙ kind_told told name arguments f in absurd (cc)

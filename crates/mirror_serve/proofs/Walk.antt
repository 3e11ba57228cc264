-- A mirror hears the replies of entries, one after the other.
use Rattle.std.proofs.Common.{◌≡◌, ℕ, ◌≤◌, Bool, true, false, nat_lt, List, [], ◌∷◌, ◌++◌, length, map, None, refl, sym, ap, subst, append-nil, append_assoc, arith}
use Rattle.std.specs.Prelude.{slice_get, if◌then◌else◌}
use Rattle.std.specs.List.{AllByRecursion}
use Rattle.text_words.proofs.KnownLists.{each-part}
use Rattle.byte_message.specs.Limits.{longest_chunk}
use Rattle.byte_message.specs.Long.{long_lengths}
use Rattle.byte_message.specs.Stream.{IsMessage, plain_spelling}
use Rattle.language.specs.Lang.{Lang}
use Rattle.reply_messages.specs.declared.told.Told.{Told}
use Rattle.reply_messages.specs.declared.told.Told.TheVariants as tells
use Rattle.reply_messages.specs.Replies.{reply_chunks}
use Rattle.reply_messages.specs.FoundReplies.{IsReply}
use Rattle.session_rules.specs.declared.entry.Entry.{Entry}
use Rattle.session_rules.specs.declared.service.Service.{Service}
use Rattle.session_rules.specs.Heard.{all_heard, heard}
use Rattle.session_rules.specs.Replies.{entry_replies}
use Rattle.session_rules.specs.Services.{mode_of}
use Rattle.mirror_rules.specs.Answers.{Read}
use Rattle.editor_laws.specs.Follows.{call_of, calls}
use Rattle.editor_laws.proofs.KnownOneReply.{AtMostOne, one_told}
use Rattle.pide_mirror.specs.Hearing.{Hearing}
use Rattle.mirror_serve.specs.Heard.{HearsAll}
use Rattle.mirror_serve.specs.Resting.{IsImageOf}
use Rattle.mirror_serve.proofs.OneHeard.{IsWritten, OneWay, between_heard, heard_move}
use Rattle.mirror_serve.proofs.Image.{image_heard, image_silent}

-- a reply has some chunks, and not too many
few_chunks : (told : Told) → (1 ≤ length (reply_chunks told)) × (length (reply_chunks told) ≤ 16)
few_chunks (tells.Assign version nodes) = (omega arith, omega arith)
few_chunks (tells.Markup version node reports pending outdated) = (omega arith, omega arith)
few_chunks (tells.Cancelled exec) = (omega arith, omega arith)
few_chunks (tells.Idle exec) = (omega arith, omega arith)
few_chunks (tells.Removed versions) = (omega arith, omega arith)
few_chunks (tells.Settled version stuck) = (omega arith, omega arith)
few_chunks (tells.Protocol protocol) = (omega arith, omega arith)
few_chunks (tells.Refused reason) = (omega arith, omega arith)
few_chunks (tells.Claimed worker part) = (omega arith, omega arith)
few_chunks (tells.Report part reports) = (omega arith, omega arith)
few_chunks (tells.Dropped part) = (omega arith, omega arith)
few_chunks (tells.Built node reports) = (omega arith, omega arith)
few_chunks (tells.Total nodes errors) = (omega arith, omega arith)

-- none of these is too long
none_left : (b : Bool) (n : ℕ) (ns : List ℕ) → None ≡ slice_get (if b then n ∷ ns else ns) 0 → (b ≡ false) × (None ≡ slice_get ns 0)
none_left true n ns e = let no : ⊥ = cc in absurd no
none_left false n ns e = (refl, e)

short_chunks : (chunks : List (List ℕ)) → None ≡ slice_get (long_lengths chunks) 0 → AllByRecursion (λ chunk. length chunk ≤ longest_chunk) chunks
short_chunks [] e = tt
short_chunks (chunk ∷ chunks) e =
    let p = none_left (nat_lt longest_chunk (length chunk)) (length chunk) (long_lengths chunks) e in
    let short : length chunk ≤ longest_chunk = grind (arith, p.0) in
    (short, short_chunks chunks p.1)

pub short_reply : (told : Told) → None ≡ slice_get (long_lengths (reply_chunks told)) 0 → IsMessage (reply_chunks told)
short_reply told e = let few = few_chunks told in record { some = few.0; few = few.1; short = short_chunks (reply_chunks told) e }

abbrev pub spelling : Told → List ℕ
spelling told = plain_spelling (reply_chunks told)

pub map_both : (a b : List Told) → map spelling (a ++ b) ≡ map spelling a ++ map spelling b
map_both [] b = refl
map_both (t ∷ a) b = ap (λ ts. spelling t ∷ ts) (map_both a b)

heard_parts : (a c : Hearing) (first rest : List (List ℕ)) → HearsAll a (first ++ rest) c → (b : Hearing) × HearsAll a first b × HearsAll b rest c
heard_parts a c [] rest all = (a, refl, all)
heard_parts a c (bytes ∷ first) rest (next, one, more) = let p = heard_parts next c first rest more in (p.0, (next, one, p.1), p.2)

module _ {S : Type 0} (l : Lang S) (service : Service) where
  -- the replies of these entries behind a history, the oldest first
  abbrev pub news : List Entry → List Entry → List Told
  news [] h = []
  news (e ∷ added) h = news added h ++ entry_replies l service (all_heard service (added ++ h)) (heard service e)

  module _ (one : OneWay) (written : IsWritten) where
    -- the reply of one entry is heard, if there is one
    entry_heard : (e : Entry) (ahead h : List Entry) (sent : List Read) (old new : Hearing) (own : List Told)
        → entry_replies l service (all_heard service h) (heard service e) ≡ own → AtMostOne own → AllByRecursion IsReply own
        → IsImageOf l service (ahead ++ e ∷ []) h (call_of service e ++ sent) old → HearsAll old (map spelling own) new
        → IsImageOf l service ahead (e ∷ h) sent new
    entry_heard e ahead h sent old new [] none few fits i same =
        subst (IsImageOf l service ahead (e ∷ h) sent) (sym same) (image_silent l service e ahead h sent old i none)
    entry_heard e ahead h sent old new (told ∷ more ∷ others) is few fits i all = absurd (omega (arith, few))
    entry_heard e ahead h sent old new (told ∷ []) is few fits i (next, heard, same) =
        let message = short_reply told (heard.short (reply_chunks told) refl) in
        let fine : next.ended ≡ None = heard.fine in
        subst (IsImageOf l service ahead (e ∷ h) sent) (sym same)
        (image_heard l service e ahead h sent old i told _ next is
        (heard_move one (mode_of service) old next i.between written told message fits.0 heard.count heard.hears fine)
        (between_heard one (mode_of service) old next i.between written told message fits.0 heard.count heard.hears fine))

    -- all replies of these entries are heard
    pub image_all : (added ahead h : List Entry) (sent : List Read) (old new : Hearing)
        → IsImageOf l service (ahead ++ added) h (calls service added ++ sent) old → AllByRecursion IsReply (news added h)
        → HearsAll old (map spelling (news added h)) new → IsImageOf l service ahead (added ++ h) sent new
    image_all [] ahead h sent old new i fits same =
        subst (IsImageOf l service ahead h sent) (sym same) (subst (λ es. IsImageOf l service es h sent old) (append-nil ahead) i)
    image_all (e ∷ added) ahead h sent old new i fits all =
        let own = entry_replies l service (all_heard service (added ++ h)) (heard service e) in
        let parts = heard_parts old new (map spelling (news added h)) (map spelling own)
        (subst (λ bs. HearsAll old bs new) (map_both (news added h) own) all) in
        let fit = each-part IsReply (news added h) own fits in
        let i_first : IsImageOf l service ((ahead ++ e ∷ []) ++ added) h (calls service added ++ (call_of service e ++ sent)) old =
        subst (λ es. IsImageOf l service es h (calls service added ++ (call_of service e ++ sent)) old) (sym (append_assoc ahead (e ∷ []) added))
        (subst (λ rs. IsImageOf l service (ahead ++ e ∷ added) h rs old) (append_assoc (calls service added) (call_of service e) sent) i) in
        entry_heard e ahead (added ++ h) sent parts.0 new own refl (one_told l service (all_heard service (added ++ h)) (heard service e)) fit.1
        (image_all added (ahead ++ e ∷ []) h (call_of service e ++ sent) old parts.0 i_first fit.0 parts.1) parts.2

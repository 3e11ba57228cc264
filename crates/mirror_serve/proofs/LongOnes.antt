-- Which chunks are too long among replies that are heard.
use Rattle.std.proofs.Common.{◌≡◌, ℕ, List, [], ◌∷◌, ◌++◌, map, Some, None, refl, sym, ap, subst, ◌∙◌, append-nil, append_assoc}
use Rattle.std.specs.Prelude.{slice_get}
use Rattle.std.specs.List.{AllByRecursion, flat_map}
use Rattle.std.proofs.lemmas.List.Concat.{flat_map-append}
use Rattle.text_words.proofs.KnownLists.{each-both}
use Rattle.byte_message.specs.Long.{long_lengths}
use Rattle.language.specs.Lang.{Lang}
use Rattle.reply_messages.specs.declared.told.Told.{Told}
use Rattle.reply_messages.specs.declared.told.Told.TheVariants as tells
use Rattle.reply_messages.specs.Replies.{reply_chunks}
use Rattle.session_rules.specs.declared.entry.Entry.{Entry}
use Rattle.session_rules.specs.declared.service.Service.{Service}
use Rattle.session_rules.specs.Heard.{all_heard, heard}
use Rattle.session_rules.specs.Replies.{entry_replies}
use Rattle.editor_laws.specs.Streams.{all_replies}
use Rattle.pide_mirror.specs.Hearing.{Hearing}
use Rattle.mirror_serve.specs.Heard.{HearsAll, IsFirstLong, TellsLong}
use Rattle.mirror_serve.specs.LongReplies.{too_long, too_long_in}
use Rattle.mirror_serve.proofs.Walk.{news, spelling}
use Rattle.mirror_serve.proofs.PlainOnes.{IsOther, IsPlain, entry_plain}

none_long : (ns : List ℕ) → None ≡ slice_get ns 0 → ns ≡ []
none_long [] e = refl
none_long (n ∷ ns) e = let no : ⊥ = cc in absurd no

first_long : (ns : List ℕ) (len : ℕ) → Some len ≡ slice_get ns 0 → (more : List ℕ) × (ns ≡ len ∷ more)
first_long [] len e = let no : ⊥ = cc in absurd no
first_long (n ∷ ns) len e = let is : n ≡ len = cc in (ns, ap (λ k. k ∷ ns) is)

short_of : (told : Told) → TellsLong (spelling told) None → long_lengths (reply_chunks told) ≡ []
short_of told short = none_long (long_lengths (reply_chunks told)) (short (reply_chunks told) refl)

-- a reply without a long chunk
short_one : (told : Told) → TellsLong (spelling told) None → too_long told ≡ []
short_one (tells.Markup version node reports pending outdated) short = refl
short_one (tells.Assign version nodes) short = short_of (tells.Assign version nodes) short
short_one (tells.Cancelled exec) short = short_of (tells.Cancelled exec) short
short_one (tells.Idle exec) short = short_of (tells.Idle exec) short
short_one (tells.Removed versions) short = short_of (tells.Removed versions) short
short_one (tells.Settled version stuck) short = short_of (tells.Settled version stuck) short
short_one (tells.Protocol protocol) short = short_of (tells.Protocol protocol) short
short_one (tells.Refused reason) short = short_of (tells.Refused reason) short
short_one (tells.Claimed worker part) short = short_of (tells.Claimed worker part) short
short_one (tells.Report part reports) short = short_of (tells.Report part reports) short
short_one (tells.Dropped part) short = short_of (tells.Dropped part) short
short_one (tells.Built node reports) short = short_of (tells.Built node reports) short
short_one (tells.Total nodes errors) short = short_of (tells.Total nodes errors) short

-- all replies that were heard are short
pub short_news : (ts : List Told) (old new : Hearing) → HearsAll old (map spelling ts) new → flat_map too_long ts ≡ []
short_news [] old new same = refl
short_news (t ∷ ts) old new (next, one, more) =
    ap (λ ns. ns ++ flat_map too_long ts) (short_one t one.short) ∙ short_news ts next new more

-- the first that is not
module _ (len : ℕ) where
  long_after : (ts : List Told) (before after : List (List ℕ)) (bytes : List ℕ) → AllByRecursion IsPlain ts → map spelling ts ≡ before ++ bytes ∷ after
      → AllByRecursion (λ b. TellsLong b None) before → TellsLong bytes (Some len) → (more : List ℕ) × (flat_map too_long ts ≡ len ∷ more)
  long_after [] [] after bytes plain parts short long = let no : ⊥ = cc in absurd no
  long_after [] (b ∷ before) after bytes plain parts short long = let no : ⊥ = cc in absurd no
  long_after (t ∷ ts) [] after bytes plain parts short long =
      let same : bytes ≡ spelling t = cc in
      let first = first_long (long_lengths (reply_chunks t)) len (long (reply_chunks t) same) in
      (first.0 ++ flat_map too_long ts, ap (λ ns. ns ++ flat_map too_long ts) (plain.0 ∙ first.1))
  long_after (t ∷ ts) (b ∷ before) after bytes plain parts short long =
      let same : b ≡ spelling t = cc in
      let rest : map spelling ts ≡ before ++ bytes ∷ after = cc in
      let later = long_after ts before after bytes plain.1 rest short.1 long in
      (later.0, ap (λ ns. ns ++ flat_map too_long ts) (short_one t (subst (λ x. TellsLong x None) same short.0)) ∙ later.1)

  pub long_news : (ts : List Told) → AllByRecursion IsPlain ts → IsFirstLong (map spelling ts) len → (more : List ℕ) × (flat_map too_long ts ≡ len ∷ more)
  long_news ts plain f = long_after ts f.before f.after f.bytes plain f.parts f.short f.long

module _ {S : Type 0} (l : Lang S) (service : Service) where
  pub all_news : (added h : List Entry) → all_replies l service (added ++ h) ≡ all_replies l service h ++ news l service added h
  all_news [] h = sym (append-nil (all_replies l service h))
  all_news (e ∷ added) h =
      let own = entry_replies l service (all_heard service (added ++ h)) (heard service e) in
      ap (λ ts. ts ++ own) (all_news added h) ∙ append_assoc (all_replies l service h) (news l service added h) own

  -- the replies so far had none too long
  pub long_behind : (added h : List Entry) → too_long_in l service h ≡ [] → too_long_in l service (added ++ h) ≡ flat_map too_long (news l service added h)
  long_behind added h none = ap (flat_map too_long) (all_news added h) ∙ flat_map-append too_long (all_replies l service h) (news l service added h)
      ∙ ap (λ ns. ns ++ flat_map too_long (news l service added h)) none

  pub news_plain : (added h : List Entry) → AllByRecursion (λ e. IsOther l service (heard service e)) added → AllByRecursion IsPlain (news l service added h)
  news_plain [] h all = tt
  news_plain (e ∷ added) h all = each-both IsPlain (news l service added h) (entry_replies l service (all_heard service (added ++ h)) (heard service e))
      (news_plain added h all.1) (entry_plain l service (all_heard service (added ++ h)) (heard service e) all.0)

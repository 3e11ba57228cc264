-- From one reply of a history to the next, past the entries that tell nothing.
use Rattle.std.proofs.Common.{◌≡◌, ℕ, ◌<◌, List, [], ◌∷◌, ◌++◌, length, refl, ap, sym, ◌∙◌, append_assoc, append-nil, arith}
use Rattle.language.specs.Lang.{Lang}
use Rattle.message_values.specs.Asked.{asked}
use Rattle.reply_messages.specs.declared.told.Told.{Told}
use Rattle.session_rules.specs.declared.entry.Entry.{Entry}
use Rattle.session_rules.specs.declared.entry.Entry.TheVariants as entry
use Rattle.session_rules.specs.declared.service.Service.{Service}
use Rattle.session_rules.specs.Heard.{all_heard, heard}
use Rattle.session_rules.specs.Replies.{entry_replies}
use Rattle.session_rules.specs.Services.{mode_of}
use Rattle.mirror_rules.specs.Answers.{Read}
use Rattle.mirror_rules.specs.Moves.{Move, Sent}
use Rattle.editor_laws.specs.Follows.{AreFirst, AreHeard, Follows, call_of, calls, sends}
use Rattle.editor_laws.specs.Streams.{all_replies}

-- the entries that come next, the oldest first, as the newest first
abbrev pub ahead_of : List Entry → List Entry
ahead_of [] = []
ahead_of (e ∷ next) = ahead_of next ++ e ∷ []

-- what was and what comes next
abbrev pub whole : List Entry → List Entry → List Entry
whole [] h = h
whole (e ∷ next) h = whole next (e ∷ h)

pub whole_is : (next h : List Entry) → whole next h ≡ ahead_of next ++ h
whole_is [] h = refl
whole_is (e ∷ next) h = whole_is next (e ∷ h) ∙ sym (append_assoc (ahead_of next) (e ∷ []) h)

pub calls_both : (service : Service) (a h : List Entry) → calls service (a ++ h) ≡ calls service h ++ calls service a
calls_both service [] h = sym (append-nil (calls service h))
calls_both service (e ∷ a) h = ap (λ cs. cs ++ call_of service e) (calls_both service a h)
    ∙ append_assoc (calls service h) (calls service a) (call_of service e)

module _ {S : Type 0} (l : Lang S) (service : Service) where
  -- one message more is sent
  pub follows_send : (ahead h : List Entry) (sent : List Read) (moves : List Move) (read : Read) → Follows l service ahead h sent moves
      → AreFirst (sent ++ read ∷ []) (calls service ahead) → Follows l service ahead h (sent ++ read ∷ []) (Sent read ∷ moves)
  follows_send ahead [] sent moves read (is, first) next = (ap (λ ms. Sent read ∷ ms) is ∙ sym (sends_more sent []), next)
    where
      sends_more : (xs : List Read) (ms : List Move) → sends (xs ++ read ∷ []) ms ≡ Sent read ∷ sends xs ms
      sends_more [] ms = refl
      sends_more (x ∷ xs) ms = sends_more xs (Sent x ∷ ms)
  follows_send ahead (e ∷ h) sent moves read (before, after, older, newer, f, hears, is, split, first) next = (
    before,
    after ++ read ∷ [],
    older,
    newer,
    f,
    hears,
    ap (λ ms. Sent read ∷ ms) is ∙ sym (sends_more after newer),
    ap (λ rs. rs ++ read ∷ []) split ∙ append_assoc before after (read ∷ []),
    next,
  )
    where
      sends_more : (xs : List Read) (ms : List Move) → sends (xs ++ read ∷ []) ms ≡ Sent read ∷ sends xs ms
      sends_more [] ms = refl
      sends_more (x ∷ xs) ms = sends_more xs (Sent x ∷ ms)

  -- an entry whose replies are heard with nothing sent in between
  pub follows_entry : (ahead h : List Entry) (e : Entry) (sent : List Read) (older newer : List Move)
      → Follows l service (ahead ++ e ∷ []) h (call_of service e ++ sent) older
      → AreHeard (entry_replies l service (all_heard service h) (heard service e)) older newer → AreFirst sent (calls service ahead)
      → Follows l service ahead (e ∷ h) sent newer
  follows_entry ahead h e sent older newer f hears first =
      (sent, [], older, newer, f, hears, refl, sym (append-nil sent), first)

  -- what is ahead may be more
  pub follows_ahead : (later : Entry) (ahead h : List Entry) (sent : List Read) (moves : List Move) → Follows l service ahead h sent moves
      → Follows l service (later ∷ ahead) h sent moves
  follows_ahead later ahead [] sent moves (is, first) = (is, first_more first)
    where
      first_more : AreFirst sent (calls service ahead) → AreFirst sent (calls service (later ∷ ahead))
      first_more f = (f.0 ++ call_of service later, ap (λ rs. rs ++ call_of service later) f.1 ∙ append_assoc sent f.0 (call_of service later))
  follows_ahead later ahead (e ∷ h) sent moves (before, after, older, newer, f, hears, is, split, first) = (
    before,
    after,
    older,
    newer,
    follows_ahead later (ahead ++ e ∷ []) h (call_of service e ++ before) older f,
    hears,
    is,
    split,
    first_more first,
  )
    where
      first_more : AreFirst sent (calls service ahead) → AreFirst sent (calls service (later ∷ ahead))
      first_more f = (f.0 ++ call_of service later, ap (λ rs. rs ++ call_of service later) f.1 ∙ append_assoc sent f.0 (call_of service later))

  pub first_of : (ahead h : List Entry) (sent : List Read) (moves : List Move) → Follows l service ahead h sent moves → AreFirst sent (calls service ahead)
  first_of ahead [] sent moves (is, first) = first
  first_of ahead (e ∷ h) sent moves (before, after, older, newer, f, hears, is, split, first) = first

  -- what was sent begins with the call that comes next
  pub record CallFirst (next : List Entry) (e : Entry) (sent : List Read) : Type 0 where
    pub more : List Read
    pub split : sent ≡ call_of service e ++ more
    pub first : AreFirst more (calls service (ahead_of next))

  pub call_first : (next : List Entry) (e : Entry) (sent : List Read) → AreFirst sent (calls service (ahead_of (e ∷ next)))
      → ((chunks : List (List ℕ)) → e ≡ entry.Call chunks → 0 < length sent) → CallFirst next e sent
  call_first next (entry.Call c) [] first some = absurd (let lt = some c refl in omega (arith, lt))
  call_first next (entry.Call c) (r ∷ sent) first some =
      let whole_calls : asked (mode_of service) c ∷ calls service (ahead_of next) ≡ r ∷ (sent ++ first.0) =
      sym (calls_both service (ahead_of next) (entry.Call c ∷ [])) ∙ first.1 in
      let same : asked (mode_of service) c ≡ r = cc in
      let rest : calls service (ahead_of next) ≡ sent ++ first.0 = cc in
      record { more = sent; split = ap (λ x. x ∷ sent) (sym same); first = (first.0, rest) }
  call_first next (entry.Claimed w p) sent first some =
      record { more = sent; split = refl; first = (first.0, sym (calls_both service (ahead_of next) (entry.Claimed w p ∷ [])) ∙ first.1) }
  call_first next (entry.Finished w p) sent first some =
      record { more = sent; split = refl; first = (first.0, sym (calls_both service (ahead_of next) (entry.Finished w p ∷ [])) ∙ first.1) }
  call_first next (entry.Dropped w p) sent first some =
      record { more = sent; split = refl; first = (first.0, sym (calls_both service (ahead_of next) (entry.Dropped w p ∷ [])) ∙ first.1) }
  call_first next entry.Ended sent first some =
      record { more = sent; split = refl; first = (first.0, sym (calls_both service (ahead_of next) (entry.Ended ∷ [])) ∙ first.1) }

  -- where an editor stands in a history
  pub record StandsAt (history : List Entry) (reads : List Read) (ts : List Told) (moves : List Move) : Type 0 where
    pub next : List Entry
    pub h : List Entry
    pub sent : List Read
    pub is : history ≡ whole next h
    pub follows : Follows l service (ahead_of next) h sent moves
    pub tells : all_replies l service h ≡ ts
    pub calls_are : reads ≡ calls service h ++ sent
    pub newest : (e : Entry) (older : List Entry) → h ≡ e ∷ older → 0 < length (entry_replies l service (all_heard service older) (heard service e))

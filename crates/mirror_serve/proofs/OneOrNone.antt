-- What is heard of a front of one reply: the reply, or nothing yet.
use Rattle.std.proofs.Common.{◌≡◌, ◌⊎◌, inl, inr, ℕ, List, [], ◌∷◌, ◌++◌, length, Some, refl, sym, ap, subst, ◌∙◌, append-nil, append_assoc, arith, ◌+◌}
use Rattle.std.proofs.lemmas.List.{append_cancel_left, length-append}
use Rattle.byte_message.specs.Stream.{Ending, IsMessage, IsReadAs}
use Rattle.byte_message.specs.Stream.Ending.{Whole, Bad}
use Rattle.byte_message.specs.declared.frame_fault.FrameFault.{FrameFault}
use Rattle.byte_message.specs.Stream.{plain_spelling, told_place}
use Rattle.message_values.specs.declared.mode.Mode.{Mode}
use Rattle.reply_messages.specs.declared.told.Told.{Told}
use Rattle.reply_messages.specs.Replies.{reply_chunks}
use Rattle.reply_messages.specs.FoundReplies.{FindsReply, IsReply}
use Rattle.mirror_rules.specs.Events.{AreHeard, AreMoves, Fed, heard_moves, stream}
use Rattle.mirror_rules.specs.Moves.{Move, Sent, Heard, Broken}
use Rattle.mirror_rules.proofs.KnownMoves.{heard_both}
use Rattle.editor_laws.proofs.KnownReadings.{HeardAs, StreamLaws, heard_read, spelled_more, spelled_moves}
use Rattle.pide_mirror.specs.Feeding.{HearsFront}
use Rattle.pide_mirror.specs.Hearing.{HasHeard, Hearing, told_moves}
use Rattle.mirror_serve.specs.Resting.{IsBetween}
use Rattle.mirror_serve.proofs.HeardCounts.{heard_count, last_one}
use Rattle.mirror_serve.proofs.OneHeard.{OneWay}

module _ (laws : StreamLaws) (one : OneWay) (mode : Mode) (old new : Hearing) (b : IsBetween mode old) (told : Told)
    (message : IsMessage (reply_chunks told)) (reply : IsReply told) (f : HearsFront old (plain_spelling (reply_chunks told)) new) where
  abbrev so_far : List ℕ
  so_far = stream b.events

  abbrev before : List Move
  before = b.heard.moves

  abbrev chunks : List (List ℕ)
  chunks = reply_chunks told

  abbrev messages : List (List (List ℕ))
  messages = (spelled_moves so_far (heard_moves before) b.whole).0

  read_so_far : IsReadAs so_far messages Whole
  read_so_far = record {
    front = so_far;
    rest = [];
    whole = sym (append-nil so_far);
    spelled = (spelled_moves so_far (heard_moves before) b.whole).1;
    ends = refl;
  }

  -- all of the reply is one message more
  read_whole : IsReadAs ((so_far ++ f.front) ++ f.rest) (messages ++ chunks ∷ []) Whole
  read_whole =
      let bytes : so_far ++ plain_spelling chunks ≡ (so_far ++ f.front) ++ f.rest = ap (λ bs. so_far ++ bs) f.whole ∙ sym (append_assoc so_far f.front f.rest) in
      subst (λ s. IsReadAs s (messages ++ chunks ∷ []) Whole) bytes (record {
        front = so_far ++ plain_spelling chunks;
        rest = [];
        whole = sym (append-nil (so_far ++ plain_spelling chunks));
        spelled = spelled_more so_far (plain_spelling chunks) messages chunks (spelled_moves so_far (heard_moves before) b.whole).1 (laws.spelled chunks message);
        ends = refl;
      })

  -- a front of it is the message or none
  module _ (found : List (List (List ℕ))) (ending : Ending) (read : IsReadAs (so_far ++ f.front) found ending) where
    abbrev more : List (List (List ℕ))
    more = (laws.longer so_far f.front messages Whole read_so_far).0

    abbrev rest : List (List (List ℕ))
    rest = (laws.longer (so_far ++ f.front) f.rest found ending read).0

    found_are : found ≡ messages ++ more
    found_are = let l = laws.longer so_far f.front messages Whole read_so_far in
        (laws.one (so_far ++ f.front) found (messages ++ more) ending l.1 read l.2).0

    both_are : more ++ rest ≡ chunks ∷ []
    both_are =
        let l = laws.longer (so_far ++ f.front) f.rest found ending read in
        let all = (laws.one ((so_far ++ f.front) ++ f.rest) (found ++ rest) (messages ++ chunks ∷ []) l.1 Whole l.2 read_whole).0 in
        append_cancel_left messages (more ++ rest) (chunks ∷ [])
        (sym (append_assoc messages more rest) ∙ ap (λ ms. ms ++ rest) (sym found_are) ∙ all)

  abbrev IsOneOrNone : List Move → Type 0
  IsOneOrNone newer = (newer ≡ []) ⊎ ((at : ℕ) × (newer ≡ Heard at (Some told) ∷ []))

  as_found : (newer : List Move) (more rest : List (List (List ℕ))) → more ++ rest ≡ chunks ∷ [] → HeardAs (newer ++ heard_moves before) (messages ++ more) → IsOneOrNone newer
  as_found newer (c ∷ d ∷ more) rest both heard_as = let no : ⊥ = cc in absurd no
  as_found [] more rest both heard_as = inl refl
  as_found (m ∷ newer) [] rest both heard_as =
      let n = heard_count (m ∷ (newer ++ heard_moves before)) (messages ++ []) heard_as in
      let k = heard_count (heard_moves before) messages (spelled_moves so_far (heard_moves before) b.whole).2 in
      let p = length-append newer (heard_moves before) in
      let q : length (messages ++ []) ≡ length messages = ap length (append-nil messages) in
      absurd (omega (arith, n, k, p, q))
  as_found (m ∷ x ∷ newer) (c ∷ []) rest both heard_as =
      let n = heard_count (m ∷ x ∷ (newer ++ heard_moves before)) (messages ++ c ∷ []) heard_as in
      let k = heard_count (heard_moves before) messages (spelled_moves so_far (heard_moves before) b.whole).2 in
      let p = length-append newer (heard_moves before) in
      let q : length (messages ++ c ∷ []) ≡ length messages + 1 = length-append messages (c ∷ []) in
      absurd (omega (arith, n, k, p, q))
  as_found (Sent read ∷ []) (c ∷ []) rest both heard_as = absurd heard_as
  as_found (Broken fault ∷ []) (c ∷ []) rest both heard_as = absurd heard_as
  as_found (Heard at found ∷ []) (c ∷ []) rest both (earlier, last, split, finds, older) =
      let k = heard_count (heard_moves before) messages (spelled_moves so_far (heard_moves before) b.whole).2 in
      let n = heard_count (heard_moves before) earlier older in
      let same : c ≡ last = last_one messages earlier c last split (omega (arith, k, n)) in
      let is : c ≡ chunks = cc in
      let told_so : found ≡ Some told = laws.back told found reply (subst (λ x. FindsReply x found) (sym same ∙ is) finds) in
      inr (at, ap (λ o. Heard at o ∷ []) told_so)

  abbrev r : HasHeard (Fed f.front ∷ b.events) new
  r = f.hears.heard b.events b.heard

  newer_so : (newer : List Move) → AreHeard (so_far ++ f.front) (newer ++ heard_moves before) → IsOneOrNone newer
  newer_so newer heard = go (heard_read (so_far ++ f.front) (newer ++ heard_moves before) heard)
    where
      go : ((found : List (List (List ℕ))) × (ending : Ending) × IsReadAs (so_far ++ f.front) found ending × HeardAs (newer ++ heard_moves before) found)
          ⊎ ((found : List (List (List ℕ))) × (fault : FrameFault) × IsReadAs (so_far ++ f.front) found (Bad fault)) → IsOneOrNone newer
      go (inl (found, ending, read, heard_as)) =
          as_found newer (more found ending read) (rest found ending read) (both_are found ending read)
          (subst (HeardAs (newer ++ heard_moves before)) (found_are found ending read) heard_as)
      go (inr (found, fault, read)) =
          let no : Whole ≡ Bad fault = (laws.one ((so_far ++ f.front) ++ f.rest) (messages ++ chunks ∷ []) found Whole (Bad fault) read_whole
          (laws.bad (so_far ++ f.front) f.rest found fault read)).1 in
          let never : ⊥ = cc in absurd never

  -- so it is in the mirror's moves
  pub one_or_none : (new.moves ≡ old.moves) ⊎ ((at : ℕ) × (new.moves ≡ Heard at (Some told) ∷ old.moves))
  one_or_none = go (newer_so r.come.1 (subst (AreHeard (so_far ++ f.front)) heard r.come.5))
    where
      earlier : r.come.0 ≡ before
      earlier = one old.mode b.events r.come.0 before (subst (λ m. AreMoves m b.events r.come.0) f.hears.mode r.come.4) b.heard.come

      all : r.moves ≡ r.come.1 ++ before
      all = r.come.2 ∙ ap (λ ms. r.come.1 ++ ms) earlier

      heard : heard_moves r.moves ≡ r.come.1 ++ heard_moves before
      heard = ap heard_moves all ∙ heard_both r.come.1 before ∙ ap (λ ms. ms ++ heard_moves before) r.come.3

      go : IsOneOrNone r.come.1 → (new.moves ≡ old.moves) ⊎ ((at : ℕ) × (new.moves ≡ Heard at (Some told) ∷ old.moves))
      go (inl none) = inl (r.noted ∙ ap told_moves (all ∙ ap (λ ms. ms ++ before) none) ∙ sym b.heard.noted)
      go (inr (at, is)) = inr (
        told_place at,
        r.noted ∙ ap told_moves (all ∙ ap (λ ms. ms ++ before) is) ∙ ap (λ ms. Heard (told_place at) (Some told) ∷ ms) (sym b.heard.noted),
      )

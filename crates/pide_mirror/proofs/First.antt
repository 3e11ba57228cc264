-- What is heard up to the first message of a piece.
use Rattle.std.proofs.Common.{◌≡◌, ℕ, ◌<◌, ◌⊎◌, inl, inr, List, [], ◌∷◌, ◌++◌, length, take, drop, Option, Some, None, Result, Ok, Err, refl, ap, sym, subst, ◌∙◌, arith}
use Rattle.std.specs.Result.{IsErrAnd}
use Rattle.std.proofs.lemmas.List.{append-nil, take_all, take-append-drop}
use Rattle.byte_message.specs.First.{LeadsOn, MakesWhole, StaysShort, TurnsBad}
use Rattle.byte_message.specs.Stream.{placed_fault}
use Rattle.byte_message.specs.Kept.{Framing}
use Rattle.byte_message.specs.declared.frame_fault.FrameFault.{FrameFault}
use Rattle.reply_messages.specs.FoundReplies.{FindsReply}
use Rattle.mirror_rules.specs.Moves.{Heard, Broken}
use Rattle.pide_mirror.specs.Feeding.{FeedsFirst, FeedsSo, Hears, HearsFront, HearsAt, HearsReply}
use Rattle.pide_mirror.specs.Hearing.{Hearing}
use Rattle.pide_mirror.specs.declared.error.MirrorError.{MirrorError}
use Rattle.pide_mirror.specs.declared.error.MirrorError.TheVariants.{Fault, NoMemory}
use Rattle.pide_mirror.specs.declared.mirror.Taken.{Taken}
use Rattle.pide_mirror.proofs.Hearing.{hears_short, hears_whole, hears_broken}
use Rattle.pide_mirror.proofs.Joining.{hears_nothing}

-- nothing is heard for want of memory
pub stopped : (old new : Hearing) (piece : List ℕ) → old.ended ≡ None → (new.ended ≡ None → ⊥) → new.mode ≡ old.mode → new.moves ≡ old.moves
    → HearsFront old piece new
stopped old new piece going ended mode moves = record {
  front = [];
  rest = piece;
  whole = refl;
  count = 0;
  hears = hears_nothing old new going mode moves (λ still. absurd (ended still));
}

module _ (old new : Hearing) (piece : List ℕ) (used : ℕ) (mid after : Framing) (going : old.ended ≡ None) (waiting : old.frames.waiting ≡ [])
    (leads : LeadsOn old.frames piece mid used) where
  -- a message that was made is heard
  pub first_heard : (at : ℕ) (message : List (List ℕ)) → mid ≡ record after { waiting = message ∷ after.waiting } → at ≡ old.frames.at
      → (ended : Option MirrorError) → HearsAt (record old { frames = after }) at message new ended
      → (0 < used) × Hears old (take used piece) 1 new
  first_heard at message next at_is ended hears = go leads.1
    where
      none : mid.waiting ≡ [] → ⊥
      none is = let both : message ∷ after.waiting ≡ [] = ap (λ (f : Framing). f.waiting) (sym next) ∙ is in absurd (cc)

      go : (0 < used × MakesWhole old.frames (take used piece) mid)
          ⊎ (used ≡ length piece × (StaysShort old.frames piece mid ⊎ TurnsBad old.frames piece mid))
          → (0 < used) × Hears old (take used piece) 1 new
      go (inr (all, inl short)) = absurd (none (short.waiting ∙ waiting))
      go (inr (all, inr bad)) = absurd (none (bad.waiting ∙ waiting))
      go (inl (some, whole)) =
          let both : message ∷ after.waiting ≡ whole.message ∷ [] = ap (λ (f : Framing). f.waiting) (sym next) ∙ whole.waiting ∙ ap (λ ms. ms ++ whole.message ∷ []) waiting in
          let same : message ≡ whole.message = cc in (
            some,
            hears_whole old new going (ap (λ (h : Hearing). h.mode) hears.new_is) (take used piece) hears.reply mid whole
                (subst (λ m. FindsReply m hears.reply) same hears.finds)
                (ap (λ (h : Hearing). h.moves) hears.new_is ∙ ap (λ n. Heard n hears.reply ∷ old.moves) at_is)
                (ap (λ (h : Hearing). h.frames.rest) hears.new_is ∙ ap (λ (f : Framing). f.rest) (sym next))
                (ap (λ (h : Hearing). h.frames.at) hears.new_is ∙ ap (λ (f : Framing). f.at) (sym next)),
          )

  -- where there was none, nothing is
  pub none_heard : mid.waiting ≡ [] → mid.fault ≡ None → after ≡ mid → new ≡ record old { frames = after }
      → (0 < length piece → 0 < used) × Hears old (take used piece) 0 new
  none_heard none fault next is = go leads.1
    where
      go : (0 < used × MakesWhole old.frames (take used piece) mid)
          ⊎ (used ≡ length piece × (StaysShort old.frames piece mid ⊎ TurnsBad old.frames piece mid))
          → (0 < length piece → 0 < used) × Hears old (take used piece) 0 new
      go (inl (some, whole)) =
          let both : whole.message ∷ [] ≡ [] = sym (ap (λ ms. ms ++ whole.message ∷ []) waiting) ∙ sym whole.waiting ∙ none in absurd (cc)
      go (inr (all, inr bad)) = let both : None ≡ Some (placed_fault old.frames.at bad.wrong) = sym fault ∙ bad.fault in absurd (cc)
      go (inr (all, inl short)) = (
        λ some. subst (λ n. 0 < n) (sym all) some,
        subst (λ bs. Hears old bs 0 new) (sym (take_all used piece (omega (arith, all))))
            (hears_short old new going (ap (λ (h : Hearing). h.mode) is) piece (ap (λ (h : Hearing). h.moves) is)
            (subst (λ (f : Framing). StaysShort old.frames piece f) (sym (ap (λ (h : Hearing). h.frames) is ∙ next)) short)),
      )

  -- what is heard of a front is heard of the piece up to there
  pub front_heard : (n : ℕ) → Hears old (take used piece) n new → HearsFront old piece new
  front_heard n hears = record {
    front = take used piece;
    rest = drop used piece;
    whole = sym (take-append-drop used piece);
    count = n;
    hears = hears;
  }

  -- behind what isn't expected nothing more is taken, nor for want of memory
  pub ended_heard : (at : ℕ) (message : List (List ℕ)) → mid ≡ record after { waiting = message ∷ after.waiting } → at ≡ old.frames.at
      → (error : MirrorError) → HearsReply (record old { frames = after }) at message new (Err error)
      → HearsFront old piece new × (new.ended ≡ Some error)
  ended_heard at message next at_is (Fault fault) hears = (
    front_heard 1 (first_heard at message next at_is (Some (Fault fault)) hears).1,
    ap (λ (h : Hearing). h.ended) hears.new_is,
  )
  ended_heard at message next at_is NoMemory is = (
    stopped old new piece going (λ still. let both : None ≡ Some NoMemory = sym still ∙ ap (λ (h : Hearing). h.ended) is in absurd (cc))
        (ap (λ (h : Hearing). h.mode) is) (ap (λ (h : Hearing). h.moves) is),
    ap (λ (h : Hearing). h.ended) is,
  )

-- a line that isn't fit ends all
pub broken_heard : (old new : Hearing) (piece : List ℕ) (frames : Framing) (fault : FrameFault) → old.ended ≡ None → old.frames.fault ≡ None
    → frames.fault ≡ Some fault → (frames ≡ old.frames) ⊎ TurnsBad old.frames piece frames → new.mode ≡ old.mode → new.moves ≡ Broken fault ∷ old.moves
    → (new.ended ≡ None → ⊥) → HearsFront old piece new
broken_heard old new piece frames fault going clear is (inl same) mode moves ended =
    let both : None ≡ Some fault = sym clear ∙ ap (λ (f : Framing). f.fault) (sym same) ∙ is in absurd (cc)
broken_heard old new piece frames fault going clear is (inr bad) mode moves ended = record {
  front = piece;
  rest = [];
  whole = sym (append-nil piece);
  count = 1;
  hears = hears_broken old new going mode piece fault frames bad is moves ended;
}

module _ (old new : Hearing) (piece : List ℕ) (error : MirrorError) (so : HearsFront old piece new × (new.ended ≡ Some error)) where
  -- an error that is passed on ends a message
  pub first_passed : (r : Result Taken MirrorError) → IsErrAnd r (λ shown. shown ≡ error) → FeedsFirst old piece new r
  first_passed (Ok taken) is = absurd is
  first_passed (Err shown) is = (so.0, so.1 ∙ ap (λ e. Some e) (sym is))

  -- so it ends a piece
  pub piece_passed : (r : Result ℕ MirrorError) → IsErrAnd r (λ shown. shown ≡ error) → FeedsSo old piece new r
  piece_passed (Ok count) is = absurd is
  piece_passed (Err shown) is = (so.0, so.1 ∙ ap (λ e. Some e) (sym is))

-- The messages that were heard are the first replies of a history.
use Rattle.std.proofs.Common.{◌≡◌, ℕ, List, [], ◌∷◌, ◌++◌, length, map, Some, refl, ap, sym, subst, ◌∙◌, append-nil, arith, ◌+◌}
use Rattle.std.specs.List.{AllByRecursion}
use Rattle.std.proofs.lemmas.List.{length-append, length-map}
use Rattle.reply_messages.specs.declared.told.Told.{Told}
use Rattle.reply_messages.specs.Replies.{reply_chunks}
use Rattle.reply_messages.specs.FoundReplies.{FindsReply}
use Rattle.mirror_rules.specs.Moves.{Move, Sent, Heard, Broken}
use Rattle.editor_laws.specs.Streams.{CanBeHeard}
use Rattle.editor_laws.proofs.KnownReadings.{HeardAs, StreamLaws}

-- what moves heard, in words of what was told
abbrev pub HeardTold : List Move → List Told → Type 0
HeardTold [] ts = ts ≡ []
HeardTold (Heard at reply ∷ moves) ts = (before : List Told) × (t : Told) × (ts ≡ before ++ t ∷ []) × (reply ≡ Some t) × HeardTold moves before
HeardTold (move ∷ moves) ts = ⊥

-- a list whose images are cut somewhere
split_map : (ts : List Told) (xs : List (List (List ℕ))) (y : List (List ℕ)) (zs : List (List (List ℕ))) → map reply_chunks ts ≡ (xs ++ y ∷ []) ++ zs
    → (f : List Told) × (t : Told) × (r : List Told) × (ts ≡ (f ++ t ∷ []) ++ r) × (map reply_chunks f ≡ xs) × (reply_chunks t ≡ y)
split_map [] [] y zs e = absurd (cc)
split_map [] (x ∷ xs) y zs e = absurd (cc)
split_map (t ∷ ts) [] y zs e = ([], t, ts, refl, refl, cc)
split_map (t ∷ ts) (x ∷ xs) y zs e =
    let first : reply_chunks t ≡ x = cc in
    let rest : map reply_chunks ts ≡ (xs ++ y ∷ []) ++ zs = cc in
    let r = split_map ts xs y zs rest in
    (t ∷ r.0, r.1, r.2, ap (λ us. t ∷ us) r.3, ap (λ u. u ∷ map reply_chunks r.0) first ∙ ap (λ us. x ∷ us) r.4, r.5)

pub all_front : (f r : List Told) → AllByRecursion CanBeHeard (f ++ r) → AllByRecursion CanBeHeard f × AllByRecursion CanBeHeard r
all_front [] r all = (tt, all)
all_front (t ∷ f) r all = let p = all_front f r all.1 in ((all.0, p.0), p.1)

-- the messages that were heard are the first replies
pub heard_told : StreamLaws → (moves : List Move) (messages more : List (List (List ℕ))) (ts : List Told) → AllByRecursion CanBeHeard ts
    → HeardAs moves messages → map reply_chunks ts ≡ messages ++ more
    → (f : List Told) × (r : List Told) × (ts ≡ f ++ r) × HeardTold moves f × (length messages ≡ length f)
heard_told laws [] messages more ts all heard same = ([], ts, refl, refl, ap length heard)
heard_told laws (Sent read ∷ moves) messages more ts all heard same = absurd heard
heard_told laws (Broken fault ∷ moves) messages more ts all heard same = absurd heard
heard_told laws (Heard at reply ∷ moves) messages more ts all (before, message, split, finds, older) same =
    let s = split_map ts before message more (same ∙ ap (λ ms. ms ++ more) split) in
    let parts = all_front (s.0 ++ s.1 ∷ []) s.2 (subst (AllByRecursion CanBeHeard) s.3 all) in
    let mine = all_front s.0 (s.1 ∷ []) parts.0 in
    let i = heard_told laws moves before [] s.0 mine.0 older (s.4 ∙ sym (append-nil before)) in
    let none : i.1 ≡ [] = nothing_left i.0 i.1 s.0 i.2 (sym i.4 ∙ sym (ap length s.4) ∙ long s.0) in
    let whole : s.0 ≡ i.0 = i.2 ∙ ap (λ r. i.0 ++ r) none ∙ append-nil i.0 in (
      s.0 ++ s.1 ∷ [],
      s.2,
      s.3,
      (s.0, s.1, refl, laws.back s.1 reply mine.1.0.reply (subst (λ m. FindsReply m reply) (sym s.5) finds), subst (HeardTold moves) (sym whole) i.3),
      ap length split ∙ length-append before (message ∷ []) ∙ ap (λ n. n + 1) (sym (ap length s.4) ∙ long s.0) ∙ sym (length-append s.0 (s.1 ∷ [])),
    )
  where
    long : (us : List Told) → length (map reply_chunks us) ≡ length us
    long us = length-map us reply_chunks

    nothing_left : (f r us : List Told) → us ≡ f ++ r → length f ≡ length us → r ≡ []
    nothing_left f [] us e n = refl
    nothing_left f (x ∷ r) us e n =
        let l = length-append f (x ∷ r) in
        let k : length us ≡ length (f ++ x ∷ r) = ap length e in absurd (omega (arith, l, k, n))

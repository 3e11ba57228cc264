-- Bytes are heard in one way.
use Rattle.std.proofs.Common.{◌≡◌, ◌⊎◌, inl, inr, ℕ, List, [], ◌∷◌, ◌++◌, length, Option, Some, None, refl, ap, sym, subst, ◌∙◌, append_assoc, append-nil}
use Rattle.std.proofs.lemmas.List.{append_cancel_left}
use Rattle.byte_message.specs.Stream.{AreSpelled, Ending, EndsAs, IsReadAs, placed_fault, told_place}
use Rattle.byte_message.specs.Stream.Ending.{Whole, Bad, Short}
use Rattle.byte_message.proofs.KnownSpelled.{spelled-append}
use Rattle.reply_messages.specs.declared.told.Told.{Told}
use Rattle.reply_messages.specs.Replies.{reply_chunks}
use Rattle.reply_messages.specs.FoundReplies.{FindsReply, IsReply}
use Rattle.mirror_rules.specs.Events as events
use Rattle.mirror_rules.specs.Moves.{Move, Sent, Heard, Broken}
use Rattle.editor_laws.proofs.KnownReadings.{spelled_moves}

-- streams have one reading, and each has one; chunks are those of one reply
pub record HearingLaws : Type 0 where
  pub one : (stream : List ℕ) (messages others : List (List (List ℕ))) (ending end : Ending) → IsReadAs stream messages ending
      → IsReadAs stream others end → (messages ≡ others) × (ending ≡ end)
  pub every : (stream : List ℕ) → (messages : List (List (List ℕ))) × (ending : Ending) × IsReadAs stream messages ending
  pub reply : (told other : Told) → IsReply told → IsReply other → reply_chunks told ≡ reply_chunks other → told ≡ other

-- an ending from a later place on
later : (place : ℕ) (rest : List ℕ) (from : ℕ) (ending : Ending) → EndsAs from rest ending
    → (end : Ending) × EndsAs place rest end × (end ≡ Whole → ending ≡ Whole)
later place rest from Whole ends = (Whole, ends, λ e. refl)
later place rest from (Bad fault) (wrong, bad, is) = (Bad (placed_fault (told_place place) wrong), (wrong, bad, refl), λ e. absurd (let no_end : ⊥ = cc in no_end))
later place rest from (Short at) (some, short, is) = (Short (told_place place), (some, short, refl), λ e. absurd (let no_end : ⊥ = cc in no_end))

fronts : (a b r s : List ℕ) → a ++ r ≡ b ++ s → ((d : List ℕ) × (b ≡ a ++ d)) ⊎ ((d : List ℕ) × (a ≡ b ++ d))
fronts [] b r s e = inl (b, refl)
fronts (x ∷ a) [] r s e = inr (x ∷ a, refl)
fronts (x ∷ a) (y ∷ b) r s e =
    let first : x ≡ y = cc in
    let rest : a ++ r ≡ b ++ s = cc in go first (fronts a b r s rest)
  where
    go : x ≡ y → ((d : List ℕ) × (b ≡ a ++ d)) ⊎ ((d : List ℕ) × (a ≡ b ++ d)) → ((d : List ℕ) × (y ∷ b ≡ x ∷ a ++ d)) ⊎ ((d : List ℕ) × (x ∷ a ≡ y ∷ b ++ d))
    go first (inl (d, e)) = inl (d, ap (λ z. z ∷ b) (sym first) ∙ ap (λ zs. x ∷ zs) e)
    go first (inr (d, e)) = inr (d, ap (λ z. z ∷ a) first ∙ ap (λ zs. y ∷ zs) e)

module _ (laws : HearingLaws) where
  whole_read : (bytes : List ℕ) (ms : List (List (List ℕ))) → AreSpelled bytes ms → IsReadAs bytes ms Whole
  whole_read bytes ms are = record { front = bytes; rest = []; whole = sym (append-nil bytes); spelled = are; ends = refl }

  -- nothing stands behind messages that are all of the bytes
  nothing_behind : (front d : List ℕ) (ms : List (List (List ℕ))) → AreSpelled front ms → AreSpelled (front ++ d) ms → d ≡ []
  nothing_behind front d ms are all =
      let every = laws.every d in
      let r : IsReadAs d every.0 every.1 = every.2 in
      let end = later (length (front ++ r.front)) r.rest (length r.front) every.1 r.ends in
      let both = laws.one (front ++ d) (ms ++ every.0) ms end.0 Whole (record {
        front = front ++ r.front;
        rest = r.rest;
        whole = ap (λ b. front ++ b) r.whole ∙ sym (append_assoc front r.front r.rest);
        spelled = spelled-append front r.front ms every.0 are r.spelled;
        ends = end.1;
      }) (whole_read (front ++ d) ms all) in
      let none : every.0 ≡ [] = append_cancel_left ms every.0 [] (both.0 ∙ sym (append-nil ms)) in
      let empty : r.front ≡ [] = subst (AreSpelled r.front) none r.spelled in
      let rest : r.rest ≡ [] = subst (EndsAs (length r.front) r.rest) (end.2 both.1) r.ends in
      r.whole ∙ ap (λ b. b ++ r.rest) empty ∙ rest

  -- so the same messages at the front of the same bytes have the same length
  same_front : (a b r s : List ℕ) (ms ns : List (List (List ℕ))) → a ++ r ≡ b ++ s → AreSpelled a ms → AreSpelled b ns → ms ≡ ns → a ≡ b
  same_front a b r s ms ns e are all same = go (fronts a b r s e)
    where
      all_ms : AreSpelled b ms
      all_ms = subst (AreSpelled b) (sym same) all

      go : ((d : List ℕ) × (b ≡ a ++ d)) ⊎ ((d : List ℕ) × (a ≡ b ++ d)) → a ≡ b
      go (inl (d, split)) = sym (append-nil a)
          ∙ ap (λ z. a ++ z) (sym (nothing_behind a d ms are (subst (λ z. AreSpelled z ms) split all_ms))) ∙ sym split
      go (inr (d, split)) = split ∙ ap (λ z. b ++ z) (nothing_behind b d ms all_ms (subst (λ z. AreSpelled z ms) split are)) ∙ append-nil b

  one_found : (chunks : List (List ℕ)) (a b : Option Told) → FindsReply chunks a → FindsReply chunks b → a ≡ b
  one_found chunks None None x y = refl
  one_found chunks (Some t) (Some u) x y = ap (λ z. Some z) (laws.reply t u x.0 y.0 (x.1 ∙ sym y.1))
  one_found chunks None (Some u) x y = absurd (x u y.0 y.1)
  one_found chunks (Some t) None x y = absurd (y t x.0 x.1)

  last_same : {A : Type 0} (xs ys : List A) (x y : A) → xs ++ x ∷ [] ≡ ys ++ y ∷ [] → (xs ≡ ys) × (x ≡ y)
  last_same [] [] x y e = (refl, cc)
  last_same [] (z ∷ []) x y e = absurd (cc)
  last_same [] (z ∷ w ∷ ys) x y e = absurd (cc)
  last_same (z ∷ []) [] x y e = absurd (cc)
  last_same (z ∷ w ∷ xs) [] x y e = absurd (cc)
  last_same (z ∷ xs) (w ∷ ys) x y e =
      let first : z ≡ w = cc in
      let rest : xs ++ x ∷ [] ≡ ys ++ y ∷ [] = cc in
      let r = last_same xs ys x y rest in
      (ap (λ v. v ∷ xs) first ∙ ap (λ vs. w ∷ vs) r.0, r.1)

  -- whole messages are heard in one way
  pub one_spelling : (a b r s : List ℕ) (xs ys : List Move) → a ++ r ≡ b ++ s → (x : events.AreSpelled a xs) (y : events.AreSpelled b ys)
      → (spelled_moves a xs x).0 ≡ (spelled_moves b ys y).0 → xs ≡ ys
  one_spelling a b r s [] [] e x y same = refl
  one_spelling a b r s (Sent read ∷ xs) ys e x y same = absurd x
  one_spelling a b r s (Broken fault ∷ xs) ys e x y same = absurd x
  one_spelling a b r s [] (Sent read ∷ ys) e x y same = absurd y
  one_spelling a b r s [] (Broken fault ∷ ys) e x y same = absurd y
  one_spelling a b r s (Heard at reply ∷ xs) (Sent read ∷ ys) e x y same = absurd y
  one_spelling a b r s (Heard at reply ∷ xs) (Broken fault ∷ ys) e x y same = absurd y
  one_spelling a b r s [] (Heard at reply ∷ ys) e x (before, front, m, split, is, finds, place, more) same =
      absurd (empty (spelled_moves before ys more).0 m same)
    where
      empty : (ms : List (List (List ℕ))) (m : List (List ℕ)) → [] ≡ ms ++ m ∷ [] → ⊥
      empty [] m e = absurd (cc)
      empty (n ∷ ms) m e = absurd (cc)
  one_spelling a b r s (Heard at reply ∷ xs) [] e (before, front, m, split, is, finds, place, more) y same =
      absurd (empty (spelled_moves before xs more).0 m same)
    where
      empty : (ms : List (List (List ℕ))) (m : List (List ℕ)) → ms ++ m ∷ [] ≡ [] → ⊥
      empty [] m e = absurd (cc)
      empty (n ∷ ms) m e = absurd (cc)
  one_spelling a b r s (Heard at reply ∷ xs) (Heard on other ∷ ys) e (before, front, m, split, is, finds, place, more) (older, last, n, cut, so, found, there, rest) same =
      let i = spelled_moves before xs more in
      let j = spelled_moves older ys rest in
      let parts = last_same i.0 j.0 m n same in
      let stream : before ++ (front ++ r) ≡ older ++ (last ++ s) =
      sym (append_assoc before front r) ∙ ap (λ z. z ++ r) (sym split) ∙ e ∙ ap (λ z. z ++ s) cut ∙ append_assoc older last s in
      let place_same : before ≡ older = same_front before older (front ++ r) (last ++ s) i.0 j.0 stream i.1 j.1 parts.0 in
      ap (λ k. Heard k reply ∷ xs) (place ∙ ap length place_same ∙ sym there)
      ∙ ap (λ o. Heard on o ∷ xs) (one_found n reply other (subst (λ c. FindsReply c reply) parts.1 finds) found)
      ∙ ap (λ zs. Heard on other ∷ zs) (one_spelling before older (front ++ r) (last ++ s) xs ys stream more rest parts.0)

-- The next reply of a history, and where an editor stands then.
use Rattle.std.proofs.Common.{◌≡◌, ℕ, ◌<◌, ◌≤◌, List, [], ◌∷◌, ◌++◌, length, Some, refl, ap, sym, subst, ◌∙◌, append_assoc, append-nil, arith}
use Rattle.std.proofs.lemmas.List.{length-append, append_cancel_left}
use Rattle.language.specs.Lang.{Lang}
use Rattle.reply_messages.specs.declared.told.Told.{Told}
use Rattle.session_rules.specs.declared.entry.Entry.{Entry}
use Rattle.session_rules.specs.declared.entry.Entry.TheVariants as entry
use Rattle.session_rules.specs.declared.service.Service.{Service}
use Rattle.session_rules.specs.Heard.{all_heard, heard}
use Rattle.session_rules.specs.Replies.{entry_replies}
use Rattle.mirror_rules.specs.Answers.{Read}
use Rattle.mirror_rules.specs.Moves.{Move, Heard}
use Rattle.editor_laws.specs.Follows.{AreHeard, Follows, call_of, calls}
use Rattle.editor_laws.specs.Streams.{all_replies}
use Rattle.editor_laws.proofs.KnownOneReply.{AtMostOne, one_told}
use Rattle.editor_laws.proofs.KnownWalking.{CallFirst, StandsAt, ahead_of, call_first, first_of, follows_entry, whole}

module _ {S : Type 0} (l : Lang S) (service : Service) where
  -- later entries only add replies
  pub told_front : (next h : List Entry) → (more : List Told) × (all_replies l service (whole next h) ≡ all_replies l service h ++ more)
  told_front [] h = ([], sym (append-nil (all_replies l service h)))
  told_front (e ∷ next) h =
      let r = told_front next (e ∷ h) in
      let own = entry_replies l service (all_heard service h) (heard service e) in
      (own ++ r.0, r.1 ∙ append_assoc (all_replies l service h) own r.0)

  -- so many replies are whole, and no call is unsent before the last of them
  abbrev pub IsLate : List Entry → List Read → ℕ → Type 0
  IsLate history reads n = (next h : List Entry) (chunks : List (List ℕ)) → history ≡ whole next (entry.Call chunks ∷ h)
      → length reads ≤ length (calls service h) → n ≤ length (all_replies l service h)

  module _ (history : List Entry) (reads : List Read) (n : ℕ) (late : IsLate history reads n) (ts rest : List Told) (t : Told) (moves : List Move) (at : ℕ)
      (tells : all_replies l service history ≡ ts ++ t ∷ rest) (more : length ts < n) where
    pub walk : (next h : List Entry) (sent : List Read) → history ≡ whole next h → Follows l service (ahead_of next) h sent moves
        → reads ≡ calls service h ++ sent → all_replies l service h ≡ ts → StandsAt l service history reads (ts ++ t ∷ []) (Heard at (Some t) ∷ moves)
    walk [] h sent is follows reads_are so =
        let e : ts ++ t ∷ rest ≡ ts = sym tells ∙ ap (all_replies l service) is ∙ so in
        let long : length (ts ++ t ∷ rest) ≡ length ts = ap length e in
        let both = length-append ts (t ∷ rest) in
        absurd (omega (arith, long, both))
    walk (e ∷ next) h sent is follows reads_are so =
        go (entry_replies l service (all_heard service h) (heard service e)) refl (one_told l service (all_heard service h) (heard service e))
        (λ more_sent f r s. walk next (e ∷ h) more_sent is f r s)
      where
        some : (chunks : List (List ℕ)) → e ≡ entry.Call chunks → 0 < length sent
        some chunks call = by sent reads_are
          where
            by : (sent : List Read) → reads ≡ calls service h ++ sent → 0 < length sent
            by (r ∷ sent) reads_are = omega arith
            by [] reads_are =
                let long : length reads ≡ length (calls service h) = ap length (reads_are ∙ append-nil (calls service h)) in
                let past = late next h chunks (is ∙ ap (λ x. whole next (x ∷ h)) call) (omega (arith, long)) in
                let count : length (all_replies l service h) ≡ length ts = ap length so in
                absurd (omega (arith, past, count, more))

        c : CallFirst l service next e sent
        c = call_first l service next e sent (first_of l service (ahead_of (e ∷ next)) h sent moves follows) some

        begins : Follows l service (ahead_of next ++ e ∷ []) h (call_of service e ++ c.more) moves
        begins = subst (λ rs. Follows l service (ahead_of next ++ e ∷ []) h rs moves) c.split follows

        sent_on : reads ≡ calls service (e ∷ h) ++ c.more
        sent_on = reads_are ∙ ap (λ rs. calls service h ++ rs) c.split ∙ sym (append_assoc (calls service h) (call_of service e) c.more)

        told_on : (own : List Told) → entry_replies l service (all_heard service h) (heard service e) ≡ own → all_replies l service (e ∷ h) ≡ ts ++ own
        told_on own own_is = ap (λ us. us ++ entry_replies l service (all_heard service h) (heard service e)) so ∙ ap (λ us. ts ++ us) own_is

        go : (own : List Told) → entry_replies l service (all_heard service h) (heard service e) ≡ own → AtMostOne (entry_replies l service (all_heard service h) (heard service e))
            → ((more_sent : List Read) → Follows l service (ahead_of next) (e ∷ h) more_sent moves → reads ≡ calls service (e ∷ h) ++ more_sent
            → all_replies l service (e ∷ h) ≡ ts → StandsAt l service history reads (ts ++ t ∷ []) (Heard at (Some t) ∷ moves))
            → StandsAt l service history reads (ts ++ t ∷ []) (Heard at (Some t) ∷ moves)
        go [] own_is one on = on c.more
            (follows_entry l service (ahead_of next) h e c.more moves moves begins (subst (λ us. AreHeard us moves moves) (sym own_is) refl) c.first)
            sent_on (told_on [] own_is ∙ append-nil ts)
        go (u ∷ v ∷ own) own_is one on =
            let long : length (entry_replies l service (all_heard service h) (heard service e)) ≡ length (u ∷ v ∷ own) = ap length own_is in
            absurd (omega (arith, long, one))
        go (u ∷ []) own_is one on =
            let front = told_front next (e ∷ h) in
            let both : ts ++ t ∷ rest ≡ ts ++ u ∷ front.0 =
            sym tells ∙ ap (all_replies l service) is ∙ front.1 ∙ ap (λ us. us ++ front.0) (told_on (u ∷ []) own_is) ∙ append_assoc ts (u ∷ []) front.0 in
            let cut : t ∷ rest ≡ u ∷ front.0 = append_cancel_left ts (t ∷ rest) (u ∷ front.0) both in
            let same : t ≡ u = cc in
            record {
              next = next;
              h = e ∷ h;
              sent = c.more;
              is = is;
              follows = follows_entry l service (ahead_of next) h e c.more moves (Heard at (Some t) ∷ moves) begins
                  (subst (λ us. AreHeard us moves (Heard at (Some t) ∷ moves)) (sym (own_is ∙ ap (λ x. x ∷ []) (sym same))) (at, refl)) c.first;
              tells = told_on (u ∷ []) own_is ∙ ap (λ x. ts ++ x ∷ []) (sym same);
              calls_are = sent_on;
              newest = λ x older is_it. newest_told x older is_it (ap length own_is);
            }
          where
            newest_told : (x : Entry) (older : List Entry) → e ∷ h ≡ x ∷ older
                → length (entry_replies l service (all_heard service h) (heard service e)) ≡ 1 → 0 < length (entry_replies l service (all_heard service older) (heard service x))
            newest_told x older is_it long =
                let first : e ≡ x = cc in
                let tail : h ≡ older = cc in
                subst (λ y. 0 < length (entry_replies l service (all_heard service older) (heard
                service y))) first
                (subst (λ hs. 0 < length (entry_replies l service (all_heard service hs) (heard service e))) tail (omega (arith, long)))

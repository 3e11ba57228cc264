-- No reply of the session's own is a fault.
use Rattle.std.proofs.Common.{◌≡◌, ◌⊎◌, inl, inr, ℕ, List, [], ◌∷◌, ◌++◌, map, Some, None, refl, sym, ap, subst, ◌∙◌, append_assoc, arith}
use Rattle.std.specs.List.{AllByRecursion}
use Rattle.text_words.proofs.KnownLists.{each-part}
use Rattle.language.specs.Lang.{Lang}
use Rattle.message_values.specs.declared.mode.Mode.{Mode}
use Rattle.reply_messages.specs.declared.told.Told.{Told}
use Rattle.reply_messages.specs.Replies.{reply_chunks}
use Rattle.reply_messages.specs.FoundReplies.{IsReply}
use Rattle.session_rules.specs.declared.entry.Entry.{Entry}
use Rattle.session_rules.specs.declared.service.Service.{Service}
use Rattle.session_rules.specs.Heard.{all_heard, heard}
use Rattle.session_rules.specs.Legal.{IsLegal}
use Rattle.session_rules.specs.Replies.{entry_replies}
use Rattle.session_rules.specs.Services.{mode_of}
use Rattle.mirror_rules.specs.Answers.{Read}
use Rattle.mirror_rules.specs.Moves.{Move, Heard, mirrored, next_reflection}
use Rattle.mirror_rules.specs.Small.{fault_in}
use Rattle.editor_laws.specs.Follows.{AreHeard, Follows, call_of, calls}
use Rattle.editor_laws.specs.Shown.{SeesSo}
use Rattle.editor_laws.proofs.KnownOneReply.{AtMostOne, one_told}
use Rattle.editor_laws.proofs.KnownReadings.{StreamLaws}
use Rattle.editor_laws.proofs.KnownWalking.{first_of, follows_entry}
use Rattle.pide_mirror.specs.Hearing.{Hearing}
use Rattle.mirror_serve.specs.Heard.{FaultsAt, HearsAll, MeetsFault}
use Rattle.mirror_serve.specs.Resting.{IsImageOf}
use Rattle.mirror_serve.proofs.Image.{first_behind}
use Rattle.mirror_serve.proofs.OneHeard.{OneWay}
use Rattle.mirror_serve.proofs.OneOrNone.{one_or_none}
use Rattle.mirror_serve.proofs.Walk.{image_all, map_both, news, short_reply, spelling}

-- the first meet it, or they were heard and the rest does
fault_parts : (old : Hearing) (first rest : List (List ℕ)) → MeetsFault old (first ++ rest)
    → MeetsFault old first ⊎ ((mid : Hearing) × HearsAll old first mid × MeetsFault mid rest)
fault_parts old [] rest f = inr (old, refl, f)
fault_parts old (bytes ∷ first) rest (inl at) = inl (inl at)
fault_parts old (bytes ∷ first) rest (inr (next, one, more)) = go (fault_parts next first rest more)
  where
    go : MeetsFault next first ⊎ ((mid : Hearing) × HearsAll next first mid × MeetsFault mid rest)
        → MeetsFault old (bytes ∷ first) ⊎ ((mid : Hearing) × HearsAll old (bytes ∷ first) mid × MeetsFault mid rest)
    go (inl f) = inl (inr (next, one, f))
    go (inr (mid, all, f)) = inr (mid, (next, one, all), f)

module _ {S : Type 0} (l : Lang S) (service : Service) (streams : StreamLaws) (one : OneWay)
    (sees : (ahead h : List Entry) (sent : List Read) (moves : List Move) → IsLegal l service (all_heard service h)
    → Follows l service ahead h sent moves → SeesSo l service h moves) where
  abbrev mode : Mode
  mode = mode_of service

  module _ (e : Entry) (ahead h : List Entry) (sent : List Read) (old : Hearing) (i : IsImageOf l service (ahead ++ e ∷ []) h (call_of service e ++ sent) old)
      (legal : IsLegal l service (all_heard service (e ∷ h))) where
    -- an entry's reply is as an editor expects it
    module _ (told : Told) (tells : entry_replies l service (all_heard service h) (heard service e) ≡ told ∷ []) (fits : IsReply told) where
      ahead_of_it : SeesSo l service h i.did
      ahead_of_it = sees (ahead ++ e ∷ []) h (call_of service e ++ sent) i.did legal.0 i.follows

      behind_it : (at : ℕ) → SeesSo l service (e ∷ h) (Heard at (Some told) ∷ i.did)
      behind_it at = sees ahead (e ∷ h) sent (Heard at (Some told) ∷ i.did) legal
          (follows_entry l service ahead h e sent i.did (Heard at (Some told) ∷ i.did) i.follows
          (subst (λ us. AreHeard us i.did (Heard at (Some told) ∷ i.did)) (sym tells) (at, refl))
          (first_behind l service e ahead sent (first_of l service (ahead ++ e ∷ []) h (call_of service e ++ sent) i.did i.follows)))

      none_at : FaultsAt old (spelling told) → ⊥
      none_at f = go (one_or_none streams one mode old f.new i.between told (short_reply told (f.short (reply_chunks told) refl)) fits f.front)
        where
          faulted : fault_in (mirrored mode f.new.moves) ≡ Some f.fault
          faulted = ap (λ m. fault_in (mirrored m f.new.moves)) (sym (f.front.hears.mode ∙ i.between.mode_is)) ∙ f.is

          go : (f.new.moves ≡ old.moves) ⊎ ((at : ℕ) × (f.new.moves ≡ Heard at (Some told) ∷ old.moves)) → ⊥
          go (inl same) =
              let no : None ≡ Some f.fault = sym (ap fault_in (ap (mirrored mode) same ∙ i.same ∙ ahead_of_it.going)) ∙ faulted in
              let never : ⊥ = cc in never
          go (inr (at, is)) =
              let going = ap (mirrored mode) is ∙ ap (λ r. next_reflection mode r (Heard at (Some told))) i.same ∙ (behind_it at).going in
              let no : None ≡ Some f.fault = sym (ap fault_in going) ∙ faulted in
              let never : ⊥ = cc in never

    entry_faultless : (own : List Told) → entry_replies l service (all_heard service h) (heard service e) ≡ own → AtMostOne own → AllByRecursion IsReply own
        → MeetsFault old (map spelling own) → ⊥
    entry_faultless [] tells few fits f = f
    entry_faultless (told ∷ more ∷ others) tells few fits f = absurd (omega (arith, few))
    entry_faultless (told ∷ []) tells few fits (inl at) = none_at told tells fits.0 at
    entry_faultless (told ∷ []) tells few fits (inr (next, heard, more)) = more

  -- so are the replies of entries one after the other
  pub faultless : (added ahead h : List Entry) (sent : List Read) (old : Hearing) → IsImageOf l service (ahead ++ added) h (calls service added ++ sent) old
      → IsLegal l service (all_heard service (added ++ h)) → AllByRecursion IsReply (news l service added h) → MeetsFault old (map spelling (news l service added h)) → ⊥
  faultless [] ahead h sent old i legal fits f = f
  faultless (e ∷ added) ahead h sent old i legal fits f =
      by (fault_parts old (map spelling (news l service added h)) (map spelling own) (subst (MeetsFault old) (map_both (news l service added h) own) f))
      (λ x. faultless added (ahead ++ e ∷ []) h (call_of service e ++ sent) old i_first legal.0 fit.0 x)
    where
      own : List Told
      own = entry_replies l service (all_heard service (added ++ h)) (heard service e)

      fit : AllByRecursion IsReply (news l service added h) × AllByRecursion IsReply own
      fit = each-part IsReply (news l service added h) own fits

      i_first : IsImageOf l service ((ahead ++ e ∷ []) ++ added) h (calls service added ++ (call_of service e ++ sent)) old
      i_first = subst (λ es. IsImageOf l service es h (calls service added ++ (call_of service e ++ sent)) old) (sym (append_assoc ahead (e ∷ []) added))
          (subst (λ rs. IsImageOf l service (ahead ++ e ∷ added) h rs old) (append_assoc (calls service added) (call_of service e) sent) i)

      by : MeetsFault old (map spelling (news l service added h))
          ⊎ ((mid : Hearing) × HearsAll old (map spelling (news l service added h)) mid × MeetsFault mid (map spelling own))
          → (MeetsFault old (map spelling (news l service added h)) → ⊥) → ⊥
      by (inl x) earlier = earlier x
      by (inr (mid, all, x)) earlier = entry_faultless e ahead (added ++ h) sent mid
          (image_all l service one streams.spelled added (ahead ++ e ∷ []) h (call_of service e ++ sent) old mid i_first fit.0 all) legal own refl
          (one_told l service (all_heard service (added ++ h)) (heard service e)) fit.1 x

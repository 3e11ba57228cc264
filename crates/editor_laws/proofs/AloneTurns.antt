-- In a script the reader works only before a settle, so no finish is the first that waits then.
use Rattle.std.proofs.Common.{◌≡◌, ℕ, zero, suc, List, [], ◌∷◌, ◌++◌, Option, Some, None, Ok, Err, refl, ap, sym, subst, ◌∙◌, append-nil}
use Rattle.pide_base.specs.declared.part.Part.{Part}
use Rattle.exec_rules.specs.declared.version.Version.{Version}
use Rattle.language.specs.Lang.{Lang}
use Rattle.message_values.specs.declared.editor_message.EditorMessage.TheVariants as asks
use Rattle.message_values.specs.declared.mode.Mode.TheVariants.{Replay}
use Rattle.message_values.specs.Asked.{asked}
use Rattle.session_rules.specs.declared.entry.Entry.{Entry}
use Rattle.session_rules.specs.declared.entry.Entry.TheVariants as entry
use Rattle.session_rules.specs.declared.service.Service.TheVariants.{Script}
use Rattle.session_rules.specs.Alone.{IsAlone}
use Rattle.session_rules.specs.Heard.{Heard, all_heard}
use Rattle.session_rules.specs.History.{session}
use Rattle.session_rules.specs.Legal.{awaited, awaited_of}
use Rattle.session_rules.specs.Session.{Session}
use Rattle.mirror_rules.specs.Answers.{Read}
use Rattle.mirror_rules.specs.Replies.{without_finish}
use Rattle.editor_laws.specs.Follows.{AreFirst, calls}

-- a settle alone waits for a version
abbrev pub IsSettle : Read → Type 0
IsSettle read = (v : ℕ) × (read ≡ Ok (asks.Settle v))

settles : {S : Type 0} (l : Lang S) (s : Session) (read : Read) (version : Version) → awaited_of l Script s read ≡ Some version → IsSettle read
settles l s (Err reason) version e = absurd (cc)
settles l s (Ok (asks.Update v items blobs)) version e = absurd (cc)
settles l s (Ok (asks.Snapshot v node edits)) version e = absurd (cc)
settles l s (Ok (asks.Cancel exec)) version e = absurd (cc)
settles l s (Ok (asks.RemoveVersions vs)) version e = absurd (cc)
settles l s (Ok (asks.Settle v)) version e = (v, refl)
settles l s (Ok (asks.Protocol p)) version e = absurd (cc)
settles l s (Ok (asks.Claim w)) version e = absurd (cc)
settles l s (Ok (asks.Finish w)) version e = absurd (cc)
settles l s (Ok (asks.Theory node text)) version e = absurd (cc)

module _ {S : Type 0} (l : Lang S) (p : Part) where
  abbrev with_step : List Entry → List Entry → List Heard
  with_step ahead h = all_heard Script (ahead ++ entry.Finished zero p ∷ h)

  -- what the reader finishes stands before a call
  never : (ahead h : List Entry) → IsAlone l Script None (with_step ahead h) → calls Script ahead ≡ [] → ⊥
  never [] [] alone none = alone
  never [] (e ∷ h) alone none = alone
  never (entry.Call c ∷ ahead) h alone none = absurd (empty (calls Script ahead) none)
    where
      empty : (xs : List Read) → xs ++ asked Replay c ∷ [] ≡ [] → ⊥
      empty [] e = absurd (cc)
      empty (x ∷ xs) e = absurd (cc)
  never (entry.Claimed zero q ∷ ahead) h alone none = alone
  never (entry.Claimed (suc w) q ∷ ahead) h alone none = never ahead h alone (sym (append-nil (calls Script ahead)) ∙ none)
  never (entry.Finished zero q ∷ ahead) h alone none = alone
  never (entry.Finished (suc w) q ∷ ahead) h alone none = never ahead h alone (sym (append-nil (calls Script ahead)) ∙ none)
  never (entry.Dropped zero q ∷ ahead) h alone none = alone
  never (entry.Dropped (suc w) q ∷ ahead) h alone none = never ahead h alone (sym (append-nil (calls Script ahead)) ∙ none)
  never (entry.Ended ∷ ahead) h alone none = never ahead h alone (sym (append-nil (calls Script ahead)) ∙ none)

  -- the first call behind it is a settle
  first_settles : (waited : Option Version) (ahead h : List Entry) (read : Read) (more : List Read)
      → IsAlone l Script waited (with_step ahead h) → calls Script ahead ≡ read ∷ more → IsSettle read
  first_settles waited [] h read more alone is = absurd (cc)
  first_settles waited (entry.Call c ∷ ahead) h read more alone is =
      go (calls Script ahead) refl is (λ rest is. first_settles _ ahead h read rest alone is)
    where
      by : (o : Option Version) → awaited l Script (with_step ahead h) (asked Replay c) ≡ o → calls Script ahead ≡ [] → IsSettle (asked Replay c)
      by None at none = absurd (never ahead h (subst (λ w. IsAlone l Script w (with_step ahead h)) at alone) none)
      by (Some v) at none = settles l (session l Script (with_step ahead h)) (asked Replay c) v at

      go : (xs : List Read) → calls Script ahead ≡ xs → xs ++ asked Replay c ∷ [] ≡ read ∷ more
          → ((rest : List Read) → calls Script ahead ≡ read ∷ rest → IsSettle read) → IsSettle read
      go [] none is rest =
          let same : asked Replay c ≡ read = cc in
          subst IsSettle same (by (awaited l Script (with_step ahead h) (asked Replay c)) refl none)
      go (x ∷ xs) some is rest = let same : x ≡ read = cc in rest xs (some ∙ ap (λ y. y ∷ xs) same)
  first_settles None (entry.Claimed zero q ∷ ahead) h read more alone is = absurd alone
  first_settles (Some v) (entry.Claimed zero q ∷ ahead) h read more alone is = absurd alone
  first_settles waited (entry.Claimed (suc w) q ∷ ahead) h read more alone is =
      first_settles None ahead h read more alone (sym (append-nil (calls Script ahead)) ∙ is)
  first_settles None (entry.Finished zero q ∷ ahead) h read more alone is = absurd alone
  first_settles (Some v) (entry.Finished zero q ∷ []) h read more alone is = absurd (cc)
  first_settles (Some v) (entry.Finished zero q ∷ (entry.Claimed zero r ∷ ahead)) h read more alone is =
      first_settles (Some v) ahead h read more alone.2
      (sym (append-nil (calls Script ahead)) ∙ sym (append-nil (calls Script ahead ++ [])) ∙ is)
  first_settles (Some v) (entry.Finished zero q ∷ (entry.Claimed (suc w) r ∷ ahead)) h read more alone is = absurd alone
  first_settles (Some v) (entry.Finished zero q ∷ (entry.Call c ∷ ahead)) h read more alone is = absurd alone
  first_settles (Some v) (entry.Finished zero q ∷ (entry.Finished w r ∷ ahead)) h read more alone is = absurd alone
  first_settles (Some v) (entry.Finished zero q ∷ (entry.Dropped w r ∷ ahead)) h read more alone is = absurd alone
  first_settles (Some v) (entry.Finished zero q ∷ (entry.Ended ∷ ahead)) h read more alone is = absurd alone
  first_settles None (entry.Finished (suc w) q ∷ ahead) h read more alone is =
      first_settles None ahead h read more alone (sym (append-nil (calls Script ahead)) ∙ is)
  first_settles (Some v) (entry.Finished (suc w) q ∷ ahead) h read more alone is =
      first_settles None ahead h read more alone (sym (append-nil (calls Script ahead)) ∙ is)
  first_settles None (entry.Dropped zero q ∷ ahead) h read more alone is = absurd alone
  first_settles (Some v) (entry.Dropped zero q ∷ ahead) h read more alone is = absurd alone
  first_settles waited (entry.Dropped (suc w) q ∷ ahead) h read more alone is =
      first_settles None ahead h read more alone (sym (append-nil (calls Script ahead)) ∙ is)
  first_settles waited (entry.Ended ∷ ahead) h read more alone is =
      first_settles None ahead h read more alone (sym (append-nil (calls Script ahead)) ∙ is)

  -- so no finish is the first
  pub none_waits : (ahead h : List Entry) (sent : List Read) → IsAlone l Script None (with_step ahead h) → AreFirst sent (calls Script ahead)
      → without_finish Replay sent ≡ sent
  none_waits ahead h [] alone first = refl
  none_waits ahead h (read ∷ more) alone first =
      let settle = first_settles None ahead h read (more ++ first.0) alone first.1 in
      ap (λ r. without_finish Replay (r ∷ more)) settle.1 ∙ ap (λ r. r ∷ more) (sym settle.1)

  -- and the reader lets no part go
  pub never_dropped : (waited : Option Version) (ahead h : List Entry) → IsAlone l Script waited (all_heard Script (ahead ++ entry.Dropped zero p ∷ h)) → ⊥
  never_dropped None [] h alone = alone
  never_dropped (Some v) [] h alone = alone
  never_dropped waited (entry.Call c ∷ ahead) h alone = never_dropped _ ahead h alone
  never_dropped None (entry.Claimed zero q ∷ ahead) h alone = alone
  never_dropped (Some v) (entry.Claimed zero q ∷ ahead) h alone = alone
  never_dropped waited (entry.Claimed (suc w) q ∷ ahead) h alone = never_dropped None ahead h alone
  never_dropped None (entry.Finished zero q ∷ ahead) h alone = alone
  never_dropped (Some v) (entry.Finished zero q ∷ []) h alone = alone
  never_dropped (Some v) (entry.Finished zero q ∷ (entry.Claimed zero r ∷ ahead)) h alone = never_dropped (Some v) ahead h alone.2
  never_dropped (Some v) (entry.Finished zero q ∷ (entry.Claimed (suc w) r ∷ ahead)) h alone = alone
  never_dropped (Some v) (entry.Finished zero q ∷ (entry.Call c ∷ ahead)) h alone = alone
  never_dropped (Some v) (entry.Finished zero q ∷ (entry.Finished w r ∷ ahead)) h alone = alone
  never_dropped (Some v) (entry.Finished zero q ∷ (entry.Dropped w r ∷ ahead)) h alone = alone
  never_dropped (Some v) (entry.Finished zero q ∷ (entry.Ended ∷ ahead)) h alone = alone
  never_dropped None (entry.Finished (suc w) q ∷ ahead) h alone = never_dropped None ahead h alone
  never_dropped (Some v) (entry.Finished (suc w) q ∷ ahead) h alone = never_dropped None ahead h alone
  never_dropped None (entry.Dropped zero q ∷ ahead) h alone = alone
  never_dropped (Some v) (entry.Dropped zero q ∷ ahead) h alone = alone
  never_dropped waited (entry.Dropped (suc w) q ∷ ahead) h alone = never_dropped None ahead h alone
  never_dropped waited (entry.Ended ∷ ahead) h alone = never_dropped None ahead h alone

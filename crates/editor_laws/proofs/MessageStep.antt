-- What comes of a message, accepted or refused.
use Rattle.std.proofs.Common.{◌≡◌, ℕ, Bool, true, false, List, [], ◌∷◌, ◌++◌, Result, Ok, Err, refl, ap, sym, subst, ◌∙◌}
use Rattle.std.specs.Prelude.{◌||◌, is_some, if◌then◌else◌}
use Rattle.std.specs.Option.{is_none}
use Rattle.core_tables.specs.declared.versions.Removing.{Removing}
use Rattle.core_tables.specs.declared.versions.Removing.TheVariants as answer
use Rattle.core_tables.specs.Removal.{removing}
use Rattle.exec_rules.specs.declared.version.Version.{Version}
use Rattle.language.specs.Lang.{Lang}
use Rattle.message_values.specs.declared.editor_message.EditorMessage.TheVariants as asks
use Rattle.message_values.specs.declared.mode.Mode.{Mode}
use Rattle.message_values.specs.declared.refusal.Refusal.{Refusal}
use Rattle.message_values.specs.declared.refusal.Refusal.TheVariants.{NothingToStep, ProtocolFixed, UnknownExecution}
use Rattle.buffer_rules.specs.Trying.{◌>>=◌}
use Rattle.reply_messages.specs.declared.told.Told.TheVariants as tells
use Rattle.core_rules.specs.declared.event.Event.TheVariants as event
use Rattle.core_rules.specs.Assigned.{is_assigned}
use Rattle.core_rules.specs.Ready.{first_ready}
use Rattle.core_rules.specs.Standing.{held}
use Rattle.core_rules.specs.Stuck.{stuck_in}
use Rattle.session_rules.specs.declared.service.Service.{Service}
use Rattle.session_rules.specs.Accepting.{accepted}
use Rattle.session_rules.specs.Looking.{Looked, looked_at, settles}
use Rattle.session_rules.specs.Replies.{markup, or_refusal}
use Rattle.session_rules.specs.Session.{Session, document, with_event}
use Rattle.session_rules.specs.Steps.{Due, Nothing, Claims, Finishes, due}
use Rattle.session_rules.specs.Updating.{removed_by}
use Rattle.mirror_rules.specs.Answers.{Read}
use Rattle.mirror_rules.specs.Images.{Mirror}
use Rattle.editor_laws.proofs.Accepted.{cancel_outcome, plain, protocol_outcome, remove_outcome, settle_outcome, snapshot_outcome}
use Rattle.editor_laws.proofs.Expected.{refusal_after, refusal_fine}
use Rattle.editor_laws.proofs.Facts.{Facts}
use Rattle.editor_laws.proofs.Mirrors.{Mirrors}
use Rattle.editor_laws.proofs.Outcomes.{Outcome, step_called, answer_outcome, mirrors_other}
use Rattle.editor_laws.proofs.UpdateAccepted.{Accepted}

module _ {S : Type 0} (l : Lang S) (facts : Facts l) (mode : Mode) (m : Mirror) (more : List Read) where
  module _ (service : Service) (s : Session) (is : Mirrors l s m) where
    pub snapshot_accepted : (id : ℕ) (name : List ℕ) (edits : List _) (after : Session) → m.unanswered ≡ Ok (asks.Snapshot id name edits) ∷ more
        → accepted l service s (asks.Snapshot id name edits) ≡ Ok after → Accepted l facts mode m more service s (asks.Snapshot id name edits) after
    snapshot_accepted id name edits after waits e = go (looked_at l s id name edits) e
      where
        go : (o : Result Looked Refusal) → ◌≡◌ {A = Result Session Refusal} (o >>= λ looked. Ok s) (Ok after)
            → Outcome l mode m (or_refusal (o >>= λ looked. Ok (markup l s id name edits looked ∷ []))) (record after { called = true }) Nothing more
        go (Err reason) e = absurd (cc)
        go (Ok looked) e = let same : s ≡ after = cc in
            subst (λ (x : Session). Outcome l mode m (markup l s id name edits looked ∷ []) (record x { called = true }) Nothing more) same
            (snapshot_outcome l facts mode m more s is id name edits looked waits)

    pub settle_accepted : (id : ℕ) (after : Session) → m.unanswered ≡ Ok (asks.Settle id) ∷ more
        → accepted l service s (asks.Settle id) ≡ Ok after → Accepted l facts mode m more service s (asks.Settle id) after
    settle_accepted id after waits e = go (settles l service s id) e
      where
        go : (o : Result Version Refusal) → ◌≡◌ {A = Result Session Refusal} (o >>= λ settling. Ok s) (Ok after)
            → Outcome l mode m (or_refusal (o >>= λ version. Ok (tells.Settled id (stuck_in l s.events (document l s) version) ∷ []))) (record after { called = true }) Nothing more
        go (Err reason) e = absurd (cc)
        go (Ok version) e = let same : s ≡ after = cc in
            subst (λ (x : Session). Outcome l mode m (tells.Settled id (stuck_in l s.events (document l s) version) ∷ []) (record x { called = true }) Nothing more) same
            (settle_outcome l facts mode m more s is id (stuck_in l s.events (document l s) version) waits)

    pub cancel_accepted : (exec : ℕ) (after : Session) → m.unanswered ≡ Ok (asks.Cancel exec) ∷ more
        → accepted l service s (asks.Cancel exec) ≡ Ok after → Accepted l facts mode m more service s (asks.Cancel exec) after
    cancel_accepted exec after waits e = go (is_assigned (document l s).live exec) e
      where
        go : (b : Bool) → ◌≡◌ {A = Result Session Refusal} (if b then Ok (with_event s (event.Cancel exec)) else Err UnknownExecution) (Ok after)
            → Accepted l facts mode m more service s (asks.Cancel exec) after
        go false e = absurd (cc)
        go true e = let same : with_event s (event.Cancel exec) ≡ after = cc in
            subst (Accepted l facts mode m more service s (asks.Cancel exec)) same (cancel_outcome l facts mode m more s is exec waits)

    pub remove_accepted : (ids : List ℕ) (after : Session) → m.unanswered ≡ Ok (asks.RemoveVersions ids) ∷ more
        → accepted l service s (asks.RemoveVersions ids) ≡ Ok after → Accepted l facts mode m more service s (asks.RemoveVersions ids) after
    remove_accepted ids after waits e = go (removing (document l s).live ids) e
      where
        go : (r : Removing) → removed_by s ids r ≡ Ok after → Accepted l facts mode m more service s (asks.RemoveVersions ids) after
        go (answer.Unknown id) e = absurd (cc)
        go answer.Tip e = absurd (cc)
        go answer.Removed e = let same : with_event s (event.Remove ids) ≡ after = cc in
            subst (Accepted l facts mode m more service s (asks.RemoveVersions ids)) same (remove_outcome l facts mode m more s is ids waits)

    pub protocol_accepted : (p : _) (after : Session) → m.unanswered ≡ Ok (asks.Protocol p) ∷ more
        → accepted l service s (asks.Protocol p) ≡ Ok after → Accepted l facts mode m more service s (asks.Protocol p) after
    protocol_accepted p after waits e = go s.called e
      where
        go : (b : Bool) → ◌≡◌ {A = Result Session Refusal} (if b then Err ProtocolFixed else Ok (record s { protocol = p })) (Ok after)
            → Accepted l facts mode m more service s (asks.Protocol p) after
        go true e = absurd (cc)
        go false e = let same : record s { protocol = p } ≡ after = cc in
            subst (Accepted l facts mode m more service s (asks.Protocol p)) same (protocol_outcome l facts mode m more s is p waits)

    -- a step that is called for is told by the entry behind it
    step_outcome : (due : Due) (read : Read) → m.unanswered ≡ read ∷ more → (read ∷ more) ≡ step_called due ++ more
        → Outcome l mode m [] (record s { called = true }) due more
    step_outcome due read waits same = record {
      mirror = m;
      hears = refl;
      is = mirrors_other l s (record s { called = true }) m m is refl refl refl refl;
      waits = waits ∙ same;
    }

    pub claim_accepted : (w : ℕ) (after : Session) → m.unanswered ≡ Ok (asks.Claim w) ∷ more
        → accepted l service s (asks.Claim w) ≡ Ok after → Accepted l facts mode m more service s (asks.Claim w) after
    claim_accepted w after waits e = go (is_some (held s.events w) || is_none (first_ready l s.events)) e
      where
        go : (b : Bool) → ◌≡◌ {A = Result Session Refusal} (if b then Err NothingToStep else Ok s) (Ok after) → Accepted l facts mode m more service s (asks.Claim w) after
        go true e = absurd (cc)
        go false e = let same : s ≡ after = cc in
            subst (Accepted l facts mode m more service s (asks.Claim w)) same (step_outcome (Claims w) (Ok (asks.Claim w)) waits refl)

    pub finish_accepted : (w : ℕ) (after : Session) → m.unanswered ≡ Ok (asks.Finish w) ∷ more
        → accepted l service s (asks.Finish w) ≡ Ok after → Accepted l facts mode m more service s (asks.Finish w) after
    finish_accepted w after waits e = go (is_some (held s.events w)) e
      where
        go : (b : Bool) → ◌≡◌ {A = Result Session Refusal} (if b then Ok s else Err NothingToStep) (Ok after) → Accepted l facts mode m more service s (asks.Finish w) after
        go false e = absurd (cc)
        go true e = let same : s ≡ after = cc in
            subst (Accepted l facts mode m more service s (asks.Finish w)) same (step_outcome (Finishes w) (Ok (asks.Finish w)) waits refl)

    -- a message that is refused
    pub refused : (read : Read) (reason : Refusal) → m.unanswered ≡ read ∷ more
        → Outcome l mode m (tells.Refused reason ∷ []) (record s { called = true }) Nothing more
    refused read reason waits =
        let same = refusal_after (record m { unanswered = more }) read reason in
        answer_outcome l mode m read more (tells.Refused reason) (record s { called = true }) waits (refusal_fine m read reason) refl
        (subst (Mirrors l (record s { called = true })) (sym same) (plain l facts mode m more s is)) (ap (λ (x : Mirror). x.unanswered) same)

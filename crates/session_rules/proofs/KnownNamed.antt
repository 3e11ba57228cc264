-- Where a settle waits nobody holds a part, so some part is ready.
use Rattle.std.proofs.Common.{◌≡◌, ◌≢◌, ℕ, zero, suc, Bool, true, false, cond, List, [], ◌∷◌, Option, Some, None, Result, Ok, Err, inl, inr, refl, ap, subst, ◌∙◌, arith}
use Rattle.std.proofs.lemmas.Bool.{eqb-true}
use Rattle.std.specs.Prelude.{◌==◌, ◌↔◌, if◌then◌else◌}
use Rattle.pide_base.specs.declared.part.Part.{Part}
use Rattle.language.specs.Lang.{Lang}
use Rattle.message_values.specs.declared.editor_message.EditorMessage.{EditorMessage}
use Rattle.message_values.specs.declared.editor_message.EditorMessage.TheVariants as asks
use Rattle.message_values.specs.declared.mode.Mode.{Mode}
use Rattle.message_values.specs.declared.refusal.Refusal.{Refusal}
use Rattle.message_values.specs.Asked.{asked}
use Rattle.message_values.specs.Fits.{Fits}
use Rattle.message_values.specs.Functions.{word, function_named}
use Rattle.message_values.specs.Spelled.{IsSpelled, function_of}
use Rattle.message_values.specs.Workers.{IsWorker}
use Rattle.core_rules.specs.Standing.{held}
use Rattle.session_rules.specs.declared.entry.Entry.{Entry}
use Rattle.session_rules.specs.declared.entry.Entry.TheVariants as entry
use Rattle.session_rules.specs.declared.service.Service.{Service}
use Rattle.session_rules.specs.declared.service.Service.TheVariants.{Script}
use Rattle.session_rules.specs.Services.{free_workers, mode_of}
use Rattle.session_rules.specs.Session.{Session}
use Rattle.session_rules.specs.Heard.{Heard, all_heard}
use Rattle.session_rules.specs.Accepting.{accepted}
use Rattle.session_rules.specs.History.{session}
use Rattle.session_rules.specs.Legal.{IsLegal, IsTurn}
use Rattle.session_rules.specs.Alone.{IsAlone}
use Rattle.session_rules.specs.Steps.{Nothing, Claims, Finishes, due, due_by, due_of}
use Rattle.session_rules.proofs.KnownScript.{script_claims}
use Rattle.session_rules.proofs.KnownHolding.{message_same, reader_idle}

-- a message is asked where it is spelled
abbrev pub AskedLaw : Type 0
AskedLaw = (mode : Mode) (chunks : List (List ℕ)) (message : EditorMessage) → (asked mode chunks ≡ Ok message)
    ↔ (Fits message × IsSpelled message chunks × (function_named mode (word (function_of message)) ≡ Some (function_of message)))

-- the worker is one that messages name
abbrev pub IsNamed : Service → ℕ → Type 0
IsNamed service who = (service ≡ Script) × IsWorker who

none_claims : (r : Result Session Refusal) (w : ℕ) → due_by r Nothing ≡ Claims w → ⊥
none_claims (Ok after) w e = absurd (let no : ⊥ = cc in no)
none_claims (Err reason) w e = absurd (let no : ⊥ = cc in no)

finish_claims : (r : Result Session Refusal) (v w : ℕ) → due_by r (Finishes v) ≡ Claims w → ⊥
finish_claims (Ok after) v w e = absurd (let no : ⊥ = cc in no)
finish_claims (Err reason) v w e = absurd (let no : ⊥ = cc in no)

claim_claims : (r : Result Session Refusal) (v w : ℕ) → due_by r (Claims v) ≡ Claims w → v ≡ w
claim_claims (Ok after) v w e = cc
claim_claims (Err reason) v w e = absurd (cc)

none_finishes : (r : Result Session Refusal) (w : ℕ) → due_by r Nothing ≡ Finishes w → ⊥
none_finishes (Ok after) w e = absurd (let no : ⊥ = cc in no)
none_finishes (Err reason) w e = absurd (let no : ⊥ = cc in no)

claim_finishes : (r : Result Session Refusal) (v w : ℕ) → due_by r (Claims v) ≡ Finishes w → ⊥
claim_finishes (Ok after) v w e = absurd (let no : ⊥ = cc in no)
claim_finishes (Err reason) v w e = absurd (let no : ⊥ = cc in no)

finish_finishes : (r : Result Session Refusal) (v w : ℕ) → due_by r (Finishes v) ≡ Finishes w → v ≡ w
finish_finishes (Ok after) v w e = cc
finish_finishes (Err reason) v w e = absurd (cc)

module _ {S : Type 0} (l : Lang S) (service : Service) where
  -- only a message that names the worker calls for its claim
  pub claims_asked : (s : Session) (read : Result EditorMessage Refusal) (w : ℕ) → due_of l service s read ≡ Claims w → read ≡ Ok (asks.Claim w)
  claims_asked s (Err reason) w e = absurd (cc)
  claims_asked s (Ok (asks.Update version items blobs)) w e = absurd (none_claims (accepted l service s (asks.Update version items blobs)) w e)
  claims_asked s (Ok (asks.Snapshot version node edits)) w e = absurd (none_claims (accepted l service s (asks.Snapshot version node edits)) w e)
  claims_asked s (Ok (asks.Cancel exec)) w e = absurd (none_claims (accepted l service s (asks.Cancel exec)) w e)
  claims_asked s (Ok (asks.RemoveVersions versions)) w e = absurd (none_claims (accepted l service s (asks.RemoveVersions versions)) w e)
  claims_asked s (Ok (asks.Settle version)) w e = absurd (none_claims (accepted l service s (asks.Settle version)) w e)
  claims_asked s (Ok (asks.Protocol protocol)) w e = absurd (none_claims (accepted l service s (asks.Protocol protocol)) w e)
  claims_asked s (Ok (asks.Theory node text)) w e = absurd (none_claims (accepted l service s (asks.Theory node text)) w e)
  claims_asked s (Ok (asks.Finish v)) w e = absurd (finish_claims (accepted l service s (asks.Finish v)) v w e)
  claims_asked s (Ok (asks.Claim v)) w e = ap (λ u. Ok (asks.Claim u)) (claim_claims (accepted l service s (asks.Claim v)) v w e)

  -- and for its end
  pub finishes_asked : (s : Session) (read : Result EditorMessage Refusal) (w : ℕ) → due_of l service s read ≡ Finishes w → read ≡ Ok (asks.Finish w)
  finishes_asked s (Err reason) w e = absurd (cc)
  finishes_asked s (Ok (asks.Update version items blobs)) w e = absurd (none_finishes (accepted l service s (asks.Update version items blobs)) w e)
  finishes_asked s (Ok (asks.Snapshot version node edits)) w e = absurd (none_finishes (accepted l service s (asks.Snapshot version node edits)) w e)
  finishes_asked s (Ok (asks.Cancel exec)) w e = absurd (none_finishes (accepted l service s (asks.Cancel exec)) w e)
  finishes_asked s (Ok (asks.RemoveVersions versions)) w e = absurd (none_finishes (accepted l service s (asks.RemoveVersions versions)) w e)
  finishes_asked s (Ok (asks.Settle version)) w e = absurd (none_finishes (accepted l service s (asks.Settle version)) w e)
  finishes_asked s (Ok (asks.Protocol protocol)) w e = absurd (none_finishes (accepted l service s (asks.Protocol protocol)) w e)
  finishes_asked s (Ok (asks.Theory node text)) w e = absurd (none_finishes (accepted l service s (asks.Theory node text)) w e)
  finishes_asked s (Ok (asks.Claim v)) w e = absurd (claim_finishes (accepted l service s (asks.Claim v)) v w e)
  finishes_asked s (Ok (asks.Finish v)) w e = ap (λ u. Ok (asks.Finish u)) (finish_finishes (accepted l service s (asks.Finish v)) v w e)

  module _ (law : AskedLaw) (none : free_workers service ≡ 0) where
    abbrev heard_of : List Entry → List Heard
    heard_of es = all_heard service es

    pub due_named : (es : List Entry) (w : ℕ) → due l service (heard_of es) ≡ Claims w → IsNamed service w
    due_named [] w e = absurd (cc)
    due_named (entry.Claimed who p ∷ es) w e = absurd (cc)
    due_named (entry.Finished who p ∷ es) w e = absurd (cc)
    due_named (entry.Dropped who p ∷ es) w e = absurd (cc)
    due_named (entry.Ended ∷ es) w e = absurd (cc)
    due_named (entry.Call m ∷ es) w e =
        let asks_it : asked (mode_of service) m ≡ Ok (asks.Claim w) =
        claims_asked (session l service (heard_of es)) (asked (mode_of service) m) w e in
        let so = (law (mode_of service) m (asks.Claim w)).0 asks_it in
        (script_claims service so.2, so.0)

    turn_named : (es : List Entry) (w : ℕ) → IsTurn service (due l service (heard_of es)) (suc w) (Claims (suc w)) → IsNamed service (suc w)
    turn_named es w (inl called) = due_named es (suc w) called
    turn_named es w (inr other) = let within = other.1 in absurd (omega (arith, within, none))

    let_go : {w : ℕ} (b : Bool) (o : Option Part) → (if b then None else o) ≢ None → (o ≢ None → IsNamed service w) → IsNamed service w
    let_go true o holds before = absurd (holds refl)
    let_go false o holds before = before holds

    -- who holds a part, the reader aside, is one of these
    pub only_named : (es : List Entry) (w : ℕ) → IsLegal l service (heard_of es)
        → held (session l service (heard_of es)).events (suc w) ≢ None → IsNamed service (suc w)
    only_named [] w legal holds = absurd (holds refl)
    only_named (entry.Call m ∷ es) w legal holds = only_named es w legal.0 (λ e. holds
        (message_same l service (session l service (heard_of es)) (suc w) (asked (mode_of service) m) ∙ e))
    only_named (entry.Ended ∷ es) w legal holds = only_named es w legal.0 holds
    only_named (entry.Claimed who p ∷ es) w legal holds = go (who == suc w) refl (only_named es w legal.0)
      where
        go : (b : Bool) → (who == suc w) ≡ b → (held (session l service (heard_of es)).events (suc w) ≢ None → IsNamed service (suc w)) → IsNamed service (suc w)
        go true same before = turn_named es w (subst (λ v. IsTurn service (due l service (heard_of es)) v (Claims v)) (eqb-true who (suc w) same) legal.1.1)
        go false other before = before (λ e. holds (ap (λ b. cond b (Some p) (held (session l service (heard_of es)).events (suc w))) other ∙ e))
    only_named (entry.Finished who p ∷ es) w legal holds = let_go (who == suc w) (held (session l service (heard_of es)).events (suc w)) holds (only_named es w legal.0)
    only_named (entry.Dropped who p ∷ es) w legal holds = let_go (who == suc w) (held (session l service (heard_of es)).events (suc w)) holds (only_named es w legal.0)

    -- and the reader holds none
    pub holder_named : (es : List Entry) (w : ℕ) → IsLegal l service (heard_of es) → IsAlone l service None (heard_of es)
        → held (session l service (heard_of es)).events w ≢ None → IsNamed service w
    holder_named es zero legal alone holds = absurd (holds (reader_idle l service None (heard_of es) alone))
    holder_named es (suc w) legal alone holds = only_named es w legal holds

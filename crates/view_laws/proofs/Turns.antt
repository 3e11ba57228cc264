-- No message calls for a step, so whoever takes a part is the reader or a worker.
use Rattle.std.proofs.Common.{◌≡◌, ◌≢◌, ℕ, ◌≤◌, Bool, true, false, cond, List, [], ◌∷◌, Option, None, Some, inl, inr, reverse, refl, sym, ap, subst, ◌∙◌, eqb-true}
use Rattle.std.specs.Prelude.{◌==◌}
use Rattle.pide_base.specs.declared.part.Part.{Part}
use Rattle.language.specs.Lang.{Lang}
use Rattle.message_values.specs.declared.editor_message.EditorMessage.TheVariants as asks
use Rattle.message_values.specs.Asked.{asked}
use Rattle.core_rules.specs.Standing.{held}
use Rattle.reply_outbox.specs.declared.item.Item.TheVariants as item
use Rattle.session_rules.specs.declared.entry.Entry.TheVariants as entry
use Rattle.session_rules.specs.declared.service.Service.{Service}
use Rattle.session_rules.specs.declared.service.Service.TheVariants.{Workers}
use Rattle.session_rules.specs.Services.{mode_of}
use Rattle.session_rules.specs.Legal.{IsTurn}
use Rattle.session_rules.specs.Session.{Session}
use Rattle.session_rules.specs.Steps.{Due, Nothing, Claims, Finishes, due, due_of}
use Rattle.session_rules.proofs.KnownScript.{script_claims, script_finishes}
use Rattle.session_rules.proofs.KnownHolding.{message_same}
use Rattle.session_rules.proofs.KnownNamed.{AskedLaw, claims_asked, finishes_asked}
use Rattle.keeping_rules.specs.Items.{SessionItem, heard_in, session_in}
use Rattle.keeping_rules.specs.Legal.{AreLegal, MayStand}
use Rattle.hist_lock.specs.Entries.{own}
use Rattle.worker_loop.specs.Held.{held_in}
use Rattle.view_laws.specs.Callers.{whose, worker_count}
use Rattle.view_laws.specs.Histories.{IsLegalLog, session_after}
use Rattle.view_laws.specs.Says.{says}
use Rattle.view_laws.proofs.Holding.{held_log}

module _ {S : Type 0} (l : Lang S) (law : AskedLaw) (count : ℕ) where
  abbrev service : Service
  service = Workers count

  -- messages call for nothing
  uncalled : (s : Session) (message : List (List ℕ)) → due_of l service s (asked (mode_of service) message) ≡ Nothing
  uncalled s message = go (due_of l service s (asked (mode_of service) message)) refl
    where
      go : (d : Due) → due_of l service s (asked (mode_of service) message) ≡ d → d ≡ Nothing
      go Nothing e = refl
      go (Claims w) e =
          let so = (law (mode_of service) message (asks.Claim w)).0 (claims_asked l service s (asked (mode_of service) message) w e) in
          let script = script_claims service so.2 in absurd (cc)
      go (Finishes w) e =
          let so = (law (mode_of service) message (asks.Finish w)).0 (finishes_asked l service s (asked (mode_of service) message) w e) in
          let script = script_finishes service so.2 in absurd (cc)

  pub nothing_due : (items : List SessionItem) → due l service (heard_in service items) ≡ Nothing
  nothing_due [] = refl
  nothing_due (item.Opened other ∷ items) = nothing_due items
  nothing_due (item.Sent writer len ∷ items) = nothing_due items
  nothing_due (item.Lost writer ∷ items) = nothing_due items
  nothing_due (item.Made (entry.Call message) ∷ items) = uncalled (session_in l service items) message
  nothing_due (item.Made (entry.Claimed who part) ∷ items) = refl
  nothing_due (item.Made (entry.Finished who part) ∷ items) = refl
  nothing_due (item.Made (entry.Dropped who part) ∷ items) = refl
  nothing_due (item.Made entry.Ended ∷ items) = refl

  free_turn : (items : List SessionItem) (w : ℕ) → IsTurn service (due l service (heard_in service items)) w (Claims w) → w ≤ count
  free_turn items w (inl called) = let none = nothing_due items in absurd (cc)
  free_turn items w (inr other) = other.1

  module _ (who : ℕ) where
    abbrev holds : List SessionItem → Option Part
    holds items = held (session_in l service items).events who

    let_go : (b : Bool) (o : Option Part) → cond b None o ≢ None → (o ≢ None → who ≤ count) → who ≤ count
    let_go true o some before = absurd (some refl)
    let_go false o some before = before some

    holder_by_item : (x : SessionItem) (items : List SessionItem) → MayStand l service items x → holds (x ∷ items) ≢ None
        → (holds items ≢ None → who ≤ count) → who ≤ count
    holder_by_item (item.Opened other) items may some before = absurd (may)
    holder_by_item (item.Sent writer len) items may some before = before some
    holder_by_item (item.Lost writer) items may some before = before some
    holder_by_item (item.Made (entry.Call message)) items may some before =
        before (λ none. some (message_same l service (session_in l service items) who (asked (mode_of service) message) ∙ none))
    holder_by_item (item.Made entry.Ended) items may some before = before some
    holder_by_item (item.Made (entry.Finished w part)) items may some before = let_go (w == who) (holds items) some before
    holder_by_item (item.Made (entry.Dropped w part)) items may some before = let_go (w == who) (holds items) some before
    holder_by_item (item.Made (entry.Claimed w part)) items may some before = go (w == who) refl
      where
        go : (b : Bool) → (w == who) ≡ b → who ≤ count
        go true e = subst (λ v. v ≤ count) (eqb-true w who e) (free_turn items w may.1)
        go false e = before (λ none. some (ap (λ b. cond b (Some part) (holds items)) e ∙ none))

    -- whoever holds a part is the reader or a worker
    pub holder_free : (items : List SessionItem) → AreLegal l service items → holds items ≢ None → who ≤ count
    holder_free [] are some = absurd (are)
    holder_free (oldest ∷ []) are some = absurd (some (ap (λ (x : SessionItem). holds (x ∷ [])) are))
    holder_free (newest ∷ before ∷ items) are some =
        holder_by_item newest (before ∷ items) are.1 some (holder_free (before ∷ items) are.0)

-- where neither the reader nor a worker holds a part by its own items, nobody does
pub nobody : {S : Type 0} (l : Lang S) (law : AskedLaw) (log : List SessionItem) (who : ℕ) → IsLegalLog l log
    → ((w : ℕ) → w ≤ worker_count log → held_in says (own whose w log) ≡ None) → held (session_after l log).events who ≡ None
nobody l law log who are none = go (held (session_after l log).events who) refl
  where
    go : (o : Option Part) → held (session_after l log).events who ≡ o → o ≡ None
    go None e = refl
    go (Some part) e =
        let free = holder_free l law (worker_count log) who (reverse log) are (λ no. absurd (let bad : Some part ≡ None = sym e ∙ no in let worse : ⊥ = cc in worse)) in
        sym e ∙ (held_log l log who ∙ none who free)

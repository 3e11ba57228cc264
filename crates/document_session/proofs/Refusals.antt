-- When what a message asks is refused.
use Rattle.std.proofs.Common.{◌≡◌, ℕ, ◌<◌, Bool, true, false, List, length, Option, Some, None, Result, Ok, Err, inl, inr, refl, ap, ◌∙◌, if◌then◌else◌}
use Rattle.std.proofs.lemmas.Bool.{lt-ltb, le-ltb}
use Rattle.std.specs.Prelude.{◌≤◌, ◌||◌, is_some}
use Rattle.std.specs.Option.{is_none}
use Rattle.pide_base.specs.Ids.{id_end}
use Rattle.pide_base.specs.declared.part.Part.{Part}
use Rattle.core_tables.specs.declared.versions.Removing.TheVariants as answer
use Rattle.core_tables.specs.Removal.{removing}
use Rattle.language.specs.Lang.{Lang}
use Rattle.message_values.specs.declared.editor_message.EditorMessage.{EditorMessage}
use Rattle.message_values.specs.declared.editor_message.EditorMessage.TheVariants as asks
use Rattle.message_values.specs.declared.protocol.Protocol.{Protocol}
use Rattle.message_values.specs.declared.refusal.Refusal.{Refusal}
use Rattle.message_values.specs.declared.refusal.Refusal.TheVariants.{Limit, VersionNotHigher, ProtocolFixed, UnknownVersion, TipVersion, NothingToStep}
use Rattle.buffer_rules.specs.Updates.{Asked}
use Rattle.buffer_rules.specs.Preparing.{Buffer, prepared}
use Rattle.core_rules.specs.Doc.{assignment_of}
use Rattle.core_rules.specs.Ready.{first_ready}
use Rattle.core_rules.specs.Standing.{held, has_ended}
use Rattle.prover_core.specs.Claims.{IsIdle}
use Rattle.session_rules.specs.declared.service.Service.{Service}
use Rattle.session_rules.specs.Session.{Session, document}
use Rattle.session_rules.specs.Accepting.{taken}
use Rattle.session_rules.specs.Updating.{removed_by, with_buffer}
use Rattle.keeping_rules.proofs.KnownChecked.{checked, taken_checked}

-- an update
module _ {S : Type 0} (l : Lang S) (service : Service) (s : Session) (version : ℕ) (wanted : Asked) where
  abbrev read : Result EditorMessage Refusal
  read = Ok (asks.Update version wanted.items wanted.blobs)

  abbrev by_order : Bool → Result Session Refusal
  by_order b = if b then checked l s version (prepared s.buffer (length (document l s).live) wanted) else Err VersionNotHigher

  -- the version is not above all before
  pub not_higher : version ≤ (document l s).last → taken l service s read ≡ Err VersionNotHigher
  not_higher least = ap by_order (le-ltb (document l s).last version least)

  module _ (newer : (document l s).last < version) where
    -- the editor's document doesn't take it
    pub not_prepared : (reason : Refusal) → prepared s.buffer (length (document l s).live) wanted ≡ Err reason
        → taken l service s read ≡ Err reason
    not_prepared reason is = taken_checked l service s version wanted newer (Err reason) is

    -- ids run out
    pub limit_passed : (b : Buffer) → prepared s.buffer (length (document l s).live) wanted ≡ Ok b
        → id_end < (assignment_of (document l s) b.nodes b.document.blobs).next → taken l service s read ≡ Err Limit
    limit_passed b after over = taken_checked l service s version wanted newer (Ok b) after ∙ ap (λ (c : Bool). if c then Err Limit else Ok (with_buffer s version b))
        (lt-ltb id_end (assignment_of (document l s) b.nodes b.document.blobs).next over)

module _ {S : Type 0} (l : Lang S) (service : Service) (s : Session) where
  -- the protocol, where a message came already
  pub protocol_fixed : (protocol : Protocol) → s.called ≡ true → taken l service s (Ok (asks.Protocol protocol)) ≡ Err ProtocolFixed
  protocol_fixed protocol came = ap (λ (b : Bool). if b then Err ProtocolFixed else Ok (record s { protocol = protocol })) came

  -- a removal of what isn't live, or is the tip
  pub unknown_refused : (ids : List ℕ) (id : ℕ) → removing (document l s).live ids ≡ answer.Unknown id
      → taken l service s (Ok (asks.RemoveVersions ids)) ≡ Err UnknownVersion
  unknown_refused ids id is = ap (removed_by s ids) is

  pub tip_refused : (ids : List ℕ) → removing (document l s).live ids ≡ answer.Tip
      → taken l service s (Ok (asks.RemoveVersions ids)) ≡ Err TipVersion
  tip_refused ids is = ap (removed_by s ids) is

  abbrev claim_by : Bool → Result Session Refusal
  claim_by b = if b then Err NothingToStep else Ok s

  -- a step of a worker that can't take a part, or holds none
  pub claims_nothing : (who : ℕ) → has_ended s.events ≡ false → IsIdle l s.events who → taken l service s (Ok (asks.Claim who)) ≡ Err NothingToStep
  claims_nothing who going (inl none) = go (is_some (held s.events who))
    where
      go : (b : Bool) → claim_by (b || is_none (first_ready l s.events)) ≡ Err NothingToStep
      go true = refl
      go false = ap (λ (o : Option Part). claim_by (is_none o)) none
  claims_nothing who going (inr (inl holds)) = go (held s.events who) refl
    where
      go : (o : Option Part) → held s.events who ≡ o → claim_by (is_some o || is_none (first_ready l s.events)) ≡ Err NothingToStep
      go None e = absurd (holds e)
      go (Some part) e = refl
  claims_nothing who going (inr (inr over)) = absurd (cc)

  pub finishes_nothing : (who : ℕ) → held s.events who ≡ None → taken l service s (Ok (asks.Finish who)) ≡ Err NothingToStep
  finishes_nothing who idle = ap (λ (o : Option Part). if is_some o then Ok s else Err NothingToStep) idle

-- What comes of an update, by what is prepared.
use Rattle.std.proofs.Common.{◌≡◌, ℕ, ◌<◌, Bool, length, Result, Ok, Err, ap, ◌∙◌, if◌then◌else◌}
use Rattle.std.proofs.lemmas.Bool.{lt-ltb}
use Rattle.language.specs.Lang.{Lang}
use Rattle.message_values.specs.declared.editor_message.EditorMessage.TheVariants as asks
use Rattle.message_values.specs.declared.refusal.Refusal.{Refusal}
use Rattle.message_values.specs.declared.refusal.Refusal.TheVariants.{Limit, VersionNotHigher}
use Rattle.buffer_rules.specs.Trying.{◌>>=◌}
use Rattle.buffer_rules.specs.Updates.{Asked}
use Rattle.buffer_rules.specs.Preparing.{Buffer, prepared}
use Rattle.session_rules.specs.declared.service.Service.{Service}
use Rattle.session_rules.specs.Session.{Session, document}
use Rattle.session_rules.specs.Accepting.{taken}
use Rattle.session_rules.specs.Updating.{runs_out, with_buffer}

-- a version is made where ids don't run out
abbrev pub checked : {S : Type 0} → Lang S → Session → ℕ → Result Buffer Refusal → Result Session Refusal
checked l s version r = r >>= λ b. if runs_out (document l s) b then Err Limit else Ok (with_buffer s version b)

-- by what is prepared, where the version is above all before
pub taken_checked : {S : Type 0} (l : Lang S) (service : Service) (s : Session) (version : ℕ) (wanted : Asked)
    → (document l s).last < version → (r : Result Buffer Refusal) → prepared s.buffer (length (document l s).live) wanted ≡ r
    → taken l service s (Ok (asks.Update version wanted.items wanted.blobs)) ≡ checked l s version r
taken_checked l service s version wanted newer r is =
    ap (λ (b : Bool). if b then checked l s version (prepared s.buffer (length (document l s).live) wanted) else Err VersionNotHigher)
    (lt-ltb (document l s).last version newer) ∙ ap (checked l s version) is

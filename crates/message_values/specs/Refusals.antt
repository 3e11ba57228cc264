-- The numbers with which refusals are told.
use Rattle.std.specs.Prelude.{ℕ}
use Rattle.message_values.specs.declared.refusal.Refusal.{Refusal}
use Rattle.message_values.specs.declared.refusal.Refusal.TheVariants as refused

-- a refusal's number (this project's own)
abbrev pub refusal_number : Refusal → ℕ
refusal_number refused.UnknownFunction = 1
refusal_number refused.ArgumentCount = 2
refusal_number refused.BadUtf8 = 3
refusal_number refused.BadYxml = 4
refusal_number refused.BadData = 5
refusal_number refused.VersionNotHigher = 6
refusal_number refused.UnknownVersion = 7
refusal_number refused.TipVersion = 8
refusal_number refused.NodeTwice = 9
refusal_number refused.UnknownNode = 10
refusal_number refused.EditOutOfRange = 11
refusal_number refused.RemoveDiffers = 12
refusal_number refused.PerspectiveOutOfRange = 13
refusal_number refused.UnknownExecution = 14
refusal_number refused.Limit = 15
refusal_number refused.NothingToStep = 16
refusal_number refused.StepHeld = 17
refusal_number refused.ProtocolFixed = 18
refusal_number refused.BlobTwice = 19
refusal_number refused.UnknownBlob = 20

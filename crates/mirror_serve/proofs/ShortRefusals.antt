-- A refusal has no long chunk.
use Rattle.std.proofs.Common.{◌≡◌, ◌+◌, ◌≤◌, false, nat_lt, [], length, refl, arith}
use Rattle.std.specs.Fmt.{decimal}
use Rattle.std.proofs.lemmas.Fmt.{length-decimal-le_succ}
use Rattle.byte_message.specs.Limits.{longest_chunk}
use Rattle.message_values.specs.declared.refusal.Refusal.{Refusal}
use Rattle.message_values.specs.declared.refusal.Refusal.TheVariants as refused
use Rattle.message_values.specs.Refusals.{refusal_number}
use Rattle.reply_messages.specs.declared.told.Told.TheVariants as tells
use Rattle.mirror_serve.specs.LongReplies.{too_long}

few_refusals : (reason : Refusal) → refusal_number reason ≤ 20
few_refusals refused.UnknownFunction = omega arith
few_refusals refused.ArgumentCount = omega arith
few_refusals refused.BadUtf8 = omega arith
few_refusals refused.BadYxml = omega arith
few_refusals refused.BadData = omega arith
few_refusals refused.VersionNotHigher = omega arith
few_refusals refused.UnknownVersion = omega arith
few_refusals refused.TipVersion = omega arith
few_refusals refused.NodeTwice = omega arith
few_refusals refused.UnknownNode = omega arith
few_refusals refused.EditOutOfRange = omega arith
few_refusals refused.RemoveDiffers = omega arith
few_refusals refused.PerspectiveOutOfRange = omega arith
few_refusals refused.UnknownExecution = omega arith
few_refusals refused.Limit = omega arith
few_refusals refused.NothingToStep = omega arith
few_refusals refused.StepHeld = omega arith
few_refusals refused.ProtocolFixed = omega arith
few_refusals refused.BlobTwice = omega arith
few_refusals refused.UnknownBlob = omega arith

pub refusal_short : (reason : Refusal) → too_long (tells.Refused reason) ≡ []
refusal_short reason =
    let few = few_refusals reason in
    let short : length (decimal (refusal_number reason)) ≤ refusal_number reason + 1 = length-decimal-le_succ (refusal_number reason) (omega (arith, few)) in
    let fits : nat_lt longest_chunk (length (decimal (refusal_number reason))) ≡ false = grind (arith, few, short) in
    rw fits refl

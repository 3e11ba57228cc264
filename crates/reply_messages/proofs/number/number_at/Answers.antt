-- The bytes of a decimal are UTF-8.
use Rattle.std.proofs.Common.{◌≡◌, ◌≢◌, ◌<◌, ◌^◌, ℕ, List, Option, Some, None, IfSome, IfNone, sym, subst, ◌∙◌, decimal}
use Rattle.std.specs.Str.{IsUtf8}
use Rattle.std.proofs.lemmas.Fmt.{IsAscii-decimal}
use Rattle.std.proofs.lemmas.Str.{IsUtf8-from_ascii}
use Rattle.reply_messages.specs.Fits.{IsWide}
use Rattle.reply_messages.specs.Found.{Finds}
use Rattle.reply_messages.proofs.number.number_at.Goals as goal

found : (text bytes : List ℕ) → text ≡ bytes → (r : Option ℕ) → IfSome r (λ n. text ≡ decimal n) → IfSome r (λ n. n < 2 ^ 64)
    → IfNone r ((n : ℕ) → n < 2 ^ 64 → text ≢ decimal n) → Finds decimal IsWide bytes r
found text bytes same (Some n) some small none = (small, sym some ∙ same)
found text bytes same None some small none = λ n wide e. none n wide (same ∙ sym e)

pub returns-in-Ok : goal.returns-in-Ok
returns-in-Ok c = found c.in-Ok.text.now c.args.bytes.now c.in-Ok.ensures.cases.0 c.number_of.result c.number_of.ensures.some c.number_of.ensures.small c.number_of.ensures.none

pub returns-in-Err : goal.returns-in-Err
returns-in-Err c = λ n wide e. c.in-Err.ensures.cases.0 (subst IsUtf8 e (IsUtf8-from_ascii (decimal n) (IsAscii-decimal n wide)))

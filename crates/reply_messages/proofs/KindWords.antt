-- The words of kinds of reports are plain, and each is one kind's.
use Rattle.std.proofs.Common.{◌≡◌, ℕ, Bool, true, ◌==◌, ◌||◌, not, List, ◌∷◌, ◌++◌, Some, refl, arith}
use Rattle.std.specs.List.{list_all}
use Rattle.yxml.specs.Normal.{Lacks, IsPlain}
use Rattle.report_markup.specs.declared.kind.ReportKind.{ReportKind}
use Rattle.report_markup.specs.declared.kind.ReportKind.TheVariants.{Command, Theory, Import, Def, Formula, Error, Proved, Ref, State, Loaded, Suggest}
use Rattle.report_markup.specs.Words.{kind_word}
use Rattle.reply_messages.specs.Tags.{report_kind_named}
use Rattle.reply_messages.specs.Marks.{IsStop}
use Rattle.reply_messages.proofs.Elements.{stopped}
use Rattle.reply_messages.proofs.ReadNumbers.{passing_lacks}

-- neither a byte 5 nor a byte 6
abbrev plain_byte : ℕ → Bool
plain_byte b = not (b == 5 || b == 6)

pub plain : (bs : List ℕ) → list_all plain_byte bs ≡ true → IsPlain bs
plain bs h = (passing_lacks plain_byte 5 refl bs h, passing_lacks plain_byte 6 refl bs h)

pub kind_is_plain : (k : ReportKind) → IsPlain (kind_word k)
kind_is_plain Command = plain (kind_word Command) refl
kind_is_plain Theory = plain (kind_word Theory) refl
kind_is_plain Import = plain (kind_word Import) refl
kind_is_plain Def = plain (kind_word Def) refl
kind_is_plain Formula = plain (kind_word Formula) refl
kind_is_plain Error = plain (kind_word Error) refl
kind_is_plain Proved = plain (kind_word Proved) refl
kind_is_plain Ref = plain (kind_word Ref) refl
kind_is_plain State = plain (kind_word State) refl
kind_is_plain Loaded = plain (kind_word Loaded) refl
kind_is_plain Suggest = plain (kind_word Suggest) refl

pub kind_is_named : (k : ReportKind) → report_kind_named (kind_word k) ≡ Some k
kind_is_named Command = refl
kind_is_named Theory = refl
kind_is_named Import = refl
kind_is_named Def = refl
kind_is_named Formula = refl
kind_is_named Error = refl
kind_is_named Proved = refl
kind_is_named Ref = refl
kind_is_named State = refl
kind_is_named Loaded = refl
kind_is_named Suggest = refl

-- no byte 5
abbrev no_x : ℕ → Bool
no_x b = not (b == 5)

pub no_x_in : (bs : List ℕ) → list_all no_x bs ≡ true → Lacks 5 bs
no_x_in bs h = passing_lacks no_x 5 refl bs h

-- an element that begins with a kind's word is no stop
pub kind_begins : (k : ReportKind) (rest v : List ℕ) → IsStop v → 5 ∷ 6 ∷ (kind_word k ++ rest) ≡ v → ⊥
kind_begins Command rest v stop e = stopped 99 _ v (λ h. absurd (omega (arith, h))) stop e
kind_begins Theory rest v stop e = stopped 116 _ v (λ h. absurd (omega (arith, h))) stop e
kind_begins Import rest v stop e = stopped 105 _ v (λ h. absurd (omega (arith, h))) stop e
kind_begins Def rest v stop e = stopped 100 _ v (λ h. absurd (omega (arith, h))) stop e
kind_begins Formula rest v stop e = stopped 102 _ v (λ h. absurd (omega (arith, h))) stop e
kind_begins Error rest v stop e = stopped 101 _ v (λ h. absurd (omega (arith, h))) stop e
kind_begins Proved rest v stop e = stopped 112 _ v (λ h. absurd (omega (arith, h))) stop e
kind_begins Ref rest v stop e = stopped 114 _ v (λ h. absurd (omega (arith, h))) stop e
kind_begins State rest v stop e = stopped 115 _ v (λ h. absurd (omega (arith, h))) stop e
kind_begins Loaded rest v stop e = stopped 108 _ v (λ h. absurd (omega (arith, h))) stop e
kind_begins Suggest rest v stop e = stopped 115 _ v (λ h. absurd (omega (arith, h))) stop e

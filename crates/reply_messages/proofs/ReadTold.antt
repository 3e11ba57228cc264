-- What a number tells.
use Rattle.std.proofs.Common.{◌≡◌, ℕ, ◌==◌, Bool, true, false, if◌then◌else◌, List, Option, Some, None, decimal, refl, sym, ap, subst, ◌∙◌}
use Rattle.std.specs.Option.{SomeIff}
use Rattle.std.proofs.lemmas.Bool.{eqb-true}
use Rattle.std.proofs.lemmas.Fmt.{decimal_injective}
use Rattle.pide_base.specs.Ids.{IsId}
use Rattle.message_values.specs.declared.protocol.Protocol.{Protocol}
use Rattle.message_values.specs.declared.protocol.Protocol.TheVariants.{Scalars, Symbols}
use Rattle.message_values.specs.Protocols.{protocol_number, protocol_of}
use Rattle.message_values.specs.Workers.{IsWorker}
use Rattle.reply_messages.specs.Fits.{IsWide, IsAny}
use Rattle.reply_messages.specs.Found.{Finds}
use Rattle.reply_messages.proofs.ReadNumbers.{id_is_wide}
use Rattle.reply_messages.proofs.OneChunk.{worker_is_wide, protocol_is_known, protocol_is_wide}

-- a value found by its number is found by the number's decimal
pub number_told : {A : Type 0} (number : A → ℕ) (Fits : A → Type 0) → ((x : A) → Fits x → IsWide (number x)) → (bytes : List ℕ) (n : ℕ) (found : Option A)
    → Finds decimal IsWide bytes (Some n) → Finds number Fits n found → Finds (λ x. decimal (number x)) Fits bytes found
number_told number Fits wide bytes n (Some x) told h = (h.0, ap decimal h.1 ∙ told.1)
number_told number Fits wide bytes n None told none = λ x fits e. none x fits (decimal_injective (number x) n (wide x fits) told.0 (e ∙ sym told.1))

found_if : (P : ℕ → Type 0) (n : ℕ) (found : Option ℕ) → SomeIff found (P n) n → Finds (λ m. m) P n found
found_if P n (Some x) h = let same = h.1 in (subst P (sym same) h.0, same)
found_if P n None never = λ m holds e. never (subst P e holds)

pub id_told : (bytes : List ℕ) (n : ℕ) (found : Option ℕ) → Finds decimal IsWide bytes (Some n) → SomeIff found (IsId n) n → Finds decimal IsId bytes found
id_told bytes n found told h = number_told (λ m. m) IsId id_is_wide bytes n found told (found_if IsId n found h)

pub worker_told : (bytes : List ℕ) (n : ℕ) (found : Option ℕ) → Finds decimal IsWide bytes (Some n) → SomeIff found (IsWorker n) n → Finds decimal IsWorker bytes found
worker_told bytes n found told h = number_told (λ m. m) IsWorker worker_is_wide bytes n found told (found_if IsWorker n found h)

numbered : (n : ℕ) (found : Option Protocol) → found ≡ protocol_of n → Finds protocol_number IsAny n found
numbered n None e = λ p any same. let other : None ≡ Some p = e ∙ ap protocol_of (sym same) ∙ protocol_is_known p in absurd (cc)
numbered n (Some p) e = go (n == 1) (n == 2) refl refl e where
  go : (one two : Bool) → (n == 1) ≡ one → (n == 2) ≡ two → Some p ≡ (if one then Some Scalars else if two then Some Symbols else None) → Finds protocol_number IsAny n (Some p)
  go true two o t f = let is : p ≡ Scalars = cc in (tt, ap protocol_number is ∙ sym (eqb-true n 1 o))
  go false true o t f = let is : p ≡ Symbols = cc in (tt, ap protocol_number is ∙ sym (eqb-true n 2 t))
  go false false o t f = absurd (cc)

pub protocol_told : (bytes : List ℕ) (n : ℕ) (found : Option Protocol) → Finds decimal IsWide bytes (Some n) → found ≡ protocol_of n
    → Finds (λ p. decimal (protocol_number p)) IsAny bytes found
protocol_told bytes n found told e = number_told protocol_number IsAny (λ p any. protocol_is_wide p) bytes n found told (numbered n found e)

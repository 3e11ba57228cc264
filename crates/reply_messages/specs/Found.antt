-- What a reader finds in a text or in chunks.
use Rattle.std.specs.Prelude.{◌≡◌, ◌≢◌, ℕ, ◌<◌, ◌≤◌, List, ◌++◌, length, drop, Option, Some, None}
use Rattle.std.specs.List.{AllByRecursion, flat_map}
use Rattle.reply_messages.specs.declared.taken.Taken.{Taken}

-- the value whose spelling this is, or that it is no value's (this project's own)
abbrev pub Finds : {A B : Type 0} → (A → B) → (A → Type 0) → B → Option A → Type 0
Finds spelling Fits text (Some value) = Fits value × (spelling value ≡ text)
Finds {A = A} spelling Fits text None = (value : A) → Fits value → spelling value ≢ text

-- the value stands at the front of the text, in so many bytes
pub record Fronts {A : Type 0} (spelling : A → List ℕ) (Fits : A → Type 0) (text : List ℕ)
    (taken : Taken A) : Type 0 where
  pub fits : Fits taken.value
  pub some : 0 < taken.length
  pub within : taken.length ≤ length text
  pub told : text ≡ spelling taken.value ++ drop taken.length text

-- no value stands there
abbrev pub HasNone : {A : Type 0} → (A → List ℕ) → (A → Type 0) → List ℕ → Type 0
HasNone {A = A} spelling Fits text =
    (value : A) (rest : List ℕ) → Fits value → text ≢ spelling value ++ rest

-- the value at the front of the text, or that there is none
abbrev pub FindsFront : {A : Type 0} → (A → List ℕ) → (A → Type 0) → List ℕ → Option (Taken A)
    → Type 0
FindsFront spelling Fits text (Some taken) = Fronts spelling Fits text taken
FindsFront spelling Fits text None = HasNone spelling Fits text

-- values stand at the front of the text, one after the other, and no other one behind them
pub record FrontsAll {A : Type 0} (spelling : A → List ℕ) (Fits : A → Type 0) (text : List ℕ)
    (taken : Taken (List A)) : Type 0 where
  pub fits : AllByRecursion Fits taken.value
  pub within : taken.length ≤ length text
  pub told : text ≡ flat_map spelling taken.value ++ drop taken.length text
  pub last : HasNone spelling Fits (drop taken.length text)

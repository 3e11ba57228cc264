-- The longest front of a text that has a form (this project's own).
use Rattle.std.specs.Prelude.{◌≡◌, ℕ, ◌≤◌, Bool, IsTrue, if◌then◌else◌, List, [], length, take, Option, Some, None, MatchOption, zero, suc}

-- the first n of the text have the form, and no longer front of it has
pub record IsLongest (Form : List ℕ → Type 0) (text : List ℕ) (n : ℕ) : Type 0 where
  pub within : n ≤ length text
  pub fits : Form (take n text)
  pub longest : (m : ℕ) → m ≤ length text → Form (take m text) → m ≤ n

-- no front of the text has the form
abbrev pub HasNoFront : (List ℕ → Type 0) → List ℕ → Type 0
HasNoFront Form text = (m : ℕ) → m ≤ length text → Form (take m text) → ⊥

-- the length of the longest front with the form, or none where no front has it
abbrev pub FindsLongest : (List ℕ → Type 0) → List ℕ → Option ℕ → Type 0
FindsLongest Form text found = MatchOption found (HasNoFront Form text) (IsLongest Form text)

-- the same by a search from the front of n down to the empty one
abbrev pub longest_upto : (List ℕ → Bool) → List ℕ → ℕ → Option ℕ
longest_upto form text zero = if form [] then Some 0 else None
longest_upto form text (suc n) =
    if form (take (suc n) text) then Some (suc n) else longest_upto form text n

-- the length of the longest front with the form
abbrev pub longest_front : (List ℕ → Bool) → List ℕ → Option ℕ
longest_front form text = longest_upto form text (length text)

-- the search gives the longest front, and each text has one
pub record HasOneLongest : Type 0 where
  pub found : (form : List ℕ → Bool) (text : List ℕ) →
      FindsLongest (λ s. IsTrue (form s)) text (longest_front form text)
  pub one : (form : List ℕ → Bool) (text : List ℕ) (a b : Option ℕ) →
      FindsLongest (λ s. IsTrue (form s)) text a
      → FindsLongest (λ s. IsTrue (form s)) text b → a ≡ b

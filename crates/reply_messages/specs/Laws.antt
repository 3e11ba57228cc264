-- What a reader needs of spellings.
use Rattle.std.specs.Prelude.{◌≡◌, ◌≢◌, ℕ, List, ◌++◌}
use Rattle.yxml.specs.Normal.{x_byte, Lacks}
use Rattle.reply_messages.specs.Marks.{IsStop}

-- words: none has a byte 5, and none tells two values
pub record AreWords {A : Type 0} (word : A → List ℕ) (Fits : A → Type 0) : Type 0 where
  pub unmarked : (x : A) → Fits x → Lacks x_byte (word x)
  pub one : (x y : A) → Fits x → Fits y → word x ≡ word y → x ≡ y

-- elements: each ends by itself and tells one value, and none begins where another one ends
pub record AreElements {A : Type 0} (spelling : A → List ℕ) (Fits : A → Type 0) : Type 0 where
  pub one : (x y : A) (u v : List ℕ) → Fits x → Fits y
      → spelling x ++ u ≡ spelling y ++ v → (x ≡ y) × (u ≡ v)
  pub begins : (x : A) (u v : List ℕ) → Fits x → IsStop v → spelling x ++ u ≢ v

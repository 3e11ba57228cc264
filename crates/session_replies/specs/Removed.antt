-- What is told of versions that are removed.
use Rattle.std.specs.Prelude.{◌≡◌, ℕ, List}
use Rattle.text_words.specs.Members.{has}
use Rattle.reply_messages.specs.Forms.{IsRising}

-- the same ids, rising, each once
pub record IsRisen (ids risen : List ℕ) : Type 0 where
  pub rises : IsRising risen
  pub same : (id : ℕ) → has risen id ≡ has ids id

-- What a writer of a board is handed, for its tests: by what byte an entry has, if it has one.
use Rattle.std.specs.Prelude.{◌≡◌, ⊤, ℕ, List, [], ◌∷◌, Option, Some, None}
use Rattle.std.specs.List.{flat_map}
use Rattle.worker_loop.specs.declared.said.Said.{Said}
use Rattle.worker_loop.specs.declared.said.Said.TheVariants as said
use Rattle.worker_loop.specs.declared.outbox.Next.{Next}
use Rattle.worker_loop.specs.declared.outbox.Next.TheVariants as next

-- a byte, if there is one
abbrev pub bytes_in : Option ℕ → List ℕ
bytes_in None = []
bytes_in (Some byte) = byte ∷ []

-- the bytes of these entries, in order
abbrev pub bytes_of : {E : Type 0} → (E → Option ℕ) → List E → List ℕ
bytes_of byte entries = flat_map (λ e. bytes_in (byte e)) entries

-- nothing is handed out; that all has ended is told only where the last word says so
abbrev pub RestsSo : Option Said → Next → Type 0
RestsSo last (next.Piece piece) = ⊥
RestsSo last next.Nothing = ⊤
RestsSo None next.Ended = ⊥
RestsSo (Some word) next.Ended = word ≡ said.Ended

-- Sources and sinks over memory: which bytes, how many a call moves, and which calls fail.
use Rattle.std.specs.Prelude.{◌≡◌, ℕ, ◌==◌, ◌-◌, ◌<◌, Bool, true, false, List, [], ◌++◌, length, take, drop, min}
use Rattle.std.specs.List.{list_any}
use Rattle.pide_base.specs.Faults.{risen}
use Rattle.pide_base.specs.declared.source.Pulled.{Pulled}
use Rattle.pide_base.specs.declared.source.Pulled.TheVariants as pulled
use Rattle.pide_base.specs.declared.sink.Pushed.{Pushed}
use Rattle.pide_base.specs.declared.sink.Pushed.TheVariants as pushed

-- what a source over memory has: the bytes left, how many a pull moves at most, the numbers of the
-- calls that are to fail, and how many calls and faults there were (this project's own)
pub record SourceState : Type 0 where
  pub left : List ℕ
  pub piece : ℕ
  pub fails : List ℕ
  pub calls : ℕ
  pub faults : ℕ

-- what a sink over memory has: its contents and the room left; the rest as in a source (this
-- project's own)
pub record SinkState : Type 0 where
  pub contents : List ℕ
  pub room : ℕ
  pub fails : List ℕ
  pub calls : ℕ
  pub faults : ℕ

-- whether the call after so many is to fail; calls are counted from 1 (this project's own)
abbrev pub is_to_fail : ℕ → List ℕ → Bool
is_to_fail calls fails = list_any (λ n. n == risen calls) fails

-- a pull moves as many bytes as the piece, the buffer and what is left allow; it fails where it is
-- to fail (this project's own)
abbrev pub Pulls : SourceState → List ℕ → Pulled → SourceState → Type 0
Pulls s buffer (pulled.Bytes n) s' =
    (is_to_fail s.calls s.fails ≡ false) × (0 < n)
    × (n ≡ min (min s.piece (length buffer)) (length s.left))
    × (take n buffer ≡ take n s.left)
    × (s' ≡ record s { left = drop n s.left; calls = risen s.calls })
Pulls s buffer pulled.End s' =
    (is_to_fail s.calls s.fails ≡ false) × (s.left ≡ []) × (s' ≡ record s { calls = risen s.calls })
Pulls s buffer pulled.Failed s' = (is_to_fail s.calls s.fails ≡ true)
    × (s' ≡ record s { calls = risen s.calls; faults = risen s.faults })

-- a push takes what there is room for; it fails where it is to fail or no room is left (this
-- project's own)
abbrev pub Pushes : SinkState → List ℕ → Pushed → SinkState → Type 0
Pushes k piece (pushed.Took n) k' =
    (is_to_fail k.calls k.fails ≡ false) × (0 < n) × (n ≡ min k.room (length piece))
    × (k' ≡ record k {
      contents = k.contents ++ take n piece;
      room = k.room - n;
      calls = risen k.calls;
    })
Pushes k piece pushed.Failed k' =
    (is_to_fail k.calls k.fails ≡ false → k.room ≡ 0)
    × (k' ≡ record k { calls = risen k.calls; faults = risen k.faults })

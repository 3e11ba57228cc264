-- Bytes that are written one reply after the other.
use Rattle.std.proofs.Common.{◌≡◌, ℕ, List, [], ◌++◌, Option, refl, sym, ap, subst, ◌∙◌, append_assoc, append-nil}
use Rattle.std.specs.Io.KnownBytes.{Appends}
use Rattle.std.proofs.KnownBytes.{Appends-nil, Appends-trans}
use Rattle.pide_base.specs.Moves.{AppendsFront}
use Rattle.pide_base.proofs.Known.{AppendsFront-after}

-- a front of all is written, and the rest comes behind
abbrev pub IsWritten : Option (List ℕ) → Option (List ℕ) → List ℕ → List ℕ → Type 0
IsWritten first held rest all = (front : List ℕ) × (all ≡ front ++ rest) × Appends first held front

pub none_written : (held : Option (List ℕ)) (all : List ℕ) → IsWritten held held all all
none_written held all = ([], refl, Appends-nil held)

module _ (first held held' : Option (List ℕ)) (one rest all : List ℕ) (way : IsWritten first held (one ++ rest) all) where
  -- the next reply is written
  pub one_written : Appends held held' one → IsWritten first held' rest all
  one_written written =
      (way.0 ++ one, way.1 ∙ sym (append_assoc way.0 one rest), Appends-trans first held held' way.0 one way.2 written)

  -- a front of it is
  pub front_written : AppendsFront held held' one → AppendsFront first held' all
  front_written written =
      let front = AppendsFront-after first held held' way.0 one way.2 written in (
        front.0,
        front.1 ++ rest,
        way.1 ∙ sym (append_assoc way.0 one rest) ∙ ap (λ xs. xs ++ rest) front.2 ∙ append_assoc front.0 front.1 rest,
        front.3,
      )

-- a whole text is a front of it
pub whole_front : (held held' : Option (List ℕ)) (all : List ℕ) → Appends held held' all → AppendsFront held held' all
whole_front held held' all written = (all, [], sym (append-nil all), written)

-- nothing is written, and that is a front of all
pub no_front : (held : Option (List ℕ)) (all : List ℕ) → AppendsFront held held all
no_front held all = ([], all, refl, Appends-nil held)

-- nothing comes behind
pub all_written : (first held : Option (List ℕ)) (rest all : List ℕ) → rest ≡ [] → IsWritten first held rest all → Appends first held all
all_written first held rest all none way = subst (Appends first held) (sym (way.1 ∙ ap (λ xs. way.0 ++ xs) none ∙ append-nil way.0)) way.2

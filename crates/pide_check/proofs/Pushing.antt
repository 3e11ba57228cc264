-- Bytes on their way to a sink.
use Rattle.std.proofs.Common.{◌≡◌, ℕ, List, [], ◌++◌, Option, Bool, true, false, refl, sym, ap, subst, ◌∙◌, append_assoc}
use Rattle.std.proofs.lemmas.List.{append-nil}
use Rattle.std.specs.Io.KnownBytes.{Appends}
use Rattle.std.proofs.KnownBytes.{Appends-nil, Appends-trans}
use Rattle.pide_base.specs.Moves.{AppendsFront}
use Rattle.pide_base.proofs.Known.{AppendsFront-after}
use Rattle.pide_check.specs.Writing.{AreOnTheirWay}

-- before the first of them
pub none_yet : (held : Option (List ℕ)) (all : List ℕ) → AreOnTheirWay held held [] all all
none_yet held all = ([], refl, Appends-nil held)

-- the first of the rest wait too
pub wait_too : (first held : Option (List ℕ)) (waiting more rest all : List ℕ)
    → AreOnTheirWay first held waiting (more ++ rest) all → AreOnTheirWay first held (waiting ++ more) rest all
wait_too first held waiting more rest all way =
    (way.0, way.1 ∙ ap (λ xs. way.0 ++ xs) (sym (append_assoc waiting more rest)), way.2)

-- what waited is pushed
pub pushed_all : (first held held' : Option (List ℕ)) (waiting rest all : List ℕ)
    → AreOnTheirWay first held waiting rest all → Appends held held' waiting → AreOnTheirWay first held' [] rest all
pushed_all first held held' waiting rest all way pushed =
    (way.0 ++ waiting, way.1 ∙ sym (append_assoc way.0 waiting rest), Appends-trans first held held' way.0 waiting way.2 pushed)

-- a front of what waited is
pub pushed_front : (first held held' : Option (List ℕ)) (waiting rest all : List ℕ)
    → AreOnTheirWay first held waiting rest all → AppendsFront held held' waiting → AppendsFront first held' all
pushed_front first held held' waiting rest all way pushed =
    let front = AppendsFront-after first held held' way.0 waiting way.2 pushed in
    (front.0, front.1 ++ rest, way.1 ∙ sym (append_assoc way.0 waiting rest) ∙ ap (λ xs. xs ++ rest) front.2 ∙ append_assoc front.0 front.1 rest, front.3)

-- what is written is a front of all
pub there : (first held : Option (List ℕ)) (waiting rest all : List ℕ)
    → AreOnTheirWay first held waiting rest all → AppendsFront first held all
there first held waiting rest all way = (way.0, waiting ++ rest, way.1, way.2)

-- where nothing waits and nothing comes behind, all is written
pub all_there : (first held : Option (List ℕ)) (all : List ℕ)
    → AreOnTheirWay first held [] [] all → Appends first held all
all_there first held all way = subst (Appends first held) (sym (way.1 ∙ append-nil way.0)) way.2

-- what holds in both cases
pub either : {P : Type 0} (b : Bool) → (b ≡ true → P) → (b ≡ false → P) → P
either true t f = t refl
either false t f = f refl

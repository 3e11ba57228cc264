-- What is kept of a version is what is known of it.
use Rattle.std.proofs.Common.{◌≡◌, ℕ, Bool, true, false, cond, List, [], ◌∷◌, Option, Some, None, Ok, Err, ap}
use Rattle.std.specs.Prelude.{find, ◌==◌}
use Rattle.std.specs.Borrow.{Bor}
use Rattle.std.specs.Option.{option_copied, option_map}
use Rattle.core_tables.specs.Live.{version_of}
use Rattle.core_tables.specs.declared.versions.Live.{Live}
use Rattle.mirror_rules.specs.Images.{Image, Mirror}
use Rattle.mirror_rules.specs.Moves.{Reflection}
use Rattle.mirror_rules.specs.Moves as reflection
use Rattle.mirror_rules.specs.Small.{fault_in}
use Rattle.mirror_rules.specs.declared.fault.MirrorFault.{MirrorFault}
use Rattle.pide_mirror.specs.Kept.{AreKept}
use Rattle.pide_mirror.specs.declared.known.Known.{Known}
use Rattle.pide_mirror.specs.declared.known.LiveVersion.{LiveVersion}
use Rattle.pide_mirror.specs.Knowing.{IsGoing}
use Rattle.pide_mirror.specs.Mirroring.{KnowsSo}
use Rattle.pide_mirror.specs.Showing.{IsKnown, ShowsSo}
use Rattle.pide_mirror.specs.declared.error.MirrorError.{MirrorError}
use Rattle.pide_mirror.specs.declared.error.MirrorError.TheVariants.{Fault, NoMemory}
use Rattle.pide_mirror.specs.declared.going.Going.{Going}

abbrev kept_as : List LiveVersion → ℕ → Option Known
kept_as kept id = option_map (λ one. one.known) (find (λ one. one.id == id) kept)

-- a live version is found where it is kept
pub known_found : (id : ℕ) (kept : List LiveVersion) (live : List (Live Image)) → AreKept kept live → IsKnown (version_of live id) (kept_as kept id)
known_found id [] [] are = tt
known_found id [] (l ∷ live) are = absurd are
known_found id (k ∷ kept) [] are = absurd are
known_found id (k ∷ kept) (l ∷ live) are = go (l.id == id) (k.id == id) (ap (λ n. n == id) are.0.0) (known_found id kept live are.1)
  where
    go : (b c : Bool) → c ≡ b → IsKnown (version_of live id) (kept_as kept id)
        → IsKnown (option_map (λ (one : Live Image). one.version) (cond b (Some l) (find (λ one. one.id == id) live)))
        (option_map (λ (one : LiveVersion). one.known) (cond c (Some k) (find (λ one. one.id == id) kept)))
    go true true same rest = are.0.1
    go false false same rest = rest
    go true false same rest = absurd (cc)
    go false true same rest = absurd (cc)

-- behind a fault nothing is shown
pub faulted_shows : (known : Reflection) (id : ℕ) (fault : MirrorFault) → Some fault ≡ fault_in known → ShowsSo known id (Err fault)
faulted_shows (reflection.Going m) id fault is = absurd (cc)
faulted_shows (reflection.Faulted other) id fault is = let same : fault ≡ other = cc in ap Err same

-- before one what is kept is
pub going_shows : (ended : Option MirrorError) (going : Going) (known : Reflection) (id : ℕ) (found : Option (Bor Known)) → KnowsSo ended going known
    → None ≡ fault_in known → ((m : Mirror) → IsGoing going m → IsKnown (version_of m.live id) (option_copied found)) → ShowsSo known id (Ok found)
going_shows ended going (reflection.Faulted fault) id found knows none so = absurd (cc)
going_shows (Some (Fault fault)) going (reflection.Going m) id found knows none so = absurd (cc)
going_shows (Some NoMemory) going (reflection.Going m) id found knows none so = so m knows
going_shows None going (reflection.Going m) id found knows none so = so m knows

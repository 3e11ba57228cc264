-- What has been taken in of a header, by its parts.
use Rattle.std.proofs.Common.{◌≡◌, ℕ, List, [], ◌∷◌, sym, refl, ap}
use Rattle.std.proofs.lemmas.List.{map-append}
use Rattle.outer_syntax.specs.declared.stage.Stage.{Stage}
use Rattle.outer_syntax.specs.declared.stage.Stage.TheVariants.{Start, Theory, Name, Imports, Import, Keywords, PairName, Equals, Pair, Ended, Absent}
use Rattle.outer_syntax.proofs.KnownParts.{Parts, collect}
use Rattle.outer_syntax.specs.Headers.{pair_of, header_of}
use Rattle.outer_syntax.specs.Reading.{taken_at}
use Rattle.outer_syntax.specs.declared.read.Reading.{Reading}

-- what has been read, by its parts
abbrev pub told : Stage → Parts → Reading
told s p = record { stage = s; header = header_of p.0; pair = p.1 }

pub taken-told : (s : Stage) (x : List ℕ) (p : Parts) → taken_at s x (told s p) ≡ told s (collect s x p)
taken-told Start x p = refl
taken-told Theory x p = refl
taken-told Name x p = refl
taken-told Imports x p = refl
taken-told Import x p = refl
taken-told Keywords x p = refl
taken-told PairName x p = refl
taken-told Equals x p = refl
taken-told Pair x p =
    ap (λ ks. record { stage = Pair; header = record { name = p.0.name; imports = p.0.imports; keywords = ks }; pair = [] }) (sym (map-append pair_of p.0.pairs ((p.1, x) ∷ [])))
taken-told Ended x p = refl
taken-told Absent x p = refl

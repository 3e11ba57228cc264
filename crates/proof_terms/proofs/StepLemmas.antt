-- One reading after another.
use Rattle.std.proofs.Common.{◌≡◌, List, Ok, Err, refl, ap}
use Rattle.proof_terms.specs.declared.mark.Mark.{Mark}
use Rattle.proof_terms.specs.Reading.{Read, and_then}

-- what follows what was read
pub then_ok : {A B : Type 0} {m : Read A} {a : A} {rest : List Mark} (next : A → List Mark → Read B)
    → m ≡ Ok (a, rest) → and_then m next ≡ next a rest
then_ok next e = ap (λ x. and_then x next) e

-- what was read before what follows
pub record Parted {A B : Type 0} (m : Read A) (next : A → List Mark → Read B) (z : B × List Mark) : Type 0 where
  pub first : A
  pub rest : List Mark
  pub was : m ≡ Ok (first, rest)
  pub so : next first rest ≡ Ok z

pub parted : {A B : Type 0} (m : Read A) (next : A → List Mark → Read B) (z : B × List Mark)
    → and_then m next ≡ Ok z → Parted m next z
parted (Err f) next z e = cc
parted (Ok r) next z e = record { first = r.0; rest = r.1; was = refl; so = e }

same_read : {A : Type 0} {p q : A × List Mark} → ◌≡◌ {A = Read A} (Ok p) (Ok q) → p ≡ q
same_read e = cc

-- the parts of what was read
pub same_first : {A : Type 0} {a b : A} {x y : List Mark} → ◌≡◌ {A = Read A} (Ok (a, x)) (Ok (b, y)) → a ≡ b
same_first e = ap (λ r. r.0) (same_read e)

pub same_rest : {A : Type 0} {a b : A} {x y : List Mark} → ◌≡◌ {A = Read A} (Ok (a, x)) (Ok (b, y)) → x ≡ y
same_rest e = ap (λ r. r.1) (same_read e)

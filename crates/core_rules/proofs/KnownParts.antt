-- Parts that test as the same are.
use Rattle.std.proofs.Common.{◌≡◌, true, refl, ap, ◌∙◌}
use Rattle.std.proofs.lemmas.Bool.{eqb-true, eq-eqb, and_parts, and_from}
use Rattle.std.specs.Prelude.{◌==◌}
use Rattle.pide_base.specs.declared.part.Part.{Part}
use Rattle.pide_base.specs.declared.part.PartKind.{PartKind}
use Rattle.pide_base.specs.declared.part.PartKind.TheVariants as kind
use Rattle.core_rules.specs.Parts.{same_kind, same_part}

pub kind_is : (a b : PartKind) → same_kind a b ≡ true → a ≡ b
kind_is kind.Eval kind.Eval e = refl
kind_is kind.Eval kind.Fork e = absurd (cc)
kind_is kind.Eval kind.Print e = absurd (cc)
kind_is kind.Fork kind.Eval e = absurd (cc)
kind_is kind.Fork kind.Fork e = refl
kind_is kind.Fork kind.Print e = absurd (cc)
kind_is kind.Print kind.Eval e = absurd (cc)
kind_is kind.Print kind.Fork e = absurd (cc)
kind_is kind.Print kind.Print e = refl

pub kind_itself : (a : PartKind) → same_kind a a ≡ true
kind_itself kind.Eval = refl
kind_itself kind.Fork = refl
kind_itself kind.Print = refl

-- the test of parts
pub part_is : (p q : Part) → same_part p q ≡ true → p ≡ q
part_is p q e =
    let parts = and_parts (p.exec == q.exec) (same_kind p.kind q.kind) e in
    ap (λ x. record { exec = x; kind = p.kind }) (eqb-true p.exec q.exec parts.0)
    ∙ ap (λ x. record { exec = q.exec; kind = x }) (kind_is p.kind q.kind parts.1)

pub part_itself : (p : Part) → same_part p p ≡ true
part_itself p = and_from (p.exec == p.exec) (same_kind p.kind p.kind) (eq-eqb p.exec p.exec refl) (kind_itself p.kind)

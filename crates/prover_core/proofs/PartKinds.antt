-- The kinds of parts of an execution.
use Rattle.std.proofs.Common.{◌≡◌, ℕ, Bool, true, List, [], ◌∷◌, map, refl}
use Rattle.std.proofs.lemmas.Bool.{and_from, or_left, or_right}
use Rattle.std.specs.List.{list_any, list_all}
use Rattle.pide_base.specs.declared.part.Part.{Part}
use Rattle.pide_base.specs.declared.part.PartKind.{PartKind}
use Rattle.pide_base.specs.declared.part.PartKind.TheVariants as kind
use Rattle.exec_rules.specs.declared.home.Input.{Input}
use Rattle.exec_rules.specs.declared.home.Input.TheVariants as input
use Rattle.core_rules.specs.Parts.{same_kind, kinds_by}
use Rattle.core_rules.specs.Sources.{is_evaluation}
use Rattle.core_rules.proofs.KnownParts.{kind_itself}
use Rattle.prover_core.specs.Progress.{part}

-- among the kinds of parts, each passes
pub all_kinds : (e : ℕ) (test : Part → Bool) (ks : List PartKind)
    → ((k : PartKind) → list_any (same_kind k) ks ≡ true → test (part e k) ≡ true) → list_all test (map (λ k. part e k) ks) ≡ true
all_kinds e test [] all = refl
all_kinds e test (k ∷ ks) all = and_from (test (part e k)) (list_all test (map (λ x. part e x) ks))
    (all k (or_left (same_kind k k) (list_any (same_kind k) ks) (kind_itself k)))
    (all_kinds e test ks (λ x is. all x (or_right (same_kind x k) (list_any (same_kind x) ks) is)))

-- a fork is one of an evaluation
pub fork_evaluates : (taken : Input) (f : Bool) → list_any (same_kind kind.Fork) (kinds_by taken f) ≡ true → is_evaluation taken ≡ true
fork_evaluates (input.First head) f is = refl
fork_evaluates (input.Next e) f is = refl
fork_evaluates (input.Print e) f is = absurd (cc)

pub evaluation_among : (taken : Input) (f : Bool) → is_evaluation taken ≡ true → list_any (same_kind kind.Eval) (kinds_by taken f) ≡ true
evaluation_among (input.First head) f is = refl
evaluation_among (input.Next e) f is = refl
evaluation_among (input.Print e) f is = absurd (cc)

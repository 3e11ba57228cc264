-- Tasks whose priority is told anew.
use Rattle.std.proofs.Common.{◌≡◌, Bool, refl}
use Rattle.pide_base.specs.declared.part.PartKind.{PartKind}
use Rattle.pide_base.specs.declared.part.PartKind.TheVariants as kind
use Rattle.core_tables.specs.declared.task.Standing.{Standing as Task}
use Rattle.core_rules.specs.Ready.{priority_by}
use Rattle.prover_core.specs.Plans.{ranked}

abbrev of_kind : Task → PartKind → Task
of_kind s y = record s { kind = y }

pub ranked_same : (b : Bool) (s : Task) → (ranked b s).kind ≡ s.kind
ranked_same b s = go s.kind
  where
    go : (y : PartKind) → (ranked b (of_kind s y)).kind ≡ y
    go kind.Eval = refl
    go kind.Fork = refl
    go kind.Print = refl

pub ranked_held : (b : Bool) (s : Task) → (ranked b s).held ≡ s.held
ranked_held b s = go s.kind
  where
    go : (y : PartKind) → (ranked b (of_kind s y)).held ≡ s.held
    go kind.Eval = refl
    go kind.Fork = refl
    go kind.Print = refl

pub ranked_inputs : (b : Bool) (s : Task) → (ranked b s).inputs ≡ s.inputs
ranked_inputs b s = go s.kind
  where
    go : (y : PartKind) → (ranked b (of_kind s y)).inputs ≡ s.inputs
    go kind.Eval = refl
    go kind.Fork = refl
    go kind.Print = refl

-- its priority is by what is visible now
pub ranked_urgent : (b c : Bool) (x : PartKind) (s : Task) → s.kind ≡ x → s.priority ≡ priority_by x c
    → (ranked b s).priority ≡ priority_by x b
ranked_urgent b c kind.Eval s same was = go s.kind same
  where
    go : (y : PartKind) → y ≡ kind.Eval → (ranked b (of_kind s y)).priority ≡ priority_by kind.Eval b
    go kind.Eval is = refl
    go kind.Fork is = absurd (cc)
    go kind.Print is = absurd (cc)
ranked_urgent b c kind.Fork s same was = go s.kind same
  where
    go : (y : PartKind) → y ≡ kind.Fork → (ranked b (of_kind s y)).priority ≡ priority_by kind.Fork b
    go kind.Fork is = was
    go kind.Eval is = absurd (cc)
    go kind.Print is = absurd (cc)
ranked_urgent b c kind.Print s same was = go s.kind same
  where
    go : (y : PartKind) → y ≡ kind.Print → (ranked b (of_kind s y)).priority ≡ priority_by kind.Print b
    go kind.Print is = was
    go kind.Eval is = absurd (cc)
    go kind.Fork is = absurd (cc)

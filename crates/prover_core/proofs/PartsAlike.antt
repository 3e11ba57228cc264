-- Parts that are the same, and which parts are finished after one event more.
use Rattle.std.proofs.Common.{◌≡◌, ℕ, Bool, true, false, cond, ◌&&◌, refl, ap, sym, ◌∙◌}
use Rattle.std.proofs.lemmas.Bool.{eq-eqb}
use Rattle.std.specs.Prelude.{◌==◌}
use Rattle.pide_base.specs.declared.part.Part.{Part}
use Rattle.pide_base.specs.declared.part.PartKind.{PartKind}
use Rattle.pide_base.specs.declared.part.PartKind.TheVariants as kind
use Rattle.core_rules.specs.Parts.{same_kind, same_part}
use Rattle.core_rules.specs.Standing.{Standing, Done, is_done}
use Rattle.core_rules.proofs.KnownParts.{part_is}
use Rattle.prover_core.specs.Progress.{Completed, part, and_also}

-- parts of other executions are others
pub elsewhere : (p : Part) (e : ℕ) (k : PartKind) → (p.exec == e) ≡ false → same_part p (part e k) ≡ false
elsewhere p e k apart = ap (λ b. b && same_kind p.kind k) apart

-- which parts of an execution are finished, by how parts stand
abbrev pub completed_by : (Part → Standing) → ℕ → Completed
completed_by stands e = record {
  eval = is_done (stands (part e kind.Eval));
  fork = is_done (stands (part e kind.Fork));
  print = is_done (stands (part e kind.Print));
}

-- how parts stand once one of them stands so
abbrev pub changed : Part → Standing → (Part → Standing) → Part → Standing
changed p s stands q = cond (same_part p q) s (stands q)

abbrev made : Bool → Bool → Bool → Completed
made a b c = record { eval = a; fork = b; print = c }

same_made : (a b c x y z : Bool) → a ≡ x → b ≡ y → c ≡ z → made a b c ≡ made x y z
same_made a b c x y z e f g = ap (λ o. made o b c) e ∙ ap (λ o. made x o c) f ∙ ap (λ o. made x y o) g

module _ (stands : Part → Standing) (p : Part) (s : Standing) where
  -- of other executions
  pub completed_elsewhere : (e : ℕ) → (p.exec == e) ≡ false → completed_by (changed p s stands) e ≡ completed_by stands e
  completed_elsewhere e apart = by (p.exec == e) apart
    where
      by : (b : Bool) → b ≡ false → made (is_done (cond (b && same_kind p.kind kind.Eval) s (stands (part e kind.Eval))))
          (is_done (cond (b && same_kind p.kind kind.Fork) s (stands (part e kind.Fork))))
          (is_done (cond (b && same_kind p.kind kind.Print) s (stands (part e kind.Print))))
          ≡ completed_by stands e
      by true x = absurd (cc)
      by false x = refl

  -- where it was unfinished and is
  module _ (unfinished : is_done s ≡ false) (was : is_done (stands p) ≡ false) where
    pub done_alike : (q : Part) → is_done (changed p s stands q) ≡ is_done (stands q)
    done_alike q = go (same_part p q) refl
      where
        go : (b : Bool) → same_part p q ≡ b → is_done (cond b s (stands q)) ≡ is_done (stands q)
        go true e = unfinished ∙ sym was ∙ ap (λ x. is_done (stands x)) (part_is p q e)
        go false e = refl

    pub completed_alike : (e : ℕ) → completed_by (changed p s stands) e ≡ completed_by stands e
    completed_alike e = same_made _ _ _ _ _ _ (done_alike (part e kind.Eval)) (done_alike (part e kind.Fork))
        (done_alike (part e kind.Print))

-- of its own execution, where it is finished
pub completed_here : (stands : Part → Standing) (e : ℕ) (k : PartKind)
    → completed_by (changed (part e k) Done stands) e ≡ and_also k (completed_by stands e)
completed_here stands e k = by (e == e) (eq-eqb e e refl) k
  where
    by : (b : Bool) → b ≡ true → (k : PartKind) → made (is_done (cond (b && same_kind k kind.Eval) Done (stands (part e kind.Eval))))
        (is_done (cond (b && same_kind k kind.Fork) Done (stands (part e kind.Fork))))
        (is_done (cond (b && same_kind k kind.Print) Done (stands (part e kind.Print))))
        ≡ and_also k (completed_by stands e)
    by true x kind.Eval = refl
    by true x kind.Fork = refl
    by true x kind.Print = refl
    by false x k = absurd (cc)

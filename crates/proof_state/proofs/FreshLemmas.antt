-- A name that is not taken is fresh.
use Rattle.std.proofs.lemmas.Bool.{or_parts}
use Rattle.std.proofs.Common.{◌≡◌, ℕ, Bool, true, false, List, [], ◌∷◌, cond, map, filter, sym, ◌∙◌, ap, ⊎_elim}
use Rattle.std.specs.List.{list_any}
use Rattle.nj_formula.specs.Meaning.{meaning}
use Rattle.nj_formula.specs.Free.{is_free}
use Rattle.nj_kernel.specs.Sets.{members, IsFreshIn}
use Rattle.theory_ctx.specs.Facts.{Fact}
use Rattle.proof_state.specs.declared.local_fact.LocalFact.{LocalFact}
use Rattle.proof_state.specs.declared.block.Block.{Block}
use Rattle.proof_state.specs.declared.frame.Frame.{Frame}
use Rattle.proof_state.specs.Blocks.{is_assumption}
use Rattle.proof_state.specs.Follows.{IsFact}
use Rattle.proof_state.specs.Fresh.{is_in, is_used, is_taken}
use Rattle.proof_state.specs.Worth.{Given}

module _ (x : List ℕ) where
  in_facts : (facts : List Fact) → list_any (λ fact. is_in x fact.1) facts ≡ false → IsFreshIn x (IsFact facts)
  in_facts [] none s m = elim m [ ]
  in_facts (fact ∷ facts) none s m =
      let apart = or_parts (is_in x fact.1) (list_any (λ other. is_in x other.1) facts) none in
      ⊎_elim (λ e. ap (is_free x) (sym e) ∙ apart.0) (in_facts facts apart.1 s) m

  in_assumptions : (facts : List LocalFact) → list_any (λ fact. is_in x fact.formula) facts ≡ false
      → IsFreshIn x (members (map meaning (map (λ fact. fact.formula) (filter is_assumption facts))))
  in_assumptions [] none s m = elim m [ ]
  in_assumptions (fact ∷ facts) none s m = by (is_assumption fact) (or_parts (is_in x fact.formula) (list_any (λ other. is_in x other.formula) facts) none) (in_assumptions facts) s m
    where
      by : (assumed : Bool) → (is_in x fact.formula ≡ false) × (list_any (λ other. is_in x other.formula) facts ≡ false)
          → (list_any (λ other. is_in x other.formula) facts ≡ false → IsFreshIn x (members (map meaning (map (λ other. other.formula) (filter is_assumption facts)))))
          → IsFreshIn x (members (map meaning (map (λ other. other.formula) (cond assumed (fact ∷ filter is_assumption facts) (filter is_assumption facts)))))
      by true apart rest s m = ⊎_elim (λ e. ap (is_free x) (sym e) ∙ apart.0) (rest apart.1 s) m
      by false apart rest s m = rest apart.1 s m

  -- what is not used in a block is free neither in its goal nor in its facts
  unused : (block : Block) → is_used x block ≡ false
      → (is_free x (meaning block.goal) ≡ false) × (list_any (λ fact. is_in x fact.formula) block.facts ≡ false)
  unused block none =
      let fixed = or_parts _ (list_any (λ fact. is_in x fact.formula) block.facts) none in
      ((or_parts _ (is_in x block.goal) fixed.0).1, fixed.1)

  in_given : (facts : List Fact) (around : List Frame) → list_any (λ fact. is_in x fact.1) facts ≡ false
      → list_any (λ frame. is_used x frame.block) around ≡ false → IsFreshIn x (Given facts around)
  in_given facts [] known none s m = in_facts facts known s m
  in_given facts (frame ∷ around) known none s m =
      let apart = or_parts (is_used x frame.block) (list_any (λ other. is_used x other.block) around) none in
      ⊎_elim (in_given facts around known apart.1 s) (in_assumptions frame.block.facts (unused frame.block apart.0).1 s) m

  -- a name that can be fixed is fresh for what is given, and for the block's goal
  pub not_taken : (facts : List Fact) (block : Block) (around : List Frame) → is_taken facts x block around ≡ false
      → IsFreshIn x (Given facts around) × (is_free x (meaning block.goal) ≡ false)
  not_taken facts block around none =
      let outer = or_parts _ (list_any (λ frame. is_used x frame.block) around) none in
      let inner = or_parts (list_any (λ fact. is_in x fact.1) facts) (is_used x block) outer.0 in
      (in_given facts around inner.0 outer.1, (unused block inner.1).0)

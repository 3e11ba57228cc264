-- What a command makes of a block stands as the block does.
use Rattle.std.proofs.Common.{◌≡◌, ◌⊎◌, ℕ, Bool, false, Option, List, [], ◌∷◌, refl, inl, inr, ⊎_elim}
use Rattle.nj_formula.specs.declared.formula.Formula.{Formula}
use Rattle.nj_formula.specs.Statement.{Statement}
use Rattle.nj_formula.specs.Meaning.{meaning}
use Rattle.nj_formula.specs.Free.{is_free}
use Rattle.nj_kernel.specs.Sets.{IsFreshIn}
use Rattle.proof_state.specs.declared.local_fact.Origin.TheVariants.{Assumed}
use Rattle.proof_state.specs.declared.block.Block.{Block}
use Rattle.proof_state.specs.declared.frame.Purpose.{Purpose}
use Rattle.proof_state.specs.declared.frame.Purpose.TheVariants.{Have, Show}
use Rattle.proof_state.specs.Blocks.{opened, with_fact, achieved}
use Rattle.proof_state.specs.Follows.{Follows}
use Rattle.proof_state.specs.Worth.{Assumes, Holds, IsPartOf, IsSound, Serves}
use Rattle.proof_state.proofs.KnownFollows.{itself, monotone}
use Rattle.proof_state.proofs.ListLemmas.{each_into, each_left, each_back}
use Rattle.proof_state.proofs.SubgoalLemmas.{subgoals_enter}

module _ (P : Statement → Type 0) where
  pub opened_sound : (dash : Bool) (goal : Formula) → IsSound P (opened dash goal)
  opened_sound dash goal =
      let enter = subgoals_enter P dash goal in
      record { facts = tt; enough = enter.0; parts = enter.1; fresh = tt }

  pub cleared_sound : (block : Block) → IsSound P block → IsSound P (record block { variables = []; facts = [] })
  cleared_sound block sound = record { facts = tt; enough = sound.enough; parts = sound.parts; fresh = tt }

  pub fixed_sound : (block : Block) (x : List ℕ) → IsFreshIn x P × (is_free x (meaning block.goal) ≡ false) → IsSound P block
      → IsSound P (record block { variables = x ∷ block.variables })
  fixed_sound block x fresh sound =
      record { facts = sound.facts; enough = sound.enough; parts = sound.parts; fresh = (fresh, sound.fresh) }

  abbrev Inner : Block → Statement → Type 0
  Inner block s = P s ⊎ Assumes block s

  pub assumed_sound : (name : Option (List ℕ)) (f : Formula) (block : Block) → IsSound P block → IsSound P (with_fact Assumed name f block)
  assumed_sound name f block sound = record {
    facts = (
      itself (Inner (with_fact Assumed name f block)) (meaning f) (inr (inl refl)),
      each_into (λ fact. Follows (Inner block) (meaning fact.formula)) (λ fact. Follows (Inner (with_fact Assumed name f block)) (meaning fact.formula)) block.facts
          (λ fact d. monotone (Inner block) (Inner (with_fact Assumed name f block)) (meaning fact.formula) (λ s m. ⊎_elim (λ p. inl p) (λ n. inr (inr n)) m) d) sound.facts,
    );
    enough = sound.enough;
    parts = sound.parts;
    fresh = sound.fresh;
  }

  pub achieved_sound : (purpose : Purpose) (goal : Formula) (block : Block) → Serves P purpose goal block → Follows (Inner block) (meaning goal)
      → IsSound P block → IsSound P (achieved purpose goal block)
  achieved_sound (Have name) goal block serves inner sound =
      record { facts = (inner, sound.facts); enough = sound.enough; parts = sound.parts; fresh = sound.fresh }
  achieved_sound (Show place) goal block serves inner sound = record {
    facts = sound.facts;
    enough = λ rest. sound.enough (each_back (Holds P) block.pending place serves.0 serves.1 (serves.2 inner) rest);
    parts = each_left (IsPartOf block.goal) block.pending place sound.parts;
    fresh = sound.fresh;
  }

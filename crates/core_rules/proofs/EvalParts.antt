-- The parts of an evaluation, and what it waits for.
use Rattle.std.proofs.Common.{◌≡◌, ℕ, zero, suc, Bool, true, cond, List, [], ◌∷◌, map, Option, Some, None, ap, ◌∙◌}
use Rattle.std.proofs.lemmas.Bool.{or_left}
use Rattle.std.specs.Prelude.{slice_get}
use Rattle.std.specs.Option.{option_map_or}
use Rattle.std.specs.List.{list_any}
use Rattle.pide_base.specs.declared.part.Part.{Part}
use Rattle.pide_base.specs.declared.part.PartKind.TheVariants as kind
use Rattle.exec_rules.specs.declared.home.Home.{Home}
use Rattle.exec_rules.specs.declared.home.Head.{Head}
use Rattle.exec_rules.specs.declared.home.Input.TheVariants as input
use Rattle.exec_rules.specs.declared.row.Row.{Row}
use Rattle.language.specs.Lang.{Lang}
use Rattle.core_rules.specs.Numbered.{numbered}
use Rattle.core_rules.specs.FromScratch.{input_at}
use Rattle.core_rules.specs.Parts.{same_part, forks, kinds_by, parts_of, sources_of, waits_for, evaluation}
use Rattle.core_rules.specs.Ready.{is_part}
use Rattle.core_rules.proofs.ShownLaw.{IsEval, eval_kinds}
use Rattle.core_rules.proofs.KnownParts.{part_itself}

module _ {S : Type 0} (l : Lang S) (homes : List Home) where
  pub eval_input : (head : Head) (rows : List Row) (i : ℕ) → IsEval (input_at head rows i)
  eval_input head rows zero = tt
  eval_input head rows (suc i) = go (slice_get rows i)
    where
      go : (o : Option Row) → IsEval (option_map_or (λ (r : Row). input.Next r.evaluation) o (input.First head))
      go None = tt
      go (Some r) = tt

  -- the parts of an evaluation
  abbrev pub made : ℕ → Bool → List Part
  made e b = map (λ k. record { exec = e; kind = k }) (kind.Eval ∷ cond b (kind.Fork ∷ []) [])

  pub eval_parts : (e : ℕ) (x : Home) → numbered homes e ≡ Some x → IsEval x.input
      → parts_of l homes e ≡ made e (forks l homes e)
  eval_parts e x at is =
      ap (λ o. option_map_or
      (λ (y : Home). map (λ k. record { exec = e; kind = k }) (kinds_by y.input (forks l homes e))) o []) at
      ∙ ap (map (λ k. record { exec = e; kind = k })) (eval_kinds x.input (forks l homes e) is)

  pub eval_part : (e : ℕ) (x : Home) → numbered homes e ≡ Some x → IsEval x.input → is_part l homes (evaluation e) ≡ true
  eval_part e x at is =
      ap (λ ps. list_any (same_part (evaluation e)) ps) (eval_parts e x at is)
      ∙ or_left (same_part (evaluation e) (evaluation e)) _ (part_itself (evaluation e))

  pub waits_so : (e : ℕ) (x : Home) → numbered homes e ≡ Some x → waits_for homes (evaluation e) ≡ sources_of x.input
  waits_so e x at = ap (λ o. option_map_or (λ (y : Home). sources_of y.input) o []) at

-- A `show` that fits, and a `fix` of a fresh name, computed.
use Rattle.std.proofs.Common.{◌≡◌, true, false, ◌&&◌, ◌||◌, cond, [], ◌∷◌, codes, Some, None, Ok, Result, refl, ap, ◌∙◌}
use Rattle.nj_formula.proofs.KnownMeaning.{meaning-Atom}
use Rattle.proof_state.specs.declared.levels.Levels.{Levels}
use Rattle.proof_state.specs.declared.levels.Levels.TheVariants.{Prove, State as Stated}
use Rattle.proof_state.specs.declared.frame.Purpose.TheVariants as purpose
use Rattle.proof_state.specs.declared.fault.ProofFault.{ProofFault}
use Rattle.proof_state.specs.Fits.{fits}
use Rattle.proof_state.specs.Steps.{step as stepped, show, shown_levels as opened_for}
use Rattle.report_markup.specs.declared.kind.ReportKind.TheVariants as kind
use Rattle.language.specs.declared.made.Made.{Made}
use Rattle.doc_nodes.specs.Needs.{source_tokens}
use Rattle.isar_rules.specs.declared.state.State.{State}
use Rattle.isar_rules.specs.Words.{spot}
use Rattle.isar_rules.specs.Errors.{and_then}
use Rattle.isar_rules.specs.Reports.{formula_report}
use Rattle.isar_rules.specs.Proofs.{levels_or, effect_of, stands}
use Rattle.isar_rules.specs.Steps.{made_effect}
use Rattle.isar_rules.specs.Small.{range, said, says_word, errors, reports, behind, in_block}
use Rattle.isar_rules.specs.WorkedProofs.{not_p, itself, block, h, subgoal, assumed, shown}
use Rattle.isar_rules.proofs.Printing.{same_itself, not_p_text}

pub fix_accepted : errors (codes "fix x") (in_block []) ≡ []
fix_accepted = rw (meaning-Atom (codes "P") []) refl

fits_first : fits (block (subgoal ∷ []) (h ∷ [])) not_p subgoal ≡ true
fits_first = ap (λ b. b && ((b || false) && true)) (same_itself not_p)

levels_shown : stepped (show not_p) (Stated (block (subgoal ∷ []) (h ∷ [])) [])
    ≡ Ok (Prove not_p (record { block = block (subgoal ∷ []) (h ∷ []); purpose = purpose.Show 0 } ∷ []))
levels_shown = ap (λ b. opened_for not_p (block (subgoal ∷ []) (h ∷ [])) [] (cond b (Some 0) None)) fits_first

made : Result Levels ProofFault → Made State
made r =
    made_effect (codes "show \"~P\"") (source_tokens [] (codes "show \"~P\"")) assumed
    (and_then (levels_or r)
    (λ after. Ok (effect_of (show not_p) (stands (record { name = codes "A"; facts = [] }) (codes "l") itself after)
    (formula_report (spot (codes "~P") (range 5 9)) not_p ∷ []))))

pub show_state : behind (codes "show \"~P\"") assumed ≡ shown.place
unfolding made
show_state = ap (λ r. (made r).state.place) levels_shown

pub show_reports : reports (codes "show \"~P\"") assumed ≡ says_word 4 (codes "show") ∷ said kind.Formula 5 9 [] (codes "~P") ∷ []
unfolding made
show_reports =
    ap (λ r. (made r).reports) levels_shown
    ∙ ap (λ t. says_word 4 (codes "show") ∷ said kind.Formula 5 9 [] t ∷ []) not_p_text

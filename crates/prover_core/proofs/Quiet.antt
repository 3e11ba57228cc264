-- What stays where the same parts are finished.
use Rattle.std.proofs.Common.{◌≡◌, ℕ, cond, not, ◌&&◌, List, Option, None, ap, sym, subst}
use Rattle.std.specs.Option.{option_and_then}
use Rattle.text_words.specs.Members.{has}
use Rattle.pide_base.specs.declared.part.PartKind.{PartKind}
use Rattle.exec_rules.specs.declared.home.Home.{Home}
use Rattle.language.specs.Lang.{Lang}
use Rattle.core_rules.specs.declared.event.Event.{Event}
use Rattle.core_rules.specs.Numbered.{numbered}
use Rattle.core_rules.specs.Assigned.{assigns, is_assigned}
use Rattle.core_rules.specs.Settings.{setting}
use Rattle.core_rules.specs.Parts.{forks}
use Rattle.core_rules.specs.Doc.{Doc}
use Rattle.prover_core.specs.Progress.{Completed, InOrder, completed_in, next_kind, next_of, row_by, row_of}
use Rattle.prover_core.specs.Tasks.{present_kind}

module _ {S : Type 0} (l : Lang S) (d : Doc) (e : ℕ) where
  -- the first unfinished part, by which are finished
  abbrev pub next_with : Completed → Option PartKind
  next_with c = option_and_then (λ (home : Home). next_kind home.input (forks l d.homes e) c) (numbered d.homes e)

  module _ (h more : List Event) (same : completed_in more e ≡ completed_in h e) where
    pub row_same : row_of l more d e ≡ row_of l h d e
    row_same = ap (λ c. cond (is_assigned d.live e) (row_by l (has d.cancelled e) e c (numbered d.homes e) (setting l d.homes e)) None) same

    pub next_same : next_of l more d e ≡ next_of l h d e
    next_same = ap next_with same

    pub present_same : present_kind l more d e ≡ present_kind l h d e
    present_same = ap (λ c. cond (assigns d.tip e && not (has d.cancelled e)) (next_with c) None) same

    pub order_same : InOrder (completed_in h e) → InOrder (completed_in more e)
    order_same order = subst InOrder (sym same) order

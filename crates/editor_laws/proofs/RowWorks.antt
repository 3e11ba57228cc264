-- Each execution of a row works on something.
use Rattle.std.proofs.Common.{◌≡◌, ◌⊎◌, inl, inr, ℕ, true, List, Option, Some, None, ap, ◌∙◌}
use Rattle.std.proofs.lemmas.Bool.{eqb-true, or_cases}
use Rattle.std.specs.Prelude.{◌==◌}
use Rattle.text_words.specs.Members.{has}
use Rattle.doc_nodes.specs.declared.node.Node.{Node}
use Rattle.exec_rules.specs.declared.row.Row.{Row}
use Rattle.exec_rules.specs.declared.version.Version.{Version}
use Rattle.exec_rules.specs.Homes.{home}
use Rattle.exec_rules.specs.Listed.{executions, print_list}
use Rattle.exec_rules.proofs.KnownListed.{in_print}
use Rattle.language.specs.Lang.{Lang}
use Rattle.core_rules.specs.Settings.{Setting, setting, state_behind}
use Rattle.core_rules.specs.Doc.{Doc}
use Rattle.core_rules.specs.FromScratch.{IsFromScratch, PrintIs}

pub row_works : {S : Type 0} (l : Lang S) (d : Doc) (v : Version) (p : ℕ) (pair : List ℕ × Node) (i : ℕ) (row : Row)
    → IsFromScratch l d v p pair i row → (y : ℕ) → has (executions row) y ≡ true → (s : Setting S) × (setting l d.homes y ≡ Some s)
row_works {S} l d v p pair i row x y among = by (or_cases (y == row.evaluation) (has (print_list row.print) y) among)
  where
    printing : (o : Option ℕ) → o ≡ Some y → PrintIs l d o (home pair.1 v.blobs x.command) row.evaluation x.works_on
        → (s : Setting S) × (setting l d.homes y ≡ Some s)
    printing None same prints = absurd (cc)
    printing (Some q) same prints =
        let e : y ≡ q = cc in (record x.works_on { state = state_behind l x.works_on }, ap (setting l d.homes) e ∙ prints.1)

    by : ((y == row.evaluation) ≡ true) ⊎ (has (print_list row.print) y ≡ true) → (s : Setting S) × (setting l d.homes y ≡ Some s)
    by (inl same) = (x.works_on, ap (setting l d.homes) (eqb-true y row.evaluation same) ∙ x.kept)
    by (inr printed) = printing row.print (in_print row.print y printed) x.prints

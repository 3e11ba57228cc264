-- What finished parts reported, for crates above.
use Rattle.std.proofs.Common.{◌≡◌, ℕ, true, List, Some}
use Rattle.std.specs.List.{AllByRecursion}
use Rattle.text_words.specs.Members.{has}
use Rattle.pide_base.specs.declared.part.Part.{Part}
use Rattle.report_markup.specs.declared.report.Report.{Report}
use Rattle.doc_nodes.specs.declared.node.Node.{Node}
use Rattle.exec_rules.specs.declared.home.Home.{Home}
use Rattle.exec_rules.specs.declared.row.Row.{Row}
use Rattle.exec_rules.specs.declared.version.Version.{Version}
use Rattle.exec_rules.specs.Listed.{executions}
use Rattle.language.specs.Lang.{Lang}
use Rattle.language.specs.Laws as laws
use Rattle.core_rules.specs.declared.event.Event.{Event}
use Rattle.core_rules.specs.Numbered.{numbered}
use Rattle.core_rules.specs.Parts.{reports_of}
use Rattle.core_rules.specs.Standing.{held}
use Rattle.core_rules.specs.Doc.{Doc, doc}
use Rattle.core_rules.specs.FromScratch.{IsFromScratch}
use Rattle.core_rules.specs.Ready.{is_part}
use Rattle.core_rules.specs.Legal.{IsLegal}
use Rattle.editor_laws.proofs.HeldParts.{held_real, part_made}
use Rattle.editor_laws.proofs.PartFacts.{row_facts}

module _ {S : Type 0} (l : Lang S) where
  -- what a worker holds is a part of its execution
  pub held_part : (h : List Event) (w : ℕ) (p : Part) → IsLegal l h → held h w ≡ Some p
      → is_part l (doc l h).homes p ≡ true
  held_part h w p legal is = held_real l h w p legal is

  -- whose execution was made
  pub made_part : (homes : List Home) (p : Part) → is_part l homes p ≡ true
      → (x : Home) × (numbered homes p.exec ≡ Some x)
  made_part homes p is = part_made l homes p is

  -- what holds of all reports of a command holds of those of a part of its row
  pub row_reports : (d : Doc) (v : Version) (p : ℕ) (pair : List ℕ × Node) (i : ℕ) (row : Row)
      (x : IsFromScratch l d v p pair i row)
      (Q : Report → Type 0) → AllByRecursion Q (laws.reports_of l x.works_on.source x.works_on.blob
      x.works_on.state)
      → (part : Part) → has (executions row) part.exec ≡ true → is_part l d.homes part ≡ true
      → (reports : List Report) × (reports_of l d.homes part ≡ Some reports)
      × AllByRecursion Q reports
  row_reports d v p pair i row x Q all part is real =
      let facts = row_facts l d v p pair i row x Q all part is real in
      (facts.reports, facts.are, facts.all)

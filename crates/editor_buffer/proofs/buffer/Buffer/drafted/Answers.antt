use Rattle.std.proofs.Common.{◌≡◌, refl, sym, ap, subst, ◌∙◌}
use Rattle.std.specs.List.{AllZip}
use Rattle.shared_map.specs.Pairs.{IsSorted}
use Rattle.doc_nodes.specs.Names.{in_order}
use Rattle.doc_nodes.specs.Imports.{NodeList}
use Rattle.buffer_rules.specs.Preparing.{Buffer}
use Rattle.buffer_rules.specs.Sheets.{SheetList}
use Rattle.editor_buffer.specs.Standing.{Drafted, sheets_of}
use Rattle.doc_nodes.specs.Heads.{heads}
use Rattle.editor_buffer.specs.Heads.{KeepHeaders}
use Rattle.editor_buffer.proofs.FirstDraft.{drafted_copied}
use Rattle.editor_buffer.proofs.KnownTold.{along, ok_along}
use Rattle.editor_buffer.proofs.buffer.Buffer.drafted.Goals as goal
use Rattle.editor_buffer.proofs.buffer.Buffer.drafted.Goals.{In_ok-copy-2}

tip_nodes : (c : In_ok-copy-2) → c.self.inside.nodes ≡ c.args.self.now.nodes
tip_nodes c = ap (λ (b : Buffer). b.nodes) c.self.view_is

-- the copies are the first draft
first : (c : In_ok-copy-2) → AllZip (Drafted c.args.self.now.nodes) c.in_ok-copy.field-0 c.in_ok-copy-2.field-0
first c =
    let Sorted : NodeList → Type 0 = λ ns. IsSorted in_order ns in
    drafted_copied c.args.self.now.nodes c.self.inside.opened c.in_ok-copy.field-0 c.self.inside.nodes c.in_ok-copy-2.field-0 (tip_nodes c) c.in_ok-copy.ensures c.in_ok-copy-2.ensures
    (subst Sorted c.iter-sorted.ensures.all c.iter-sorted.ensures.sorted) c.self.invariant.stands c.self.invariant.in_force

pub returns-clause-drafted : goal.returns-clause-drafted
returns-clause-drafted c = c.with_items.ensures.drafted c.args.self.now.nodes (first (goal.at.returns-clause-drafted c).In_ok-copy-2)

pub returns-clause-headers : goal.returns-clause-headers
returns-clause-headers c =
    let Kept : SheetList → Type 0 = KeepHeaders c.args.items.now in
    let sheets : sheets_of c.in_ok-copy.field-0 ≡ c.args.self.now.document.sheets =
    ap sheets_of c.in_ok-copy.ensures ∙ ap (λ (b : Buffer). b.document.sheets) c.self.view_is in
    ok_along c.with_items.result
    (λ draft told. (λ stand. subst Kept sheets (told.0 stand).1, λ kept. told.1 (refl, subst Kept (sym sheets) kept)))
    (c.with_items.ensures.headers c.args.self.now.nodes (first (goal.at.returns-clause-headers c).In_ok-copy-2))

pub returns-clause-stand : goal.returns-clause-stand
returns-clause-stand c =
    let same = tip_nodes (goal.at.returns-clause-stand c).In_ok-copy-2 in
    ok_along c.with_items.result
    (λ draft told. along draft.headers_stand (λ kept. kept ∙ ap heads (c.in_ok-copy-2.ensures ∙ same)) told)
    (c.with_items.ensures.stand c.args.self.now.nodes (first (goal.at.returns-clause-stand c).In_ok-copy-2))

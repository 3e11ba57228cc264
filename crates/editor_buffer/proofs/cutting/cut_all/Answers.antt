use Rattle.std.proofs.Common.{◌≡◌, ◌<◌, Some, length, refl, sym, ap, subst, ◌∙◌, arith}
use Rattle.doc_nodes.specs.Heads.{heads}
use Rattle.std.specs.List.{slice_get}
use Rattle.std.proofs.lemmas.Option.{slice_get_read}
use Rattle.shared_map.specs.Pairs.{IsSorted}
use Rattle.doc_nodes.specs.Names.{in_order}
use Rattle.doc_nodes.specs.Imports.{NodeList}
use Rattle.doc_nodes.specs.Aliases.{aliases_at}
use Rattle.doc_nodes.specs.declared.inherited.NodeAliases.{NodeAliases}
use Rattle.buffer_rules.specs.Sheets.{SheetList}
use Rattle.buffer_rules.specs.Nodes.{uncut_all}
use Rattle.editor_buffer.specs.Standing.{OpenList, sheets_of, Drafted}
use Rattle.editor_buffer.proofs.PairLists.{AllZip-length}
use Rattle.editor_buffer.specs.declared.cutting.Cutting.{Cutting}
use Rattle.editor_buffer.proofs.KnownTold.{along}
use Rattle.editor_buffer.proofs.KeptHeaders.{heads_drafted}
use Rattle.editor_buffer.proofs.BareNodes.{same_heads}
use Rattle.editor_buffer.proofs.CutPlaces.{cut_end, length_sheets}
use Rattle.editor_buffer.proofs.CutStart.{cut_start}
use Rattle.editor_buffer.proofs.cutting.cut_all.Goals as goal

pub nodes-init : goal.nodes-init
nodes-init c =
    let tip = c.args.tip.now in
    let opened : OpenList = c.args.draft.opened in
    let nodes : NodeList = c.args.draft.nodes in
    let Opened : OpenList → Type 0 = λ os. IsSorted in_order os in
    let Sorted : NodeList → Type 0 = λ ns. IsSorted in_order ns in
    let cutting : Cutting = record { opened = opened; nodes = nodes; next = tip.next; untouched = c.new.result } in
    cut_start tip.nodes.now opened nodes tip.next cutting refl refl refl c.new.ensures.items
    (subst Opened c.iter-sorted.ensures.all c.iter-sorted.ensures.sorted) (subst Sorted c.iter-by_name.ensures.all c.iter-by_name.ensures.sorted)
    c.requires.drafted c.requires.least c.requires.most

pub step-requires-clause-aliases : goal.step-requires-clause-aliases
step-requires-clause-aliases c =
    let tip = c.args.tip.now in
    let opened : OpenList = c.args.draft.opened in
    let nodes : NodeList = c.args.draft.nodes in
    let place = c.nodes.place in
    let all = c.in_ok-aliases.aliases.items in
    let one : NodeAliases = c.in_force-item.result in
    let lent = c.deref-in_force-items.ensures.value in
    let within : place < length all = omega (arith, c.nodes-test.true, ap length lent) in
    let there : place < length nodes = omega (arith, c.in_ok-aliases.ensures.len) in
    let read : slice_get all place ≡ Some one =
    ap (λ xs. slice_get xs place) (sym lent)
    ∙ slice_get_read c.deref-in_force-items.result.now (length c.deref-in_force-items.result.now) place one refl (omega (arith, ap length lent)) c.in_force-item.is in
    let both : Some one ≡ Some (aliases_at nodes place) = sym read ∙ c.in_ok-aliases.ensures.each place there in
    let same : one ≡ aliases_at nodes place = cc (both) in
    let bare : aliases_at nodes place ≡ aliases_at (uncut_all (sheets_of opened)) place =
    same_heads nodes (uncut_all (sheets_of opened)) (heads_drafted tip.nodes.now opened nodes c.requires.drafted) place in
    ap (λ (a : NodeAliases). a.pairs)
    (same ∙ bare ∙ ap (λ (ss : SheetList). aliases_at (uncut_all ss) place) (sym c.nodes.invariant.sheets_are))

pub step-requires-clause-within : goal.step-requires-clause-within
step-requires-clause-within c =
    let opened : OpenList = c.args.draft.opened in
    let nodes : NodeList = c.args.draft.nodes in
    let lent = c.deref-in_force-items.ensures.value in
    omega (
      arith,
      c.nodes-test.true,
      ap length lent,
      c.in_ok-aliases.ensures.len,
      AllZip-length (Drafted c.args.tip.now.nodes.now) opened nodes c.requires.drafted,
      length_sheets opened,
      length_sheets c.nodes.cutting.opened,
      ap length c.nodes.invariant.sheets_are,
    )

pub returns-clause-cut : goal.returns-clause-cut
returns-clause-cut c =
    let tip = c.args.tip.now in
    let opened : OpenList = c.args.draft.opened in
    let nodes : NodeList = c.args.draft.nodes in
    let sheets : SheetList = sheets_of opened in
    let lent = c.deref-in_force-items.ensures.value in
    let count : length sheets ≡ length nodes = length_sheets opened ∙ AllZip-length (Drafted tip.nodes.now) opened nodes c.requires.drafted in
    let all : c.nodes.place ≡ length sheets =
    omega (arith, c.nodes-test.false, c.nodes.auto.place-end, ap length lent, c.in_ok-aliases.ensures.len) in
    cut_end tip.nodes.now sheets tip.next c.nodes.place c.nodes.cutting c.nodes.invariant all

pub step-requires-clause-headers : goal.step-requires-clause-headers
step-requires-clause-headers c =
    let opened : OpenList = c.args.draft.opened in
    let nodes : NodeList = c.args.draft.nodes in
    along c.args.draft.headers_stand (λ same. sym same ∙ heads_drafted c.args.tip.now.nodes.now opened nodes c.requires.drafted
    ∙ ap (λ (ss : SheetList). heads (uncut_all ss)) (sym c.nodes.invariant.sheets_are))
    c.requires.headers

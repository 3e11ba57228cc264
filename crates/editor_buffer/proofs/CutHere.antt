-- What is told of the node at a place.
use Rattle.std.proofs.Common.{◌≡◌, ℕ, List, ◌∷◌, ◌++◌, Some, Result, Ok, Err, sym, ap, subst, ◌∙◌}
use Rattle.std.specs.Prelude.{slice_get}
use Rattle.std.specs.Result.{IfErr, IsErrAnd}
use Rattle.doc_nodes.specs.declared.node.Node.{Node}
use Rattle.doc_nodes.specs.Imports.{NodeList, place_of}
use Rattle.doc_nodes.specs.Aliases.{aliases_at}
use Rattle.buffer_rules.specs.Sheets.{SheetList}
use Rattle.buffer_rules.specs.Nodes.{Numbered, uncut_all}
use Rattle.editor_buffer.specs.OpenSheet.{OpenSheet}
use Rattle.editor_buffer.specs.declared.fault.PrepareError.{PrepareError}
use Rattle.editor_buffer.specs.declared.fault.PrepareError.TheVariants.{Refused, NoMemory}
use Rattle.shared_map.specs.Pairs.{IsSorted}
use Rattle.std.specs.Option.{option_map}
use Rattle.doc_nodes.specs.Names.{in_order}
use Rattle.editor_buffer.specs.Standing.{Drafted, Stands, sheets_of, aliases_named}
use Rattle.editor_buffer.proofs.PairLists.{AllZip-length}
use Rattle.editor_buffer.proofs.Places.{place_at}
use Rattle.editor_buffer.specs.Cutting.{GivesRemade, PassesLast, whole, IsCutUpTo}
use Rattle.editor_buffer.specs.declared.cutting.Cutting.{Cutting}
use Rattle.editor_buffer.proofs.CutSteps.{passes}
use Rattle.editor_buffer.proofs.CutPlaces.{IsHere}

module _ (tip : NodeList) (sheets : SheetList) (first place : ℕ) (c : Cutting) (is : IsCutUpTo tip sheets first place c)
    (at : IsHere tip c place is.rest_open is.rest) where
  -- what is found at the place is drafted
  pub drafted_here : (o : List ℕ × OpenSheet) (n : List ℕ × Node) → Some o ≡ slice_get c.opened place → Some n ≡ slice_get c.nodes place → Drafted tip o n
  drafted_here o n e f =
      let both : Some o ≡ Some at.opened = e ∙ at.open_at in
      let all : Some n ≡ Some at.node = f ∙ at.node_at in
      let one : at.opened ≡ o = cc in
      let other : at.node ≡ n = cc in
      subst (λ q. Drafted tip q n) one (subst (λ m. Drafted tip at.opened m) other at.drafted)

  -- the aliases at the place are in force in the node of its name
  pub named_at : (o : List ℕ × OpenSheet) → Some o ≡ slice_get c.opened place → aliases_named (uncut_all sheets) o.0 ≡ Some (aliases_at (uncut_all sheets) place).pairs
  named_at o e =
      let both : Some o ≡ Some at.opened = e ∙ at.open_at in
      let one : at.opened ≡ o = cc in
      let opens : c.opened ≡ is.front_open ++ at.opened ∷ at.open_more = is.open_is ∙ ap (λ os. is.front_open ++ os) at.open_is in
      let all : uncut_all (sheets_of (is.front_open ++ at.opened ∷ at.open_more)) ≡ uncut_all sheets = ap (λ os. uncut_all (sheets_of os)) (sym opens) ∙ ap uncut_all is.sheets_are in
      let found : place_of (uncut_all sheets) at.opened.0 ≡ Some place =
      ap (λ ns. place_of ns at.opened.0) (sym all)
      ∙ place_at is.front_open at.opened at.open_more (subst (IsSorted in_order) opens is.sorted_open)
      ∙ ap (λ k. Some k) (AllZip-length Stands is.front_open is.front is.done ∙ is.place_is) in
      ap (λ (q : List ℕ × OpenSheet). aliases_named (uncut_all sheets) q.0) (sym one) ∙ ap (λ k. option_map (λ (p : ℕ). (aliases_at (uncut_all sheets) p).pairs) k) found

  -- where it is refused, all are
  pub refused_here : (e : PrepareError)
      → GivesRemade tip at.opened.0 at.opened.1 at.node.1 (aliases_at (uncut_all sheets) place).pairs c.next (Err e)
      → PassesLast (whole tip sheets first) e
  refused_here (Refused refusal) so = (so.0, passes tip sheets first place c is at.opened.0 at.opened.1 at.open_more at.open_is so.1)
  refused_here NoMemory so = tt

-- an error that is passed on
pub err_passed : {T : Type 0} (r : Result T PrepareError) (e : PrepareError) (n : Numbered) → IsErrAnd r (λ shown. shown ≡ e) → PassesLast n e
    → IfErr r (PassesLast n)
err_passed (Ok made) e n is passed = tt
err_passed (Err shown) e n is passed = subst (PassesLast n) (sym is) passed

use Rattle.std.proofs.Common.{◌≡◌, ℕ, ◌+◌, ◌-◌, ◌<◌, List, length, map, refl, ap, subst, ◌∙◌, arith}
use Rattle.std.specs.List.{zip}
use Rattle.pide_base.specs.Ids.{id_end}
use Rattle.pide_base.specs.declared.range.Range.{Range}
use Rattle.command_spans.specs.CutTexts.{Cuts}
use Rattle.buffer_rules.specs.Cuts.{source}
use Rattle.buffer_rules.specs.Numbers.{kept_runs, ids_of}
use Rattle.buffer_rules.specs.Nodes.{entry, ranges_in}
use Rattle.editor_buffer.specs.Commands.{ranges_of, sources_in, commands_in}
use Rattle.editor_buffer.specs.CutNodes.{next_after}
use Rattle.editor_buffer.proofs.CutParts.{node_so, next_so}
use Rattle.editor_buffer.proofs.cut.cut.Goals as goal
use Rattle.editor_buffer.proofs.cut.cut.Goals.{After-back}

places : (c : After-back) → c.in_ok-ranges.ranges.items ≡ ranges_in c.args.sheet.now c.args.aliases.now
places c = c.in_ok-ranges.ensures ∙ ap (λ (x : Cuts). ranges_of x.spans) c.requires.spans

-- the number after the new commands
next_is : (c : After-back) → c.args.next + (c.len.result - c.front.result - c.back.result)
    ≡ next_after c.args.sheet.now c.args.aliases.now (commands_in c.args.old.now.text.now c.args.old.now.entries.now) c.args.next
next_is c =
    let sheet = c.args.sheet.now in
    let olds = sources_in c.args.old.now.text.now c.args.old.now.entries.now in
    let rs = c.in_ok-ranges.ranges.items in
    let k = c.kept_runs-kept.result in
    let text : c.as_slice.result.now ≡ sheet.text = c.as_slice.ensures ∙ c.get.ensures in
    let is_kept : k ≡ kept_runs olds (map (source sheet.text) rs) =
    c.kept_runs-kept.ensures.value
    ∙ ap (λ (xs : List (List ℕ)). kept_runs xs c.deref-3.result.now)
    (c.deref-2.ensures.value ∙ c.in_ok-before.ensures)
    ∙ ap (λ (ys : List (List ℕ)). kept_runs olds ys) (c.deref-3.ensures.value ∙ c.in_ok-now.ensures
    ∙ ap (λ (t : List ℕ). map (source t) c.deref.result.now) text ∙ ap (λ (qs : List Range). map (source sheet.text) qs) c.deref.ensures.value) in
    let fresh : c.len.result - c.front.result - c.back.result ≡ length rs - k.front - k.back =
    omega (arith, c.len.ensures, c.front.ensures, c.back.ensures, c.in_ok-ranges.ranges.ok.0) in
    next_so sheet c.args.aliases.now c.args.old.now.text.now c.args.old.now.entries.now rs k c.args.next
    (c.len.result - c.front.result - c.back.result) (places c) is_kept fresh

pub returns-in_default : goal.returns-in_default
returns-in_default c = (refl, subst (λ n. id_end < n) (next_is (goal.at.returns-in_default c).After-back) c.in_default.ensures)

pub returns : goal.returns
returns c =
    let here = (goal.at.returns c).After-back in
    let sheet = c.args.sheet.now in
    let aliases = c.args.aliases.now in
    let before = commands_in c.args.old.now.text.now c.args.old.now.entries.now in
    let made = λ (qs : List Range). map (entry sheet aliases) (zip (ids_of before (map (source sheet.text) qs) c.args.next) qs) in (
      node_so sheet aliases c.args.node.now c.in_ok-with_entries.field-0 before c.args.next c.in_ok-ranges.ranges.items c.in_ok-entries.entries c.requires.node (places here)
          (c.in_ok-entries.ensures ∙ ap made c.deref-4.ensures.value) c.in_ok-with_entries.ensures,
      c.in-Some.ensures.0 ∙ next_is here,
      c.in-Some.ensures.1,
    )

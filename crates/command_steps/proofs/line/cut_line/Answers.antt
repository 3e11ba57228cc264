use Rattle.std.proofs.Common.{ℕ, List, ◌∷◌, ◌+◌, drop, ap, sym, ◌∙◌}
use Rattle.std.proofs.lemmas.List.{take_rest}
use Rattle.isar_rules.specs.BlobLines.{lines_of}
use Rattle.command_steps.proofs.LineLemmas.{lines_cut, lines_last}
use Rattle.command_steps.proofs.line.cut_line.Goals as goal

pub returns-then-n-text-clause-some : goal.returns-then-n-text-clause-some
returns-then-n-text-clause-some c =
    let text = c.args.text.now in
    let n = c.line_len-n.result in
    lines_cut text n c.line_len-n.ensures c.if-n-text.true
    ∙ (ap (λ (line : List ℕ). line ∷ lines_of (drop (n + 1) text)) (sym c.without_cr.ensures)
    ∙ ap (λ (more : List ℕ). c.without_cr.result.now ∷ lines_of more) (sym (take_rest text (n + 1))))

pub returns-else-n-text-clause-none : goal.returns-else-n-text-clause-none
returns-else-n-text-clause-none c =
    lines_last c.args.text.now c.line_len-n.result c.line_len-n.ensures c.if-n-text.false

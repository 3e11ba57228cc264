use Rattle.std.proofs.Common.{◌≡◌, ◌≤◌, length, get_or, ◌∙◌, sym, subst, arith}
use Rattle.std.proofs.lemmas.Bool.{eqb-false}
use Rattle.std.proofs.lemmas.List.{get_or_read}
use Rattle.text_words.specs.Longest.{HasNoFront}
use Rattle.outer_syntax.proofs.KnownSplits.{split-first}
use Rattle.outer_syntax.specs.Forms.{IsDotted}
use Rattle.outer_syntax.proofs.LongLemmas.{dotted-none}
use Rattle.outer_syntax.proofs.long_name.dotted_name.Goals as goal

pub returns-in-None : goal.returns-in-None
returns-in-None c =
    let within : 1 ≤ length c.args.text.now = omega (arith, eqb-false (length c.args.text.now) 0 (sym c.if-is_empty.ensures)) in
    let first : get_or c.args.text.now 0 0 ≡ 46 = sym (get_or_read c.args.text.now 0 _ within c.index-text-0.is 0) ∙ c.if-text-ne46.false in
    subst (HasNoFront IsDotted) (sym (split-first c.args.text.now 46 within first)) (dotted-none _ c.in-None.ensures)

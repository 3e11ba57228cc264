use Rattle.std.proofs.Common.{◌∙◌, sym, ap, subst}
use Rattle.std.proofs.lemmas.List.{get_or_read}
use Rattle.text_words.specs.Blanks.{is_blank}
use Rattle.outer_syntax.specs.Rows.{IsFirstRow}
use Rattle.outer_syntax.specs.declared.row.Row.TheVariants.{Space}
use Rattle.outer_syntax.proofs.FirstLemmas.{blank-first}
use Rattle.outer_syntax.proofs.row.first_row.Goals as goal

pub returns-then-is_blank : goal.returns-then-is_blank
returns-then-is_blank c =
    subst (IsFirstRow c.args.text.now Space) (sym c.blank_run.ensures)
    (blank-first c.args.text.now c.requires (ap is_blank (sym (get_or_read c.args.text.now 0 _ c.requires c.index-text-0.is 0)) ∙ sym c.is_blank.ensures ∙ c.if-is_blank.true))

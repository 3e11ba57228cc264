use Rattle.std.proofs.Common.{◌≡◌, ◌-◌, Bool, true, false, ◌||◌, ◌&&◌, not, [], length, arith, refl, ap, ◌∙◌}
use Rattle.std.specs.Prelude.{if◌then◌else◌}
use Rattle.std.proofs.lemmas.List.{take_all}
use Rattle.outer_syntax.specs.Kinds.{is_name}
use Rattle.outer_syntax.specs.Words.{is_base_command, is_minor_keyword, is_in_force, kind_of}
use Rattle.outer_syntax.specs.declared.kind.Kind.TheVariants.{Command, Keyword, Ident}
use Rattle.outer_syntax.specs.declared.row.Row.TheVariants.{Word}
use Rattle.command_steps.proofs.fact.is_free_word.Goals as goal

-- a word is a name where it is neither a command nor a keyword
name_where : (base minor : Bool)
    → is_name (if base || false then Command else (if minor then Keyword else Ident)) ≡ not base && not minor
name_where true minor = refl
name_where false true = refl
name_where false false = refl

pub returns : goal.returns
returns c =
    let word = c.args.word.now in
    c.is_name.ensures ∙ ap (λ t. is_name t.kind) c.renamed.ensures.value
    ∙ ap (λ w. is_name (kind_of (is_in_force []) Word w)) (take_all (length word - 0) word (omega arith))
    ∙ name_where (is_base_command word) (is_minor_keyword word)

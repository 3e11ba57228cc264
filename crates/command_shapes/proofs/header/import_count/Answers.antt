use Rattle.std.proofs.Common.{length, option_map, Option, Some, ap, sym, subst, ◌∙◌}
use Rattle.std.specs.Prelude.{MatchOption}
use Rattle.outer_syntax.specs.declared.parts.Header.{Header}
use Rattle.outer_syntax.specs.Headers.{HasHeader, HasNoHeader}
use Rattle.command_shapes.proofs.header.import_count.Goals as goal

pub returns-in-Some : goal.returns-in-Some
returns-in-Some c =
    let source = c.args.source.now in
    let has : HasHeader source c.in-Some.header =
    subst (λ (found : Option Header). MatchOption found (HasNoHeader source) (HasHeader source)) c.in-Some.is c.in_ok-header.ensures in
    ap Some c.len.ensures
    ∙ sym (ap (option_map (λ (h : Header). length h.imports)) ((c.one_header.ensures.just source c.in-Some.header).0 has))

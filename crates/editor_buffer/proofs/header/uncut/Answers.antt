use Rattle.std.proofs.Common.{subst, ◌∙◌}
use Rattle.std.proofs.lemmas.Option.{MatchOption-at_some}
use Rattle.outer_syntax.specs.Headers.{HasHeader, HasNoHeader}
use Rattle.editor_buffer.proofs.HeaderNodes.{uncut_some}
use Rattle.editor_buffer.proofs.header.uncut.Goals as goal

pub returns-in-Some : goal.returns-in-Some
returns-in-Some c =
    let text = c.as_slice.result.now in
    let has : HasHeader text c.in-Some.header =
    MatchOption-at_some (HasNoHeader text) (HasHeader text) c.in-Some.header c.in-Some.is c.in_ok-header.ensures in
    uncut_some c.one_header.ensures.just c.args.sheet.now c.in-Some.header c.bare_node.result
    (subst (λ t. HasHeader t c.in-Some.header) (c.as_slice.ensures ∙ c.get.ensures) has) c.bare_node.ensures

-- The heading of a text is that of its header, where it has one.
use Rattle.std.proofs.Common.{◌≡◌, Some, IfOk, ap, subst, ◌∙◌, rules}
use Rattle.outer_syntax.specs.Headers.{HasHeader}
use Rattle.outer_syntax.specs.Reading.{header_in}
use Rattle.text_check.specs.OneText.{name_or_scratch}
use Rattle.text_check.specs.declared.heading.Heading.{Heading}
use Rattle.text_check.specs.Headings.{headed, heading_of}
use Rattle.text_check.proofs.OneMarkup.{heading_some}
use Rattle.text_check.proofs.heading.Heading.of.Goals as goal

pub returns-in_ok-name-in-Some : goal.returns-in_ok-name-in-Some
returns-in_ok-name-in-Some c =
    let h = c.in-Some.header in
    let has : HasHeader c.args.text.now h = search rules in
    let found : header_in c.args.text.now ≡ Some h = (c.one_header.ensures.just c.args.text.now h).0 has in
    let so : c.in_ok-name-in-Some.name ≡ name_or_scratch h.name = search rules in
    let same : headed c.in_ok-name-in-Some.name h.imports h.keywords ≡ heading_of c.args.text.now =
    ap (λ name. headed name h.imports h.keywords) so ∙ heading_some c.args.text.now h found in
    subst (λ (x : Heading). IfOk c.headed.result (λ heading. heading ≡ x)) same c.headed.ensures

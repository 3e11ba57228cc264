-- A text joins those before it; a start tag shows that the body is no text.
use Rattle.std.proofs.Common.{rules, ◌∷◌, sym, ap, ◌∙◌}
use Rattle.yxml.specs.Reading.{marks_in}
use Rattle.message_values.specs.Inside.{inside}
use Rattle.message_values.specs.LentMarks.{mark}
use Rattle.message_values.proofs.Filled.{first_filled}
use Rattle.message_values.proofs.Merged.{joined, joined-more}
use Rattle.message_values.proofs.Texts.{is_no_text}
use Rattle.message_values.proofs.body.LentBody.text.Goals as goal

pub returns-in-Opening : goal.returns-in-Opening
returns-in-Opening c = λ text e.
    let first = c.in-Some.ensures.0 ∙ ap (λ m. mark m ∷ marks_in c.in-Some.first.rest.now) c.in-Opening.is in
    is_no_text c.self.inside.text.now c.loop-first.text c.in-Opening.name.now c.in-Opening.attributes (inside 1 (marks_in c.in-Some.first.rest.now)) c.self.invariant
    (c.loop-first.invariant.1 ∙ ap (λ ms. joined c.loop-first.text (inside 0 ms)) first) text (c.self.view_is ∙ e)

pub loop-first-preserved : goal.loop-first-preserved
loop-first-preserved c =
    let first = c.in-Some.ensures.0 ∙ ap (λ m. mark m ∷ marks_in c.in-Some.first.rest.now) c.in-Words.is in
    let behind = inside 0 (marks_in c.in-Some.first.rest.now) in (
      search rules,
      c.loop-first.invariant.1 ∙ ap (λ ms. joined c.loop-first.text (inside 0 ms)) first
          ∙ joined-more c.loop-first.text c.in-Words.more.now behind (first_filled c.loop-first.rest.now c.in-Words.more.now (marks_in c.in-Some.first.rest.now) first)
          ∙ ap (λ text. joined text behind) (sym c.in_ok-push_str-in-Words.ensures.ok),
    )

use Rattle.std.proofs.Common.{rules, ◌≡◌, true, ap, sym, ◌∙◌}
use Rattle.std.specs.Prelude.{◌==◌}
use Rattle.text_words.specs.Members.{has}
use Rattle.version_losses.proofs.LostBehind.{lost_behind, behind_first, behind_none, behind_is, told_so}
use Rattle.version_losses.proofs.losses.Losses.lost_since.Goals as goal

pub returns-then-eq : goal.returns-then-eq
returns-then-eq c = told_so c.lost_below.result c.lost_below.ensures (λ lost are tip top live version losses at e.
    let is : (c.in-Some.loss.now.id == c.args.id) ≡ true = search rules in
    ap (λ xs. has xs e) (are ∙ sym (behind_first c.in-Some.loss.now c.in-Some.newer.now c.args.id is)
    ∙ ap (λ xs. lost_behind xs c.args.id) (sym c.in-Some.ensures.cases.0) ∙ c.older.invariant)
    ∙ behind_is tip top 0 c.args.self.now.losses live losses c.args.id version at e)

pub returns : goal.returns
returns c = λ tip top live version losses at e.
    ap (λ xs. has xs e) (c.new.ensures.items ∙ sym (behind_none c.older.rest.now c.args.id c.in_default.ensures.cases) ∙ c.older.invariant)
    ∙ behind_is tip top 0 c.args.self.now.losses live losses c.args.id version at e

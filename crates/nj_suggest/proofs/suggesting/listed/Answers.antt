use Rattle.std.proofs.Common.{rules, ◌≡◌, ◌++◌, ◌∙◌, [], ◌∷◌, ap, sym, append_assoc, append-nil}
use Rattle.theory_ctx.specs.declared.local.Local.{Local}
use Rattle.nj_suggest.proofs.suggesting.listed.Goals as goal

pub facts-init : goal.facts-init
facts-init c =
    let none : c.new-list.result ≡ [] = search rules in
    ap (λ l. c.args.facts ++ l) none ∙ append-nil c.args.facts

pub facts-preserved : goal.facts-preserved
facts-preserved c =
    let local : Local = c.in-Some.local in
    let split : c.facts.rest ≡ c.pop.new.self ++ local ∷ [] = c.in-Some.ensures in
    ap (λ l. c.pop.new.self ++ l) c.in_ok-list.ensures
    ∙ (sym (append_assoc c.pop.new.self (local ∷ []) c.facts.list) ∙ (ap (λ r. r ++ c.facts.list) (sym split) ∙ c.facts.invariant))

pub returns : goal.returns
returns c = ap (λ r. r ++ c.facts.list) (sym c.in_default.ensures.0) ∙ c.facts.invariant

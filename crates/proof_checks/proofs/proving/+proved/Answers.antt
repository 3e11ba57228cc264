use Rattle.std.proofs.Common.{◌≡◌, ◌-◌, ◌∙◌, Err, rules, arith, refl, sym, subst}
use Rattle.nj_formula.specs.Meaning.{meaning}
use Rattle.proof_terms.specs.declared.term.Cite.{Cite}
use Rattle.proof_terms.specs.declared.term.Term.TheVariants.{Fact}
use Rattle.proof_checks.specs.declared.step.Step.TheVariants.{Two, Three}
use Rattle.proof_checks.specs.Checks.{checked_within}
use Rattle.proof_checks.specs.Questions.{judged_within}
use Rattle.theory_ctx.specs.Locals.{seen}
use Rattle.proof_checks.proofs.JoinLemmas.{runs_asks}
use Rattle.proof_checks.proofs.OwnLemmas.{none_inside, some_inside, handed_back, handed_asks}
use Rattle.proof_checks.proofs.ReturnLemmas.{stepped_as, fact_told, gives_as, enter_halts, cited_taken, one_taken, same_taken, two_halts, three_halts, three_second_halts}
use Rattle.proof_checks.proofs.TakenLemmas.{got_within, got_fits, one_within, two_within, three_within, one_fits, two_fits, three_fits, given_shows, taken_shows, asked_then, taken_seen}
use Rattle.proof_checks.proofs.CallLemmas.{halted, over, two_end, three_end}
use Rattle.proof_checks.proofs.JudgedLemmas.{fact_asks, entered_asks, stepped_asks}
use Rattle.proof_checks.proofs.PartQuestions.{same_asks, cited_asks, one_asks, two_halt_asks, two_asks, three_halt_asks, three_second_asks, three_asks, part_asks}
use Rattle.proof_checks.proofs.proving.+proved.Goals as goal

pub proved-returns-in-Fact : goal.proved-returns-in-Fact
proved-returns-in-Fact g t c =
    let gives = fact_told c.args.left c.args.term.now c.args.goal.now (seen c.args.scope.now) c.in-Fact.cite c.cited.result c.in-Fact.is c.cited.ensures.gives in
    let asks = fact_asks c.args.left c.args.term.now c.args.goal.now (seen c.args.scope.now) c.in-Fact.cite c.cited.result _ c.in-Fact.is in
    record { gives = gives; scope = search rules; asked = runs_asks c.cited.result _ c.cited.ensures.runs; asks = asks }

pub proved-returns-in_err-step : goal.proved-returns-in_err-step
proved-returns-in_err-step g t c =
    let h = c.in_err-step.field-0.0 in
    let out : c.from_residual.result ≡ Err h = search rules in
    let rule : (k : Cite) → c.args.term.now ≡ Fact k → ⊥ = search rules in
    let gives = enter_halts c.args.left c.args.term.now c.args.goal.now (seen c.args.scope.now) c.entered.result c.from_residual.result h c.in_err-step.was out c.entered.ensures.plans in
    let rest = halted c.entered.result c.from_residual.result h _ _ _ c.in_err-step.was out c.entered.ensures.asked in
    let asks = entered_asks c.args.term.now c.args.goal.now (seen c.args.scope.now) rule c.args.left _ _ c.entered.ensures.asks
    c.entered.result c.from_residual.result h c.in_err-step.was out c.entered.ensures.plans in
    record { gives = gives; scope = rest.0; asked = rest.1; asks = asks }

pub proved-taken-requires : goal.proved-taken-requires
proved-taken-requires g t c κs within = search (rules, got_within c.in_ok-step.step c.get.result.now c.args.left c.get.ensures c.in_ok-step.ensures.deep, got_fits c.in_ok-step.step c.get.result.now (meaning c.args.goal.now) c.get.ensures c.in_ok-step.ensures.fits)

pub proved-returns : goal.proved-returns
proved-returns g t c =
    let rule : (k : Cite) → c.args.term.now ≡ Fact k → ⊥ = search rules in
    let gives = stepped_as c.args.left c.args.term.now c.args.goal.now (seen c.args.scope.now) c.in_ok-step.step c.get.result.now c.taken.result c.get.ensures c.in_ok-step.ensures.plans c.taken.ensures.gives in
    let asked = asked_then c.entered.result c.in_ok-step.step c.taken.result _ _ _ c.in_ok-step.was c.entered.ensures.asked c.taken.ensures.asked in
    let asks = stepped_asks c.args.term.now c.args.goal.now (seen c.args.scope.now) rule c.args.left _ _ c.entered.ensures.asks
    c.in_ok-step.step c.get.result.now c.taken.result _ c.get.ensures c.in_ok-step.ensures.plans c.taken.ensures.asks in
    record { gives = gives; scope = c.taken.ensures.scope; asked = asked; asks = asks }

pub taken-returns-in-Cited : goal.taken-returns-in-Cited
taken-returns-in-Cited g t c =
    let gives = cited_taken (checked_within (c.args.left - 1)) c.args.goal.now (seen c.args.scope.now) c.args.step.now c.in-Cited.cite c.cited.result c.in-Cited.is c.cited.ensures.gives in
    let asks = cited_asks (checked_within (c.args.left - 1)) (judged_within (c.args.left - 1)) c.args.goal.now (seen c.args.scope.now) c.args.step.now c.in-Cited.cite c.cited.result _ c.in-Cited.is in
    record { gives = gives; scope = search rules; asked = runs_asks c.cited.result _ c.cited.ensures.runs; asks = asks }

pub taken-overflow_sub-left : goal.taken-overflow_sub-left
taken-overflow_sub-left g t c = omega (arith, one_within c.args.step.now c.args.left c.in-One.rule c.in-One.p c.in-One.is c.requires.within)

pub taken-premise-last-requires : goal.taken-premise-last-requires
taken-premise-last-requires g t c κs within = search (rules, one_within c.args.step.now c.args.left c.in-One.rule c.in-One.p c.in-One.is c.requires.within)

pub taken-join_one-requires : goal.taken-join_one-requires
taken-join_one-requires g t c = record {
  shown = given_shows c.premise-last.result _ (meaning c.in-One.p.goal) c.premise-last.ensures.gives;
  fits = one_fits c.args.step.now (meaning c.args.goal.now) c.in-One.rule c.in-One.p c.in-One.is c.requires.fits;
}

pub taken-returns-in-One : goal.taken-returns-in-One
taken-returns-in-One g t c =
    let gives = one_taken (checked_within (c.args.left - 1)) c.args.goal.now (seen c.args.scope.now) c.args.step.now c.in-One.rule c.in-One.p c.join_one.result c.in-One.is (c.join_one.ensures.gives _ c.premise-last.ensures.gives) in
    let rest = over c.premise-last.result c.join_one.result _ _ _ c.join_one.ensures.hands c.premise-last.ensures.scope c.premise-last.ensures.asked in
    let asks = one_asks (checked_within (c.args.left - 1)) (judged_within (c.args.left - 1)) c.args.goal.now (seen c.args.scope.now) c.args.step.now c.in-One.rule c.in-One.p
    c.premise-last.result c.join_one.result _ _ c.in-One.is c.join_one.ensures.hands c.premise-last.ensures.asks in
    record { gives = gives; scope = rest.0; asked = rest.1; asks = asks }

pub taken-overflow_sub-left-in-Two : goal.taken-overflow_sub-left-in-Two
taken-overflow_sub-left-in-Two g t c = omega (arith, two_within c.args.step.now c.args.left c.in-Two.rule c.in-Two.p c.in-Two.q c.in-Two.is c.requires.within)

pub taken-two-requires : goal.taken-two-requires
taken-two-requires g t c κs within =
    let more = two_within c.args.step.now c.args.left c.in-Two.rule c.in-Two.p c.in-Two.q c.in-Two.is c.requires.within in
    let fits = two_fits c.args.step.now (meaning c.args.goal.now) c.in-Two.rule c.in-Two.p c.in-Two.q c.in-Two.is c.requires.fits in
    search rules

pub taken-returns-in-Two : goal.taken-returns-in-Two
taken-returns-in-Two g t c =
    let gives = same_taken (checked_within (c.args.left - 1)) c.args.goal.now (seen c.args.scope.now) c.args.step.now (Two c.in-Two.rule c.in-Two.p c.in-Two.q) c.two.result c.in-Two.is c.two.ensures.gives in
    let asks = same_asks (checked_within (c.args.left - 1)) (judged_within (c.args.left - 1)) c.args.goal.now (seen c.args.scope.now) c.args.step.now
    (Two c.in-Two.rule c.in-Two.p c.in-Two.q) c.two.result _ _ c.in-Two.is c.two.ensures.asks in
    record { gives = gives; scope = c.two.ensures.scope; asked = c.two.ensures.asked; asks = asks }

pub taken-overflow_sub-left-in-Three : goal.taken-overflow_sub-left-in-Three
taken-overflow_sub-left-in-Three g t c = omega (arith, three_within c.args.step.now c.args.left c.in-Three.p c.in-Three.q c.in-Three.r c.in-Three.is c.requires.within)

pub taken-three-requires : goal.taken-three-requires
taken-three-requires g t c κs within =
    let more = three_within c.args.step.now c.args.left c.in-Three.p c.in-Three.q c.in-Three.r c.in-Three.is c.requires.within in
    let fits = three_fits c.args.step.now (meaning c.args.goal.now) c.in-Three.p c.in-Three.q c.in-Three.r c.in-Three.is c.requires.fits in
    search rules

pub taken-returns-in-Three : goal.taken-returns-in-Three
taken-returns-in-Three g t c =
    let gives = same_taken (checked_within (c.args.left - 1)) c.args.goal.now (seen c.args.scope.now) c.args.step.now (Three c.in-Three.p c.in-Three.q c.in-Three.r) c.three.result c.in-Three.is c.three.ensures.gives in
    let asks = same_asks (checked_within (c.args.left - 1)) (judged_within (c.args.left - 1)) c.args.goal.now (seen c.args.scope.now) c.args.step.now
    (Three c.in-Three.p c.in-Three.q c.in-Three.r) c.three.result _ _ c.in-Three.is c.three.ensures.asks in
    record { gives = gives; scope = c.three.ensures.scope; asked = c.three.ensures.asked; asks = asks }

pub two-returns-in_err-t : goal.two-returns-in_err-t
two-returns-in_err-t g t c =
    let h = c.in_err-t.field-0.0 in
    let out : c.from_residual.result ≡ Err h = search rules in
    let gives = two_halts (checked_within c.args.left) c.args.goal.now (seen c.args.scope.now) c.args.rule.now c.args.p.now c.args.q.now c.premise.result c.from_residual.result h c.in_err-t.was out c.premise.ensures.gives in
    let rest = halted c.premise.result c.from_residual.result h _ _ _ c.in_err-t.was out c.premise.ensures.asked in
    let asks = two_halt_asks (checked_within c.args.left) (judged_within c.args.left) c.args.goal.now (seen c.args.scope.now) c.args.rule.now c.args.p.now c.args.q.now
    c.premise.result c.from_residual.result h _ _ c.in_err-t.was out c.premise.ensures.gives c.premise.ensures.asks in
    record { gives = gives; scope = rest.0; asked = rest.1; asks = asks }

pub two-join_two-joined-requires : goal.two-join_two-joined-requires
two-join_two-joined-requires g t c = record {
  first = taken_shows c.premise.result c.in_ok-t.t _ (meaning c.args.p.now.goal) c.in_ok-t.was c.premise.ensures.gives;
  second = given_shows c.premise-last.result _ (meaning c.args.q.now.goal) c.premise-last.ensures.gives;
  fits = c.requires;
}

pub two-returns : goal.two-returns
two-returns g t c =
    let all = two_end (checked_within c.args.left) c.args.goal.now c.args.scope.now c.args.rule.now c.args.p.now c.args.q.now c.premise.result c.premise-last.result c.join_two-joined.result c.in_ok-t.t
    c.premise.new.scope c.premise-last.new.scope _ _ _ c.in_ok-t.was c.premise.ensures.gives c.premise.ensures.scope c.premise.ensures.asked
    c.premise-last.ensures.scope c.premise-last.ensures.asked c.join_two-joined.ensures.hands (λ a l. c.join_two-joined.ensures.gives a l _ c.premise-last.ensures.gives) in
    let asks = two_asks (checked_within c.args.left) (judged_within c.args.left) c.args.goal.now (seen c.args.scope.now) c.args.rule.now c.args.p.now c.args.q.now
    c.premise.result c.premise-last.result c.join_two-joined.result c.in_ok-t.t (seen c.premise.new.scope) _ _ _ c.in_ok-t.was c.premise.ensures.gives c.premise.ensures.asks
    (taken_seen c.premise.result c.in_ok-t.t _ _ c.in_ok-t.was c.premise.ensures.scope) c.premise-last.ensures.asks c.join_two-joined.ensures.hands in
    record { gives = all.0; scope = all.1; asked = all.2; asks = asks }

pub three-returns-in_err-t : goal.three-returns-in_err-t
three-returns-in_err-t g t c =
    let h = c.in_err-t.field-0.0 in
    let out : c.from_residual.result ≡ Err h = search rules in
    let gives = three_halts (checked_within c.args.left) c.args.goal.now (seen c.args.scope.now) c.args.p.now c.args.q.now c.args.r.now c.premise.result c.from_residual.result h c.in_err-t.was out c.premise.ensures.gives in
    let rest = halted c.premise.result c.from_residual.result h _ _ _ c.in_err-t.was out c.premise.ensures.asked in
    let asks = three_halt_asks (checked_within c.args.left) (judged_within c.args.left) c.args.goal.now (seen c.args.scope.now) c.args.p.now c.args.q.now c.args.r.now
    c.premise.result c.from_residual.result h _ _ c.in_err-t.was out c.premise.ensures.gives c.premise.ensures.asks in
    record { gives = gives; scope = rest.0; asked = rest.1; asks = asks }

pub three-returns-in_err-u : goal.three-returns-in_err-u
three-returns-in_err-u g t c =
    let h = c.in_err-u.field-0.0 in
    let out : c.from_residual-in_err-u.result ≡ Err h = search rules in
    let gives = three_second_halts (checked_within c.args.left) c.args.goal.now (seen c.args.scope.now) c.args.p.now c.args.q.now c.args.r.now
    c.premise.result c.in_ok-t.t (seen c.premise.new.scope) c.premise-2.result c.from_residual-in_err-u.result h c.in_ok-t.was c.premise.ensures.gives
    (taken_seen c.premise.result c.in_ok-t.t _ _ c.in_ok-t.was c.premise.ensures.scope) c.in_err-u.was out c.premise-2.ensures.gives in
    let rest = halted c.premise-2.result c.from_residual-in_err-u.result h _ _ _ c.in_err-u.was out c.premise-2.ensures.asked in
    let asked = asked_then c.premise.result c.in_ok-t.t c.from_residual-in_err-u.result _ _ _ c.in_ok-t.was c.premise.ensures.asked rest.1 in
    let asks = three_second_asks (checked_within c.args.left) (judged_within c.args.left) c.args.goal.now (seen c.args.scope.now) c.args.p.now c.args.q.now c.args.r.now
    c.premise.result c.premise-2.result c.from_residual-in_err-u.result c.in_ok-t.t h (seen c.premise.new.scope) _ _ _ c.in_ok-t.was c.premise.ensures.gives c.premise.ensures.asks
    (taken_seen c.premise.result c.in_ok-t.t _ _ c.in_ok-t.was c.premise.ensures.scope) c.in_err-u.was out c.premise-2.ensures.gives c.premise-2.ensures.asks in
    record { gives = gives; scope = rest.0; asked = asked; asks = asks }

pub three-join_three-joined-requires : goal.three-join_three-joined-requires
three-join_three-joined-requires g t c = record {
  first = taken_shows c.premise.result c.in_ok-t.t _ (meaning c.args.p.now.goal) c.in_ok-t.was c.premise.ensures.gives;
  second = taken_shows c.premise-2.result c.in_ok-u.u _ (meaning c.args.q.now.goal) c.in_ok-u.was c.premise-2.ensures.gives;
  third = given_shows c.premise-last.result _ (meaning c.args.r.now.goal) c.premise-last.ensures.gives;
  fits = c.requires;
}

pub three-returns : goal.three-returns
three-returns g t c =
    let all = three_end (checked_within c.args.left) c.args.goal.now c.args.scope.now c.args.p.now c.args.q.now c.args.r.now c.premise.result c.premise-2.result c.premise-last.result c.join_three-joined.result
    c.in_ok-t.t c.in_ok-u.u c.premise.new.scope c.premise-2.new.scope c.premise-last.new.scope _ _ _ _ c.in_ok-t.was c.premise.ensures.gives c.premise.ensures.scope c.premise.ensures.asked
    c.in_ok-u.was c.premise-2.ensures.gives c.premise-2.ensures.scope c.premise-2.ensures.asked c.premise-last.ensures.scope c.premise-last.ensures.asked
    c.join_three-joined.ensures.hands (λ a b l m. c.join_three-joined.ensures.gives a b l m _ c.premise-last.ensures.gives) in
    let asks = three_asks (checked_within c.args.left) (judged_within c.args.left) c.args.goal.now (seen c.args.scope.now) c.args.p.now c.args.q.now c.args.r.now
    c.premise.result c.premise-2.result c.premise-last.result c.join_three-joined.result c.in_ok-t.t c.in_ok-u.u (seen c.premise.new.scope) (seen c.premise-2.new.scope) _ _ _ _
    c.in_ok-t.was c.premise.ensures.gives c.premise.ensures.asks (taken_seen c.premise.result c.in_ok-t.t _ _ c.in_ok-t.was c.premise.ensures.scope)
    c.in_ok-u.was c.premise-2.ensures.gives c.premise-2.ensures.asks
    (taken_seen c.premise-2.result c.in_ok-u.u _ _ c.in_ok-u.was c.premise-2.ensures.scope ∙ (taken_seen c.premise.result c.in_ok-t.t _ _ c.in_ok-t.was c.premise.ensures.scope)) c.premise-last.ensures.asks c.join_three-joined.ensures.hands in
    record { gives = all.0; scope = all.1; asked = all.2; asks = asks }

pub premise-returns-in-None-clause-gives : goal.premise-returns-in-None-clause-gives
premise-returns-in-None-clause-gives g t c =
    gives_as c.args.left _ _ c.args.part.now.goal _ _ c.proved.result _ refl c.get.ensures (none_inside c.args.part.now.own (seen c.args.scope.now) c.in-None.is) c.proved.ensures.gives

pub premise-returns-in-None-clause-asks : goal.premise-returns-in-None-clause-asks
premise-returns-in-None-clause-asks g t c =
    part_asks (judged_within c.args.left) _ _ c.args.part.now.goal _ _ c.proved.result _ _ _ refl c.get.ensures (none_inside c.args.part.now.own (seen c.args.scope.now) c.in-None.is) c.proved.ensures.asks

pub premise-returns-in_ok-push-in-Some : goal.premise-returns-in_ok-push-in-Some
premise-returns-in_ok-push-in-Some g t c =
    let here = some_inside c.args.part.now.own c.in-Some.own c.in_ok-copy-in-Some.field-0 c.args.scope.now c.push.new.self c.in-Some.is (search rules) (search rules) in
    let gives = gives_as c.args.left _ _ c.args.part.now.goal _ _ c.proved-given.result c.hand_on.result c.hand_on.ensures.given c.get-in-Some.ensures here c.proved-given.ensures.gives in
    let scope = handed_back c.proved-given.result c.hand_on.result c.proved-given.new.scope c.hand_on.new.scope c.args.scope.now c.push.new.self
    (record { name = c.in-Some.own.name; formula = c.in_ok-copy-in-Some.field-0 }) c.hand_on.ensures.given c.hand_on.ensures.scope c.proved-given.ensures.scope (search rules) in
    let asks = part_asks (judged_within c.args.left) _ _ c.args.part.now.goal _ _ c.proved-given.result c.hand_on.result _ _ c.hand_on.ensures.given c.get-in-Some.ensures here c.proved-given.ensures.asks in
    record { gives = gives; scope = scope; asked = handed_asks c.proved-given.result c.hand_on.result _ _ c.hand_on.ensures.given c.proved-given.ensures.asked; asks = asks }

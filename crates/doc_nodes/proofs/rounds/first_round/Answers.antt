use Rattle.std.proofs.Common.{sym, ◌∙◌, [], arith}
use Rattle.doc_nodes.specs.Looks.{IsDue}
use Rattle.doc_nodes.proofs.KnownSteps.{added_next, sound_all}
use Rattle.doc_nodes.proofs.RoundLemmas.{round_is}
use Rattle.doc_nodes.proofs.rounds.first_round.Goals as goal

pub nodes-preserved : goal.nodes-preserved
nodes-preserved c =
    let offered = c.in_ok-offer.ensures.offered c.nodes.invariant.scanned in
    record {
      scanned = c.in_ok-offer.ensures.scanned c.nodes.invariant.scanned;
      added = added_next (IsDue c.args.rows.now c.args.marks.now) _ _ (λ p lt due. offered.kept p (c.nodes.invariant.added p lt due)) offered.added;
      sound = sound_all (IsDue c.args.rows.now c.args.marks.now) _ _ c.nodes.invariant.sound offered.sound;
    }

pub returns-clause-round : goal.returns-clause-round
returns-clause-round c = round_is c.args.rows.now c.args.marks.now [] c.requires.none c.in_order.result.items c.in_order.ensures.rises
    (λ p h. c.nodes.invariant.sound p (sym (c.in_order.ensures.same p) ∙ h))
    (λ p due. c.in_order.ensures.same p ∙ c.nodes.invariant.added p (omega (arith, due.in_range)) due)

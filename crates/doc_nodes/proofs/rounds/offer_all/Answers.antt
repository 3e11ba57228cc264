use Rattle.std.proofs.Common.{◌<◌, length, arith}
use Rattle.doc_nodes.specs.Looks.{IsDue}
use Rattle.text_words.proofs.KnownMembers.{has_at}
use Rattle.doc_nodes.proofs.KnownSteps.{added_more, added_all, sound_more}
use Rattle.doc_nodes.proofs.rounds.offer_all.Goals as goal

pub offer-requires-clause-node : goal.offer-requires-clause-node
offer-requires-clause-node c = c.requires.nodes _ (has_at c.args.nodes.now c.nodes.node-index 0 (omega arith))

pub nodes-preserved : goal.nodes-preserved
nodes-preserved c =
    let here : c.nodes.node-index < length c.args.nodes.now = omega arith in
    let offered = c.in_ok-offer.ensures.offered c.nodes.invariant.scanned in
    record {
      scanned = c.in_ok-offer.ensures.scanned c.nodes.invariant.scanned;
      kept = λ p h. offered.kept p (c.nodes.invariant.kept p h);
      added = added_more (IsDue c.args.rows.now c.args.marks.now) _ _ _ here
          (λ k d lt due. offered.kept _ (c.nodes.invariant.added k d lt due)) offered.added;
      sound = sound_more _ _ _ _ c.nodes.invariant.sound offered.sound;
    }

pub returns-clause-offered : goal.returns-clause-offered
returns-clause-offered c = record {
  kept = c.nodes.invariant.kept;
  added = added_all (IsDue c.args.rows.now c.args.marks.now) _ _ (λ k d lt due. c.nodes.invariant.added k d (omega arith) due);
  sound = c.nodes.invariant.sound;
}

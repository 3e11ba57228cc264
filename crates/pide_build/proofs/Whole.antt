-- The batches and the order of nodes are those of the nodes that are cut.
use Rattle.std.proofs.Common.{◌≡◌, ℕ, List, [], ◌∷◌, ◌++◌, ap, subst, ◌∙◌}
use Rattle.doc_nodes.specs.Imports.{NodeList, aims, order, other_places}
use Rattle.pide_build.specs.Batches.{AreBatches, AreRounds}
use Rattle.doc_nodes.proofs.KnownHeads.{aims_head, along, order_head, others_head}
use Rattle.pide_build.specs.Cutting.{AreUncut, cut_all}
use Rattle.pide_build.proofs.KnownCut.{heads_are}

module _ (nodes : NodeList) (uncut : AreUncut nodes) where
  pub order_same : order nodes ≡ order (cut_all nodes)
  order_same = along order order_head nodes (cut_all nodes) (heads_are nodes uncut)

  pub batches_same : (batches : List (List ℕ)) → AreBatches nodes batches → AreBatches (cut_all nodes) batches
  batches_same batches are = record {
    rounds = are.rounds;
    are = subst (λ rows. AreRounds rows [] are.rounds) (along aims aims_head nodes (cut_all nodes) (heads_are nodes uncut)) are.are;
    all = are.all ∙ ap (λ rest. are.rounds ++ rest ∷ []) (along other_places others_head nodes (cut_all nodes) (heads_are nodes uncut));
  }

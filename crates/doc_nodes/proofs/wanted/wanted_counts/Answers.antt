use Rattle.std.proofs.Common.{[], ◌∷◌, ◌++◌, sym, ap, ◌∙◌, arith}
use Rattle.std.proofs.lemmas.List.FromFn.{map-range_with_len_more}
use Rattle.doc_nodes.specs.Wanted.{wanted_at}
use Rattle.doc_nodes.proofs.wanted.wanted_counts.Goals as goal

pub places-preserved : goal.places-preserved
places-preserved c =
    c.in_ok-push.ensures.items
    ∙ ap (λ n. c.places.counts.items ++ n ∷ []) c.wanted_at.ensures
    ∙ ap (λ ns. ns ++ wanted_at c.args.nodes.now c.places.place ∷ []) c.places.invariant
    ∙ sym (map-range_with_len_more (wanted_at c.args.nodes.now) 0 c.places.place c.places.place (omega arith))

-- One place more is marked.
use Rattle.std.proofs.Common.{◌≡◌, ◌<◌, length, vec_len, arith, rules}
use Rattle.text_words.proofs.KnownMembers.{has_at}
use Rattle.doc_nodes.proofs.KnownSteps.{marked_more}
use Rattle.pide_build.proofs.fitting.with_marks.Goals as goal

pub index_mut-requires : goal.index_mut-requires
index_mut-requires c =
    let within = c.requires _ (has_at c.args.places.now c.places.place-index 0 (omega arith)) in let same = c.places.invariant.0 in omega arith

pub places-preserved : goal.places-preserved
places-preserved c =
    let here : c.places.place-index < length c.args.places.now = omega arith in
    let within = c.requires _ (has_at c.args.places.now c.places.place-index 0 here) in
    let long : length c.places.marks.items ≡ vec_len c.places.marks = search rules in
    let same = c.places.invariant.0 in (
      same,
      λ p. marked_more c.places.marks.items c.args.marks.items c.args.places.now c.places.place-index p here (omega arith) (c.places.invariant.1 p),
    )

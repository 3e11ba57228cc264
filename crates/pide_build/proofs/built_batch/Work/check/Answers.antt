-- What came of the batch is kept.
use Rattle.std.proofs.Common.{rules, ◌<◌, ◌++◌, length, All, IsPermutation, subst, sym}
use Rattle.std.specs.Prelude.{slice_index}
use Rattle.pide_base.proofs.KnownOutcomes.{on_ok_always}
use Rattle.pide_build.specs.Cutting.{cut_all}
use Rattle.pide_build.specs.Tasks.{MakesSo}
use Rattle.task_round.specs.Rounds.{AreMade}
use Rattle.pide_build.proofs.BuiltRounds.{make_so, numbers_within, places_taken}
use Rattle.pide_build.proofs.built_batch.Work.check.Goals as goal

pub add_places-requires : goal.add_places-requires
add_places-requires g c =
    subst (λ ns. All (λ n. n < length c.args.places.now) ns) (sym c.deref-2.ensures.value)
    (numbers_within (length c.args.places.now) c.in_ok-round.round.taken.items c.in_ok-round.ensures.once)

pub returns-clause-kept : goal.returns-clause-kept
returns-clause-kept g c = λ before keeps.
    let l = g.L.Language.lang in let told = g.T.Telling.told in let nodes = cut_all c.args.self.now.nodes.now in
    let behind = c.args.kept.now.behind.items in
    let places = c.args.places.now in let made = c.in_ok-round.round.made.items in
    let are = subst (λ bs. AreMade (λ task. MakesSo l told nodes bs (slice_index places task)) 0 made) c.deref.ensures.value c.in_ok-round.ensures.made in
    c.keep_all.ensures l told nodes before behind keeps.behind (make_so l told nodes behind places made c.in_ok-round.ensures.length are) keeps

pub returns-clause-taken : goal.returns-clause-taken
returns-clause-taken g c = λ done before.
    let places = c.args.places.now in let numbers = c.in_ok-round.round.taken.items in
    on_ok_always c.keep_all.result
    (subst (λ xs. IsPermutation (done ++ places) xs) (search rules) (places_taken places numbers done c.args.taken.now.items c.in_ok-round.ensures.once before))

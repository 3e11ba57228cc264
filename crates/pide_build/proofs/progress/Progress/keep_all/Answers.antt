-- One node more is kept.
use Rattle.std.proofs.Common.{rules, ◌≡◌, ◌<◌, [], ◌∷◌, ◌++◌, length, get_or, take, drop, reverse, set, Some, ◌-◌, All, ap, subst, ◌∙◌, length-set}
use Rattle.std.proofs.lemmas.List.Elements.{All-head}
use Rattle.pide_build.proofs.BatchSteps.{IsAt, at_last, none_left, one_more, still_all}
use Rattle.pide_build.proofs.Gathered.{cut_first}
use Rattle.pide_build.proofs.progress.Progress.keep_all.Goals as goal

pub places-preserved : goal.places-preserved
places-preserved g c =
    let rest = c.places.rest.now in let p = get_or rest 0 0 in
    let more = take (length rest - 1) (drop 1 rest) in
    let cut : rest ≡ p ∷ more = cut_first rest c.in-len1-up.len_at_least in
    let inv = c.places.invariant in
    let now = c.places.self in let new = c.keep.new.self in let run = c.in-Some.checked in
    let states : new.behind.items ≡ set now.behind.items p (Some run.behind) = search rules in
    let tellings : new.told.items ≡ set now.told.items p (Some run.told) = search rules in
    let parts : c.places.made.items ≡ c.pop.new.self.items ++ run ∷ [] = search rules in
    let some : p < length now.behind.items =
    All-head (λ q. q < length now.behind.items) p more (subst (All (λ q. q < length now.behind.items)) cut inv.0) in (
      still_all (length now.behind.items) (length new.behind.items) rest more p cut
          (ap length states ∙ length-set now.behind.items p (Some run.behind)) inv.0,
      still_all (length now.told.items) (length new.told.items) rest more p cut
          (ap length tellings ∙ length-set now.told.items p (Some run.told)) inv.1,
      (let long = ap length cut in let fewer = ap length parts in search rules),
      λ l told nodes before behind.
          one_more l told nodes before behind c.args.places.now c.args.made.items c.args.self.now p more c.places.made.items c.pop.new.self.items run now new
          (subst (λ r. IsAt l told nodes before behind c.args.places.now c.args.made.items c.args.self.now r (reverse c.places.made.items) now) cut
          (inv.3 l told nodes before behind))
          parts some states tellings,
    )

pub returns : goal.returns
returns g c = λ l told nodes before behind stands makes keeps.
    at_last l told nodes before behind c.args.places.now c.args.made.items c.args.self.now (reverse c.places.made.items) c.places.self
    (subst (λ r. IsAt l told nodes before behind c.args.places.now c.args.made.items c.args.self.now r (reverse c.places.made.items) c.places.self)
    (none_left c.places.rest.now c.in_default.len_below) (c.places.invariant.3 l told nodes before behind))
    stands makes keeps

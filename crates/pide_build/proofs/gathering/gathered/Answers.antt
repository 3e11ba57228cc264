-- What is told at a place is not taken yet.
use Rattle.std.proofs.Common.{rules, ◌≡◌, ◌<◌, [], ◌∷◌, ◌++◌, append-nil, length, get_or, vec_len, None, Some, sym, ap, ◌∙◌, arith}
use Rattle.std.specs.List.{cons_option}
use Rattle.std.proofs.lemmas.List.{get_or_default}
use Rattle.pide_build.proofs.Gathered.{cut_first, first_of, no_value, one_gathered}
use Rattle.pide_build.proofs.gathering.gathered.Goals as goal

pub index_mut-requires : goal.index_mut-requires
index_mut-requires g c =
    let rest = c.places.rest.now in let inv = c.places.invariant in
    let within = first_of (length c.args.told.items) c.args.places.now inv.0 rest inv.1 c.requires.within c.in-len1-up.len_at_least in
    let long = inv.4 in
    let same : length c.places.told.items ≡ vec_len c.places.told = search rules in
    omega arith

pub places-preserved-in_ok-push : goal.places-preserved-in_ok-push
places-preserved-in_ok-push g c =
    let rest = c.places.rest.now in let p = get_or rest 0 0 in let inv = c.places.invariant in
    let now = c.places.told.items in let all = c.places.all.items in
    let within = first_of (length c.args.told.items) c.args.places.now inv.0 rest inv.1 c.requires.within c.in-len1-up.len_at_least in
    let here : p < length now = let long = inv.4 in omega arith in
    let found : get_or now p None ≡ Some c.in-Some.one =
    sym (c.replace.ensures.value ∙ c.index_mut.ensures.value ∙ get_or_default now p _ None here) ∙ c.in-Some.is in
    let pushed : c.push.new.self.items ≡ all ++ c.in-Some.one ∷ [] = search rules in
    one_gathered c.args.told.items c.args.places.now rest _ all c.push.new.self.items now _ p c.requires.once inv
    (cut_first rest c.in-len1-up.len_at_least) (pushed ∙ ap (λ o. all ++ cons_option o []) (sym found)) (search rules)

pub places-preserved : goal.places-preserved
places-preserved g c =
    let rest = c.places.rest.now in let p = get_or rest 0 0 in let inv = c.places.invariant in
    let now = c.places.told.items in let all = c.places.all.items in
    let within = first_of (length c.args.told.items) c.args.places.now inv.0 rest inv.1 c.requires.within c.in-len1-up.len_at_least in
    let here : p < length now = let long = inv.4 in omega arith in
    let none : get_or now p None ≡ None =
    sym (c.replace.ensures.value ∙ c.index_mut.ensures.value ∙ get_or_default now p _ None here) ∙ no_value c.replace.result c.in_default-replace.not-Some in
    one_gathered c.args.told.items c.args.places.now rest _ all all now _ p c.requires.once inv
    (cut_first rest c.in-len1-up.len_at_least) (sym (append-nil all) ∙ ap (λ o. all ++ cons_option o []) (sym none)) (search rules)

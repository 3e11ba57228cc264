use Rattle.std.proofs.Common.{ℕ, ◌-◌, List, ◌++◌, length, take, drop, map, sym, ap, subst, ◌∙◌}
use Rattle.std.proofs.lemmas.List.{take_rest}
use Rattle.std.specs.List.{AllZip, zip, range_with_len}
use Rattle.pide_base.specs.declared.range.Range.{Range}
use Rattle.doc_nodes.specs.declared.node.Entry.{Entry}
use Rattle.buffer_rules.specs.Cuts.{source}
use Rattle.buffer_rules.specs.Numbers.{Kept, IsLongestKept}
use Rattle.buffer_rules.specs.Nodes.{entry}
use Rattle.editor_buffer.specs.Commands.{sources_in, AsksFor}
use Rattle.editor_buffer.proofs.Joined.{joined_at, ids_by}
use Rattle.editor_buffer.proofs.KeptSources.{asked_front, asked_back}
use Rattle.editor_buffer.proofs.entries.entries_of.Goals as goal

pub push_kept-requires-clause-asked : goal.push_kept-requires-clause-asked
push_kept-requires-clause-asked c =
    let es = c.args.old.now.entries.now in
    let rs = c.args.ranges.now in
    let olds = sources_in c.args.old.now.text.now es in
    let news = map (source c.args.sheet.now.text) rs in
    let Longest : Kept → Type 0 = λ k. IsLongestKept olds news k in
    let so : IsLongestKept olds news c.args.runs.now = subst Longest (sym c.requires.kept) (c.kept_law.ensures olds news) in
    let P : ℕ → Type 0 = λ n. AllZip (λ (e : Entry) (r : Range). AsksFor c.args.aliases.now (source c.args.sheet.now.text r) e) (take n es) (take n rs) in
    λ same. subst P (sym c.front-front.ensures)
    (asked_front c.args.aliases.now c.args.old.now.text.now c.args.sheet.now.text es rs c.args.runs.now (c.requires.asked same) so c.requires.old c.requires.now)

pub push_kept-requires-2-clause-asked : goal.push_kept-requires-2-clause-asked
push_kept-requires-2-clause-asked c =
    let es = c.args.old.now.entries.now in
    let rs = c.args.ranges.now in
    let k = c.args.runs.now in
    let olds = sources_in c.args.old.now.text.now es in
    let news = map (source c.args.sheet.now.text) rs in
    let Longest : Kept → Type 0 = λ j. IsLongestKept olds news j in
    let so : IsLongestKept olds news k = subst Longest (sym c.requires.kept) (c.kept_law.ensures olds news) in
    let Asked : List Entry → List Range → Type 0 = λ xs ys. AllZip (λ (e : Entry) (r : Range). AsksFor c.args.aliases.now (source c.args.sheet.now.text r) e) xs ys in
    let Behind : ℕ → Type 0 = λ n. Asked (take (length es - (length es - n)) (drop (length es - n) es)) (take (length rs - (length rs - n)) (drop (length rs - n) rs)) in
    λ same. subst Behind (sym c.back-back.ensures)
    (subst (λ xs. Asked xs (take (length rs - (length rs - k.back)) (drop (length rs - k.back) rs))) (sym (take_rest es (length es - k.back)))
    (subst (λ ys. Asked (drop (length es - k.back) es) ys) (sym (take_rest rs (length rs - k.back)))
    (asked_back c.args.aliases.now c.args.old.now.text.now c.args.sheet.now.text es rs k (c.requires.asked same) so c.requires.old c.requires.now)))

pub returns : goal.returns
returns c =
    let es = c.args.old.now.entries.now in
    let rs = c.args.ranges.now in
    let f = c.front-front.result in
    let at = length es - c.back-back.result in
    let stop = length rs - c.back-back.result in
    let made : List ℕ → List Range → List Entry = λ ids ys. map (entry c.args.sheet.now c.args.aliases.now) (zip ids ys) in
    let ids : List Entry → List ℕ = λ xs. map (λ (e : Entry). e.command) xs in
    let mid = take (stop - f) (drop f rs) in
    let first = made (ids (take f es)) (take f rs) in
    let new = made (range_with_len c.args.next (length mid)) mid in
    let last = made (ids (take (length es - at) (drop at es))) (take (length rs - stop) (drop stop rs)) in
    c.in_ok-push_kept-2.ensures
    ∙ ap (λ xs. xs ++ last) c.in_ok-push_new.ensures
    ∙ ap (λ xs. xs ++ new ++ last) c.in_ok-push_kept.ensures
    ∙ ap (λ xs. xs ++ first ++ new ++ last) c.new-entries.ensures
    ∙ ap (λ xs. first ++ new ++ made (ids xs) (take (length rs - stop) (drop stop rs))) (take_rest es at)
    ∙ ap (λ ys. first ++ new ++ made (ids (drop at es)) ys) (take_rest rs stop)
    ∙ joined_at c.args.sheet.now c.args.aliases.now c.args.runs.now es rs c.args.next f at stop c.front-front.ensures
    (ap (λ n. length es - n) c.back-back.ensures) (ap (λ n. length rs - n) c.back-back.ensures) c.requires.old c.requires.now
    ∙ ap (λ js. made js rs) (ids_by c.args.old.now.text.now c.args.sheet.now.text es rs c.args.next c.args.runs.now c.requires.kept)

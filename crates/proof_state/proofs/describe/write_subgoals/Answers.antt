use Rattle.std.proofs.Common.{rules, ◌≡◌, ◌<◌, ◌≤◌, ◌∷◌, ◌++◌, length, string_bytes, codes}
use Rattle.text_words.proofs.KnownLists.{rest_at}
use Rattle.proof_state.proofs.TextLemmas.{leads_on, leads_end}
use Rattle.proof_state.proofs.describe.write_subgoals.Goals as goal

pub loop-subgoal-preserved : goal.loop-subgoal-preserved
loop-subgoal-preserved c =
    let line : string_bytes c.push_str.new.self ≡ string_bytes c.loop-subgoal.text ++ (10 ∷ codes "subgoal: ") = search rules in
    let within : c.loop-subgoal.subgoal-index < length c.args.subgoals.now = search rules in
    leads_on (string_bytes c.args.text.now) (string_bytes c.loop-subgoal.text) (string_bytes c.push_str.new.self)
    (string_bytes c.write_subgoal.new.text) c.args.subgoals.now c.loop-subgoal.subgoal-index c.subgoal-item.result
    (rest_at c.args.subgoals.now c.loop-subgoal.subgoal-index c.subgoal-item.result within c.subgoal-item.is)
    line c.in_ok-write_subgoal.ensures c.loop-subgoal.invariant

pub returns : goal.returns
returns c =
    let past : length c.args.subgoals.now ≤ c.loop-subgoal.subgoal-index = search rules in
    leads_end (string_bytes c.args.text.now) (string_bytes c.loop-subgoal.text) c.args.subgoals.now c.loop-subgoal.subgoal-index
    past c.loop-subgoal.invariant

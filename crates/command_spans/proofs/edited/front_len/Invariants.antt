use Rattle.std.proofs.Common.{ℕ, ◌≡◌, ◌⊎◌, ◌≤◌, true, drop}
use Rattle.command_spans.specs.Spans.{Is}
use Rattle.command_spans.specs.CutTexts.{Rising, boundary_at}
use Rattle.command_spans.specs.Reparsing.{is_space_below, restart}
use Rattle.command_spans.proofs.RestartLemmas.{restart_from}
use Rattle.command_spans.proofs.edited.front_len.Given as goal

abbrev pub invariant-loop-i : goal.invariant-loop-i
invariant-loop-i l = record {
  within : l.front ≤ l.i;
  found : (l.front ≡ 0) ⊎ Is (is_space_below l.place) true l.tokens l.front;
  rest : (len : ℕ) → Rising 0 len l.tokens → restart_from l.place (boundary_at len l.tokens l.front) (drop l.i l.tokens) ≡ restart l.place l.tokens;
}

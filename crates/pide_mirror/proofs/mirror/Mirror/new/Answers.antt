-- Before anything was sent or heard.
use Rattle.std.proofs.Common.{List, map, None, ap, sym, subst}
use Rattle.mirror_rules.specs.Moves.{mirrored}
use Rattle.pide_mirror.specs.Mirroring.{as_move, KnowsSo}
use Rattle.pide_mirror.specs.declared.note.Note.{Note}
use Rattle.pide_mirror.proofs.Beginning.{at_first, heard_first}
use Rattle.pide_mirror.proofs.mirror.Mirror.new.Goals as goal

pub invariant_of-result : goal.invariant_of-result
invariant_of-result c = record {
  knows = subst (λ (ms : List Note). KnowsSo None c.in_ok-new.field-0 (mirrored c.args.mode (map as_move ms))) (sym c.new-3.ensures) c.in_ok-new.ensures;
  waiting = λ going. (at_first c.new.result c.new.ensures).0;
  fault = λ going. (at_first c.new.result c.new.ensures).3;
}

pub returns-clause-heard : goal.returns-clause-heard
returns-clause-heard c = heard_first _ (ap (map as_move) c.new-3.ensures) c.new.ensures

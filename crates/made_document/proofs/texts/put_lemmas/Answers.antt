-- One lemma more is written.
use Rattle.std.proofs.Common.{string_bytes}
use Rattle.made_document.proofs.Items.{lines_more}
use Rattle.made_document.proofs.texts.put_lemmas.Goals as goal

pub lemmas-preserved : goal.lemmas-preserved
lemmas-preserved c = lines_more _ (string_bytes c.lemmas.out) _ c.lemmas.before c.lemmas.invariant c.in_ok-put_lemma.ensures

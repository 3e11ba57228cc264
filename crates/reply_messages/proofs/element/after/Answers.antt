-- What stands behind a prefix.
use Rattle.std.proofs.Common.{◌≡◌, ◌≢◌, ◌++◌, ℕ, List, MatchOption, subst}
use Rattle.std.proofs.lemmas.Bool.Decides.{Decides-eqb}
use Rattle.std.proofs.lemmas.Slice.Eq.{strip_prefix_is}
use Rattle.reply_messages.proofs.element.after.Goals as goal

pub returns : goal.returns
returns c = subst (λ front. MatchOption c.strip_prefix.result ((rest : List ℕ) → c.args.text.now ≢ front ++ rest) (λ rest. c.args.text.now ≡ front ++ rest.now))
    c.as_bytes.ensures.value (strip_prefix_is Decides-eqb c.args.text.now c.as_bytes.result.now c.strip_prefix.result c.strip_prefix.ensures.cases)

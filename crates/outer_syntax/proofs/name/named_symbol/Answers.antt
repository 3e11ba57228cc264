use Rattle.std.proofs.Common.{◌≡◌, ◌+◌, suc, get_or, sym, subst, arith, rules}
use Rattle.text_words.specs.Longest.{HasNoFront, IsLongest}
use Rattle.outer_syntax.specs.Names.{IsNamedSymbol}
use Rattle.outer_syntax.proofs.NameLemmas.{named-some, named-none}
use Rattle.outer_syntax.proofs.KnownSplits.{split-second}
use Rattle.outer_syntax.proofs.name.named_symbol.Goals as goal

pub returns-in-Some : goal.returns-in-Some
returns-in-Some c =
    let first : get_or c.args.text.now 0 0 ≡ 92 = search rules in
    let second : get_or c.args.text.now 1 0 ≡ 60 = search rules in
    let more : suc (suc c.in-Some.n) ≡ c.in-Some.n + 2 = omega arith in
    subst (IsLongest IsNamedSymbol c.args.text.now) more
    (subst (λ s. IsLongest IsNamedSymbol s (suc (suc c.in-Some.n))) (sym (split-second c.args.text.now 92 60 (search rules) first second)) (named-some _ c.in-Some.n c.in-Some.ensures))

pub returns-in-None : goal.returns-in-None
returns-in-None c =
    let first : get_or c.args.text.now 0 0 ≡ 92 = search rules in
    let second : get_or c.args.text.now 1 0 ≡ 60 = search rules in
    subst (HasNoFront IsNamedSymbol) (sym (split-second c.args.text.now 92 60 (search rules) first second)) (named-none _ c.in-None.ensures)

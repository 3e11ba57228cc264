use Rattle.std.proofs.Common.{◌≡◌, ℕ, List, eqb, ap, sym, subst, ◌∙◌}
use Rattle.std.specs.List.{dedup}
use Rattle.std.specs.List.Sorted.{IsStrictlyIncreasing}
use Rattle.std.proofs.lemmas.List.Filters.{dedup_is}
use Rattle.std.proofs.lemmas.Map.Keys.{IsStrictlyIncreasing-dedup}
use Rattle.text_words.specs.Members.{has}
use Rattle.text_words.proofs.KnownMembers.{same_numbers}
use Rattle.core_jobs.proofs.gathering.rising.Goals as goal

pub returns-clause-rises : goal.returns-clause-rises
returns-clause-rises c =
    let ordered : List ℕ = c.sort_unstable.new.self.items in
    let left : List ℕ = c.dedup.new.self.items in
    let e : left ≡ dedup eqb ordered = dedup_is eqb ordered left c.dedup.ensures.filtered in
    subst IsStrictlyIncreasing (sym e) (IsStrictlyIncreasing-dedup ordered c.sort_unstable.ensures.sorted)

pub returns-clause-same : goal.returns-clause-same
returns-clause-same c = λ x.
    let ordered : List ℕ = c.sort_unstable.new.self.items in
    let left : List ℕ = c.dedup.new.self.items in
    let e : left ≡ dedup eqb ordered = dedup_is eqb ordered left c.dedup.ensures.filtered in
    ap (λ xs. has xs x) e ∙ same_numbers c.args.execs.items ordered c.sort_unstable.ensures.permutation x

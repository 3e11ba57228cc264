use Rattle.std.proofs.Common.{◌≡◌, ℕ, List, eqb, ap, sym, subst, ◌∙◌}
use Rattle.std.specs.List.{dedup}
use Rattle.std.specs.List.Sorted.{IsStrictlyIncreasing}
use Rattle.std.proofs.lemmas.List.Filters.{dedup_is}
use Rattle.std.proofs.lemmas.Map.Keys.{IsStrictlyIncreasing-dedup}
use Rattle.text_words.specs.Members.{has}
use Rattle.text_words.proofs.KnownMembers.{same_numbers}
use Rattle.session_replies.proofs.RisingNumbers.{increasing, rising}
use Rattle.session_replies.proofs.removed.rising.Goals as goal

pub returns : goal.returns
returns c =
    let ordered : List ℕ = c.sort_unstable.new.self.items in
    let left : List ℕ = c.dedup.new.self.items in
    let e : left ≡ dedup eqb ordered = dedup_is eqb ordered left c.dedup.ensures.filtered in
    record {
      rises = rising 0 left (increasing left (subst IsStrictlyIncreasing (sym e)
          (IsStrictlyIncreasing-dedup ordered c.sort_unstable.ensures.sorted)));
      same = λ x. ap (λ xs. has xs x) e
          ∙ same_numbers c.in_ok-risen.risen.items ordered c.sort_unstable.ensures.permutation x
          ∙ ap (λ xs. has xs x) c.in_ok-risen.ensures.items;
    }

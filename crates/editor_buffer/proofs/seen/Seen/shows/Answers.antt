use Rattle.std.proofs.Common.{◌≡◌, ◌-◌, get_or, sym, ap, subst, ◌∙◌, arith, rules, ltb}
use Rattle.std.proofs.lemmas.List.Sorted.{IsPartitionPoint-from_clause, IsPartitionedBy-ltb}
use Rattle.std.proofs.lemmas.Bool.Decides.{nat_tests}
use Rattle.buffer_rules.specs.Cuts.{is_seen}
use Rattle.editor_buffer.specs.Spread.{AreSpread}
use Rattle.editor_buffer.proofs.LastReached.{none_found, empty_found, last_found}
use Rattle.pide_base.specs.declared.range.Range.{Range}
use Rattle.editor_buffer.proofs.seen.Seen.shows.Goals as goal

pub returns-then-count-eq0 : goal.returns-then-count-eq0
returns-then-count-eq0 c =
    let ranges = c.deref.result.now in
    let are : AreSpread ranges = subst (λ rs. AreSpread rs) (sym c.deref.ensures.value) c.self.invariant in
    let point = IsPartitionPoint-from_clause (λ (r : Range). ltb r.start c.args.range.stop) ranges c.partition_point-count.result c.partition_point-count.ensures.partitioned (IsPartitionedBy-ltb (λ (r : Range). r.start) ranges c.args.range.stop are.starts) (λ a r q k. search rules) in
    let same : ranges ≡ c.args.self.now = cc (c.deref.ensures.value, c.self.view_is) in
    sym (none_found ranges are c.args.range c.partition_point-count.result point c.if-count-eq0.true)
    ∙ ap (λ rs. is_seen rs c.args.range) same

pub returns-then-range : goal.returns-then-range
returns-then-range c =
    let ranges = c.deref.result.now in
    let count = c.partition_point-count.result in
    let last = c.index-last.result.now in
    let are : AreSpread ranges = subst (λ rs. AreSpread rs) (sym c.deref.ensures.value) c.self.invariant in
    let point = IsPartitionPoint-from_clause (λ (r : Range). ltb r.start c.args.range.stop) ranges count c.partition_point-count.ensures.partitioned (IsPartitionedBy-ltb (λ (r : Range). r.start) ranges c.args.range.stop are.starts) (λ a r q k. search rules) in
    let same : ranges ≡ c.args.self.now = cc (c.deref.ensures.value, c.self.view_is) in
    sym (last_found ranges are c.args.range count point last (omega arith) c.partition_point-count.ensures.bound
    (c.index-last.ensures ∙ ap (λ rs. get_or rs (count - 1) last) (sym c.deref.ensures.value)) c.if-range.true)
    ∙ ap (λ rs. is_seen rs c.args.range) same

pub returns-else-range : goal.returns-else-range
returns-else-range c =
    let ranges = c.deref.result.now in
    let are : AreSpread ranges = subst (λ rs. AreSpread rs) (sym c.deref.ensures.value) c.self.invariant in
    let point = IsPartitionPoint-from_clause (λ (r : Range). ltb r.start c.args.range.stop) ranges c.partition_point-count.result c.partition_point-count.ensures.partitioned (IsPartitionedBy-ltb (λ (r : Range). r.start) ranges c.args.range.stop are.starts) (λ a r q k. search rules) in
    let same : ranges ≡ c.args.self.now = cc (c.deref.ensures.value, c.self.view_is) in
    grind (arith, nat_tests, c.if-range.false, empty_found ranges are c.args.range c.partition_point-count.result point c.if-range.false, ap (λ rs. is_seen rs c.args.range) same)

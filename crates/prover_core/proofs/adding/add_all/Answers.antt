use Rattle.std.proofs.Common.{◌++◌, sym, ap, ◌∙◌, arith, reverse, length, List}
use Rattle.std.specs.Prelude.{flat_map}
use Rattle.std.specs.Option.{option_to_list}
use Rattle.core_tables.specs.Rows.{execution_of}
use Rattle.core_tables.specs.Tasks.{standing}
use Rattle.core_tables.specs.Changes.{waiting}
use Rattle.update_plans.specs.declared.beginning.Fresh.{Fresh}
use Rattle.prover_core.specs.Looked.{looked}
use Rattle.prover_core.specs.Plans.{begun_as}
use Rattle.prover_core.specs.Fresh.{with_fresh}
use Rattle.prover_core.proofs.FreshAll.{popped, popped_len, added_new, with_more, links_more, none_left, none_by, new_for}
use Rattle.prover_core.proofs.adding.add_all.Goals as goal

pub add_one-requires-clause-row : goal.add_one-requires-clause-row
add_one-requires-clause-row g c =
    let is = c.pop.ensures.items ∙ ap (λ o. c.pop.new.self.items ++ option_to_list o) c.in-Some.is in
    let new = new_for _ _ _ _ _ (popped _ _ _ is) c.news.invariant.new in
    new.no_rows _ new.rises.0

pub add_one-requires-clause-home : goal.add_one-requires-clause-home
add_one-requires-clause-home g c =
    let is = c.pop.ensures.items ∙ ap (λ o. c.pop.new.self.items ++ option_to_list o) c.in-Some.is in
    let new = new_for _ _ _ _ _ (popped _ _ _ is) c.news.invariant.new in
    new.no_homes _ new.rises.0

pub add_one-requires-clause-task : goal.add_one-requires-clause-task
add_one-requires-clause-task g c =
    let is = c.pop.ensures.items ∙ ap (λ o. c.pop.new.self.items ++ option_to_list o) c.in-Some.is in
    let new = new_for _ _ _ _ _ (popped _ _ _ is) c.news.invariant.new in
    new.no_tasks _ new.rises.0

pub add_one-requires-clause-first : goal.add_one-requires-clause-first
add_one-requires-clause-first g c =
    let is = c.pop.ensures.items ∙ ap (λ o. c.pop.new.self.items ++ option_to_list o) c.in-Some.is in
    let new = new_for _ _ _ _ _ (popped _ _ _ is) c.news.invariant.new in
    λ f. new.waiters _ f new.rises.0

pub add_one-requires-clause-executions : goal.add_one-requires-clause-executions
add_one-requires-clause-executions g c =
    let is = c.pop.ensures.items ∙ ap (λ o. c.pop.new.self.items ++ option_to_list o) c.in-Some.is in
    omega (arith, popped_len _ _ _ is, c.news.invariant.executions)

pub add_one-requires-clause-homes : goal.add_one-requires-clause-homes
add_one-requires-clause-homes g c =
    let is = c.pop.ensures.items ∙ ap (λ o. c.pop.new.self.items ++ option_to_list o) c.in-Some.is in
    omega (arith, popped_len _ _ _ is, c.news.invariant.spare)

pub add_one-requires-clause-room : goal.add_one-requires-clause-room
add_one-requires-clause-room g c =
    let is = c.pop.ensures.items ∙ ap (λ o. c.pop.new.self.items ++ option_to_list o) c.in-Some.is in
    omega (arith, popped_len _ _ _ is, c.news.invariant.left)

pub add_one-requires-clause-links : goal.add_one-requires-clause-links
add_one-requires-clause-links g c =
    let is = c.pop.ensures.items ∙ ap (λ o. c.pop.new.self.items ++ option_to_list o) c.in-Some.is in
    let back = popped _ _ _ is in
    let links = links_more c.in-Some.one (reverse c.pop.new.self.items) in
    omega (arith, ap (λ (xs : List Fresh). length (flat_map (λ (x : Fresh). x.task.inputs) xs)) back, links, c.news.invariant.links)

pub news-preserved : goal.news-preserved
news-preserved g c =
    let is = c.pop.ensures.items ∙ ap (λ o. c.pop.new.self.items ++ option_to_list o) c.in-Some.is in
    let back = popped _ _ _ is in
    let len = popped_len _ _ _ is in
    let links = links_more c.in-Some.one (reverse c.pop.new.self.items) in
    let new = new_for _ _ _ _ _ back c.news.invariant.new in
    record {
      new = added_new c.in-Some.one (reverse c.pop.new.self.items) _ _ _ _ _ _ _ new c.add_one.ensures.rows c.add_one.ensures.homes
          c.add_one.ensures.tasks;
      rows = λ e. with_more (λ (x : Fresh). begun_as x.task.part.kind) new.first c.in-Some.one (reverse c.pop.new.self.items) _ _ new.rises
          c.add_one.ensures.rows e ∙ ap (λ xs. with_fresh (λ (x : Fresh). begun_as x.task.part.kind) xs
          (λ n. execution_of c.news.execs.rows n) e) (sym back) ∙ c.news.invariant.rows e;
      homes = λ e. with_more (λ (x : Fresh). x.known) new.first c.in-Some.one (reverse c.pop.new.self.items) _ _ new.rises
          c.add_one.ensures.homes e ∙ ap (λ xs. with_fresh (λ (x : Fresh). x.known) xs (λ n. looked c.news.known n) e) (sym back)
          ∙ c.news.invariant.homes e;
      tasks = λ e. with_more (λ (x : Fresh). waiting x.task) new.first c.in-Some.one (reverse c.pop.new.self.items) _ _ new.rises
          c.add_one.ensures.tasks e ∙ ap (λ xs. with_fresh (λ (x : Fresh). waiting x.task) xs (λ n. standing c.news.queue n) e) (sym back)
          ∙ c.news.invariant.tasks e;
      executions = omega (arith, len, c.news.invariant.executions, c.add_one.ensures.executions);
      spare = omega (arith, len, c.news.invariant.spare, c.add_one.ensures.spare);
      left = omega (arith, len, c.news.invariant.left, c.add_one.ensures.room);
      count = omega (arith, len, c.news.invariant.count, c.add_one.ensures.count);
      room = omega (arith, len, c.news.invariant.room, c.add_one.ensures.room);
      links = omega (
        arith,
        ap (λ (xs : List Fresh). length (flat_map (λ (x : Fresh). x.task.inputs) xs)) back,
        links,
        c.news.invariant.links,
        c.add_one.ensures.links,
      );
    }

pub news-smaller : goal.news-smaller
news-smaller g c =
    let is = c.pop.ensures.items ∙ ap (λ o. c.pop.new.self.items ++ option_to_list o) c.in-Some.is in
    let len = popped_len _ _ _ is in omega (arith, len)

pub returns-clause-rows : goal.returns-clause-rows
returns-clause-rows g c =
    let none = none_left c.news.fresh.items (omega (arith, c.news.fresh.ok.0, (none_by _ _ _ c.pop.ensures.cases c.in_default.is).0)) in
    λ e. ap (λ xs. with_fresh (λ (x : Fresh). begun_as x.task.part.kind) xs (λ n. execution_of c.news.execs.rows n) e) (sym none)
    ∙ c.news.invariant.rows e

pub returns-clause-homes : goal.returns-clause-homes
returns-clause-homes g c =
    let none = none_left c.news.fresh.items (omega (arith, c.news.fresh.ok.0, (none_by _ _ _ c.pop.ensures.cases c.in_default.is).0)) in
    λ e. ap (λ xs. with_fresh (λ (x : Fresh). x.known) xs (λ n. looked c.news.known n) e) (sym none) ∙ c.news.invariant.homes e

pub returns-clause-tasks : goal.returns-clause-tasks
returns-clause-tasks g c =
    let none = none_left c.news.fresh.items (omega (arith, c.news.fresh.ok.0, (none_by _ _ _ c.pop.ensures.cases c.in_default.is).0)) in
    λ e. ap (λ xs. with_fresh (λ (x : Fresh). waiting x.task) xs (λ n. standing c.news.queue n) e) (sym none) ∙ c.news.invariant.tasks e

pub returns-clause-count : goal.returns-clause-count
returns-clause-count g c = omega (arith, c.news.invariant.count)

pub returns-clause-room : goal.returns-clause-room
returns-clause-room g c = omega (arith, c.news.invariant.room)

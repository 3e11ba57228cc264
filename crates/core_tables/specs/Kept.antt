-- What a queue keeps between calls.
use Rattle.std.specs.Prelude.{◌≡◌, ℕ, ◌-◌, ◌≤◌, ◌==◌, min, true, Some}
use Rattle.std.specs.HashMap.{HashMap, hash_map_len, spare}
use Rattle.std.specs.Map.{lookup}
use Rattle.core_tables.specs.declared.queue.TaskQueue.TheInside.{Inside}
use Rattle.core_tables.specs.declared.task.Standing.{Standing}
use Rattle.core_tables.specs.Deque.{capacity_of}
use Rattle.text_words.specs.Members.{has}
use Rattle.core_tables.specs.Tasks.{Queue, standing}
use Rattle.core_tables.specs.Waiters.{Waits, HasAll, room_of}
use Rattle.core_tables.specs.Ready.{Standings, AreReady}

-- how the parts stand in a table of tasks
abbrev pub looked : {S : Type 0} → HashMap ℕ Standing S → Standings
looked tasks e = lookup (λ x. e == x) tasks.entries

-- what contracts see of the fields
abbrev pub seen : Inside → Queue
seen q = record {
  tasks = q.tasks.entries;
  ready = q.ready.parts;
  room = min (spare q.tasks) (capacity_of q.ready - hash_map_len q.tasks);
  links = room_of q.waiters;
}

-- the ready parts are kept in order; there is room for all; and who waits for a task is known
pub record IsKept (q : Inside) : Type 0 where
  pub ready : AreReady (standing (seen q)) q.ready.parts
  pub room : hash_map_len q.tasks ≤ capacity_of q.ready
  pub links : HasAll q.waiters
  pub waiters : (e f : ℕ) (r s : Standing)
      → standing (seen q) e ≡ Some r → standing (seen q) f ≡ Some s
      → has s.inputs e ≡ true → Waits q.waiters e f

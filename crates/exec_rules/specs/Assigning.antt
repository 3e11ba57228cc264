-- What an update assigns (Wenzel, ITP 2014; the rules of what is kept are this project's own).
use Rattle.std.specs.Prelude.{ℕ, ◌+◌, ◌-◌, nat_lt, if◌then◌else◌, List, [], ◌∷◌, ◌++◌, length, map, drop, slice_get, Option}
use Rattle.std.specs.Option.{option_map_or, option_and_then}
use Rattle.std.specs.List.{range_with_len}
use Rattle.doc_nodes.specs.declared.node.Entry.{Entry}
use Rattle.doc_nodes.specs.declared.node.Node.{Node}
use Rattle.doc_nodes.specs.Imports.{NodeList, place_of, order}
use Rattle.doc_nodes.specs.Wanted.{wanted_at}
use Rattle.doc_nodes.specs.Aliases.{aliases_at}
use Rattle.exec_rules.specs.declared.key.Key.{Key}
use Rattle.exec_rules.specs.declared.row.Row.{Row}
use Rattle.exec_rules.specs.declared.row.Assigned.{Assigned}
use Rattle.exec_rules.specs.declared.home.Head.{Head}
use Rattle.exec_rules.specs.declared.home.Home.{Home}
use Rattle.exec_rules.specs.declared.version.Version.{Version}
use Rattle.exec_rules.specs.Keys.{key_of, same_key, assigned_at}
use Rattle.exec_rules.specs.Kept.{BlobList, Times, kept_count}
use Rattle.exec_rules.specs.Rows.{evaluations, live_prints, with_prints, behind_prints}
use Rattle.exec_rules.specs.Homes.{eval_homes, print_homes}

-- what an update goes by: the version before, the nodes and blobs of the new one, and which
-- executions are cancelled
pub record Update : Type 0 where
  pub tip : Version
  pub nodes : NodeList
  pub blobs : BlobList
  pub cancelled : List ℕ

-- the commands of the node at a place
abbrev pub entries_at : NodeList → ℕ → List Entry
entries_at nodes p = option_map_or (λ pair. pair.1.entries) (slice_get nodes p) []

-- the commands that a version has in the node of a name
abbrev pub entries_in : Version → List ℕ → List Entry
entries_in version name = option_map_or (entries_at version.nodes) (place_of version.nodes name) []

-- what a version assigns to the node of a name
abbrev pub assigned_in : Version → List ℕ → Option Assigned
assigned_in version name =
    option_and_then (slice_get version.assigned) (place_of version.nodes name)

-- the rows that a version has in the node of a name
abbrev pub rows_in : Version → List ℕ → List Row
rows_in version name = option_map_or (λ assigned. assigned.rows) (assigned_in version name) []

-- what keeping goes by
abbrev pub times : Update → Times
times u = record { before = u.tip.blobs; now = u.blobs; cancelled = u.cancelled }

-- how many commands of a node keep their evaluations: none where its key is another
abbrev pub kept_of : Update → List ℕ × Node → Key → ℕ
kept_of u pair key = option_map_or
    (λ old. if same_key key old.key
    then kept_count (times u) pair.1.entries (entries_in u.tip pair.0) old.rows else 0)
    (assigned_in u.tip pair.0) 0

-- the greater of two numbers
abbrev pub greater : ℕ → ℕ → ℕ
greater m n = if nat_lt m n then n else m

-- what one node is given: its rows, what its new executions go by, and the next number
pub record Given : Type 0 where
  pub assigned : Assigned
  pub homes : List Home
  pub next : ℕ

-- what a node with this head is given, when its first k commands keep their evaluations, and n
-- are assigned
abbrev pub node_given : Update → List ℕ × Node → Head → ℕ → ℕ → ℕ → Given
node_given u pair head k n next =
    let vs = evaluations (rows_in u.tip pair.0) k n next in
    let live = live_prints u.cancelled (rows_in u.tip pair.0) k in
    record {
      assigned = record {
        key = head.key;
        rows = with_prints pair.1.entries vs live (next + (n - k));
      };
      homes = drop k (eval_homes pair.1 u.blobs head vs)
          ++ print_homes pair.1 u.blobs pair.1.entries vs live;
      next = behind_prints pair.1.entries vs live (next + (n - k));
    }

-- how the node at a place begins
abbrev pub head_at : Update → ℕ → List ℕ × Node → Key → Head
head_at u p pair key = record {
  node = pair.0;
  imports = pair.1.imports;
  aliases = aliases_at u.nodes p;
  key = key;
}

-- what the node at a place is given: the wanted commands are assigned, and all that are kept
abbrev pub given : Update → ℕ → List ℕ × Node → Key → ℕ → Given
given u p pair key next =
    let k = kept_of u pair key in
    node_given u pair (head_at u p pair key) k (greater k (wanted_at u.nodes p)) next

-- what is done so far: what the nodes at some places are assigned, the last first; what the new
-- executions go by, in the order of their numbers; and the next number
pub record Work : Type 0 where
  pub done : List (ℕ × Assigned)
  pub homes : List Home
  pub next : ℕ

-- the work with what the node at a place is given
abbrev pub extended_work : Work → ℕ → Given → Work
extended_work work p g = record {
  done = (p, g.assigned) ∷ work.done;
  homes = work.homes ++ g.homes;
  next = g.next;
}

-- one node more, by its place
abbrev pub assign_one : Update → Work → ℕ → Work
assign_one u work p = option_map_or
    (λ pair. extended_work work p (given u p pair (key_of u.nodes work.done pair.1) work.next))
    (slice_get u.nodes p) work

-- the nodes at these places, one after the other
abbrev pub assign_all : Update → List ℕ → Work → Work
assign_all u [] work = work
assign_all u (p ∷ ps) work = assign_all u ps (assign_one u work p)

-- all nodes, in the order of imports
abbrev pub assigned_all : Update → ℕ → Work
assigned_all u next = assign_all u (order u.nodes) (record { done = []; homes = []; next = next })

-- what an update assigns: to each node, by name; what the new executions go by; the next number
pub record Assignment : Type 0 where
  pub assigned : List Assigned
  pub homes : List Home
  pub next : ℕ

-- what an update assigns, when the next number is this
abbrev pub assignment : Update → ℕ → Assignment
assignment u next =
    let work = assigned_all u next in
    record {
      assigned = map (assigned_at work.done) (range_with_len 0 (length u.nodes));
      homes = work.homes;
      next = work.next;
    }

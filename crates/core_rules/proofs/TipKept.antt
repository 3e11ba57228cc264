-- What a node keeps of the tip: it was made for what stands there now.
use Rattle.std.proofs.Common.{◌≡◌, ℕ, ◌<◌, Bool, true, false, cond, List, [], Option, Some, None, refl, ap, sym, subst, ◌∙◌, arith}
use Rattle.std.specs.Option.{option_map_or}
use Rattle.doc_nodes.specs.declared.node.Node.{Node}
use Rattle.doc_nodes.specs.Imports.{NodeList, place_of}
use Rattle.exec_rules.specs.declared.key.Key.{Key}
use Rattle.exec_rules.specs.declared.row.Row.{Row}
use Rattle.exec_rules.specs.declared.row.Assigned.{Assigned}
use Rattle.exec_rules.specs.declared.home.Head.{Head}
use Rattle.exec_rules.specs.declared.home.Home.{Home}
use Rattle.exec_rules.specs.declared.home.Input.TheVariants as input
use Rattle.exec_rules.specs.Keys.{same_key}
use Rattle.exec_rules.specs.Kept.{BlobList, kept_count}
use Rattle.exec_rules.specs.Assigning.{Update, times, rows_in, kept_of, head_at}
use Rattle.core_rules.specs.Numbered.{numbered}
use Rattle.core_rules.specs.Doc.{Doc}
use Rattle.core_rules.specs.FromScratch.{assigned_to, has_open, head_in}
use Rattle.core_rules.proofs.HomedRows.{evals, evals_on, prints_on}
use Rattle.core_rules.proofs.NodeMade.{Before}
use Rattle.exec_rules.proofs.KnownKept.{kept_rows}
use Rattle.core_rules.proofs.Sound.{IsSoundAt}
use Rattle.core_rules.proofs.TipNode.{AfterTip, u, count_kept, found, sound_here, was_entries, front, shut_here, begins_so, evals_within, assigned_cases}

module _ {d : Doc} {homes : List Home} {nodes : NodeList} {blobs : BlobList} {assigned : ℕ → Assigned} {p : ℕ} {pair : List ℕ × Node}
    {key : Key} {m : ℕ} (new : AfterTip d homes nodes blobs assigned p pair key m) where
  abbrev update : Update
  update = u new

  abbrev head : Head
  head = head_at update p pair key

  abbrev counted : Option Assigned → ℕ
  counted = count_kept new

  abbrev BeforeAs : Option Assigned → Type 0
  BeforeAs o = Before (numbered homes) update pair head (option_map_or (λ a. a.rows) o []) (counted o) m

  no_before : BeforeAs None
  no_before = record {
    old = pair.1;
    begins = input.First head;
    same = tt;
    evaluate = tt;
    print = tt;
    first = λ lt. absurd (omega arith);
    long = omega arith;
    within = tt;
  }

  module _ (q : ℕ) (place : place_of d.tip.nodes pair.0 ≡ Some q) where
    abbrev old : List ℕ × Node
    old = (found new q place).pair

    abbrev here : IsSoundAt d.homes d.tip.nodes d.tip.blobs (assigned_to d.tip) q old
    here = sound_here new q place

    abbrev rows : List Row
    rows = (assigned_to d.tip q).rows

    abbrev n : ℕ
    n = kept_count (times update) pair.1.entries old.1.entries rows

    kept_by : (b : Bool) → same_key key (assigned_to d.tip q).key ≡ b
        → Before (numbered homes) update pair head rows (cond b n 0) m
    kept_by false same = record {
      old = old.1;
      begins = input.First (head_in d.tip.nodes q old (assigned_to d.tip q).key);
      same = tt;
      evaluate = evals_on (numbered d.homes) (numbered homes) new.more old.1 d.tip.blobs old.1.entries (evals rows) _
          here.stands.homed.evaluate;
      print = prints_on (numbered d.homes) (numbered homes) new.more old.1 d.tip.blobs old.1.entries rows
          here.stands.homed.print;
      first = λ lt. absurd (omega arith);
      long = omega arith;
      within = evals_within d.homes old.1 d.tip.blobs m old.1.entries (evals rows) _ new.count here.stands.homed.evaluate;
    }
    kept_by true same = record {
      old = old.1;
      begins = input.First (head_in d.tip.nodes q old (assigned_to d.tip q).key);
      same = front new q place;
      evaluate = evals_on (numbered d.homes) (numbered homes) new.more old.1 d.tip.blobs old.1.entries (evals rows) _
          here.stands.homed.evaluate;
      print = prints_on (numbered d.homes) (numbered homes) new.more old.1 d.tip.blobs old.1.entries rows
          here.stands.homed.print;
      first = begins_so new q place same;
      long = kept_rows (times update) pair.1.entries old.1.entries rows;
      within = evals_within d.homes old.1 d.tip.blobs m old.1.entries (evals rows) _ new.count here.stands.homed.evaluate;
    }

    some_before : BeforeAs (Some (assigned_to d.tip q))
    some_before = subst
        (λ es. Before (numbered homes) update pair head rows
        (cond (same_key key (assigned_to d.tip q).key)
        (kept_count (times update) pair.1.entries es rows) 0) m)
        (sym (was_entries new q place))
        (kept_by (same_key key (assigned_to d.tip q).key) refl)

    shut_by : (b : Bool) → same_key key (assigned_to d.tip q).key ≡ b → 0 < cond b n 0 → has_open key ≡ false
    shut_by false same lt = absurd (omega arith)
    shut_by true same lt = ap has_open ((new.facts.keys key (assigned_to d.tip q).key).0 same)
        ∙ shut_here new q place lt

    some_shut : 0 < counted (Some (assigned_to d.tip q)) → has_open key ≡ false
    some_shut = subst
        (λ es. 0 < cond (same_key key (assigned_to d.tip q).key)
        (kept_count (times update) pair.1.entries es rows) 0
        → has_open key ≡ false)
        (sym (was_entries new q place))
        (shut_by (same_key key (assigned_to d.tip q).key) refl)

  -- what the node had, and what of it is kept
  pub before_node : Before (numbered homes) update pair head (rows_in d.tip pair.0) (kept_of update pair key) m
  before_node = assigned_cases d.tip pair.0 BeforeAs no_before some_before

  -- where something is kept, all imports are assigned
  pub kept_shut : 0 < kept_of update pair key → has_open key ≡ false
  kept_shut = assigned_cases d.tip pair.0 (λ o. 0 < counted o → has_open key ≡ false) (λ lt. absurd (omega arith)) some_shut

-- An execution that was made before an update stands where it stood, at the same command.
use Rattle.std.proofs.Common.{◌≡◌, ◌⊎◌, inl, inr, ℕ, ◌<◌, ◌≤◌, Bool, true, false, List, [], length, Option, Some, None, ap, sym, subst, ◌∙◌, arith}
use Rattle.std.proofs.lemmas.Bool.{eqb-true, eq-eqb, or_left, or_right, or_cases, and_parts, cases_lt}
use Rattle.std.specs.Prelude.{slice_get, not, ◌==◌, ◌&&◌, if◌then◌else◌}
use Rattle.std.specs.Option.{option_map_or}
use Rattle.text_words.specs.Members.{has}
use Rattle.text_words.proofs.KnownMembers.{has_itself}
use Rattle.text_words.proofs.KnownOptions.{one_of}
use Rattle.doc_nodes.specs.declared.node.Entry.{Entry}
use Rattle.doc_nodes.specs.declared.node.Node.{Node}
use Rattle.exec_rules.specs.declared.key.Key.{Key}
use Rattle.exec_rules.specs.declared.row.Assigned.{Assigned}
use Rattle.exec_rules.specs.declared.row.Row.{Row}
use Rattle.exec_rules.specs.declared.version.Version.{Version}
use Rattle.exec_rules.specs.Keys.{same_key}
use Rattle.exec_rules.specs.Kept.{Times, KeepsAt, kept_count, same_blob}
use Rattle.exec_rules.specs.Rows.{live_print}
use Rattle.exec_rules.specs.Assigning.{Update, assigned_in, entries_in, kept_of, rows_in, times}
use Rattle.exec_rules.specs.Listed.{executions, print_list}
use Rattle.exec_rules.proofs.KnownListed.{in_print}
use Rattle.core_rules.specs.Doc.{Doc, update_of}
use Rattle.core_rules.specs.FromScratch.{assigned_to}
use Rattle.session_rules.specs.Keeping.{KeepsFront, KeepsPrint, KeepsRow, front}
use Rattle.editor_laws.proofs.Spots.{Spot}

-- of the commands that keep their evaluations each can
abbrev pub KeptLaw : Type 0
KeptLaw = (times : Times) (now before : List Entry) (rows : List Row) (i : ℕ) → i < kept_count times now before rows → KeepsAt times now before rows i

-- the command that stood at the place
pub record OldCommand (u : Update) (pair : List ℕ × Node) (i : ℕ) : Type 0 where
  pub old : Entry
  pub stood : slice_get (entries_in u.tip pair.0) i ≡ Some old
  pub command : (e : Entry) → slice_get pair.1.entries i ≡ Some e → e.command ≡ old.command

pub old_command : KeptLaw → (u : Update) (pair : List ℕ × Node) (key : Key) (i : ℕ) → i < kept_of u pair key → OldCommand u pair i
old_command law u pair key i lt = go (assigned_in u.tip pair.0) lt
  where
    by : (old : Assigned) (b : Bool) → i < (if b then kept_count (times u) pair.1.entries (entries_in u.tip pair.0) old.rows else 0) → OldCommand u pair i
    by old false lt = absurd (omega (arith, lt))
    by old true lt =
        let k : KeepsAt (times u) pair.1.entries (entries_in u.tip pair.0) old.rows i = law (times u) pair.1.entries (entries_in u.tip pair.0) old.rows i lt in
        let same = (and_parts (k.command.command == k.old.command)
        (not (has (times u).cancelled k.row.evaluation) && same_blob (times u) k.command.needs k.old.needs) k.keeping).0 in
        record {
          old = k.old;
          stood = k.stood;
          command = λ e at. ap (λ (x : Entry). x.command) (one_of (slice_get pair.1.entries i) e k.command at k.stands)
              ∙ eqb-true k.command.command k.old.command same;
        }

    go : (o : Option Assigned) → i < option_map_or
        (λ (old : Assigned). if same_key key old.key then kept_count (times u) pair.1.entries (entries_in u.tip pair.0) old.rows else 0) o 0 → OldCommand u pair i
    go None lt = absurd (omega (arith, lt))
    go (Some old) lt = by old (same_key key old.key) lt

-- the row that had an execution before
pub record KeptSpot (d : Doc) (name : List ℕ) (i : ℕ) (e : Entry) (x : ℕ) : Type 0 where
  pub before : Row
  pub old : Entry
  pub had : slice_get (rows_in d.tip name) i ≡ Some before
  pub stood : slice_get (entries_in d.tip name) i ≡ Some old
  pub command : e.command ≡ old.command
  pub has_it : has (executions before) x ≡ true

printed : (before : Row) (x : ℕ) → before.print ≡ Some x → has (executions before) x ≡ true
printed before x is = or_right (x == before.evaluation) (has (print_list before.print) x)
    (ap (λ o. has (print_list o) x) is ∙ has_itself [] x)

kept_print : (d : Doc) (before : Row) (x : ℕ) (o : Option ℕ) → x ≤ length d.homes → o ≡ Some x
    → KeepsPrint d (live_print d.cancelled before.print) o → before.print ≡ Some x
kept_print d before x None le is keeps = absurd (cc)
kept_print d before x (Some q) le is keeps = go before.print keeps
  where
    same : q ≡ x
    same = cc

    by : (p : ℕ) (b : Bool) → KeepsPrint d (if b then None else Some p) (Some q) → Some p ≡ Some x
    by p true keeps = absurd (omega (arith, le, same, keeps))
    by p false keeps = ap (λ n. Some n) (sym keeps ∙ same)

    go : (p : Option ℕ) → KeepsPrint d (live_print d.cancelled p) (Some q) → p ≡ Some x
    go None keeps = absurd (omega (arith, le, same, keeps))
    go (Some p) keeps = by p (has d.cancelled p) keeps

module _ (law : KeptLaw) (d : Doc) (new : Version) (keeps : (p : ℕ) (pair : List ℕ × Node) → slice_get new.nodes p ≡ Some pair → KeepsFront d new p pair) where
  pub kept_spot : (name : List ℕ) (i : ℕ) (e : Entry) (row : Row) (x : ℕ) → Spot new name i e row → has (executions row) x ≡ true
      → x ≤ length d.homes → KeptSpot d name i e x
  kept_spot name i e row x s among le = go (cases_lt i (front d new s.p s.pair))
    where
      k : KeepsFront d new s.p s.pair
      k = keeps s.p s.pair s.stands

      inside : i < front d new s.p s.pair → KeptSpot d s.pair.0 i e x
      inside lt =
          let r : KeepsRow d s.pair.0 (assigned_to new s.p).rows i = k.inside i lt in
          let o : OldCommand (update_of d new.nodes new.blobs) s.pair i = old_command law (update_of d new.nodes new.blobs) s.pair (assigned_to new s.p).key i lt in
          let same : r.row ≡ row = one_of (slice_get (assigned_to new s.p).rows i) r.row row r.stands s.at in
          record {
            before = r.before;
            old = o.old;
            had = r.had;
            stood = o.stood;
            command = o.command e s.entry;
            has_it = by r same (or_cases (x == row.evaluation) (has (print_list row.print) x) among);
          }
        where
          by : (r : KeepsRow d s.pair.0 (assigned_to new s.p).rows i) → r.row ≡ row
              → ((x == row.evaluation) ≡ true) ⊎ (has (print_list row.print) x ≡ true) → has (executions r.before) x ≡ true
          by r same (inl is) = or_left (x == r.before.evaluation) (has (print_list r.before.print) x)
              (eq-eqb x r.before.evaluation (eqb-true x row.evaluation is ∙ ap (λ (y : Row). y.evaluation) (sym same) ∙ r.evaluation))
          by r same (inr is) = printed r.before x
              (kept_print d r.before x r.row.print le (ap (λ (y : Row). y.print) same ∙ in_print row.print x is) r.print)

      go : (i < front d new s.p s.pair) ⊎ (front d new s.p s.pair ≤ i) → KeptSpot d name i e x
      go (inl lt) = subst (λ n. KeptSpot d n i e x) s.named (inside lt)
      go (inr past) = let late = k.behind i past row x s.at among in absurd (omega (arith, le, late))

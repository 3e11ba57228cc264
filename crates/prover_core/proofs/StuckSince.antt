-- What is stuck in a settled version is open among what newer versions lost and what is looked at of the tip.
use Rattle.std.proofs.Common.{◌≡◌, ℕ, suc, ◌<◌, ◌≤◌, Bool, true, false, cond, not, ◌&&◌, ◌||◌, List, length, filter, Option, None, refl, ap, sym, ◌∙◌, arith}
use Rattle.std.proofs.lemmas.Bool.{false≢true, true≢false, lt-ltb, ltb-true}
use Rattle.std.specs.Prelude.{is_some, nat_lt, ◌==◌}
use Rattle.std.specs.List.Sorted.{IsStrictlyIncreasing}
use Rattle.text_words.specs.Members.{has}
use Rattle.text_words.proofs.KnownMembers.{has_passing}
use Rattle.pide_base.specs.Ids.{IsId, id_end}
use Rattle.core_tables.specs.declared.execution.Execution.{Execution}
use Rattle.exec_rules.specs.declared.version.Version.{Version}
use Rattle.language.specs.Lang.{Lang}
use Rattle.core_rules.specs.declared.event.Event.{Event}
use Rattle.core_rules.specs.Numbered.{numbered}
use Rattle.core_rules.specs.Assigned.{executions_of, assigns, is_assigned}
use Rattle.core_rules.specs.Settings.{setting}
use Rattle.core_rules.specs.Doc.{Doc, doc}
use Rattle.core_rules.specs.Sources.{HasHome}
use Rattle.core_rules.specs.Stuck.{is_settled, stuck_in}
use Rattle.core_rules.proofs.KnownNumbers.{numbered_within, numbered_positive}
use Rattle.core_jobs.specs.declared.done.Done.{Done}
use Rattle.core_jobs.specs.Parts.{is_unfinished}
use Rattle.prover_core.specs.Progress.{completed_in, row_by}
use Rattle.prover_core.specs.Kept.{Tables, IsKept, IsBehind}
use Rattle.prover_core.specs.Settling.{is_looked_at}
use Rattle.prover_core.proofs.ShownRows.{unfinished_open}
use Rattle.prover_core.proofs.StuckList.{open_is_stuck, stuck_so}
use Rattle.prover_core.proofs.QuietParts.{quiet_so, not_stuck}
use Rattle.prover_core.proofs.HaveTasks.{tasked}

-- an open execution that the version (a) or the tip (b) has, below the number or not, cancelled or not (c), where
-- nothing is noted or something
weigh : (a b none below c : Bool) → (a ≡ true → below ≡ true) → (b ≡ true → below ≡ true → a ≡ true)
    → (a ≡ true → b ≡ true → none ≡ true → ⊥)
    → ((a && not b) || (not none && (below && ((b && c) || ((b && not c) && true))))) ≡ a
weigh true false none below c is_below still quiet = refl
weigh true true true below c is_below still quiet = absurd (quiet refl refl refl)
weigh true true false false c is_below still quiet = absurd (false≢true (is_below refl))
weigh true true false true true is_below still quiet = refl
weigh true true false true false is_below still quiet = refl
weigh false false true below c is_below still quiet = refl
weigh false false false true c is_below still quiet = refl
weigh false false false false c is_below still quiet = refl
weigh false true true below c is_below still quiet = refl
weigh false true false false c is_below still quiet = refl
weigh false true false true c is_below still quiet = absurd (false≢true (still refl refl))

before_end : (e len next end : ℕ) → e ≤ len → next ≡ suc len → next ≤ end → e < end
before_end e len next end le is most = omega (arith, le, is, most)

module _ {S : Type 0} (l : Lang S) (h : List Event) (t : Tables S) (k : IsKept l h t) (v : Version)
    (live : (e : ℕ) → assigns v e ≡ true → is_assigned (doc l h).live e ≡ true)
    (settled : is_settled l h (doc l h) v ≡ true) (n : ℕ) (behind : IsBehind (doc l h) v n)
    (homes : (e : ℕ) → assigns (doc l h).tip e ≡ true → HasHome l (doc l h) (doc l h).tip e) where
  abbrev d : Doc
  d = doc l h

  abbrev unfinished : ℕ → Bool
  unfinished e = is_unfinished (t.rows e)

  -- where nothing of the tip is cancelled, nothing of it is open in a settled version
  finished : (length t.cancelled == 0) ≡ true → (e : ℕ) → assigns v e ≡ true → assigns d.tip e ≡ true → unfinished e ≡ false
  finished none e is there = unfinished_open l h t k e (live e is) ∙ open_is_stuck l h t k v live settled e is
      ∙ not_stuck l h (quiet_so l h t k none) homes e there

  module _ (e : ℕ) (opened : unfinished e ≡ true) where
    assigned : is_assigned d.live e ≡ true
    assigned = go (is_assigned d.live e) refl
      where
        nothing : (o : Option (Execution (Done S))) → o ≡ None → is_unfinished o ≡ true → ⊥
        nothing o none is = false≢true (sym (ap is_unfinished none) ∙ is)

        go : (b : Bool) → is_assigned d.live e ≡ b → b ≡ true
        go true is = refl
        go false is = absurd (nothing (t.rows e) (k.rows e
            ∙ ap (λ b. cond b (row_by l (has d.cancelled e) e (completed_in h e) (numbered d.homes e) (setting l d.homes e)) None) is) opened)

    is_id : IsId e
    is_id = let x = k.known e assigned in (
      numbered_positive d.homes e x.home x.homed,
      before_end e (length d.homes) t.next id_end (numbered_within d.homes e x.home x.homed) k.next_is k.within,
    )

    looked : ((assigns v e && not (assigns d.tip e)) || is_looked_at t.cancelled t.tasks n e) ≡ assigns v e
    looked = ap (λ b. (assigns v e && not (assigns d.tip e)) || (not (length t.cancelled == 0) && (nat_lt e n && (b || is_some (t.tasks e)))))
        (k.cancelled e)
        ∙ ap (λ b. (assigns v e && not (assigns d.tip e)) || (not (length t.cancelled == 0)
        && (nat_lt e n && ((assigns d.tip e && has d.cancelled e) || b)))) (tasked l h t k e)
        ∙ ap (λ b. (assigns v e && not (assigns d.tip e)) || (not (length t.cancelled == 0)
        && (nat_lt e n && ((assigns d.tip e && has d.cancelled e) || ((assigns d.tip e && not (has d.cancelled e)) && b)))))
        (sym (unfinished_open l h t k e assigned) ∙ opened)
        ∙ weigh (assigns v e) (assigns d.tip e) (length t.cancelled == 0) (nat_lt e n) (has d.cancelled e)
        (λ is. lt-ltb e n (behind.above e is)) (λ there lt. behind.still e there (ltb-true e n lt))
        (λ is there none. true≢false (sym opened ∙ finished none e is there))

  pub stuck_since : (all kept : List ℕ)
      → ((e : ℕ) → IsId e → has all e ≡ ((assigns v e && not (assigns d.tip e)) || is_looked_at t.cancelled t.tasks n e))
      → IsStrictlyIncreasing kept → ((e : ℕ) → has kept e ≡ has (filter unfinished all) e) → kept ≡ stuck_in l h d v
  stuck_since all kept are rises same = stuck_so l h t k v live settled kept rises
      (λ e. same e ∙ has_passing unfinished all e ∙ by e (unfinished e) refl ∙ sym (has_passing unfinished (executions_of v) e))
    where
      by : (e : ℕ) (u : Bool) → unfinished e ≡ u → (unfinished e && has all e) ≡ (unfinished e && assigns v e)
      by e false is = ap (λ b. b && has all e) is ∙ sym (ap (λ b. b && assigns v e) is)
      by e true is = ap (λ b. unfinished e && b) (are e (is_id e is) ∙ looked e is)

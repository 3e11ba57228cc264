-- What has a task is of the tip, open and not cancelled.
use Rattle.std.proofs.Common.{◌≡◌, ℕ, Bool, true, false, cond, not, ◌&&◌, ◌||◌, List, [], map, Option, Some, None, refl, ap, sym, ◌∙◌}
use Rattle.std.proofs.lemmas.Bool.{and_from, false≢true}
use Rattle.std.specs.Prelude.{is_some, is_ok, IsOk, Result, Ok, Err}
use Rattle.std.specs.Result.{is_err}
use Rattle.std.specs.List.{list_any}
use Rattle.std.specs.Option.{option_map_or, option_and_then}
use Rattle.text_words.specs.Members.{has}
use Rattle.pide_base.specs.declared.part.Part.{Part}
use Rattle.pide_base.specs.declared.part.PartKind.{PartKind}
use Rattle.core_tables.specs.declared.task.Standing.{Standing as Task}
use Rattle.exec_rules.specs.declared.home.Home.{Home}
use Rattle.exec_rules.specs.declared.home.Input.{Input}
use Rattle.exec_rules.specs.declared.home.Input.TheVariants as input
use Rattle.exec_rules.specs.declared.version.Version.{Version}
use Rattle.language.specs.Lang.{Lang}
use Rattle.core_rules.specs.declared.event.Event.{Event}
use Rattle.core_rules.specs.Numbered.{numbered}
use Rattle.core_rules.specs.Assigned.{assigns, is_assigned}
use Rattle.core_rules.specs.Parts.{forks, kinds_by}
use Rattle.core_rules.specs.Standing.{Standing, is_finished, is_open}
use Rattle.core_rules.specs.Doc.{Doc, doc}
use Rattle.core_rules.specs.Legal.{IsLegal}
use Rattle.core_rules.specs.Ready.{is_wanted}
use Rattle.prover_core.specs.Progress.{Completed, part, completed_in, next_kind, next_of}
use Rattle.prover_core.specs.Tasks.{present_kind, AreTasks}
use Rattle.prover_core.specs.Kept.{Tables, IsKept}
use Rattle.prover_core.proofs.KindsNext.{is_in}
use Rattle.prover_core.proofs.OpenRows.{open_kinds}
use Rattle.prover_core.proofs.HeldTasks.{count}

-- a part comes next exactly where one is unfinished
next_opened : (taken : Input) (f : Bool) (c : Completed)
    → is_some (next_kind taken f c) ≡ list_any (λ k. not (is_in k c)) (kinds_by taken f)
next_opened (input.First head) f c = by f c.eval c.fork c.print
  where
    by : (f a b z : Bool) → is_some (next_kind (input.First head) f (record { eval = a; fork = b; print = z }))
        ≡ list_any (λ k. not (is_in k (record { eval = a; fork = b; print = z }))) (kinds_by (input.First head) f)
    by f false b z = refl
    by false true b z = refl
    by true true true z = refl
    by true true false z = refl
next_opened (input.Next e) f c = by f c.eval c.fork c.print
  where
    by : (f a b z : Bool) → is_some (next_kind (input.Next e) f (record { eval = a; fork = b; print = z }))
        ≡ list_any (λ k. not (is_in k (record { eval = a; fork = b; print = z }))) (kinds_by (input.Next e) f)
    by f false b z = refl
    by false true b z = refl
    by true true true z = refl
    by true true false z = refl
next_opened (input.Print e) f c = by f c.eval c.fork c.print
  where
    by : (f a b z : Bool) → is_some (next_kind (input.Print e) f (record { eval = a; fork = b; print = z }))
        ≡ list_any (λ k. not (is_in k (record { eval = a; fork = b; print = z }))) (kinds_by (input.Print e) f)
    by f a b true = refl
    by f a b false = refl

module _ {S : Type 0} (l : Lang S) (h : List Event) (d : Doc) (e : ℕ) where
  next_by : (o : Option Home) → is_some (option_and_then (λ (x : Home). next_kind x.input (forks l d.homes e) (completed_in h e)) o)
      ≡ list_any (λ p. not (is_finished h p)) (option_map_or (λ (x : Home). map (λ k. part e k) (kinds_by x.input (forks l d.homes e))) o [])
  next_by None = refl
  next_by (Some x) = next_opened x.input (forks l d.homes e) (completed_in h e)
      ∙ sym (open_kinds l h d e (kinds_by x.input (forks l d.homes e)))

  -- so an execution is open where a part comes next
  pub next_open : is_some (next_of l h d e) ≡ is_open l h d.homes e
  next_open = next_by (numbered d.homes e)

are_both : (stands : Part → Standing) (tip : Version) (homes : List Home) (e : ℕ) (o : Option PartKind) (t : Option Task)
    → AreTasks stands tip homes e o t → is_some t ≡ is_some o
are_both stands tip homes e None None are = refl
are_both stands tip homes e None (Some t) are = absurd (are)
are_both stands tip homes e (Some k) None are = absurd (are)
are_both stands tip homes e (Some k) (Some t) are = refl

module _ {S : Type 0} (l : Lang S) (h : List Event) (t : Tables S) (k : IsKept l h t) (e : ℕ) where
  abbrev d : Doc
  d = doc l h

  pub tasked : is_some (t.tasks e) ≡ ((assigns d.tip e && not (has d.cancelled e)) && is_open l h d.homes e)
  tasked = are_both _ d.tip d.homes e (present_kind l h d e) (t.tasks e) (k.tasks e)
      ∙ go (assigns d.tip e && not (has d.cancelled e)) ∙ ap (λ b. (assigns d.tip e && not (has d.cancelled e)) && b) (next_open l h d e)
    where
      go : (b : Bool) → is_some (cond b (next_of l h d e) None) ≡ (b && is_some (next_of l h d e))
      go true = refl
      go false = refl

  -- what can be cancelled is of the tip, and has a task
  pub task_there : ((h : List Event) (e : ℕ) → IsLegal l h → is_wanted (doc l h) e ≡ true → is_open l h (doc l h).homes e ≡ true
      → assigns (doc l h).tip e ≡ true) → is_assigned d.live e ≡ true → (has d.cancelled e || not (is_open l h d.homes e)) ≡ false
      → (assigns d.tip e ≡ true) × (is_some (t.tasks e) ≡ true)
  task_there tip live cancels = (there, tasked ∙ all (assigns d.tip e) (has d.cancelled e) (is_open l h d.homes e) there parts.0 parts.1)
    where
      both : (a b : Bool) → (a || not b) ≡ false → (a ≡ false) × (b ≡ true)
      both true b x = absurd (cc)
      both false true x = (refl, refl)
      both false false x = absurd (cc)

      parts : (has d.cancelled e ≡ false) × (is_open l h d.homes e ≡ true)
      parts = both (has d.cancelled e) (is_open l h d.homes e) cancels

      there : assigns d.tip e ≡ true
      there = tip h e k.legal (and_from (is_assigned d.live e) (not (has d.cancelled e)) live (ap not parts.0)) parts.1

      all : (a b c : Bool) → a ≡ true → b ≡ false → c ≡ true → ((a && not b) && c) ≡ true
      all true false true x y z = refl
      all true false false x y z = absurd (cc)
      all true true c x y z = absurd (cc)
      all false b c x y z = absurd (cc)

-- it counts as one
pub counts : (b : Bool) → b ≡ true → count b ≡ 1
counts true is = refl
counts false is = absurd (cc)

-- what is there has no error
pub not_both : {A E : Type 0} (r : Result A E) → IsOk r → is_err r ≡ true → ⊥
not_both (Ok x) ok is = false≢true is
not_both (Err x) ok is = false≢true ok

-- what has no error is there
pub well : {A E : Type 0} (r : Result A E) → is_err r ≡ false → is_ok r ≡ true
well (Ok x) is = refl
well (Err x) is = absurd (cc)

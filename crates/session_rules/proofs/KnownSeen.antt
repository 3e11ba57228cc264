-- Where nothing is pending, all that is assigned is shown.
use Rattle.std.proofs.Common.{◌≡◌, ℕ, zero, suc, ◌+◌, ◌<◌, ◌≤◌, Bool, true, false, cond, not, List, [], ◌∷◌, ◌++◌, length, map, filter, Option, Some, None, refl, sym, ap, subst, ◌∙◌, arith}
use Rattle.std.proofs.lemmas.Bool.{eq-eqb, eqb-false, eqb-true, or_left, or_right}
use Rattle.std.specs.Prelude.{◌==◌, ◌||◌, ◌&&◌, if◌then◌else◌, is_some}
use Rattle.std.specs.List.{flat_map, list_all, list_any, range_with_len}
use Rattle.std.specs.Option.{option_map, option_map_or}
use Rattle.text_words.specs.Members.{has}
use Rattle.text_words.proofs.KnownMembers.{has_left, has_right}
use Rattle.pide_base.specs.declared.part.Part.{Part}
use Rattle.pide_base.specs.declared.part.PartKind.{PartKind}
use Rattle.doc_nodes.specs.declared.node.Entry.{Entry}
use Rattle.exec_rules.specs.declared.home.Home.{Home}
use Rattle.exec_rules.specs.declared.row.Row.{Row}
use Rattle.exec_rules.specs.Listed.{executions}
use Rattle.language.specs.Lang.{Lang}
use Rattle.core_rules.specs.declared.event.Event.{Event}
use Rattle.core_rules.specs.Numbered.{numbered}
use Rattle.core_rules.specs.Parts.{forks, kinds_by, parts_of, reports_in, reports_of}
use Rattle.core_rules.specs.Settings.{Setting, setting}
use Rattle.core_rules.specs.Shown.{PartShown, command_parts, commands_parts, shown_with}
use Rattle.core_rules.specs.Standing.{is_finished, is_open}
use Rattle.core_rules.proofs.KnownNumbers.{numbered_positive, numbered_within}
use Rattle.session_rules.specs.Promises.{are_all_shown}

-- what none of a range passes
pub none_passes : (test : ℕ → Bool) (a n e : ℕ) → a ≤ e → e < a + n → filter test (range_with_len a n) ≡ [] → test e ≡ false
none_passes test a zero e least most none = absurd (omega (arith, least, most))
none_passes test a (suc n) e least most none = go (test a) refl (a == e) refl none (λ more rest. none_passes test (a + 1) n e more (omega (arith, most)) rest)
  where
    go : (b : Bool) → test a ≡ b → (c : Bool) → (a == e) ≡ c → cond b (a ∷ filter test (range_with_len (a + 1) n)) (filter test (range_with_len (a + 1) n)) ≡ []
        → (a + 1 ≤ e → filter test (range_with_len (a + 1) n) ≡ [] → test e ≡ false) → test e ≡ false
    go true at c same rest before = absurd (cc)
    go false at true same rest before = ap test (sym (eqb-true a e same)) ∙ at
    go false at false same rest before = before (omega (arith, least, eqb-false a e same)) rest

all_append : {A : Type 0} (test : A → Bool) (xs ys : List A) → list_all test xs ≡ true → list_all test ys ≡ true → list_all test (xs ++ ys) ≡ true
all_append test [] ys first second = second
all_append test (x ∷ xs) ys first second = go (test x) first (all_append test xs ys)
  where
    go : (b : Bool) → (b && list_all test xs) ≡ true → (list_all test xs ≡ true → list_all test ys ≡ true → list_all test (xs ++ ys) ≡ true)
        → (b && list_all test (xs ++ ys)) ≡ true
    go true is rest = rest is second
    go false is rest = absurd (cc)

pub has_either : (xs ys : List ℕ) (e : ℕ) → has (xs ++ ys) e ≡ true → (has xs e || has ys e) ≡ true
has_either [] ys e is = is
has_either (x ∷ xs) ys e is = go (e == x) is (has_either xs ys e)
  where
    go : (b : Bool) → (b || has (xs ++ ys) e) ≡ true → (has (xs ++ ys) e ≡ true → (has xs e || has ys e) ≡ true) → ((b || has xs e) || has ys e) ≡ true
    go true is rest = refl
    go false is rest = rest is

module _ {S : Type 0} (l : Lang S) (h : List Event) (homes : List Home) where
  abbrev seen : PartShown → Bool
  seen p = is_some p.reports

  abbrev parts : Entry → ℕ → List PartShown
  parts entry e = map (λ p. shown_with h entry (reports_of l homes p) p) (parts_of l homes e)

  abbrev kind_parts : ℕ → List PartKind → List Part
  kind_parts e ks = map (λ k. record { exec = e; kind = k }) ks

  kinds_seen : (entry : Entry) (e : ℕ) (ks : List PartKind) (s : Setting S) → setting l homes e ≡ Some s
      → list_any (λ p. not (is_finished h p)) (kind_parts e ks) ≡ false
      → list_all seen (map (λ p. shown_with h entry (reports_of l homes p) p) (kind_parts e ks)) ≡ true
  kinds_seen entry e [] s at closed = refl
  kinds_seen entry e (k ∷ ks) s at closed =
      go (is_finished h (record { exec = e; kind = k })) (setting l homes e) at closed (kinds_seen entry e ks s at)
    where
      go : (b : Bool) (o : Option (Setting S)) → o ≡ Some s → (not b || list_any (λ p. not (is_finished h p)) (kind_parts e ks)) ≡ false
          → (list_any (λ p. not (is_finished h p)) (kind_parts e ks) ≡ false
          → list_all seen (map (λ p. shown_with h entry (reports_of l homes p) p) (kind_parts e ks)) ≡ true)
          → (is_some (if b then option_map (reports_in l k) o else None)
          && list_all seen (map (λ p. shown_with h entry (reports_of l homes p) p) (kind_parts e ks))) ≡ true
      go true (Some t) at closed rest = rest closed
      go true None at closed rest = absurd (cc)
      go false o at closed rest = absurd (cc)

  -- an execution that goes by something works on something, and is finished
  abbrev IsWhole : ℕ → Type 0
  IsWhole e = (x : Home) → numbered homes e ≡ Some x → ((s : Setting S) × (setting l homes e ≡ Some s)) × (is_open l h homes e ≡ false)

  exec_seen : (entry : Entry) (e : ℕ) → IsWhole e → list_all seen (parts entry e) ≡ true
  exec_seen entry e whole = go (numbered homes e) refl
    where
      go : (o : Option Home) → numbered homes e ≡ o → list_all seen (parts entry e) ≡ true
      go None at = ap (λ (o : Option Home). list_all seen (map (λ p. shown_with h entry (reports_of l homes p) p)
          (option_map_or (λ x. kind_parts e (kinds_by x.input (forks l homes e))) o []))) at
      go (Some x) at =
          let is = whole x at in
          let same : parts_of l homes e ≡ kind_parts e (kinds_by x.input (forks l homes e)) =
          ap (λ (o : Option Home). option_map_or (λ y. kind_parts e (kinds_by y.input (forks l homes e))) o []) at in
          ap (λ (ps : List Part). list_all seen (map (λ p. shown_with h entry (reports_of l homes p) p) ps)) same
          ∙ kinds_seen entry e (kinds_by x.input (forks l homes e)) is.0.0 is.0.1
          (subst (λ (ps : List Part). list_any (λ p. not (is_finished h p)) ps ≡ false) same is.1)

  execs_seen : (entry : Entry) (es : List ℕ) → ((e : ℕ) → has es e ≡ true → IsWhole e) → list_all seen (flat_map (parts entry) es) ≡ true
  execs_seen entry [] whole = refl
  execs_seen entry (e ∷ es) whole = all_append seen (parts entry e) (flat_map (parts entry) es)
      (exec_seen entry e (whole e (or_left (e == e) (has es e) (eq-eqb e e refl))))
      (execs_seen entry es (λ f is. whole f (or_right (f == e) (has es f) is)))

  -- all commands of a node
  pub commands_seen : (entries : List Entry) (rows : List Row) → ((e : ℕ) → has (flat_map executions rows) e ≡ true → IsWhole e)
      → are_all_shown (commands_parts l h homes entries rows) ≡ true
  commands_seen [] rows whole = refl
  commands_seen (entry ∷ entries) [] whole = refl
  commands_seen (entry ∷ entries) (row ∷ rows) whole = all_append seen (command_parts l h homes entry row) (commands_parts l h homes entries rows)
      (execs_seen entry (executions row) (λ e is. whole e (has_left (executions row) (flat_map executions rows) e is)))
      (commands_seen entries rows (λ e is. whole e (has_right (executions row) (flat_map executions rows) e is)))

  -- where none is pending
  pub none_pending : (rows : List Row) → filter (λ e. has (flat_map executions rows) e && is_open l h homes e) (range_with_len 1 (length homes)) ≡ []
      → ((e : ℕ) → has (flat_map executions rows) e ≡ true → (s : Setting S) × (setting l homes e ≡ Some s))
      → (e : ℕ) → has (flat_map executions rows) e ≡ true → IsWhole e
  none_pending rows none works e is x at =
      let not_both = none_passes (λ f. has (flat_map executions rows) f && is_open l h homes f) 1 (length homes) e (numbered_positive homes e x at)
      (let within = numbered_within homes e x at in omega (arith, within)) none in
      (works e is, ap (λ b. b && is_open l h homes e) (sym is) ∙ not_both)

-- Which executions the parts of a version leave unfinished.
use Rattle.std.proofs.Common.{◌≡◌, ℕ, zero, suc, Bool, true, false, cond, List, [], ◌∷◌, map, filter, Option, Some, None, refl, ap, sym, ◌∙◌}
use Rattle.std.proofs.lemmas.Bool.{eqb-true}
use Rattle.std.specs.Prelude.{slice_get, flat_map, not, ◌==◌, ◌||◌, ◌&&◌, if◌then◌else◌}
use Rattle.std.specs.Option.{option_map, option_map_or, is_none}
use Rattle.std.specs.List.{list_any}
use Rattle.text_words.specs.Members.{has}
use Rattle.text_words.proofs.KnownMembers.{has_both, has_itself, has_tail}
use Rattle.pide_base.specs.declared.part.Part.{Part}
use Rattle.pide_base.specs.declared.part.PartKind.{PartKind}
use Rattle.doc_nodes.specs.declared.node.Entry.{Entry}
use Rattle.exec_rules.specs.declared.home.Home.{Home}
use Rattle.exec_rules.specs.declared.row.Row.{Row}
use Rattle.exec_rules.specs.Listed.{executions}
use Rattle.language.specs.Lang.{Lang}
use Rattle.core_rules.specs.declared.event.Event.{Event}
use Rattle.core_rules.specs.Numbered.{numbered}
use Rattle.core_rules.specs.Settings.{Setting, setting}
use Rattle.core_rules.specs.Parts.{forks, kinds_by, parts_of, reports_in, reports_of}
use Rattle.core_rules.specs.Shown.{PartShown, command_parts, commands_parts, shown_with}
use Rattle.core_rules.specs.Standing.{is_finished, is_open}
use Rattle.mirror_rules.specs.Looking.{unfinished_executions}
use Rattle.editor_laws.proofs.Agreeing.{unfinished_both}

module _ {S : Type 0} (l : Lang S) (h : List Event) (homes : List Home) where
  abbrev pub shown_parts : Entry → ℕ → List PartShown
  shown_parts e x = map (λ p. shown_with h e (reports_of l homes p) p) (parts_of l homes x)

  abbrev of_kinds : ℕ → List PartKind → List Part
  of_kinds x ks = map (λ k. record { exec = x; kind = k }) ks

  abbrev shown_so : Entry → ℕ → PartKind → Bool → Option (Setting S) → PartShown
  shown_so e x k b o = record { exec = x; span = e.range; reports = if b then option_map (reports_in l k) o else None }

  kinds_open : (e : Entry) (x y : ℕ) (s : Setting S) (ks : List PartKind) → setting l homes x ≡ Some s
      → has (unfinished_executions (map (λ p. shown_with h e (reports_of l homes p) p) (of_kinds x ks))) y
      ≡ ((y == x) && list_any (λ p. not (is_finished h p)) (of_kinds x ks))
  kinds_open e x y s [] works = none (y == x)
    where
      none : (b : Bool) → false ≡ (b && false)
      none true = refl
      none false = refl
  kinds_open e x y s (k ∷ ks) works = go (is_finished h (record { exec = x; kind = k })) (setting l homes x) works (kinds_open e x y s ks works)
    where
      open_first : (c r : Bool) → (c || (c && r)) ≡ (c && (true || r))
      open_first true r = refl
      open_first false r = refl

      go : (b : Bool) (o : Option (Setting S)) → o ≡ Some s
          → has (unfinished_executions (map (λ p. shown_with h e (reports_of l homes p) p) (of_kinds x ks))) y ≡ ((y == x) && list_any (λ p. not (is_finished h p)) (of_kinds x ks))
          → has (map (λ (p : PartShown). p.exec) (cond (is_none (if b then option_map (reports_in l k) o else None))
          (shown_so e x k b o
          ∷ filter (λ (p : PartShown). is_none p.reports) (map (λ p. shown_with h e (reports_of l homes p) p) (of_kinds x ks)))
          (filter (λ (p : PartShown). is_none p.reports) (map (λ p. shown_with h e (reports_of l homes p) p) (of_kinds x ks))))) y
          ≡ ((y == x) && (not b || list_any (λ p. not (is_finished h p)) (of_kinds x ks)))
      go true None is rest = absurd (cc)
      go true (Some t) is rest = rest
      go false o is rest = ap (λ b. (y == x) || b) rest ∙ open_first (y == x) (list_any (λ p. not (is_finished h p)) (of_kinds x ks))

  -- an execution's parts leave it unfinished where one of them is
  pub exec_open : (e : Entry) (x y : ℕ) (s : Setting S) → setting l homes x ≡ Some s
      → has (unfinished_executions (shown_parts e x)) y ≡ ((y == x) && is_open l h homes x)
  exec_open e x y s works = go (numbered homes x)
    where
      go : (o : Option Home) → has (unfinished_executions (map (λ p. shown_with h e (reports_of l homes p) p)
          (option_map_or (λ (z : Home). of_kinds x (kinds_by z.input (forks l homes x))) o []))) y
          ≡ ((y == x) && list_any (λ p. not (is_finished h p)) (option_map_or (λ (z : Home). of_kinds x (kinds_by z.input (forks l homes x))) o []))
      go None = kinds_open e x y s [] works
      go (Some z) = kinds_open e x y s (kinds_by z.input (forks l homes x)) works

  own_open : (x y : ℕ) → ((y == x) && is_open l h homes x) ≡ ((y == x) && is_open l h homes y)
  own_open x y = go (y == x) refl
    where
      go : (b : Bool) → (y == x) ≡ b → (b && is_open l h homes x) ≡ (b && is_open l h homes y)
      go true same = ap (is_open l h homes) (sym (eqb-true y x same))
      go false other = refl

  both_open : (a b c : Bool) → ((a && c) || (b && c)) ≡ ((a || b) && c)
  both_open true true true = refl
  both_open true true false = refl
  both_open true false true = refl
  both_open true false false = refl
  both_open false b c = refl

  execs_open : (e : Entry) (xs : List ℕ) (y : ℕ) → ((x : ℕ) → has xs x ≡ true → (s : Setting S) × (setting l homes x ≡ Some s))
      → has (unfinished_executions (flat_map (shown_parts e) xs)) y ≡ (has xs y && is_open l h homes y)
  execs_open e [] y works = refl
  execs_open e (x ∷ xs) y works =
      let s = works x (has_itself xs x) in
      ap (λ ys. has ys y) (unfinished_both (shown_parts e x) (flat_map (shown_parts e) xs))
      ∙ has_both (unfinished_executions (shown_parts e x)) (unfinished_executions (flat_map (shown_parts e) xs)) y
      ∙ ap (λ b. b || has (unfinished_executions (flat_map (shown_parts e) xs)) y) (exec_open e x y s.0 s.1 ∙ own_open x y)
      ∙ ap (λ b. ((y == x) && is_open l h homes y) || b) (execs_open e xs y (λ z is. works z (has_tail x z xs is)))
      ∙ both_open (y == x) (has xs y) (is_open l h homes y)

  -- so for the commands of a node
  pub commands_open : (es : List Entry) (rows : List Row) (y : ℕ)
      → ((i : ℕ) (row : Row) → slice_get rows i ≡ Some row → (e : Entry) × (slice_get es i ≡ Some e))
      → ((i : ℕ) (row : Row) (x : ℕ) → slice_get rows i ≡ Some row → has (executions row) x ≡ true → (s : Setting S) × (setting l homes x ≡ Some s))
      → has (unfinished_executions (commands_parts l h homes es rows)) y ≡ (has (flat_map executions rows) y && is_open l h homes y)
  commands_open [] [] y there works = refl
  commands_open (e ∷ es) [] y there works = refl
  commands_open [] (row ∷ rows) y there works = let e = there zero row refl in absurd (none e.0 e.1)
    where
      none : (e : Entry) → slice_get [] zero ≡ Some e → ⊥
      none e is = absurd (cc)
  commands_open (e ∷ es) (row ∷ rows) y there works =
      ap (λ ys. has ys y) (unfinished_both (command_parts l h homes e row) (commands_parts l h homes es rows))
      ∙ has_both (unfinished_executions (command_parts l h homes e row)) (unfinished_executions (commands_parts l h homes es rows)) y
      ∙ ap (λ b. b || has (unfinished_executions (commands_parts l h homes es rows)) y) (execs_open e (executions row) y (λ x is. works zero row x refl is))
      ∙ ap (λ b. (has (executions row) y && is_open l h homes y) || b)
      (commands_open es rows y (λ i r at. there (suc i) r at) (λ i r x at is. works (suc i) r x at is))
      ∙ both_open (has (executions row) y) (has (flat_map executions rows) y) (is_open l h homes y)
      ∙ ap (λ b. b && is_open l h homes y) (sym (has_both (executions row) (flat_map executions rows) y))

-- One execution further that comes in.
use Rattle.std.proofs.Common.{◌≡◌, ℕ, Bool, true, false, List, [], ◌∷◌, Option, Some, None, refl, ap, sym, ◌∙◌, length, arith}
use Rattle.std.specs.Prelude.{◌==◌, ◌&&◌, ◌||◌, if◌then◌else◌}
use Rattle.std.specs.Option.{option_or}
use Rattle.std.proofs.lemmas.Bool.{eqb-true, eq-eqb}
use Rattle.text_words.specs.Members.{has}
use Rattle.reply_messages.specs.declared.told.CommandRow.{CommandRow}
use Rattle.pide_mirror.specs.Places.{PlaceTable, unreported}
use Rattle.pide_mirror.specs.Renewed.{fresh_row, fresh_in}
use Rattle.doc_nodes.specs.declared.node.Entry.{Entry}
use Rattle.pide_mirror.specs.declared.place.Place.{Place}
use Rattle.text_words.proofs.KnownLists.{differ_turned}
use Rattle.pide_mirror.proofs.Stepping.{row_with}

module _ (text : List ℕ) (command exec : ℕ) (more : List ℕ) (table : PlaceTable) where
  abbrev pub with_row : CommandRow → PlaceTable → PlaceTable
  with_row row from e c = option_or (from e c) (fresh_row text row e c)

  -- an execution that isn't there comes in
  pub puts_in : table exec command ≡ None → (after : PlaceTable)
      → ((e c : ℕ) → after e c ≡ (if (exec == e) && (command == c) then Some (unreported text) else table e c))
      → (e c : ℕ) → with_row (row_with command more) after e c ≡ with_row (row_with command (exec ∷ more)) table e c
  puts_in none after so e c = ap (λ o. option_or o (fresh_row text (row_with command more) e c)) (so e c) ∙ go (command == c) refl (exec == e) refl
    where
      go : (a : Bool) → (command == c) ≡ a → (x : Bool) → (exec == e) ≡ x
          → option_or (if x && a then Some (unreported text) else table e c) (if a && has more e then Some (unreported text) else None)
          ≡ option_or (table e c) (if a && ((e == exec) || has more e) then Some (unreported text) else None)
      go false out true same = refl
      go false out false other = refl
      go true cmd true same =
          let ex : exec ≡ e = eqb-true exec e same in
          let cm : command ≡ c = eqb-true command c cmd in
          let t : table e c ≡ None = ap (λ x. table x c) (sym ex) ∙ ap (table exec) (sym cm) ∙ none in
          sym (ap (λ o. option_or o (if (e == exec) || has more e then Some (unreported text) else None)) t
          ∙ ap (λ b. if b || has more e then Some (unreported text) else None) (eq-eqb e exec (sym ex)))
      go true cmd false other = ap (λ b. option_or (table e c) (if b || has more e then Some (unreported text) else None)) (sym (differ_turned exec e other))

  -- one that is there stays
  pub is_in : (place : Place) → table exec command ≡ Some place
      → (e c : ℕ) → with_row (row_with command more) table e c ≡ with_row (row_with command (exec ∷ more)) table e c
  is_in place there e c = go (command == c) refl (e == exec) refl
    where
      go : (a : Bool) → (command == c) ≡ a → (y : Bool) → (e == exec) ≡ y
          → option_or (table e c) (if a && has more e then Some (unreported text) else None)
          ≡ option_or (table e c) (if a && (y || has more e) then Some (unreported text) else None)
      go false out y is = refl
      go true cmd false other = refl
      go true cmd true same =
          let t : table e c ≡ Some place = ap (λ x. table x c) (eqb-true e exec same) ∙ ap (table exec) (sym (eqb-true command c cmd)) ∙ there in
          ap (λ o. option_or o (if has more e then Some (unreported text) else None)) t ∙ sym (ap (λ o. option_or o (Some (unreported text))) t)

-- so for rows and nodes: what comes first stays
pub or_then : (a b c : Option Place) → option_or (option_or a b) c ≡ option_or a (option_or b c)
or_then None b c = refl
or_then (Some x) b c = refl

-- where no rows are left nothing comes in
pub nothing_fresh : (text : List ℕ) (es : List Entry) (rows : List CommandRow) (e c : ℕ) → length rows ≡ 0 → fresh_in text es rows e c ≡ None
nothing_fresh text [] rows e c none = refl
nothing_fresh text (x ∷ es) [] e c none = refl
nothing_fresh text (x ∷ es) (row ∷ rows) e c none = absurd (omega (arith, none))

pub or_none : (o : Option Place) → option_or o None ≡ o
or_none None = refl
or_none (Some x) = refl

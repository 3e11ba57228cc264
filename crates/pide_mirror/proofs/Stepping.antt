-- One execution, row or node further.
use Rattle.std.proofs.Common.{◌≡◌, ℕ, Bool, true, false, List, ◌∷◌, Option, Some, None, Result, Ok, Err, refl, ap, sym, ◌∙◌}
use Rattle.std.specs.Prelude.{◌==◌, ◌&&◌, ◌||◌, not, if◌then◌else◌}
use Rattle.std.specs.List.{list_any}
use Rattle.std.proofs.lemmas.Bool.{eqb-true, eq-eqb}
use Rattle.text_words.specs.Members.{has}
use Rattle.reply_messages.specs.declared.told.CommandRow.{CommandRow}
use Rattle.pide_mirror.specs.Places.{PlaceTable}
use Rattle.pide_mirror.specs.Renewed.{gives, is_stale, stale_of}
use Rattle.std.specs.Result.{OnOk}
use Rattle.mirror_rules.specs.Rows.{executions_of}
use Rattle.pide_mirror.specs.Kept.{told_rows}
use Rattle.pide_mirror.specs.declared.renewing.NewRows.{NewRows}
use Rattle.pide_mirror.specs.declared.place.Place.{Place}
use Rattle.text_words.proofs.KnownLists.{differ_turned}

abbrev pub row_with : ℕ → List ℕ → CommandRow
row_with command executions = record { command = command; executions = executions }

-- without what a row gives and isn't kept
abbrev pub left_by_row : List ℕ → CommandRow → PlaceTable → PlaceTable
left_by_row kept row table e c = if gives row e c && not (has kept e) then None else table e c

module _ (command exec : ℕ) (more kept : List ℕ) (table : PlaceTable) where
  -- an execution that isn't kept is taken out
  pub takes_out : has kept exec ≡ false → (after : PlaceTable)
      → ((e c : ℕ) → after e c ≡ (if (exec == e) && (command == c) then None else table e c))
      → (e c : ℕ) → left_by_row kept (row_with command more) after e c ≡ left_by_row kept (row_with command (exec ∷ more)) table e c
  takes_out out after so e c = ap (λ o. if ((command == c) && has more e) && not (has kept e) then None else o) (so e c) ∙ go (command == c) (exec == e) refl
    where
      go : (a x : Bool) → (exec == e) ≡ x
          → (if (a && has more e) && not (has kept e) then None else (if x && a then None else table e c))
          ≡ (if (a && ((e == exec) || has more e)) && not (has kept e) then None else table e c)
      go false true same = refl
      go false false other = refl
      go true true same =
          let ex : exec ≡ e = eqb-true exec e same in
          let k : has kept e ≡ false = ap (has kept) (sym ex) ∙ out in
          let y : (e == exec) ≡ true = eq-eqb e exec (sym ex) in
          both (has more e && not (has kept e)) None refl ∙ sym (ap (λ b. if (b || has more e) && not (has kept e) then None else table e c) y ∙ ap (λ b. if not b then None else table e c) k)
        where
          both : (b : Bool) (o : Option Place) → o ≡ None → (if b then None else o) ≡ None
          both true o is = refl
          both false o is = is
      go true false other = ap (λ b. if (b || has more e) && not (has kept e) then None else table e c) (sym (differ_turned exec e other))

  -- one that is kept stays
  pub leaves_in : has kept exec ≡ true
      → (e c : ℕ) → left_by_row kept (row_with command more) table e c ≡ left_by_row kept (row_with command (exec ∷ more)) table e c
  leaves_in is e c = go (e == exec) refl
    where
      never : (b : Bool) → (if b && false then None else table e c) ≡ table e c
      never true = refl
      never false = refl

      go : (y : Bool) → (e == exec) ≡ y
          → (if ((command == c) && has more e) && not (has kept e) then None else table e c)
          ≡ (if ((command == c) && (y || has more e)) && not (has kept e) then None else table e c)
      go false other = refl
      go true same =
          let k : not (has kept e) ≡ false = ap (λ x. not (has kept x)) (eqb-true e exec same) ∙ ap not is in
          ap (λ b. if ((command == c) && has more e) && b then None else table e c) k ∙ never ((command == c) && has more e)
          ∙ sym (ap (λ b. if ((command == c) && true) && b then None else table e c) k ∙ never ((command == c) && true))

-- without what rows give and isn't kept
abbrev pub left_by_rows : (ℕ → List ℕ) → List CommandRow → PlaceTable → PlaceTable
left_by_rows kept rows table e c = if is_stale rows kept e c then None else table e c

-- a row more is gone through
pub row_left : (kept : ℕ → List ℕ) (row : CommandRow) (more : List CommandRow) (table after : PlaceTable)
    → ((e c : ℕ) → after e c ≡ left_by_row (kept row.command) row table e c)
    → (e c : ℕ) → left_by_rows kept more after e c ≡ left_by_rows kept (row ∷ more) table e c
row_left kept row more table after so e c = ap (λ o. if is_stale more kept e c then None else o) (so e c) ∙ go (row.command == c) refl
  where
    other : (any k : Bool) → (if any && not k then None else (if false && not (has (kept row.command) e) then None else table e c)) ≡ (if (false || any) && not k then None else table e c)
    other true true = refl
    other true false = refl
    other false k = refl

    mine : (h any k : Bool) → (if any && not k then None else (if h && not k then None else table e c)) ≡ (if (h || any) && not k then None else table e c)
    mine true true true = refl
    mine true true false = refl
    mine true false true = refl
    mine true false false = refl
    mine false true true = refl
    mine false true false = refl
    mine false false k = refl

    go : (a : Bool) → (row.command == c) ≡ a
        → (if list_any (λ r. gives r e c) more && not (has (kept c) e) then None else (if (a && has row.executions e) && not (has (kept row.command) e) then None else table e c))
        ≡ (if ((a && has row.executions e) || list_any (λ r. gives r e c) more) && not (has (kept c) e) then None else table e c)
    go false out = other (list_any (λ r. gives r e c) more) (has (kept c) e)
    go true same =
        ap (λ d. if list_any (λ r. gives r e c) more && not (has (kept c) e) then None else (if has row.executions e && not (has (kept d) e) then None else table e c)) (eqb-true row.command c same)
        ∙ mine (has row.executions e) (list_any (λ r. gives r e c) more) (has (kept c) e)

-- what an index keeps is what is made of the node
pub stale_same : (rows : List CommandRow) (new : NewRows) (o : Option NewRows) (kept : ℕ → List ℕ) → o ≡ Some new → new.stays ≡ false
    → ((d : ℕ) → kept d ≡ executions_of (told_rows new.rows) d) → (e c : ℕ) → is_stale rows kept e c ≡ stale_of rows o e c
stale_same rows new o kept is stays same e c =
    ap (λ xs. list_any (λ row. gives row e c) rows && not (has xs e)) (same c)
    ∙ sym (ap (λ x. stale_of rows x e c) is ∙ ap (λ b. if b then false else is_stale rows (executions_of (told_rows new.rows)) e c) stays)

-- what one leaves out and then the others
pub stale_then : (a b : Bool) (place : Option Place) → (if b then None else (if a then None else place)) ≡ (if a || b then None else place)
stale_then true true place = refl
stale_then true false place = refl
stale_then false true place = refl
stale_then false false place = refl

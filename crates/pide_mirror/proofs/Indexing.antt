-- The first row of each command.
use Rattle.std.proofs.Common.{◌≡◌, ℕ, Bool, true, false, cond, List, [], ◌∷◌, ◌++◌, Option, Some, None, refl, ap, sym, ◌∙◌, ◌<◌, ◌+◌, ◌-◌, length, take, drop, get_or, append_assoc}
use Rattle.std.specs.Prelude.{find, ◌==◌, ◌||◌}
use Rattle.std.specs.List.{list_any}
use Rattle.std.specs.Option.{option_map_or, option_or, option_copied, is_some}
use Rattle.std.proofs.lemmas.Bool.{eqb-true, eq-eqb, or_right}
use Rattle.std.proofs.lemmas.List.{take_more, take_rest}
use Rattle.std.specs.Borrow.{Bor}
use Rattle.text_words.specs.Members.{has}
use Rattle.text_words.proofs.KnownMembers.{has_both}
use Rattle.std.proofs.lemmas.List.Folds.{find-append}
use Rattle.doc_nodes.specs.declared.node.Entry.{Entry}
use Rattle.reply_messages.specs.declared.told.CommandRow.{CommandRow}
use Rattle.mirror_rules.specs.Rows.{executions_of, rows_by}
use Rattle.pide_mirror.specs.Kept.{told_rows}
use Rattle.pide_mirror.specs.Indexed.{executions_in}
use Rattle.text_words.proofs.KnownLists.{differ_turned}

abbrev pub first_of : List CommandRow → ℕ → Option CommandRow
first_of rows command = find (λ row. row.command == command) rows

-- a table of the first rows of a front
abbrev pub IsIndex : (ℕ → Option CommandRow) → List CommandRow → Type 0
IsIndex table front = (command : ℕ) → table command ≡ first_of front command

module _ (table : ℕ → Option CommandRow) (front : List CommandRow) (row : CommandRow) (is : IsIndex table front) where
  one_more : (c : ℕ) → first_of (front ++ row ∷ []) c ≡ option_or (table c) (cond (row.command == c) (Some row) None)
  one_more c = find-append (λ r. r.command == c) front (row ∷ []) ∙ ap (λ o. option_or o (cond (row.command == c) (Some row) None)) (sym (is c))

  -- the first row of a command comes in
  pub index_more : table row.command ≡ None → (after : ℕ → Option CommandRow)
      → ((c : ℕ) → after c ≡ cond (row.command == c) (Some row) (table c)) → IsIndex after (front ++ row ∷ [])
  index_more none after so = λ c. so c ∙ go c (row.command == c) refl (table c) refl ∙ sym (one_more c)
    where
      go : (c : ℕ) (b : Bool) → (row.command == c) ≡ b → (o : Option CommandRow) → table c ≡ o → cond b (Some row) o ≡ option_or o (cond b (Some row) None)
      go c true same None at = refl
      go c true same (Some r) at = let e = eqb-true row.command c same in let f : table c ≡ None = ap table (sym e) ∙ none in absurd (cc)
      go c false other None at = refl
      go c false other (Some r) at = refl

  -- another one doesn't
  pub index_same : (r : CommandRow) → table row.command ≡ Some r → IsIndex table (front ++ row ∷ [])
  index_same r there = λ c. go c (row.command == c) refl (table c) refl ∙ sym (one_more c)
    where
      go : (c : ℕ) (b : Bool) → (row.command == c) ≡ b → (o : Option CommandRow) → table c ≡ o → o ≡ option_or o (cond b (Some row) None)
      go c b same (Some x) at = refl
      go c true same None at = let e = eqb-true row.command c same in let f : table c ≡ Some r = ap table (sym e) ∙ there in absurd (cc)
      go c false same None at = refl

-- a command's executions among rows are those of its first row
pub executions_first : (rows : List CommandRow) (c : ℕ) → executions_in (first_of rows c) ≡ executions_of (told_rows rows) c
executions_first [] c = refl
executions_first (row ∷ rows) c = go (row.command == c) (executions_first rows c)
  where
    go : (b : Bool) → executions_in (first_of rows c) ≡ executions_of (told_rows rows) c
        → executions_in (cond b (Some row) (first_of rows c))
        ≡ option_map_or (λ (r : ℕ × List ℕ). r.1) (cond b (Some (row.command, row.executions)) (find (λ r. r.0 == c) (told_rows rows))) []
    go true rest = refl
    go false rest = rest

-- a front with the item that is next
pub front_more : {A : Type 0} (xs : List A) (i : ℕ) (x : A) → i < length xs → x ≡ get_or xs i x → take (i + 1) xs ≡ take i xs ++ x ∷ []
front_more xs i x within is = take_more xs i x within ∙ ap (λ y. take i xs ++ y ∷ []) (sym is)

-- ids with one more
pub ids_more : (xs : List ℕ) (x id : ℕ) → has (xs ++ x ∷ []) id ≡ cond (x == id) true (has xs id)
ids_more xs x id = has_both xs (x ∷ []) id ∙ go (x == id) refl
  where
    or_no : (b : Bool) → (b || false) ≡ b
    or_no true = refl
    or_no false = refl

    go : (b : Bool) → (x == id) ≡ b → (has xs id || ((id == x) || false)) ≡ cond b true (has xs id)
    go true same = or_right (has xs id) ((id == x) || false) (ap (λ b. b || false) (eq-eqb id x (sym (eqb-true x id same))))
    go false other = ap (λ b. has xs id || (b || false)) (differ_turned x id other) ∙ or_no (has xs id)

-- what passes the first is what passes the others
pub any_behind : {A : Type 0} (p : A → Bool) (xs more : List A) (x : A) → xs ≡ x ∷ more → p x ≡ false → list_any p more ≡ list_any p xs
any_behind p xs more x split out = sym (ap (list_any p) split ∙ ap (λ b. b || list_any p more) out)

pub rows_more : (rows : List (ℕ × List ℕ)) (es : List Entry) (e : Entry) → rows_by (es ++ e ∷ []) rows ≡ rows_by es rows ++ (e.command, executions_of rows e.command) ∷ []
rows_more rows [] e = refl
rows_more rows (x ∷ es) e = ap (λ r. (x.command, executions_of rows x.command) ∷ r) (rows_more rows es e)

pub told_more : (rows : List CommandRow) (row : CommandRow) → told_rows (rows ++ row ∷ []) ≡ told_rows rows ++ (row.command, row.executions) ∷ []
told_more [] row = refl
told_more (r ∷ rows) row = ap (λ rest. (r.command, r.executions) ∷ rest) (told_more rows row)

-- rows are cut behind the next one
pub cut_row : (all front rest : List CommandRow) (row : CommandRow) → all ≡ front ++ rest → rest ≡ row ∷ drop 1 rest
    → all ≡ (front ++ row ∷ []) ++ take (length rest - 1) (drop 1 rest)
cut_row all front rest row whole split = whole ∙ ap (λ r. front ++ r) split ∙ sym (append_assoc front (row ∷ []) (drop 1 rest))
    ∙ ap (λ r. (front ++ row ∷ []) ++ r) (sym (take_rest rest 1))

-- what is lent is the row
pub gives_row : (b : Bool) (row : CommandRow) (lent : Bor CommandRow) (o : Option (Bor CommandRow)) → lent.now ≡ row
    → option_copied (cond b (Some lent) o) ≡ cond b (Some row) (option_copied o)
gives_row true row lent o is = ap (λ r. Some r) is
gives_row false row lent o is = refl

pub none_row : (found : Option (Bor (Bor CommandRow))) (o : Option (Bor CommandRow)) → option_copied found ≡ o → is_some found ≡ false → option_copied o ≡ None
none_row None o is none = ap option_copied (sym is)
none_row (Some lent) o is none = absurd (cc)

pub some_row : (found : Option (Bor (Bor CommandRow))) (o : Option (Bor CommandRow)) → option_copied found ≡ o → is_some found ≡ true → (row : CommandRow) × (option_copied o ≡ Some row)
some_row None o is some = absurd (cc)
some_row (Some lent) o is some = (lent.now.now, ap option_copied (sym is))

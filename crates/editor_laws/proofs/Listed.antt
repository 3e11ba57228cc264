-- What an assignment lists of a node, found again by the node's name.
use Rattle.std.proofs.Common.{◌≡◌, ℕ, zero, suc, Bool, true, false, cond, List, [], ◌∷◌, map, filter, Option, Some, None, refl, ap, sym, ◌∙◌}
use Rattle.std.proofs.lemmas.Bool.{and_parts, eqb-true, false≢true}
use Rattle.std.specs.Prelude.{find, slice_get, not, ◌==◌}
use Rattle.std.specs.Option.{option_map}
use Rattle.doc_nodes.specs.declared.node.Node.{Node}
use Rattle.doc_nodes.specs.Names.{equal}
use Rattle.doc_nodes.specs.Imports.{NodeList}
use Rattle.doc_nodes.proofs.KnownNames.{name_is, name_itself}
use Rattle.exec_rules.specs.declared.version.Version.{Version}
use Rattle.exec_rules.specs.Listed.{Told, told_commands_in, same_by, same_told, is_other}
use Rattle.reply_messages.specs.declared.told.NodeRows.{NodeRows}
use Rattle.reply_messages.specs.declared.told.CommandRow.{CommandRow}
use Rattle.session_rules.specs.Replies.{rows_told}
use Rattle.mirror_rules.specs.Rows.{listed_for}

-- lists that test as the same are
pub same_list : {A : Type 0} (same : A → A → Bool) → ((x y : A) → same x y ≡ true → x ≡ y) → (xs ys : List A) → same_by same xs ys ≡ true → xs ≡ ys
same_list same sound [] [] is = refl
same_list same sound [] (y ∷ ys) is = absurd (cc)
same_list same sound (x ∷ xs) [] is = absurd (cc)
same_list same sound (x ∷ xs) (y ∷ ys) is =
    let parts = and_parts (same x y) (same_by same xs ys) is in
    ap (λ z. z ∷ xs) (sound x y parts.0) ∙ ap (λ zs. y ∷ zs) (same_list same sound xs ys parts.1)

told_same : (x y : Told) → same_told x y ≡ true → x ≡ y
told_same x y is =
    let parts = and_parts (x.0 == y.0) (same_by (λ e f. e == f) x.1 y.1) is in
    ap (λ c. (c, x.1)) (eqb-true x.0 y.0 parts.0)
    ∙ ap (λ es. (y.0, es)) (same_list (λ e f. e == f) (λ a b. eqb-true a b) x.1 y.1 parts.1)

-- a node that isn't listed is told as before
pub not_listed : (tip : Version) (name : List ℕ) (rows : List Told) → is_other tip (name, rows) ≡ false → rows ≡ told_commands_in tip name
not_listed tip name rows is = same_list same_told told_same rows (told_commands_in tip name) (so (same_by same_told rows (told_commands_in tip name)) is)
  where
    so : (b : Bool) → not b ≡ false → b ≡ true
    so true e = refl
    so false e = absurd (cc)

-- rows as a reply has them
abbrev pub told_rows : List ℕ × List Told → NodeRows
told_rows node = record { node = node.0; rows = map (λ row. record { command = row.0; executions = row.1 }) node.1 }

rows_back : (rows : List Told) → map (λ (r : CommandRow). (r.command, r.executions)) (told_rows ([], rows)).rows ≡ rows
rows_back [] = refl
rows_back (r ∷ rows) = ap (λ rs. r ∷ rs) (rows_back rows)

module _ (tip new : Version) (pair : List ℕ × Node) where
  abbrev pub named : List ℕ × Node → List ℕ × List Told
  named n = (n.0, told_commands_in new n.0)

  abbrev found : NodeList → Option NodeRows
  found ns = find (λ (n : NodeRows). equal n.node pair.0) (map told_rows (filter (is_other tip) (map named ns)))

  abbrev step : Bool → List ℕ × Node → NodeList → Option NodeRows
  step c n ns = find (λ (x : NodeRows). equal x.node pair.0)
      (map told_rows (cond c (named n ∷ filter (is_other tip) (map named ns)) (filter (is_other tip) (map named ns))))

  same_name : (n : List ℕ × Node) → equal n.0 pair.0 ≡ true → named n ≡ named pair
  same_name n is = ap (λ x. (x, told_commands_in new x)) (name_is n.0 pair.0 is)

  found_none : (ns : NodeList) → is_other tip (named pair) ≡ false → found ns ≡ None
  found_none [] kept = refl
  found_none (n ∷ ns) kept = go (is_other tip (named n)) refl (equal n.0 pair.0) refl (found_none ns kept)
    where
      go : (c : Bool) → is_other tip (named n) ≡ c → (b : Bool) → equal n.0 pair.0 ≡ b → found ns ≡ None → step c n ns ≡ None
      go false other b is rest = rest
      go true other true is rest = absurd (false≢true (sym kept ∙ ap (is_other tip) (sym (same_name n is)) ∙ other))
      go true other false is rest = ap (λ b. cond b (Some (told_rows (named n))) (found ns)) is ∙ rest

  found_some : (ns : NodeList) (q : ℕ) → slice_get ns q ≡ Some pair → is_other tip (named pair) ≡ true → found ns ≡ Some (told_rows (named pair))
  found_some [] q at changed = absurd (cc)
  found_some (n ∷ ns) q at changed =
      go (is_other tip (named n)) refl (equal n.0 pair.0) refl q at (λ i there. found_some ns i there changed)
    where
      go : (c : Bool) → is_other tip (named n) ≡ c → (b : Bool) → equal n.0 pair.0 ≡ b → (i : ℕ) → slice_get (n ∷ ns) i ≡ Some pair
          → ((j : ℕ) → slice_get ns j ≡ Some pair → found ns ≡ Some (told_rows (named pair))) → step c n ns ≡ Some (told_rows (named pair))
      go true other true is i there rest = ap (λ b. cond b (Some (told_rows (named n))) (found ns)) is
          ∙ ap (λ x. Some (told_rows x)) (same_name n is)
      go true other false is zero there rest =
          let same : n ≡ pair = cc in
          absurd (false≢true (sym is ∙ ap (λ (x : List ℕ × Node). equal x.0 pair.0) same ∙ name_itself pair.0))
      go true other false is (suc i) there rest = ap (λ b. cond b (Some (told_rows (named n))) (found ns)) is ∙ rest i there
      go false other true is i there rest = absurd (false≢true (sym other ∙ ap (is_other tip) (same_name n is) ∙ changed))
      go false other false is zero there rest =
          let same : n ≡ pair = cc in
          absurd (false≢true (sym is ∙ ap (λ (x : List ℕ × Node). equal x.0 pair.0) same ∙ name_itself pair.0))
      go false other false is (suc i) there rest = rest i there

  -- what is listed of a node is what is told of it
  pub listed_some : (q : ℕ) → slice_get new.nodes q ≡ Some pair → is_other tip (named pair) ≡ true
      → listed_for (rows_told tip new) pair.0 ≡ Some (told_commands_in new pair.0)
  listed_some q at changed = ap (option_map (λ (n : NodeRows). map (λ (r : CommandRow). (r.command, r.executions)) n.rows)) (found_some new.nodes q at changed)
      ∙ ap (λ rs. Some rs) (rows_back (told_commands_in new pair.0))

  pub listed_none : is_other tip (named pair) ≡ false → listed_for (rows_told tip new) pair.0 ≡ None
  listed_none kept = ap (option_map (λ (n : NodeRows). map (λ (r : CommandRow). (r.command, r.executions)) n.rows)) (found_none new.nodes kept)

-- Rows that give commands executions.
use Rattle.std.proofs.Common.{◌≡◌, ℕ, zero, suc, Bool, true, false, cond, List, [], ◌∷◌, map, Option, Some, None, refl, ap, sym, subst, ◌∙◌}
use Rattle.std.specs.Prelude.{find, slice_get, ◌==◌, ◌&&◌, ◌||◌, if◌then◌else◌}
use Rattle.std.specs.Option.{option_or, option_map_or}
use Rattle.std.specs.List.{list_any}
use Rattle.std.proofs.lemmas.Bool.{eqb-true, or_parts, and_parts, false≢true}
use Rattle.text_words.specs.Members.{has}
use Rattle.doc_nodes.specs.declared.node.Entry.{Entry}
use Rattle.doc_nodes.specs.declared.node.Node.{Node}
use Rattle.doc_nodes.specs.Imports.{NodeList}
use Rattle.core_rules.specs.Updates.{AllDiffer}
use Rattle.reply_messages.specs.declared.told.CommandRow.{CommandRow}
use Rattle.mirror_rules.specs.Rows.{executions_of}
use Rattle.pide_mirror.specs.Kept.{told_rows}
use Rattle.pide_mirror.specs.Renewed.{gives, is_stale, stale_of, stale_in, fresh_in, fresh_of, fresh_all}
use Rattle.pide_mirror.specs.declared.place.Place.{Place}
use Rattle.pide_mirror.specs.declared.renewing.NewRows.{NewRows}
use Rattle.text_words.proofs.KnownLists.{differ_turned}

abbrev pub row_ids : List CommandRow → List ℕ
row_ids rows = map (λ row. row.command) rows

abbrev pub any_gives : List CommandRow → ℕ → ℕ → Bool
any_gives rows exec c = list_any (λ row. gives row exec c) rows

none_gives : (rows : List CommandRow) (exec c : ℕ) → has (row_ids rows) c ≡ false → any_gives rows exec c ≡ false
none_gives [] exec c out = refl
none_gives (row ∷ rows) exec c out =
    let parts = or_parts (c == row.command) (has (row_ids rows) c) out in
    ap (λ b. (b && has row.executions exec) || any_gives rows exec c) (differ_turned c row.command parts.0) ∙ none_gives rows exec c parts.1

or_no : (b : Bool) → (b || false) ≡ b
or_no true = refl
or_no false = refl

-- a command has what its row gives it
pub gives_has : (rows : List CommandRow) (exec c : ℕ) → AllDiffer (row_ids rows) → any_gives rows exec c ≡ has (executions_of (told_rows rows) c) exec
gives_has [] exec c differ = refl
gives_has (row ∷ rows) exec c differ = go (row.command == c) refl (gives_has rows exec c differ.1)
  where
    go : (b : Bool) → (row.command == c) ≡ b → any_gives rows exec c ≡ has (executions_of (told_rows rows) c) exec
        → ((b && has row.executions exec) || any_gives rows exec c)
        ≡ has (option_map_or (λ (r : ℕ × List ℕ). r.1) (cond b (Some (row.command, row.executions)) (find (λ r. r.0 == c) (told_rows rows))) []) exec
    go true same rest =
        let out : has (row_ids rows) c ≡ false = ap (has (row_ids rows)) (sym (eqb-true row.command c same)) ∙ differ.0 in
        ap (λ b. has row.executions exec || b) (none_gives rows exec c out) ∙ or_no (has row.executions exec)
    go false other rest = rest

-- an entry stands where a row of its command does
pub entry_there : (es : List Entry) (rows : List CommandRow) (i : ℕ) (row : CommandRow) → map (λ r. r.0) (told_rows rows) ≡ map (λ e. e.command) es
    → slice_get rows i ≡ Some row → (e : Entry) × (slice_get es i ≡ Some e) × (e.command ≡ row.command)
entry_there es [] i row same at = absurd (cc)
entry_there [] (r ∷ rows) i row same at = absurd (cc)
entry_there (e ∷ es) (r ∷ rows) zero row same at =
    let one : r ≡ row = cc in
    let both : r.command ≡ e.command = cc in
    (e, refl, sym both ∙ ap (λ (x : CommandRow). x.command) one)
entry_there (e ∷ es) (r ∷ rows) (suc i) row same at =
    let rest : map (λ r. r.0) (told_rows rows) ≡ map (λ e. e.command) es = cc in
    entry_there es rows i row rest at

-- rows whose commands are those of entries that differ do so too
pub rows_differ : (es : List Entry) (rows : List CommandRow) → map (λ r. r.0) (told_rows rows) ≡ map (λ e. e.command) es
    → AllDiffer (map (λ e. e.command) es) → AllDiffer (row_ids rows)
rows_differ es rows same differ = subst AllDiffer (sym same ∙ told_ids rows) differ
  where
    told_ids : (rs : List CommandRow) → map (λ r. r.0) (told_rows rs) ≡ row_ids rs
    told_ids [] = refl
    told_ids (r ∷ rs) = ap (λ ids. r.command ∷ ids) (told_ids rs)

module _ (exec c : ℕ) where
  pub all_from : (nodes : NodeList) (made : List NewRows) (place : Place) → fresh_all nodes made exec c ≡ Some place
      → (p : ℕ) × (n : List ℕ × Node) × (new : NewRows) × (slice_get nodes p ≡ Some n) × (slice_get made p ≡ Some new) × (fresh_in n.1.text n.1.entries new.rows exec c ≡ Some place)
  all_from [] made place is = absurd (cc)
  all_from (n ∷ ns) [] place is = absurd (cc)
  all_from (n ∷ ns) (new ∷ made) place is = go new.stays (fresh_in n.1.text n.1.entries new.rows exec c) refl is (all_from ns made place)
    where
      go : (b : Bool) (o : Option Place) → fresh_in n.1.text n.1.entries new.rows exec c ≡ o → option_or (if b then None else o) (fresh_all ns made exec c) ≡ Some place
          → (fresh_all ns made exec c ≡ Some place → (p : ℕ) × (m : List ℕ × Node) × (r : NewRows) × (slice_get ns p ≡ Some m) × (slice_get made p ≡ Some r) × (fresh_in m.1.text m.1.entries r.rows exec c ≡ Some place))
          → (p : ℕ) × (m : List ℕ × Node) × (r : NewRows) × (slice_get (n ∷ ns) p ≡ Some m) × (slice_get (new ∷ made) p ≡ Some r) × (fresh_in m.1.text m.1.entries r.rows exec c ≡ Some place)
      go true o is at more = let rest = more at in (suc rest.0, rest.1, rest.2, rest.3, rest.4, rest.5)
      go false None is at more = let rest = more at in (suc rest.0, rest.1, rest.2, rest.3, rest.4, rest.5)
      go false (Some x) is at more = (zero, n, new, refl, refl, is ∙ at)

  pub all_there : (nodes : NodeList) (made : List NewRows) (p : ℕ) (n : List ℕ × Node) (new : NewRows) (place : Place) → slice_get nodes p ≡ Some n → slice_get made p ≡ Some new
      → new.stays ≡ false → fresh_in n.1.text n.1.entries new.rows exec c ≡ Some place → (found : Place) × (fresh_all nodes made exec c ≡ Some found)
  all_there [] made p n new place nt mt out is = absurd (cc)
  all_there (m ∷ ns) [] p n new place nt mt out is = absurd (cc)
  all_there (m ∷ ns) (r ∷ made) zero n new place nt mt out is =
      let same : m ≡ n = cc in
      let also : r ≡ new = cc in (
        place,
        ap (λ (x : List ℕ × Node). option_or (fresh_of x.1 r exec c) (fresh_all ns made exec c)) same
            ∙ ap (λ (x : NewRows). option_or (fresh_of n.1 x exec c) (fresh_all ns made exec c)) also
            ∙ ap (λ b. option_or (if b then None else fresh_in n.1.text n.1.entries new.rows exec c) (fresh_all ns made exec c)) out
            ∙ ap (λ o. option_or o (fresh_all ns made exec c)) is,
      )
  all_there (m ∷ ns) (r ∷ made) (suc p) n new place nt mt out is = go (fresh_of m.1 r exec c) (all_there ns made p n new place nt mt out is)
    where
      go : (o : Option Place) → (found : Place) × (fresh_all ns made exec c ≡ Some found) → (found : Place) × (option_or o (fresh_all ns made exec c) ≡ Some found)
      go None rest = rest
      go (Some x) rest = (x, refl)

  module _ (new : List ℕ → Option NewRows) where
    pub stale_from : (nodes : NodeList) (all : List (List CommandRow)) → stale_in new nodes all exec c ≡ true
        → (q : ℕ) × (n : List ℕ × Node) × (rows : List CommandRow) × (slice_get nodes q ≡ Some n) × (slice_get all q ≡ Some rows) × (stale_of rows (new n.0) exec c ≡ true)
    stale_from [] all is = absurd (false≢true is)
    stale_from (n ∷ ns) [] is = absurd (false≢true is)
    stale_from (n ∷ ns) (rows ∷ all) is = go (stale_of rows (new n.0) exec c) refl is (stale_from ns all)
      where
        go : (b : Bool) → stale_of rows (new n.0) exec c ≡ b → (b || stale_in new ns all exec c) ≡ true
            → (stale_in new ns all exec c ≡ true → (q : ℕ) × (m : List ℕ × Node) × (rs : List CommandRow) × (slice_get ns q ≡ Some m) × (slice_get all q ≡ Some rs) × (stale_of rs (new m.0) exec c ≡ true))
            → (q : ℕ) × (m : List ℕ × Node) × (rs : List CommandRow) × (slice_get (n ∷ ns) q ≡ Some m) × (slice_get (rows ∷ all) q ≡ Some rs) × (stale_of rs (new m.0) exec c ≡ true)
        go true stale at more = (zero, n, rows, refl, refl, stale)
        go false kept at more = let rest = more at in (suc rest.0, rest.1, rest.2, rest.3, rest.4, rest.5)

    pub stale_at : (nodes : NodeList) (all : List (List CommandRow)) (q : ℕ) (n : List ℕ × Node) (rows : List CommandRow) → slice_get nodes q ≡ Some n → slice_get all q ≡ Some rows
        → stale_in new nodes all exec c ≡ false → stale_of rows (new n.0) exec c ≡ false
    stale_at [] all q n rows nt rt is = absurd (cc)
    stale_at (m ∷ ns) [] q n rows nt rt is = absurd (cc)
    stale_at (m ∷ ns) (r ∷ all) zero n rows nt rt is =
        let same : m ≡ n = cc in
        let also : r ≡ rows = cc in
        sym (ap (λ (x : List ℕ × Node). stale_of r (new x.0) exec c) same ∙ ap (λ x. stale_of x (new n.0) exec c) also) ∙ (or_parts _ _ is).0
    stale_at (m ∷ ns) (r ∷ all) (suc q) n rows nt rt is = stale_at ns all q n rows nt rt (or_parts (stale_of r (new m.0) exec c) _ is).1

-- what is stale is given
pub stale_gives : (rows : List CommandRow) (new : Option NewRows) (exec c : ℕ) → stale_of rows new exec c ≡ true → any_gives rows exec c ≡ true
stale_gives rows None exec c is = (and_parts _ _ is).0
stale_gives rows (Some new) exec c is = go new.stays is
  where
    go : (b : Bool) → (if b then false else is_stale rows (executions_of (told_rows new.rows)) exec c) ≡ true → any_gives rows exec c ≡ true
    go true at = absurd (false≢true at)
    go false at = (and_parts _ _ at).0

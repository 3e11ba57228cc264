-- What is found in nodes, rows and tables.
use Rattle.std.proofs.Common.{◌≡◌, ℕ, zero, suc, Bool, true, false, cond, List, [], ◌∷◌, map, Option, Some, None, refl, ap, sym, subst, ◌∙◌}
use Rattle.std.proofs.lemmas.Bool.{eqb-true, false≢true, and_parts}
use Rattle.std.specs.Prelude.{find, slice_get, ◌==◌}
use Rattle.std.specs.Option.{option_map, option_map_or}
use Rattle.std.specs.Ordering.{is_eq}
use Rattle.std.specs.List.{AllByRecursion}
use Rattle.text_words.specs.Members.{has}
use Rattle.shared_map.specs.Pairs.{IsSorted, has_key, found}
use Rattle.text_words.proofs.KnownLists.{found_passes}
use Rattle.text_words.proofs.KnownFinds.{find_all}
use Rattle.pide_base.specs.declared.part.Part.{Part}
use Rattle.pide_base.specs.declared.part.PartKind.{PartKind}
use Rattle.doc_nodes.specs.declared.node.Entry.{Entry}
use Rattle.doc_nodes.specs.declared.node.Node.{Node}
use Rattle.doc_nodes.specs.Names.{in_order}
use Rattle.doc_nodes.specs.Imports.{NodeList}
use Rattle.doc_nodes.proofs.KnownNames.{name_itself}
use Rattle.doc_nodes.proofs.KnownPlaces.{each_at}
use Rattle.exec_rules.specs.Listed.{Told}
use Rattle.core_rules.specs.Parts.{same_part}
use Rattle.mirror_rules.specs.Images.{FinishedPart, Image}
use Rattle.mirror_rules.specs.Parts.{is_at, reports_at}
use Rattle.mirror_rules.specs.Rows.{executions_of, rows_by}
use Rattle.pide_mirror.specs.Places.{PlaceTable, IsThere, AreThere}

-- what is said of each node is found by its name
pub found_named : {B : Type 0} (f : List ℕ × Node → B) (nodes : NodeList) (q : ℕ) (pair : List ℕ × Node) → IsSorted in_order nodes
    → slice_get nodes q ≡ Some pair → found in_order pair.0 (map (λ p. (p.0, f p)) nodes) ≡ Some (f pair)
found_named f [] q pair sorted at = absurd (cc)
found_named f (n ∷ ns) zero pair sorted at =
    let same : n ≡ pair = cc in
    subst (λ (x : List ℕ × Node). found in_order x.0 (map (λ p. (p.0, f p)) (n ∷ ns)) ≡ Some (f x)) same
    (ap (λ b. option_map (λ x. x.1) (cond b (Some (n.0, f n)) (find (has_key in_order n.0) (map (λ p. (p.0, f p)) ns)))) (name_itself n.0))
found_named f (n ∷ ns) (suc q) pair sorted at =
    ap (λ o. option_map (λ x. x.1) (cond (is_eq o) (Some (n.0, f n)) (find (has_key in_order pair.0) (map (λ p. (p.0, f p)) ns))))
    (each_at (λ other. in_order n.0 other.0 ≡ _) ns q pair sorted.0 at)
    ∙ found_named f ns q pair sorted.1 at

-- a mapped item comes from an item
pub mapped_at : {A B : Type 0} (f : A → B) (xs : List A) (q : ℕ) (y : B) → slice_get (map f xs) q ≡ Some y
    → (x : A) × (slice_get xs q ≡ Some x) × (y ≡ f x)
mapped_at f [] q y at = absurd (cc)
mapped_at f (x ∷ xs) zero y at = (x, refl, cc)
mapped_at f (x ∷ xs) (suc q) y at = mapped_at f xs q y at

-- what rows by these commands list is a command's
pub row_there : (es : List Entry) (rows : List Told) (c x : ℕ) → has (executions_of (rows_by es rows) c) x ≡ true
    → (i : ℕ) × (e : Entry) × (slice_get es i ≡ Some e) × (e.command ≡ c)
row_there [] rows c x is = absurd (false≢true is)
row_there (e ∷ es) rows c x is = go (e.command == c) refl is (row_there es rows c x)
  where
    go : (b : Bool) → (e.command == c) ≡ b
        → has (option_map_or (λ (row : Told). row.1) (cond b (Some (e.command, executions_of rows e.command)) (find (λ row. row.0 == c) (rows_by es rows))) []) x ≡ true
        → (has (executions_of (rows_by es rows) c) x ≡ true → (i : ℕ) × (d : Entry) × (slice_get es i ≡ Some d) × (d.command ≡ c))
        → (i : ℕ) × (d : Entry) × (slice_get (e ∷ es) i ≡ Some d) × (d.command ≡ c)
    go true same is more = (zero, e, refl, eqb-true e.command c same)
    go false other is more = let rest = more is in (suc rest.0, rest.1, rest.2, rest.3)

-- what isn't there has reported nothing
pub nothing_there : (table : PlaceTable) (im : Image) → AreThere table im → (exec c : ℕ) → table exec c ≡ None
    → (kind : PartKind) → reports_at im c (record { exec = exec; kind = kind }) ≡ None
nothing_there table im all exec c none kind = go (find (is_at c part) im.finished) refl
  where
    part : Part
    part = record { exec = exec; kind = kind }

    go : (o : Option FinishedPart) → find (is_at c part) im.finished ≡ o → option_map (λ (f : FinishedPart). f.reports) o ≡ None
    go None is = refl
    go (Some f) is =
        let both = and_parts (f.command == c) (same_part f.part part) (found_passes (is_at c part) im.finished f is) in
        let own = and_parts (f.part.exec == exec) _ both.1 in
        let there = find_all (is_at c part) (IsThere table) im.finished f all is in
        let e = eqb-true f.command c both.0 in
        let x = eqb-true f.part.exec exec own.0 in
        let at : table exec c ≡ Some there.0 = ap (λ d. table exec d) (sym e) ∙ ap (λ y. table y f.command) (sym x) ∙ there.1 in
        absurd (cc)

-- What holds of the version that an update makes, by laws of assignments and of documents.
use Rattle.std.proofs.Common.{◌≡◌, ◌⊎◌, inl, inr, ℕ, ◌<◌, ◌≤◌, true, false, List, ◌∷◌, length, Option, Some, None, refl, ap, sym, ◌∙◌, arith}
use Rattle.std.proofs.lemmas.Bool.{eq-eqb, eqb-true, or_left, or_right, or_cases}
use Rattle.std.specs.Prelude.{◌==◌, slice_get}
use Rattle.std.specs.Option.{option_map, option_and_then}
use Rattle.text_words.specs.Members.{has}
use Rattle.pide_base.specs.declared.part.Part.{Part}
use Rattle.doc_nodes.specs.Imports.{NodeList, order}
use Rattle.exec_rules.specs.declared.row.Row.{Row}
use Rattle.exec_rules.specs.declared.version.Version.{Version}
use Rattle.exec_rules.specs.Kept.{BlobList}
use Rattle.exec_rules.specs.Assigning.{Update, rows_in, assignment}
use Rattle.exec_rules.specs.Listed.{executions, print_list}
use Rattle.exec_rules.proofs.KnownListed.{in_print}
use Rattle.exec_assign.specs.Numbered.{new_in, with_numbers, AreBelow, IsHeld, AreHeld}
use Rattle.language.specs.Lang.{Lang}
use Rattle.core_rules.specs.declared.event.Event.{Event}
use Rattle.core_rules.specs.declared.event.Event.TheVariants as event
use Rattle.core_rules.specs.Numbered.{grown, next_number}
use Rattle.core_rules.specs.Assigned.{assigns, is_assigned}
use Rattle.core_rules.specs.Standing.{Free, standing}
use Rattle.core_rules.specs.Doc.{Doc, doc, update_of, assignment_of, assigned_version}
use Rattle.core_rules.specs.Legal.{IsLegal}
use Rattle.core_rules.specs.Sources.{HasHome}
use Rattle.core_rules.specs.Placed.{RowOf}
use Rattle.core_rules.proofs.KnownNumbers.{length_grown}
use Rattle.prover_core.proofs.GivenNumbers.{numbers, has_number, new_there}
use Rattle.prover_core.proofs.NewVersion.{NewLaws}

in_print_list : (o : Option ℕ) (e : ℕ) → o ≡ Some e → has (print_list o) e ≡ true
in_print_list o e is = ap (λ x. has (print_list x) e) is ∙ or_left (e == e) false (eq-eqb e e refl)

module _ {S : Type 0} (l : Lang S) (h : List Event) (legal_h : IsLegal l h) (id : ℕ) (nodes : NodeList) (blobs : BlobList)
    (legal : IsLegal l (event.Update id nodes blobs ∷ h))
    (there : (v : Version) (name : List ℕ) (i e : ℕ) (row : Row) → slice_get (rows_in v name) i ≡ Some row
    → has (executions row) e ≡ true → assigns v e ≡ true)
    (within : (e : ℕ) → is_assigned (doc l h).live e ≡ true → e ≤ length (doc l h).homes)
    (tip_live : (e : ℕ) → assigns (doc l h).tip e ≡ true → is_assigned (doc l h).live e ≡ true) where
  abbrev d : Doc
  d = doc l h

  abbrev first : ℕ
  first = next_number d.homes

  abbrev u : Update
  u = update_of d nodes blobs

  abbrev new : Version
  new = assigned_version nodes blobs (assignment_of d nodes blobs)

  -- an older execution is one of the tip's
  was_there : (held : AreHeld first d.tip new) (e : ℕ) → RowOf new e → e ≤ length d.homes → assigns d.tip e ≡ true
  was_there held e r le = go (or_cases (e == r.row.evaluation) (has (print_list r.row.print) e) r.has_it)
    where
      before : Option Row
      before = slice_get (rows_in d.tip r.name) r.place

      so : IsHeld first before r.row
      so = held r.name r.place r.row r.stands

      evaluated : (o : Option Row) → before ≡ o → option_map (λ (x : Row). x.evaluation) o ≡ Some e → assigns d.tip e ≡ true
      evaluated None at is = absurd (cc)
      evaluated (Some x) at is =
          let same : x.evaluation ≡ e = cc in
          there d.tip r.name r.place e x at (or_left (e == x.evaluation) _ (eq-eqb e x.evaluation (sym same)))

      printed : (o : Option Row) → before ≡ o → option_and_then (λ (x : Row). x.print) o ≡ Some e → assigns d.tip e ≡ true
      printed None at is = absurd (cc)
      printed (Some x) at is =
          there d.tip r.name r.place e x at (or_right (e == x.evaluation) (has (print_list x.print) e) (in_print_list x.print e is))

      go : ((e == r.row.evaluation) ≡ true) ⊎ (has (print_list r.row.print) e ≡ true) → assigns d.tip e ≡ true
      go (inl same) =
          let is = eqb-true e r.row.evaluation same in
          evaluated before refl (so.evaluation (omega (arith, is, le)) ∙ ap (λ x. Some x) (sym is))
      go (inr in_it) = printed before refl (so.print e (in_print r.row.print e in_it) (omega (arith, le)))

  below : AreBelow first d.tip
  below name i row at = record {
    evaluation = lower row.evaluation (there d.tip name i row.evaluation row at (or_left (row.evaluation == row.evaluation) _ (eq-eqb row.evaluation row.evaluation refl)));
    print = λ q is. lower q (there d.tip name i q row at (or_right (q == row.evaluation) (has (print_list row.print) q) (in_print_list row.print q is)));
  }
    where
      lower : (e : ℕ) → assigns d.tip e ≡ true → e < first
      lower e is = let le = within e (tip_live e is) in omega (arith, le)

  -- each new one is assigned
  is_given : new_in u first (assignment u first).assigned ≡ with_numbers first (assignment u first).homes
      → (e : ℕ) → length d.homes < e → e ≤ length (grown d.homes (assignment u first).homes) → assigns new e ≡ true
  is_given all e past le = new_there u first e (assignment u first).assigned (order nodes)
      (ap (λ xs. has (numbers xs) e) all
      ∙ has_number first (assignment u first).homes e (omega (arith, past)) (omega (arith, le, length_grown d.homes (assignment u first).homes)))

  pub new_laws : (homes : (e : ℕ) → assigns new e ≡ true → HasHome l (doc l (event.Update id nodes blobs ∷ h)) new e)
      → (unmade : (p : Part) → length d.homes < p.exec → standing h p ≡ Free)
      → (not_again : (e : ℕ) → has d.cancelled e ≡ true → assigns new e ≡ false)
      → (found : (e : ℕ) → assigns new e ≡ true → RowOf new e) → AreHeld first d.tip new
      → (AreBelow first d.tip → new_in u first (assignment u first).assigned ≡ with_numbers first (assignment u first).homes)
      → NewLaws l h id nodes blobs
  new_laws homes unmade not_again found held all = record {
    homes = homes;
    within = within;
    unmade = unmade;
    not_again = not_again;
    kept = λ e is le. was_there held e (found e is) le;
    given = is_given (all below);
  }

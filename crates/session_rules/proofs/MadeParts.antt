-- The update that made an execution of the tip, whose version assigns it.
use Rattle.std.proofs.Common.{◌↔◌, ◌≡◌, ◌⊎◌, ℕ, ◌<◌, ◌≤◌, ◌==◌, Bool, true, false, cond, List, [], ◌∷◌, length, slice_get, Option, Some, None, refl, sym, ap, subst, ◌∙◌, inl, inr, arith}
use Rattle.std.proofs.lemmas.Bool.{cases_lt, eq-eqb, false≢true, or_left, or_right}
use Rattle.std.proofs.lemmas.Option.{same_Some}
use Rattle.text_words.specs.Members.{has}
use Rattle.pide_base.specs.declared.part.Part.{Part}
use Rattle.doc_nodes.specs.declared.node.Node.{Node}
use Rattle.doc_nodes.specs.Imports.{NodeList}
use Rattle.exec_rules.specs.declared.row.Row.{Row}
use Rattle.exec_rules.specs.declared.version.Version.{Version}
use Rattle.exec_rules.specs.Kept.{BlobList}
use Rattle.exec_rules.specs.Listed.{executions, print_list}
use Rattle.exec_rules.specs.Rows.{live_print}
use Rattle.language.specs.Lang.{Lang}
use Rattle.core_rules.specs.declared.event.Event.{Event}
use Rattle.core_rules.specs.declared.event.Event.TheVariants as event
use Rattle.core_rules.specs.Assigned.{assigns}
use Rattle.core_rules.specs.Doc.{Doc, assignment_of, doc, assigned_version}
use Rattle.core_rules.specs.FromScratch.{assigned_to}
use Rattle.core_rules.specs.Legal.{IsLegal}
use Rattle.core_rules.specs.Placed.{RowOf}
use Rattle.core_rules.specs.Ready.{is_wanted}
use Rattle.core_rules.specs.Standing.{Held, held, is_open, standing}
use Rattle.core_rules.proofs.KnownNamedRows.{row_place, there_row}
use Rattle.core_rules.proofs.KnownPlaces.{place_found}
use Rattle.session_rules.specs.Keeping.{IsNew, KeepsFront, KeepsPrint, front}
use Rattle.session_rules.specs.Reporting.{IsMade, home_version}
use Rattle.session_rules.proofs.Worked.{in_row}

-- what updates keep, what they make, what is in the tip, and who holds what
pub record MadeLaws {S : Type 0} (l : Lang S) : Type 0 where
  pub keeps : (d : Doc) (nodes : NodeList) (blobs : BlobList) (p : ℕ) (pair : List ℕ × Node) → slice_get nodes p ≡ Some pair
      → KeepsFront d (assigned_version nodes blobs (assignment_of d nodes blobs)) p pair
  pub within : (h : List Event) (e : ℕ) → IsLegal l h → assigns (doc l h).tip e ≡ true → e ≤ length (doc l h).homes
  pub tip : (h : List Event) (e : ℕ) → IsLegal l h → is_wanted (doc l h) e ≡ true → is_open l h (doc l h).homes e ≡ true → assigns (doc l h).tip e ≡ true
  pub told : (h : List Event) (who : ℕ) (p : Part) → IsLegal l h → (held h who ≡ Some p) ↔ (standing h p ≡ Held who)

module _ {S : Type 0} (l : Lang S) where
  -- a print that is kept was there before
  kept_print : (d : Doc) (e : ℕ) (o : Option ℕ) → KeepsPrint d (live_print d.cancelled o) (Some e) → IsNew d e ⊎ (o ≡ Some e)
  kept_print d e None new = inl new
  kept_print d e (Some q) keeps = go (has d.cancelled q) keeps
    where
      go : (b : Bool) → KeepsPrint d (cond b None (Some q)) (Some e) → IsNew d e ⊎ (Some q ≡ Some e)
      go true new = inl new
      go false same = inr (ap Some (sym same))

  module _ (keeps : (d : Doc) (nodes : NodeList) (blobs : BlobList) (p : ℕ) (pair : List ℕ × Node) → slice_get nodes p ≡ Some pair
      → KeepsFront d (assigned_version nodes blobs (assignment_of d nodes blobs)) p pair)
      (found : (h : List Event) (e : ℕ) → IsLegal l h → assigns (doc l h).tip e ≡ true → RowOf (doc l h).tip e)
      (within : (h : List Event) (e : ℕ) → IsLegal l h → assigns (doc l h).tip e ≡ true → e ≤ length (doc l h).homes) where
    module _ (d : Doc) (v : Version) (p : ℕ) (pair : List ℕ × Node) (kept : KeepsFront d v p pair) (i e : ℕ) (row : Row) (at : slice_get (assigned_to v p).rows i ≡ Some row)
        (is : has (executions row) e ≡ true) (le : e ≤ length d.homes) where
      had : i < front d v p pair → assigns d.tip e ≡ true
      had lt =
          let k = kept.inside i lt in
          let same : k.row ≡ row = same_Some k.row row (sym k.stands ∙ at) in
          there_row d.tip pair.0 i e k.before k.had (go k.before (sym k.evaluation ∙ ap (λ (r : Row). r.evaluation) same)
          (λ printed. kept_print d e k.before.print (subst (λ o. KeepsPrint d (live_print d.cancelled k.before.print) o) (ap (λ (r : Row). r.print) same ∙ printed) k.print))
          (in_row l row e is))
        where
          go : (before : Row) → before.evaluation ≡ row.evaluation → (row.print ≡ Some e → IsNew d e ⊎ (before.print ≡ Some e))
              → (e ≡ row.evaluation) ⊎ (row.print ≡ Some e) → has (executions before) e ≡ true
          go before same print (inl evaluates) = or_left (e == before.evaluation) (has (print_list before.print) e) (eq-eqb e before.evaluation (evaluates ∙ sym same))
          go before same print (inr printed) = by (print printed)
            where
              by : IsNew d e ⊎ (before.print ≡ Some e) → has (executions before) e ≡ true
              by (inl new) = absurd (omega (arith, new, le))
              by (inr had) = or_right (e == before.evaluation) (has (print_list before.print) e)
                  (ap (λ o. has (print_list o) e) had ∙ or_left (e == e) false (eq-eqb e e refl))

      by_front : (i < front d v p pair) ⊎ (front d v p pair ≤ i) → assigns d.tip e ≡ true
      by_front (inl lt) = had lt
      by_front (inr past) = absurd (omega (arith, kept.behind i past row e at is, le))

    -- what a new tip has of older executions, the tip before had
    older : (h : List Event) (id : ℕ) (nodes : NodeList) (blobs : BlobList) (e : ℕ) → IsLegal l (event.Update id nodes blobs ∷ h)
        → assigns (doc l (event.Update id nodes blobs ∷ h)).tip e ≡ true → e ≤ length (doc l h).homes → assigns (doc l h).tip e ≡ true
    older h id nodes blobs e legal is le =
        let d = doc l h in
        let v = (doc l (event.Update id nodes blobs ∷ h)).tip in
        let r = found (event.Update id nodes blobs ∷ h) e legal is in
        let p = row_place v r.name r.place r.row r.stands in
        let n = place_found nodes r.name p.place p.placed in
        by_front d v p.place n.pair (keeps d nodes blobs p.place n.pair n.stands) r.place e r.row p.at r.has_it le (cases_lt r.place (front d v p.place n.pair))

    abbrev IsMadeThere : List Event → ℕ → Type 0
    IsMadeThere h e = (m : IsMade l h e) × (assigns (home_version l m) e ≡ true)

    since_then : (x : Event) (h : List Event) (e : ℕ) → IsMadeThere h e → IsMadeThere (x ∷ h) e
    since_then x h e m = (
      record {
        since = x ∷ m.0.since;
        id = m.0.id;
        nodes = m.0.nodes;
        blobs = m.0.blobs;
        before = m.0.before;
        happened = ap (λ es. x ∷ es) m.0.happened;
        was_not = m.0.was_not;
        was_then = m.0.was_then;
      },
      m.1,
    )

    -- the update that made an execution of the tip
    pub made_tip : (h : List Event) (e : ℕ) → IsLegal l h → assigns (doc l h).tip e ≡ true → IsMadeThere h e
    made_tip [] e legal is = absurd (false≢true is)
    made_tip (event.Update id nodes blobs ∷ h) e legal is = go (cases_lt (length (doc l h).homes) e) (made_tip h e legal.0)
      where
        go : (length (doc l h).homes < e) ⊎ (e ≤ length (doc l h).homes) → (assigns (doc l h).tip e ≡ true → IsMadeThere h e) → IsMadeThere (event.Update id nodes blobs ∷ h) e
        go (inl new) rest = (
          record {
            since = [];
            id = id;
            nodes = nodes;
            blobs = blobs;
            before = h;
            happened = refl;
            was_not = new;
            was_then = within (event.Update id nodes blobs ∷ h) e legal is;
          },
          is,
        )
        go (inr le) rest = since_then (event.Update id nodes blobs) h e (rest (older h id nodes blobs e legal is le))
    made_tip (event.Cancel x ∷ h) e legal is = since_then (event.Cancel x) h e (made_tip h e legal.0 is)
    made_tip (event.Remove ids ∷ h) e legal is = since_then (event.Remove ids) h e (made_tip h e legal.0 is)
    made_tip (event.Claimed who p ∷ h) e legal is = since_then (event.Claimed who p) h e (made_tip h e legal.0 is)
    made_tip (event.Finished who p ∷ h) e legal is = since_then (event.Finished who p) h e (made_tip h e legal.0 is)
    made_tip (event.Dropped who p ∷ h) e legal is = since_then (event.Dropped who p) h e (made_tip h e legal.0 is)
    made_tip (event.Ended ∷ h) e legal is = since_then event.Ended h e (made_tip h e legal.0 is)

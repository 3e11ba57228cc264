-- One node more in an update.
use Rattle.std.proofs.Common.{◌≡◌, ℕ, suc, ◌<◌, ◌≤◌, ◌⊎◌, inl, inr, true, false, List, [], ◌∷◌, ◌++◌, length, Some, refl, ap, sym, subst, ◌∙◌, arith}
use Rattle.std.proofs.lemmas.Bool.{eqb-true}
use Rattle.std.specs.Prelude.{◌==◌, slice_get}
use Rattle.text_words.specs.Members.{has}
use Rattle.doc_nodes.specs.declared.node.Node.{Node}
use Rattle.doc_nodes.specs.Imports.{NodeList, order}
use Rattle.doc_nodes.specs.Wanted.{wanted_at}
use Rattle.exec_rules.specs.declared.row.Assigned.{Assigned}
use Rattle.exec_rules.specs.declared.home.Home.{Home}
use Rattle.exec_rules.specs.Kept.{BlobList}
use Rattle.exec_rules.specs.Keys.{assigned_at}
use Rattle.exec_rules.specs.Assigning.{Work, Given, extended_work, greater, given}
use Rattle.core_rules.specs.Numbered.{grown}
use Rattle.core_rules.specs.Doc.{Doc}
use Rattle.core_rules.specs.Parts.{lasts_of}
use Rattle.core_rules.specs.FromScratch.{has_open}
use Rattle.core_rules.specs.Updates.{FitsNode}
use Rattle.core_rules.proofs.Tables.{AtMost, AreOlder}
use Rattle.core_rules.proofs.Facts.{Facts}
use Rattle.core_rules.proofs.KnownPlaces.{among_by}
use Rattle.text_words.proofs.KnownMembers.{has_both}
use Rattle.core_rules.proofs.ImportAliases.{Stands}
use Rattle.core_rules.proofs.Sound.{IsSoundTip, stands_on, extends_grown}
use Rattle.core_rules.proofs.KnownKeys.{key_is, key_rests, assigned_other, assigned_newest, other_place, inside_more}
use Rattle.core_rules.proofs.Progress.{IsDone, Progress}
use Rattle.core_rules.proofs.LastWithin.{key_within}
use Rattle.core_rules.proofs.GivenNode.{given_older, given_homed, given_long, given_next}
use Rattle.core_rules.proofs.StepNode.{update, key, kept, inside, stand, before, count_within, shut}
use Rattle.exec_rules.proofs.KnownCounts.{greater_least, greater_most}

grown_both : (xs ys zs : List Home) → grown xs (ys ++ zs) ≡ grown (grown xs ys) zs
grown_both xs [] zs = refl
grown_both xs (y ∷ ys) zs = grown_both (y ∷ xs) ys zs

module _ (facts : Facts) (d : Doc) (tip : IsSoundTip d) (nodes : NodeList) (blobs : BlobList) (w : Work)
    (front rest : List ℕ) (p : ℕ) (pair : List ℕ × Node) (at : slice_get nodes p ≡ Some pair) (fits : FitsNode d pair)
    (split : order nodes ≡ front ++ p ∷ rest) (so : Progress d.homes nodes blobs w front) where
  abbrev old : List Home
  old = grown d.homes w.homes

  abbrev g : Given
  g = given (update facts d tip nodes blobs w front rest p pair at fits split so) p pair
      (key facts d tip nodes blobs w front rest p pair at fits split so) w.next

  abbrev new : List Home
  new = grown old g.homes

  abbrev done : List (ℕ × Assigned)
  done = (p, g.assigned) ∷ w.done

  abbrev n : ℕ
  n = greater (kept facts d tip nodes blobs w front rest p pair at fits split so) (wanted_at nodes p)

  out : has front p ≡ false
  out = (facts.nodes nodes).once front rest p split

  agree : (q : ℕ) → has front q ≡ true → assigned_at w.done q ≡ assigned_at done q
  agree q is = sym (assigned_other w.done g.assigned p q (other_place front p q (p == q) refl out is))

  le : kept facts d tip nodes blobs w front rest p pair at fits split so ≤ n
  le = greater_least _ (wanted_at nodes p)

  lasts : AtMost (length old) (lasts_of (key facts d tip nodes blobs w front rest p pair at fits split so))
  lasts = subst (λ k. AtMost (length old) (lasts_of k)) (sym (key_is nodes w.done pair.1))
      (key_within old nodes blobs (assigned_at w.done) (length old) (omega arith) pair.1
      (stand facts d tip nodes blobs w front rest p pair at fits split so))

  long : length g.assigned.rows ≡ n
  long = given_long old so.older _ pair _ _ n w.next (before facts d tip nodes blobs w front rest p pair at fits split so) le
      (count_within facts d tip nodes blobs w front rest p pair at fits split so) so.next lasts

  here : assigned_at done p ≡ g.assigned
  here = assigned_newest w.done g.assigned p

  new_done : IsDone new nodes blobs (assigned_at done) (front ++ p ∷ []) p pair
  new_done = record {
    sound = record {
      bare = fits.bare;
      stands = subst (Stands new nodes blobs p pair) (sym here) (record {
        homed = given_homed old so.older _ pair _ _ n w.next (before facts d tip nodes blobs w front rest p pair at fits split so)
            le (count_within facts d tip nodes blobs w front rest p pair at fits split so) so.next lasts;
      });
      key = ap (λ (a : Assigned). a.key) here ∙ key_is nodes w.done pair.1
          ∙ key_rests nodes front (assigned_at w.done) (assigned_at done) agree pair.1
          (inside facts d tip nodes blobs w front rest p pair at fits split so);
      closed = λ lt. ap (λ (a : Assigned). has_open a.key) here
          ∙ shut facts d tip nodes blobs w front rest p pair at fits split so
          (subst (λ x. 0 < x) (ap (λ (a : Assigned). length a.rows) here ∙ long) lt);
    };
    covers = subst (λ x. wanted_at nodes p ≤ x) (sym (ap (λ (a : Assigned). length a.rows) here ∙ long))
        (greater_most _ (wanted_at nodes p));
    inside = λ good. inside_more nodes front p pair.1.imports
        (inside facts d tip nodes blobs w front rest p pair at fits split so good);
  }

  old_done : (q : ℕ) (other : List ℕ × Node) → has front q ≡ true → slice_get nodes q ≡ Some other
      → IsDone new nodes blobs (assigned_at done) (front ++ p ∷ []) q other
  old_done q other is there =
      let was = so.each q other is there in
      record {
        sound = record {
          bare = was.sound.bare;
          stands = stands_on old new (extends_grown old g.homes) nodes blobs q other (assigned_at done q)
              (subst (Stands old nodes blobs q other) (agree q is) was.sound.stands);
          key = ap (λ (a : Assigned). a.key) (sym (agree q is)) ∙ was.sound.key
              ∙ key_rests nodes front (assigned_at w.done) (assigned_at done) agree other.1 was.inside;
          closed = subst (λ (a : Assigned). 0 < length a.rows → has_open a.key ≡ false) (agree q is) was.sound.closed;
        };
        covers = subst (λ (a : Assigned). wanted_at nodes q ≤ length a.rows) (agree q is) was.covers;
        inside = λ good. inside_more nodes front p other.1.imports (was.inside good);
      }

  each_done : (q : ℕ) (other : List ℕ × Node) → (has front q ≡ true) ⊎ (q ≡ p) → slice_get nodes q ≡ Some other
      → IsDone new nodes blobs (assigned_at done) (front ++ p ∷ []) q other
  each_done q other (inl is) there = old_done q other is there
  each_done q other (inr e) there =
      let same : pair ≡ other = let h = sym at ∙ ap (slice_get nodes) (sym e) ∙ there in cc in
      subst (λ x. IsDone new nodes blobs (assigned_at done) (front ++ p ∷ []) x other) (sym e)
      (subst (λ x. IsDone new nodes blobs (assigned_at done) (front ++ p ∷ []) p x) same new_done)

  -- what holds of the nodes before holds with the node
  pub step : Progress d.homes nodes blobs (extended_work w p g) (front ++ p ∷ [])
  step =
      let homes : new ≡ grown d.homes (w.homes ++ g.homes) = sym (grown_both d.homes w.homes g.homes) in
      record {
        next = given_next old so.older _ pair _ _ n w.next (before facts d tip nodes blobs w front rest p pair at fits split so)
            le (count_within facts d tip nodes blobs w front rest p pair at fits split so) so.next lasts
            ∙ ap (λ hs. suc (length hs)) homes;
        older = subst AreOlder homes (given_older old so.older _ pair _ _ n w.next
            (before facts d tip nodes blobs w front rest p pair at fits split so) le
            (count_within facts d tip nodes blobs w front rest p pair at fits split so) so.next lasts);
        each = λ q other is there.
            subst (λ hs. IsDone hs nodes blobs (assigned_at done) (front ++ p ∷ []) q other) homes
            (each_done q other (among_by (has front q) (q == p) _ _ (λ e. e) (eqb-true q p)
            (sym (has_both front (p ∷ []) q) ∙ is)) there);
      }

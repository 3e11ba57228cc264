-- From nothing, each node's commands are run in what its executions work on.
use Rattle.std.proofs.Common.{◌≡◌, ℕ, suc, ◌<◌, ◌⊎◌, inl, inr, true, false, cond, List, [], ◌∷◌, ◌++◌, length, find, Some, None, refl, ap, sym, subst, ◌∙◌, arith, append_assoc, append-nil}
use Rattle.std.proofs.lemmas.Bool.{eq-eqb, eqb-true, or_right}
use Rattle.std.proofs.lemmas.Option.{slice_get_within}
use Rattle.std.specs.Prelude.{◌==◌, slice_get}
use Rattle.std.specs.Option.{option_map_or}
use Rattle.text_words.specs.Members.{has}
use Rattle.doc_nodes.specs.declared.node.Node.{Node}
use Rattle.doc_nodes.specs.Imports.{is_bad, order}
use Rattle.doc_nodes.specs.Aliases.{aliases_at}
use Rattle.exec_rules.specs.declared.row.Row.{Row}
use Rattle.exec_rules.specs.declared.home.Home.{Home}
use Rattle.exec_rules.specs.declared.home.Input.TheVariants as input
use Rattle.exec_rules.specs.declared.version.Version.{Version}
use Rattle.exec_rules.proofs.KnownThere.{get_there}
use Rattle.language.specs.Lang.{Lang}
use Rattle.core_rules.specs.Settings.{imports_by, beginning_state}
use Rattle.core_rules.specs.FromScratch.{assigned_to, has_open, head_in}
use Rattle.core_rules.specs.Scratch.{Run, Runs, run_from, begins_at, run_node, run_one, run_all, scratch_at}
use Rattle.core_rules.proofs.Tables.{AreOlder}
use Rattle.core_rules.proofs.HomedRows.{evals}
use Rattle.core_rules.proofs.Facts.{NodeFacts}
use Rattle.core_rules.proofs.KnownPlaces.{among_by}
use Rattle.text_words.proofs.KnownMembers.{has_both, has_itself}
use Rattle.core_rules.proofs.Sound.{IsSound}
use Rattle.core_rules.proofs.KnownKeys.{AreInside, other_place}
use Rattle.core_rules.proofs.SettingsBy.{behind}
use Rattle.core_rules.proofs.RunAgree.{Agree, evals_agree}
use Rattle.core_rules.proofs.ScratchStep.{IsRun, imports_are, bare_begins}

module _ {S : Type 0} (l : Lang S) (homes : List Home) (older : AreOlder homes) (v : Version) (facts : NodeFacts v.nodes)
    (sound : IsSound homes v) where
  -- the nodes at these places are run
  abbrev AreRun : List ℕ → Runs S → Type 0
  AreRun front runs = (q : ℕ) (pair : List ℕ × Node) → has front q ≡ true → slice_get v.nodes q ≡ Some pair
      → IsRun l homes older v.blobs (assigned_to v) runs q pair

  module _ (front rest : List ℕ) (p : ℕ) (runs : Runs S) (split : order v.nodes ≡ front ++ p ∷ rest) (so : AreRun front runs)
      (pair : List ℕ × Node) (at : slice_get v.nodes p ≡ Some pair) where
    abbrev begins : S
    begins = begins_at l v.nodes runs p pair

    abbrev more : Runs S
    more = (p, run_node l pair.1 v.blobs begins) ∷ runs

    inside : find (is_bad v.nodes) pair.1.imports ≡ None → AreInside v.nodes front pair.1.imports
    inside good = facts.behind front rest p pair split at ((facts.ordered p pair at).1 good)

    begins_so : 0 < length (assigned_to v p).rows
        → beginning_state l (behind l homes) (head_in v.nodes p pair (assigned_to v p).key) ≡
        begins
    begins_so lt =
        let here = sound.each p pair at in
        let shut = here.closed lt in
        ap (λ k. l.start pair.0 (imports_by l (behind l homes) pair.1.imports k) (aliases_at v.nodes p)) here.key
        ∙ ap (λ i. l.start pair.0 i (aliases_at v.nodes p))
        (sym (imports_are l homes older v.nodes v.blobs (assigned_to v) runs front so pair.1.imports
        (find (is_bad v.nodes) pair.1.imports) inside (subst (λ k. has_open k ≡ false) here.key shut)))

    agree_by : (rows : List Row) → (assigned_to v p).rows ≡ rows
        → Agree l homes older pair.1 v.blobs (evals (assigned_to v p).rows) (run_from l pair.1 v.blobs pair.1.entries begins)
    agree_by [] e = subst (λ rs. Agree l homes older pair.1 v.blobs (evals rs) (run_from l pair.1 v.blobs pair.1.entries begins))
        (sym e) tt
    agree_by (r ∷ rs) e =
        let here = sound.each p pair at in
        let long : length (assigned_to v p).rows ≡ suc (length rs) = ap length e in
        evals_agree l homes older pair.1 v.blobs pair.1.entries (evals (assigned_to v p).rows)
        (input.First (head_in v.nodes p pair (assigned_to v p).key)) begins here.stands.homed.evaluate
        (ap (λ s. Some s) (begins_so (omega (arith, long))))

    run_new : IsRun l homes older v.blobs (assigned_to v) more p pair
    run_new = record {
      run = run_node l pair.1 v.blobs begins;
      found = ap (λ b. cond b (Some (p, run_node l pair.1 v.blobs begins)) (find (λ one. one.0 == p) runs)) (eq-eqb p p refl);
      commands = refl;
      agree = agree_by (assigned_to v p).rows refl;
      bare = λ none. bare_begins l homes older v.nodes v.blobs (assigned_to v) runs facts p pair at (sound.each p pair at).bare none;
    }

    run_old : (q : ℕ) (other : List ℕ × Node) → has front q ≡ true → slice_get v.nodes q ≡ Some other
        → IsRun l homes older v.blobs (assigned_to v) more q other
    run_old q other is there =
        let was = so q other is there in
        record {
          run = was.run;
          found = ap (λ b. cond b (Some (p, run_node l pair.1 v.blobs begins)) (find (λ one. one.0 == q) runs))
              (other_place front p q (p == q) refl (facts.once front rest p split) is) ∙ was.found;
          commands = was.commands;
          agree = was.agree;
          bare = was.bare;
        }

    run_each : (q : ℕ) (other : List ℕ × Node) → (has front q ≡ true) ⊎ (q ≡ p) → slice_get v.nodes q ≡ Some other
        → IsRun l homes older v.blobs (assigned_to v) more q other
    run_each q other (inl is) there = run_old q other is there
    run_each q other (inr e) there =
        let same : pair ≡ other = let h = sym at ∙ ap (slice_get v.nodes) (sym e) ∙ there in cc in
        subst (λ x. IsRun l homes older v.blobs (assigned_to v) more x other) (sym e)
        (subst (λ x. IsRun l homes older v.blobs (assigned_to v) more p x) same run_new)

    run_step : AreRun (front ++ p ∷ []) more
    run_step q other is there = run_each q other
        (among_by (has front q) (q == p) _ _ (λ e. e) (eqb-true q p) (sym (has_both front (p ∷ []) q) ∙ is)) there

  one : (front rest : List ℕ) (p : ℕ) (runs : Runs S) → order v.nodes ≡ front ++ p ∷ rest → AreRun front runs
      → AreRun (front ++ p ∷ []) (run_one l v.nodes v.blobs runs p)
  one front rest p runs split so =
      let there : has (order v.nodes) p ≡ true =
      ap (λ ps. has ps p) split ∙ has_both front (p ∷ rest) p ∙ or_right (has front p) (has (p ∷ rest) p) (has_itself rest p) in
      let found = get_there v.nodes p ((facts.every p).0 there) in
      subst (AreRun (front ++ p ∷ []))
      (sym (ap (λ o. option_map_or
      (λ (pair : List ℕ × Node). (p, run_node l pair.1 v.blobs (begins_at l v.nodes runs p pair)) ∷ runs) o runs) found.1))
      (run_step front rest p runs split so found.0 found.1)

  all : (ps front : List ℕ) (runs : Runs S) → order v.nodes ≡ front ++ ps → AreRun front runs
      → AreRun (order v.nodes) (run_all l v.nodes v.blobs ps runs)
  all [] front runs split so = subst (λ f. AreRun f runs) (sym (split ∙ append-nil front)) so
  all (p ∷ ps) front runs split so = all ps (front ++ p ∷ []) (run_one l v.nodes v.blobs runs p)
      (split ∙ sym (append_assoc front (p ∷ []) ps)) (one front ps p runs split so)

  -- each node's executions work on what its commands are run in
  pub scratch_agrees : (p : ℕ) (pair : List ℕ × Node) → slice_get v.nodes p ≡ Some pair
      → Agree l homes older pair.1 v.blobs (evals (assigned_to v p).rows) (scratch_at l v.nodes v.blobs p)
  scratch_agrees p pair at =
      let done = all (order v.nodes) [] [] refl (λ q other is there. absurd (cc)) p pair
      ((facts.every p).1 (slice_get_within v.nodes p pair at)) at in
      subst (Agree l homes older pair.1 v.blobs (evals (assigned_to v p).rows))
      (sym (ap (λ o. option_map_or (λ (one : ℕ × Run S). one.1.commands) o []) done.found)) done.agree

-- Commands one after the other.
use Rattle.std.proofs.Common.{◌≡◌, ℕ, Bool, true, false, if◌then◌else◌, List, [], ◌∷◌, ◌++◌, map, Option, Some, None, Ok, Err, refl, sym, ◌∙◌, ap, subst}
use Rattle.std.specs.Prelude.{flat_map}
use Rattle.std.specs.List.{cons_option}
use Rattle.std.specs.Option.{option_map_or}
use Rattle.nj_formula.specs.declared.formula.Formula.{Formula}
use Rattle.nj_formula.specs.Meaning.{meaning}
use Rattle.nj_formula.specs.Statement.{Statement}
use Rattle.nj_kernel.specs.Sets.{members}
use Rattle.proof_state.proofs.KnownSets.{in_left, in_right}
use Rattle.outer_syntax.specs.declared.token.Token.{Token}
use Rattle.doc_nodes.specs.declared.node.Entry.{Entry}
use Rattle.doc_nodes.specs.declared.node.Node.{Node}
use Rattle.exec_rules.specs.Kept.{BlobList}
use Rattle.report_markup.specs.declared.report.Report.{Report}
use Rattle.doc_nodes.specs.Needs.{AliasList, source_tokens}
use Rattle.core_rules.specs.Settings.{Setting, state_behind}
use Rattle.core_rules.specs.Scratch.{set_in, run_from, state_after}
use Rattle.isar_rules.specs.declared.state.State.{State}
use Rattle.isar_rules.specs.Effects.{Effect}
use Rattle.isar_rules.specs.Errors.{Tried}
use Rattle.isar_rules.specs.Forks.{fork}
use Rattle.isar_rules.specs.Isar.{isar}
use Rattle.isar_rules.specs.Kept.{error_at, errors_in}
use Rattle.isar_rules.specs.Steps.{aliases_at, tried, made_effect}
use Rattle.soundness_laws.specs.Axioms.{stated_by, shape_in, axioms_of, IsAxiomOf}
use Rattle.soundness_laws.specs.Clean.{IsClean, AreClean}
use Rattle.soundness_laws.proofs.Places.{IsSound}
use Rattle.soundness_laws.proofs.Judged.{Laws}
use Rattle.soundness_laws.proofs.Stepping.{ForkIsClean, made_sound, tried_sound}

errors_behind : (rs more : List Report) → errors_in (rs ++ more) ≡ [] → errors_in more ≡ []
errors_behind [] more e = e
errors_behind (r ∷ rs) more e = go (errors_behind rs more) (error_at r.kind r.text) e
  where
    go : (errors_in (rs ++ more) ≡ [] → errors_in more ≡ []) → (o : Option (List ℕ)) → cons_option o (errors_in (rs ++ more)) ≡ [] → errors_in more ≡ []
    go rest None e = rest e
    go rest (Some text) e = cc

map_both : (fs gs : List Formula) → map meaning (fs ++ gs) ≡ map meaning fs ++ map meaning gs
map_both [] gs = refl
map_both (f ∷ fs) gs = ap (λ s. meaning f ∷ s) (map_both fs gs)

first_axioms : (s : Setting State) (more : List (Setting State)) (g : Statement) → members (map meaning (axioms_of s)) g → IsAxiomOf (s ∷ more) g
first_axioms s more g m = subst (λ l. members l g) (sym (map_both (axioms_of s) (flat_map axioms_of more))) (in_left _ _ g m)

later_axioms : (s : Setting State) (more : List (Setting State)) (g : Statement) → IsAxiomOf more g → IsAxiomOf (s ∷ more) g
later_axioms s more g m =
    subst (λ l. members l g) (sym (map_both (axioms_of s) (flat_map axioms_of more))) (in_right (map meaning (axioms_of s)) _ g m)

module _ (laws : Laws) (P : Statement → Type 0) where
  step_sound : (s : Setting State) → IsSound P s.state.place → IsClean s → ((g : Statement) → members (map meaning (axioms_of s)) g → P g)
      → IsSound P (state_behind isar s).place
  step_sound s sound clean says =
      made_sound laws P s.source tokens s.blob s.state act sound
      (tried_sound laws P s.source tokens s.blob s.state.place (shape_in s) sound
      (λ shape e g m. says g (subst (λ o. members (map meaning (option_map_or (stated_by s.blob) o [])) g) (sym e) m))
      (forks act (errors_behind (made_effect s.source tokens s.state act).reports _ clean)))
    where
      aliases : AliasList
      aliases = aliases_at s.state.place s.state.aliases

      tokens : List Token
      tokens = source_tokens aliases s.source

      act : Tried Effect
      act = tried s.blob s.state.place (shape_in s)

      forks : (t : Tried Effect) → errors_in (if (made_effect s.source tokens s.state t).forks then fork s.source s.state else []) ≡ []
          → ForkIsClean laws P s.source tokens s.blob s.state.place t
      forks (Ok e) clean other is on = by_forks e.forks (ap forks_of is ∙ on) clean
        where
          forks_of : Tried Effect → Bool
          forks_of (Ok e) = e.forks
          forks_of (Err text) = false

          by_forks : (b : Bool) → b ≡ true → errors_in (if b then fork s.source s.state else []) ≡ [] → errors_in (fork s.source s.state) ≡ []
          by_forks true on clean = clean
          by_forks false on clean = cc
      forks (Err text) clean other is on = cc

  -- the commands of a node
  pub run_sound : (node : Node) (blobs : BlobList) (entries : List Entry) (state : State) → IsSound P state.place
      → AreClean (run_from isar node blobs entries state)
      → ((g : Statement) → IsAxiomOf (run_from isar node blobs entries state) g → P g)
      → IsSound P (state_after isar state (run_from isar node blobs entries state)).place
  run_sound node blobs [] state sound clean says = sound
  run_sound node blobs (e ∷ es) state sound clean says =
      let s = set_in node blobs e state in
      let more = run_from isar node blobs es (state_behind isar s) in
      run_sound node blobs es (state_behind isar s)
      (step_sound s sound clean.0 (λ g m. says g (first_axioms s more g m))) clean.1 (λ g m. says g (later_axioms s more g m))

-- The runs of a document's nodes: each once, at its place.
-- state.
use Rattle.std.proofs.Common.{◌≡◌, ◌↔◌, ◌⊎◌, ℕ, ◌<◌, ◌==◌, Bool, true, false, cond, List, [], ◌∷◌, ◌++◌, length, find, slice_get, Contains, Option, Some, None, refl, sym, ap, subst, ◌∙◌, inl, inr, arith, append_assoc}
use Rattle.std.specs.List.{AllByRecursion, list_all}
use Rattle.std.specs.Option.{option_map_or}
use Rattle.std.proofs.lemmas.Bool.{eq-eqb, eqb-true, or_cases, false≢true}
use Rattle.std.proofs.lemmas.Option.{none-some, same_Some}
use Rattle.text_words.specs.Members.{has}
use Rattle.doc_nodes.specs.Rounds.{is_known}
use Rattle.text_words.proofs.KnownMembers.{has_left}
use Rattle.nj_formula.specs.declared.formula.Formula.{Formula}
use Rattle.theory_ctx.specs.declared.fact_name.FactName.{FactName}
use Rattle.doc_nodes.specs.declared.node.Node.{Node}
use Rattle.doc_nodes.specs.Imports.{NodeList, place_of, is_ordered, order, placed_node}
use Rattle.exec_rules.specs.Kept.{BlobList}
use Rattle.core_rules.specs.Scratch.{Run, Runs, final, begins_at, run_node, run_one, run_all, scratch, scratch_at}
use Rattle.core_rules.proofs.KnownPlaces.{place_found}
use Rattle.isar_rules.specs.declared.state.Given.{Given}
use Rattle.isar_rules.specs.declared.state.Place.TheVariants as place
use Rattle.isar_rules.specs.declared.state.State.{State}
use Rattle.isar_rules.specs.Isar.{isar}
use Rattle.soundness_laws.specs.Clean.{AreClean}
use Rattle.soundness_laws.specs.Imports.{Needs, itself, imports, AreCleanFrom}
use Rattle.soundness_laws.specs.Stated.{facts_stated}
use Rattle.soundness_laws.specs.Theories.{IsStatedIn}
use Rattle.soundness_laws.proofs.Owned.{HasJust}
use Rattle.soundness_laws.proofs.Stating.{ComesTo, node_ends, stating_commands}

abbrev pub One : Type 0
One = ℕ × Run State

-- what the order of imports keeps
pub record Order (nodes : NodeList) : Type 0 where
  pub every : (p : ℕ) → (has (order nodes) p ≡ true) ↔ (p < length nodes)
  pub once : (front rest : List ℕ) (p : ℕ) → order nodes ≡ front ++ p ∷ rest → has front p ≡ false
  pub behind : (front rest : List ℕ) (p : ℕ) (pair : List ℕ × Node) → order nodes ≡ front ++ p ∷ rest → slice_get nodes p ≡ Some pair
      → is_ordered nodes p ≡ true → list_all (λ name. is_known front (place_of nodes name)) pair.1.imports ≡ true
  pub ordered : (p : ℕ) (pair : List ℕ × Node) → slice_get nodes p ≡ Some pair → (is_ordered nodes p ≡ true) ↔ ((placed_node nodes pair).bad ≡ None)

-- what is found at a place is there
pub found_one : (P : One → Type 0) (q : ℕ) (runs : Runs State) (one : One) → AllByRecursion P runs → find (λ o. o.0 == q) runs ≡ Some one → (one.0 ≡ q) × P one
found_one P q [] one all e = absurd (none-some one e)
found_one P q (first ∷ runs) one all e = go (first.0 == q) refl e (found_one P q runs one all.1)
  where
    go : (b : Bool) → (first.0 == q) ≡ b → cond b (Some first) (find (λ o. o.0 == q) runs) ≡ Some one
        → (find (λ o. o.0 == q) runs ≡ Some one → (one.0 ≡ q) × P one) → (one.0 ≡ q) × P one
    go true is e rest = subst (λ o. (o.0 ≡ q) × P o) (same_Some first one e) (eqb-true first.0 q is, all.0)
    go false is e rest = rest e

module _ (nodes : NodeList) (blobs : BlobList) (laws : Order nodes) where
  abbrev pub all : Runs State
  all = scratch isar nodes blobs

  -- a node was run from a state at its beginning
  pub record IsRun (one : One) : Type 0 where
    pub pair : List ℕ × Node
    pub stands : slice_get nodes one.0 ≡ Some pair
    pub begins : State
    pub given : Given
    pub keyword : Option (List ℕ)
    pub starts : begins.place ≡ place.Start pair.0 given keyword
    pub run : one.1 ≡ run_node isar pair.1 blobs begins

  -- each of these nodes was run, and where it and its imports report no error, has just their facts
  pub record IsDone (one : One) : Type 0 where
    pub run : IsRun one
    pub good : AreCleanFrom nodes blobs one.0 → 0 < length one.1.commands → HasJust nodes blobs one

  -- one after the other
  pub record AreDone (front : List ℕ) (runs : Runs State) : Type 0 where
    pub each : AllByRecursion IsDone runs
    pub there : (q : ℕ) → has front q ≡ true → (one : One) × (find (λ o. o.0 == q) runs ≡ Some one)

  -- what is found at a place that is done stays
  pub stays : (q : ℕ) (ps front : List ℕ) (runs : Runs State) → order nodes ≡ front ++ ps → has front q ≡ true
      → find (λ o. o.0 == q) (run_all isar nodes blobs ps runs) ≡ find (λ o. o.0 == q) runs
  stays q [] front runs split inside = refl
  stays q (p ∷ ps) front runs split inside =
      stays q ps (front ++ p ∷ []) (run_one isar nodes blobs runs p) (split ∙ sym (append_assoc front (p ∷ []) ps)) (has_left front (p ∷ []) q inside)
      ∙ one (slice_get nodes p)
    where
      other : (b : Bool) → (p == q) ≡ b → b ≡ false
      other true e = absurd (false≢true (sym (laws.once front ps p split) ∙ ap (has front) (eqb-true p q e) ∙ inside))
      other false e = refl

      one : (o : Option (List ℕ × Node))
          → find (λ (x : One). x.0 == q) (option_map_or (λ pair. (p, run_node isar pair.1 blobs (begins_at isar nodes runs p pair)) ∷ runs) o runs) ≡ find (λ (x : One). x.0 == q) runs
      one None = refl
      one (Some pair) = ap (λ b. cond b (Some (p, run_node isar pair.1 blobs (begins_at isar nodes runs p pair))) (find (λ (x : One). x.0 == q) runs)) (other (p == q) refl)

  -- a name of a needed node, where the first has one
  pub named_end : (q r : ℕ) → Needs nodes q r → (name : List ℕ) → place_of nodes name ≡ Some q → (n : List ℕ) × (place_of nodes n ≡ Some r)
  named_end q r itself name e = (name, e)
  named_end q r (imports pair n at listed place more) name e = named_end _ r more n place

  -- so its name is that of its place alone
  pub place_is : (r : ℕ) (pair : List ℕ × Node) (name : List ℕ) → place_of nodes name ≡ Some r → slice_get nodes r ≡ Some pair → place_of nodes pair.0 ≡ Some r
  place_is r pair name e at =
      let found = place_found nodes name r e in
      ap (place_of nodes) (ap (λ (x : List ℕ × Node). x.0) (same_Some pair found.pair (sym at ∙ found.stands)) ∙ found.named) ∙ e

  pub ends_of : (one : One) (r : IsRun one) → AreClean one.1.commands → 0 < length one.1.commands
      → ComesTo r.pair.0 r.pair.1 blobs r.given one.1.commands (final isar one.1).place
  ends_of one r = subst (λ (x : Run State). AreClean x.commands → 0 < length x.commands → ComesTo r.pair.0 r.pair.1 blobs r.given x.commands (final isar x).place) (sym r.run)
      (node_ends r.pair.0 r.pair.1 blobs r.pair.1.entries r.begins r.given r.keyword r.starts)

  all_run : (ps : List ℕ) (runs : Runs State) → AllByRecursion IsRun runs → AllByRecursion IsRun (run_all isar nodes blobs ps runs)
  all_run [] runs each = each
  all_run (p ∷ ps) runs each = all_run ps (run_one isar nodes blobs runs p) (one (slice_get nodes p) refl)
    where
      one : (o : Option (List ℕ × Node)) → slice_get nodes p ≡ o
          → AllByRecursion IsRun (option_map_or (λ pair. (p, run_node isar pair.1 blobs (begins_at isar nodes runs p pair)) ∷ runs) o runs)
      one None at = each
      one (Some pair) at = (record { pair = pair; stands = at; begins = begins_at isar nodes runs p pair; given = _; keyword = _; starts = refl; run = refl }, each)

  -- a node without errors states one formula of a name
  pub once_stated : (p r : ℕ) (pair other : List ℕ × Node) (fact : FactName) (f g : Formula) → AreCleanFrom nodes blobs p → Needs nodes p r → slice_get nodes r ≡ Some pair
      → slice_get nodes r ≡ Some other → IsStatedIn pair.0 (scratch_at isar nodes blobs r) fact f → IsStatedIn other.0 (scratch_at isar nodes blobs r) fact g → f ≡ g
  once_stated p r pair other fact f g clean needs at on one_is other_is = go (find (λ o. o.0 == r) all) refl one_is.1 other_is.1
    where
      own : (one : One) → find (λ o. o.0 == r) all ≡ Some one → Contains (facts_stated one.1.commands) (fact.name, f) → Contains (facts_stated one.1.commands) (fact.name, g) → f ≡ g
      own one is c d =
          let run = found_one IsRun r all one (all_run (order nodes) [] tt) is in
          let ok = found_one (λ (o : One). Needs nodes p o.0 → AreClean o.1.commands) r all one clean is in
          let quiet : AreClean one.1.commands = ok.1 (subst (Needs nodes p) (sym ok.0) needs) in
          let comes = ends_of one run.1 quiet (stating_commands one.1.commands (fact.name, f) c) in
          let same : pair ≡ run.1.pair = same_Some pair run.1.pair (sym at ∙ ap (slice_get nodes) (sym run.0) ∙ run.1.stands) in
          let theory : fact.theory ≡ run.1.pair.0 = one_is.0 ∙ ap (λ (x : List ℕ × Node). x.0) same in
          same_Some f g (sym ((comes.ends.grows fact f).1 (inr (theory, c))) ∙ (comes.ends.grows fact g).1 (inr (theory, d)))

      go : (o : Option One) → find (λ x. x.0 == r) all ≡ o → Contains (facts_stated (option_map_or (λ (x : One). x.1.commands) o [])) (fact.name, f)
          → Contains (facts_stated (option_map_or (λ (x : One). x.1.commands) o [])) (fact.name, g) → f ≡ g
      go None is c d = absurd (omega (arith, c.1))
      go (Some one) is c d = own one is c d

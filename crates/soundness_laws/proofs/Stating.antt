-- The commands of a node, none of which reports an error, come to a theory of just what they state.
use Rattle.std.proofs.Common.{Contains, if◌then◌else◌, ◌≡◌, ℕ, ◌<◌, Bool, true, false, List, [], ◌∷◌, ◌++◌, length, Option, Some, None, Err, refl, sym, ap, subst, subst₂, ◌∙◌, arith, inr, ⊎_elim}
use Rattle.std.specs.Option.{option_map_or}
use Rattle.nj_formula.specs.declared.formula.Formula.{Formula}
use Rattle.std.proofs.lemmas.Option.{none-some}
use Rattle.theory_ctx.specs.Facts.{Fact}
use Rattle.doc_nodes.specs.declared.node.Entry.{Entry}
use Rattle.doc_nodes.specs.declared.node.Node.{Node}
use Rattle.doc_nodes.specs.Names.{equal}
use Rattle.doc_nodes.proofs.KnownNames.{name_is}
use Rattle.exec_rules.specs.Kept.{BlobList}
use Rattle.core_rules.specs.Settings.{Setting, state_behind}
use Rattle.core_rules.specs.Scratch.{set_in, run_from, run_node, state_after, final}
use Rattle.isar_rules.specs.declared.shape.Shape.{Shape}
use Rattle.isar_rules.specs.declared.shape.Shape.TheVariants as shape
use Rattle.isar_rules.specs.declared.shape.Spot.{Spot}
use Rattle.isar_rules.specs.declared.state.Given.{Given}
use Rattle.isar_rules.specs.declared.state.Given.TheVariants.{Facts, Bad}
use Rattle.isar_rules.specs.declared.state.Place.{Place}
use Rattle.isar_rules.specs.declared.state.Place.TheVariants as place
use Rattle.isar_rules.specs.declared.state.State.{State}
use Rattle.isar_rules.specs.Effects.{Effect}
use Rattle.isar_rules.specs.Errors.{and_then, name_differs}
use Rattle.isar_rules.specs.Isar.{isar}
use Rattle.isar_rules.specs.Steps.{tried}
use Rattle.isar_rules.specs.Theories.{facts_or_bad_import, begins, beginning_effect}
use Rattle.isar_rules.proofs.KnownTried.{IfTried}
use Rattle.soundness_laws.specs.Axioms.{shape_in}
use Rattle.soundness_laws.specs.Clean.{AreClean}
use Rattle.isar_rules.specs.Starts.{facts_at}
use Rattle.soundness_laws.specs.Stated.{stated_before, facts_stated}
use Rattle.soundness_laws.proofs.Ending.{Ends, shapes, coming, step_came, rest_ends, sees}
use Rattle.soundness_laws.proofs.Adding.{Goes, due, seen}
use Rattle.soundness_laws.specs.Theories.{IsStatedIn, IsTheoryOf}
use Rattle.soundness_laws.proofs.Grown.{Grows}

module _ (name : List ℕ) (node : Node) (blobs : BlobList) where
  -- the first command begins the theory
  pub record Begins (given : Given) (o : Option Shape) (e : Effect) : Type 0 where
    pub facts : List Fact
    pub given_is : given ≡ Facts facts
    pub place_is : e.place ≡ place.Theory (record { name = name; facts = facts })
    pub none : (later : List Shape) (blob : Option (List ℕ)) → option_map_or (stated_before later blob) o [] ≡ []

  begun_begins : (given : Given) (keyword : Option (List ℕ)) (n : Spot) (imports : List Spot)
      → IfTried (Begins given (Some (shape.Theory n imports)))
      (beginning_effect name given keyword n imports)
  begun_begins given keyword n imports = go (equal n.text name) refl
    where
      began : (facts : List Fact) → n.text ≡ name → (k : Option (List ℕ)) → IfTried (Begins (Facts facts) (Some (shape.Theory n imports))) (begins n imports k facts)
      began facts same (Some k) = tt
      began facts same None = record { facts = facts; given_is = refl; place_is = ap (λ x. place.Theory (record { name = x; facts = facts })) same; none = λ later blob. refl }

      from : (g : Given) → n.text ≡ name → IfTried (Begins g (Some (shape.Theory n imports))) (and_then (facts_or_bad_import g) (begins n imports keyword))
      from (Facts facts) same = began facts same keyword
      from (Bad bad) same = tt

      go : (b : Bool) → equal n.text name ≡ b → IfTried (Begins given (Some (shape.Theory n imports))) (if b then and_then (facts_or_bad_import given) (begins n imports keyword) else Err name_differs)
      go true e = from given (name_is n.text name e)
      go false e = tt

  first_begins : (blob : Option (List ℕ)) (given : Given) (keyword : Option (List ℕ)) (o : Option Shape)
      → IfTried (Begins given o) (tried blob (place.Start name given keyword) o)
  first_begins blob given keyword None = tt
  first_begins blob given keyword (Some (shape.Theory n imports)) = begun_begins given keyword n imports
  first_begins blob given keyword (Some _) = tt

  -- what the commands of a node come to, from what it has from its imports
  pub record ComesTo (given : Given) (commands : List (Setting State)) (new : Place) : Type 0 where
    pub facts : List Fact
    pub given_is : given ≡ Facts facts
    pub ends : Ends name facts (facts_stated commands) new

  pub node_ends : (entries : List Entry) (state : State) (given : Given) (keyword : Option (List ℕ)) → state.place ≡ place.Start name given keyword
      → AreClean (run_from isar node blobs entries state) → 0 < length (run_from isar node blobs entries state)
      → ComesTo given (run_from isar node blobs entries state) (state_after isar state (run_from isar node blobs entries state)).place
  node_ends [] state given keyword at clean some = absurd (omega (arith, some))
  node_ends (e ∷ es) state given keyword at clean some =
      let s : Setting State = set_in node blobs e state in
      let next : State = state_behind isar s in
      let more : List (Setting State) = run_from isar node blobs es next in
      let first = step_came s (Begins given (shape_in s)) clean.0
      (subst (λ p. IfTried (Begins given (shape_in s)) (tried s.blob p (shape_in s))) (sym at) (first_begins s.blob given keyword (shape_in s))) in
      let there : next.place ≡ place.Theory (record { name = name; facts = first.so.facts }) = first.is ∙ first.so.place_is in
      let ends = rest_ends name node blobs es next (subst (Goes name) (sym there) refl) clean.1 in
      let same : seen next.place ≡ first.so.facts = ap seen there in
      let all : coming name node blobs next.place more ≡ facts_stated (s ∷ more) =
      ap (λ p. due p (shapes more) ++ facts_stated more) there ∙ ap (λ l. l ++ facts_stated more) (sym (first.so.none (shapes more) s.blob)) in
      record {
        facts = first.so.facts;
        given_is = first.so.given_is;
        ends = subst₂ (λ f l. Ends name f l (state_after isar next more).place) same all ends;
      }

pub same_given : (facts more : List Fact) → Facts facts ≡ Facts more → facts ≡ more
same_given facts more e = ap (λ g. from g) e
  where
    from : Given → List Fact
    from (Facts fs) = fs
    from (Bad name) = facts

-- a node without imports
pub alone_just : (name : List ℕ) (node : Node) (blobs : BlobList) (state : State) (keyword : Option (List ℕ)) → state.place ≡ place.Start name (Facts []) keyword
    → AreClean (run_node isar node blobs state).commands → 0 < length (run_node isar node blobs state).commands
    → IsTheoryOf (IsStatedIn name (run_node isar node blobs state).commands) (final isar (run_node isar node blobs state))
alone_just name node blobs state keyword at clean some =
    let run = run_node isar node blobs state in
    let comes = node_ends name node blobs node.entries state (Facts []) keyword at clean some in
    let none : [] ≡ comes.facts = same_given [] comes.facts comes.given_is in
    let grows : Grows name [] (facts_stated run.commands) (seen (final isar run).place) =
    subst (λ facts. Grows name facts (facts_stated run.commands) (seen (final isar run).place)) (sym none) comes.ends.grows in
    record {
      facts = seen (final isar run).place;
      has_them = sees name (final isar run).place comes.ends.goes;
      just = λ fact f. (λ h. ⊎_elim (λ bad. absurd (none-some f bad)) (λ own. own) ((grows fact f).0 h), λ own. (grows fact f).1 (inr own));
    }

-- a theory comes of commands
pub some_commands : (commands : List (Setting State)) (state : State) (part : List Fact) → facts_at state.place ≡ None → facts_at (state_after isar state commands).place ≡ Some part
    → 0 < length commands
some_commands [] state part none is = absurd (none-some part (sym none ∙ is))
some_commands (s ∷ commands) state part none is = omega arith

pub stating_commands : (commands : List (Setting State)) (x : List ℕ × Formula) → Contains (facts_stated commands) x → 0 < length commands
stating_commands [] x c = absurd (omega (arith, c.1))
stating_commands (s ∷ commands) x c = omega arith

-- A command keeps all facts such that they follow, where its fork tells no error.
use Rattle.std.proofs.Common.{◌≡◌, ℕ, Bool, true, false, if◌then◌else◌, List, [], ◌∷◌, map, Option, Some, None, Ok, Err, refl, subst, inl, inr}
use Rattle.std.specs.Prelude.{Result}
use Rattle.nj_formula.specs.declared.formula.Formula.{Formula}
use Rattle.nj_formula.specs.Meaning.{meaning}
use Rattle.nj_formula.specs.Statement.{Statement}
use Rattle.nj_kernel.specs.Sets.{members}
use Rattle.theory_ctx.specs.Facts.{Fact}
use Rattle.outer_syntax.specs.declared.token.Token.{Token}
use Rattle.proof_state.specs.declared.levels.Levels.TheVariants.{Prove}
use Rattle.proof_state.proofs.KnownFollows.{itself}
use Rattle.doc_nodes.specs.Names.{equal}
use Rattle.isar_rules.specs.declared.shape.Shape.{Shape}
use Rattle.isar_rules.specs.declared.shape.Shape.TheVariants as shape
use Rattle.isar_rules.specs.declared.shape.Spot.{Spot}
use Rattle.isar_rules.specs.declared.state.Given.{Given}
use Rattle.isar_rules.specs.declared.state.Given.TheVariants.{Facts, Bad}
use Rattle.isar_rules.specs.declared.state.Theory.{Theory}
use Rattle.isar_rules.specs.declared.state.State.{State}
use Rattle.isar_rules.specs.declared.state.Place.{Place}
use Rattle.isar_rules.specs.declared.state.Place.TheVariants as place
use Rattle.isar_rules.specs.BlobLines.{Listed, listed_facts}
use Rattle.isar_rules.specs.Effects.{Effect, makes}
use Rattle.isar_rules.specs.Errors.{Tried, and_then, formula_in, name_differs, name_taken}
use Rattle.isar_rules.specs.Forks.{forked_at}
use Rattle.isar_rules.specs.Kept.{errors_in}
use Rattle.isar_rules.specs.Loads.{load_made, with_all, facts_or_bad_line as listed_or, loaded}
use Rattle.isar_rules.specs.Reports.{def_report, formula_report}
use Rattle.isar_rules.specs.Steps.{acted, tried, made_effect, after_error}
use Rattle.isar_rules.specs.Theories.{facts_or_bad_import, begins, beginning_effect, has_fact, stated_effect, with_fact}
use Rattle.isar_rules.proofs.KnownTried.{IfTried}
use Rattle.soundness_laws.specs.Axioms.{stated_by, if_formula, if_listed}
use Rattle.soundness_laws.specs.Facts.{AllFollow}
use Rattle.soundness_laws.proofs.Places.{GivenFollow, IsSound}
use Rattle.soundness_laws.proofs.Judged.{Laws}
use Rattle.soundness_laws.proofs.Proving.{chained, one_more, proof_sound}

-- all of these formulas are said by what P says
abbrev Says : (Statement → Type 0) → List Formula → Type 0
Says P fs = (g : Statement) → members (map meaning fs) g → P g

module _ (laws : Laws) (P : Statement → Type 0) where
  abbrev Sound : Effect → Type 0
  Sound e = IsSound P e.place

  begun_sound : (node : List ℕ) (given : Given) (keyword : Option (List ℕ)) (name : Spot) (imports : List Spot) → GivenFollow P given
      → IfTried Sound (beginning_effect node given keyword name imports)
  begun_sound node given keyword name imports follow = go (equal name.text node)
    where
      began : (k : Option (List ℕ)) (facts : List Fact) → AllFollow P facts → IfTried Sound (begins name imports k facts)
      began (Some k) facts all = tt
      began None facts all = all

      from : (g : Given) → GivenFollow P g
          → IfTried Sound (and_then (facts_or_bad_import g) (begins name imports keyword))
      from (Facts facts) all = began keyword facts all
      from (Bad n) all = tt

      go : (b : Bool) → IfTried Sound (if b then and_then (facts_or_bad_import given) (begins name imports keyword) else Err name_differs)
      go true = from given follow
      go false = tt

  -- a new fact or goal
  stated_sound : (next : Formula → Place) (theory : Theory) (name quoted : Spot)
      → ((f : Formula) → formula_in quoted.text ≡ Ok f → IsSound P (next f)) → IfTried Sound (stated_effect next theory name quoted)
  stated_sound next theory name quoted each = chained Sound (formula_in quoted.text) _ (λ f e. go f (each f e) (has_fact name.text theory))
    where
      go : (f : Formula) → IsSound P (next f) → (b : Bool) → IfTried Sound (if b then Err (name_taken name.text)
          else Ok (makes (next f) (def_report theory.name name ∷ formula_report quoted f ∷ [])))
      go f sound true = tt
      go f sound false = sound

  axiom_says : (t : Tried Formula) (f : Formula) → t ≡ Ok f → Says P (if_formula t) → P (meaning f)
  axiom_says t f e says = subst (λ u. Says P (if_formula u)) e says (meaning f) (inl refl)

  -- the theory with the facts of a blob
  all_sound : (theory : Theory) (facts : List Listed) → AllFollow P theory.facts → Says P (map (λ fact. fact.1) facts)
      → IfTried (λ more. AllFollow P more.facts) (with_all theory facts)
  all_sound theory [] all says = all
  all_sound theory (fact ∷ facts) all says = go (λ t a. all_sound t facts a (λ g m. says g (inr m))) (has_fact fact.0 theory)
    where
      more : Theory
      more = with_fact fact.0 fact.1 theory

      go : ((t : Theory) → AllFollow P t.facts → IfTried (λ m. AllFollow P m.facts) (with_all t facts))
          → (b : Bool) → IfTried (λ m. AllFollow P m.facts) (if b then Err (name_taken fact.0) else with_all more facts)
      go rest true = tt
      go rest false = rest more (one_more laws P theory fact.0 fact.1 all ∣ itself P (meaning fact.1) (says (meaning fact.1) (inl refl)) ∣₁)

  load_sound : (blob : Option (List ℕ)) (theory : Theory) (name : Spot) → AllFollow P theory.facts → Says P (stated_by blob (shape.Load name))
      → IfTried Sound (load_made blob theory name)
  load_sound None theory name all says = tt
  load_sound (Some text) theory name all says = go (listed_facts text) says
    where
      with_these : (facts : List Listed) (t : Tried Theory) → IfTried (λ m. AllFollow P m.facts) t
          → IfTried Sound (and_then t (λ more. Ok (loaded name facts more)))
      with_these facts (Ok more) sound = sound
      with_these facts (Err e) sound = tt

      go : (r : Result (List Listed) ℕ) → Says P (if_listed r)
          → IfTried Sound (and_then (listed_or r) (λ facts. and_then (with_all theory facts) (λ more. Ok (loaded name facts more))))
      go (Ok facts) says = with_these facts (with_all theory facts) (all_sound theory facts all says)
      go (Err line) says = tt

  module _ (source : List ℕ) (tokens : List Token) (blob : Option (List ℕ)) where
    -- where the command forks, its fork tells no error
    abbrev pub ForkIsClean : Place → Tried Effect → Type 0
    ForkIsClean p t = (e : Effect) → t ≡ Ok e → e.forks ≡ true → errors_in (forked_at source tokens p) ≡ []

    acted_sound : (p : Place) (s : Shape) → IsSound P p → Says P (stated_by blob s) → ForkIsClean p (acted blob p s) → IfTried Sound (acted blob p s)
    acted_sound (place.Start node given keyword) (shape.Theory name imports) sound says clean = begun_sound node given keyword name imports sound
    acted_sound (place.Theory theory) shape.End sound says clean = sound
    acted_sound (place.Theory theory) (shape.Axiom name quoted) sound says clean =
        stated_sound (λ f. place.Theory (with_fact name.text f theory)) theory name quoted
        (λ f e. one_more laws P theory name.text f sound ∣ itself P (meaning f) (axiom_says (formula_in quoted.text) f e says) ∣₁)
    acted_sound (place.Theory theory) (shape.Lemma name quoted) sound says clean =
        stated_sound (λ f. place.Proof theory name.text f (Prove f [])) theory name quoted (λ f e. (sound, ∣ laws.begins theory.facts f ∣₁))
    acted_sound (place.Theory theory) (shape.Load name) sound says clean = load_sound blob theory name sound says
    acted_sound (place.Proof theory name goal levels) s sound says clean =
        proof_sound laws P source tokens theory name goal levels s sound.0 sound.1 clean
    acted_sound _ _ sound says clean = tt

    error_sound : (p : Place) → IsSound P p → IsSound P (after_error p)
    error_sound (place.Start node given keyword) sound = tt
    error_sound place.Outside sound = sound
    error_sound (place.Theory theory) sound = sound
    error_sound (place.Proof theory name goal levels) sound = sound
    error_sound (place.End theory) sound = sound

    pub made_sound : (before : State) (t : Tried Effect) → IsSound P before.place → IfTried Sound t → IsSound P (made_effect source tokens before t).state.place
    made_sound before (Ok e) sound next = next
    made_sound before (Err text) sound next = error_sound before.place sound

    pub tried_sound : (p : Place) (s : Option Shape) → IsSound P p → ((shape : Shape) → s ≡ Some shape → Says P (stated_by blob shape))
        → ForkIsClean p (tried blob p s) → IfTried Sound (tried blob p s)
    tried_sound p None sound says clean = tt
    tried_sound p (Some s) sound says clean = acted_sound p s sound (says s refl) clean

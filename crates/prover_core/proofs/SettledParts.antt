-- A version is settled where each of its unfinished parts that waits for nothing is cancelled.
use Rattle.std.proofs.Common.{◌≡◌, ℕ, zero, suc, ◌<◌, Bool, true, false, not, ◌&&◌, ◌||◌, List, [], ◌∷◌, map, Some, refl, ap, sym, subst, ◌∙◌, arith}
use Rattle.std.proofs.lemmas.Bool.{or_left, or_right, true≢false}
use Rattle.std.specs.Prelude.{◌==◌}
use Rattle.std.specs.Option.{option_map_or}
use Rattle.std.specs.List.{list_any, list_all, AllByRecursion}
use Rattle.text_words.specs.Members.{has}
use Rattle.text_words.proofs.KnownMembers.{all_passed}
use Rattle.pide_base.specs.declared.part.Part.{Part}
use Rattle.pide_base.specs.declared.part.PartKind.{PartKind}
use Rattle.pide_base.specs.declared.part.PartKind.TheVariants as kind
use Rattle.exec_rules.specs.declared.home.Home.{Home}
use Rattle.exec_rules.specs.declared.version.Version.{Version}
use Rattle.language.specs.Lang.{Lang}
use Rattle.core_rules.specs.declared.event.Event.{Event}
use Rattle.core_rules.specs.Numbered.{numbered}
use Rattle.core_rules.specs.Assigned.{executions_of, assigns}
use Rattle.core_rules.specs.Parts.{same_kind, forks, kinds_by, parts_of, sources_of, waits_for, evaluation}
use Rattle.core_rules.specs.Standing.{is_finished}
use Rattle.core_rules.specs.Doc.{Doc, doc}
use Rattle.core_rules.specs.Ready.{is_part, has_inputs}
use Rattle.core_rules.specs.Sources.{is_evaluation, IsSource, HasHome}
use Rattle.core_rules.specs.Stuck.{is_marked, is_stuck, is_over, is_settled}
use Rattle.core_rules.proofs.KnownMarks.{marks}
use Rattle.core_rules.proofs.KnownStuck.{OverBy, one_stuck}
use Rattle.prover_core.specs.Progress.{part}
use Rattle.prover_core.proofs.KindsNext.{among_kinds}
use Rattle.prover_core.proofs.PartKinds.{all_kinds, fork_evaluates, evaluation_among}
use Rattle.prover_core.proofs.StuckMarks.{AllBelow, marked_at}

module _ {S : Type 0} (l : Lang S) (h : List Event) (v : Version) (homes : (e : ℕ) → assigns v e ≡ true → HasHome l (doc l h) v e)
    (lost : (p : Part) → assigns v p.exec ≡ true → is_part l (doc l h).homes p ≡ true → is_finished h p ≡ false
    → has_inputs h (doc l h).homes p ≡ true → has (doc l h).cancelled p.exec ≡ true) where
  abbrev d : Doc
  d = doc l h

  abbrev marked : ℕ → Bool
  marked e = is_marked (marks h d.cancelled d.homes) e

  -- its evaluation is finished or stuck
  abbrev Over : ℕ → Type 0
  Over e = OverBy h marked e

  -- a part is finished or stuck, where all that it waits for is
  part_over : (p : Part) → assigns v p.exec ≡ true → is_part l d.homes p ≡ true → AllByRecursion Over (waits_for d.homes p)
      → (is_finished h p || (not (is_finished h p) && (has d.cancelled p.exec || list_any marked (waits_for d.homes p)))) ≡ true
  part_over p is made all = go (is_finished h p) refl (has_inputs h d.homes p) refl
    where
      go : (a : Bool) → is_finished h p ≡ a → (b : Bool) → has_inputs h d.homes p ≡ b
          → (a || (not a && (has d.cancelled p.exec || list_any marked (waits_for d.homes p)))) ≡ true
      go true x b y = refl
      go false x true y = or_left (has d.cancelled p.exec) (list_any marked (waits_for d.homes p)) (lost p is made x y)
      go false x false y = or_right (has d.cancelled p.exec) (list_any marked (waits_for d.homes p)) (one_stuck h marked (waits_for d.homes p) all y)

  module _ (e : ℕ) (is : assigns v e ≡ true) where
    abbrev x : HasHome l d v e
    x = homes e is

    waits_so : (k : PartKind) → same_kind k kind.Fork ≡ false → waits_for d.homes (part e k) ≡ sources_of x.home.input
    waits_so kind.Eval other = ap (λ o. option_map_or (λ (y : Home). sources_of y.input) o []) x.homed
    waits_so kind.Print other = ap (λ o. option_map_or (λ (y : Home). sources_of y.input) o []) x.homed
    waits_so kind.Fork other = absurd (true≢false other)

    its_parts : parts_of l d.homes e ≡ map (λ k. part e k) (kinds_by x.home.input (forks l d.homes e))
    its_parts = ap (λ o. option_map_or (λ (y : Home). map (λ k. part e k) (kinds_by y.input (forks l d.homes e))) o []) x.homed

    is_its_part : (k : PartKind) → list_any (same_kind k) (kinds_by x.home.input (forks l d.homes e)) ≡ true
        → is_part l d.homes (part e k) ≡ true
    is_its_part k among = ap (λ ps. list_any (λ q. (e == q.exec) && same_kind k q.kind) ps) its_parts
        ∙ among_kinds e k (kinds_by x.home.input (forks l d.homes e)) ∙ among

    below : (xs : List ℕ) → AllByRecursion (IsSource d v e) xs → AllBelow e xs
    below [] all = tt
    below (y ∷ xs) all = (all.0.older, below xs all.1)

    -- an evaluation is finished or stuck where older ones are
    eval_over : ((f : ℕ) → f < e → (there : assigns v f ≡ true) → (home : Home) → numbered d.homes f ≡ Some home
        → is_evaluation home.input ≡ true → Over f) → is_evaluation x.home.input ≡ true → Over e
    eval_over older evaluates =
        ap (λ b. is_finished h (evaluation e) || b) (marked_at h d.cancelled d.homes e x.home x.homed (below (sources_of x.home.input) x.sources)
        ∙ ap (λ es. not (is_finished h (evaluation e)) && (has d.cancelled e || list_any marked es)) (sym (waits_so kind.Eval refl)))
        ∙ part_over (evaluation e) is (is_its_part kind.Eval (evaluation_among x.home.input (forks l d.homes e) evaluates))
        (subst (AllByRecursion Over) (sym (waits_so kind.Eval refl)) (all_over (sources_of x.home.input) x.sources))
      where
        all_over : (xs : List ℕ) → AllByRecursion (IsSource d v e) xs → AllByRecursion Over xs
        all_over [] all = tt
        all_over (y ∷ xs) all =
            (older y all.0.older all.0.assigned all.0.home all.0.homed all.0.evaluates, all_over xs all.1)

  same_input : (o : List Home) (e : ℕ) (a b : Home) → numbered o e ≡ Some a → numbered o e ≡ Some b → is_evaluation a.input ≡ true
      → is_evaluation b.input ≡ true
  same_input o e a b one other evaluates = let same : a ≡ b = cc in ap (λ (y : Home). is_evaluation y.input) (sym same) ∙ evaluates

  upto : (n e : ℕ) → e < n → (is : assigns v e ≡ true) → is_evaluation (homes e is).home.input ≡ true → Over e
  upto zero e lt is evaluates = absurd (omega (arith, lt))
  upto (suc n) e lt is evaluates = eval_over e is
      (λ f less there home homed so. upto n f (omega (arith, lt, less)) there
      (same_input d.homes f home (homes f there).home homed (homes f there).homed so)) evaluates

  over : (e : ℕ) (is : assigns v e ≡ true) → is_evaluation (homes e is).home.input ≡ true → Over e
  over e is evaluates = upto (suc e) e (omega arith) is evaluates

  sources_over : (e : ℕ) (xs : List ℕ) → AllByRecursion (IsSource d v e) xs → AllByRecursion Over xs
  sources_over e [] all = tt
  sources_over e (y ∷ xs) all = (
    over y all.0.assigned
        (same_input d.homes y all.0.home (homes y all.0.assigned).home all.0.homed (homes y all.0.assigned).homed all.0.evaluates),
    sources_over e xs all.1,
  )

  waits_over : (e : ℕ) (is : assigns v e ≡ true) (k : PartKind)
      → list_any (same_kind k) (kinds_by (homes e is).home.input (forks l d.homes e)) ≡ true
      → AllByRecursion Over (waits_for d.homes (part e k))
  waits_over e is kind.Fork among = (over e is (fork_evaluates (homes e is).home.input (forks l d.homes e) among), tt)
  waits_over e is kind.Eval among =
      subst (AllByRecursion Over) (sym (waits_so e is kind.Eval refl)) (sources_over e (sources_of (homes e is).home.input) (homes e is).sources)
  waits_over e is kind.Print among =
      subst (AllByRecursion Over) (sym (waits_so e is kind.Print refl)) (sources_over e (sources_of (homes e is).home.input) (homes e is).sources)

  exec_over : (e : ℕ) → assigns v e ≡ true → is_over l h d e ≡ true
  exec_over e is = ap (list_all (λ p. is_finished h p || is_stuck h d p)) (its_parts e is)
      ∙ all_kinds e (λ p. is_finished h p || is_stuck h d p) (kinds_by (homes e is).home.input (forks l d.homes e))
      (λ k among. part_over (part e k) is (is_its_part e is k among) (waits_over e is k among))

  pub version_settled : is_settled l h d v ≡ true
  version_settled = all_passed (is_over l h d) (executions_of v) exec_over

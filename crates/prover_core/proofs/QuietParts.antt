-- Where nothing that the tip assigns is cancelled, nothing of it is stuck.
use Rattle.std.proofs.Common.{◌≡◌, ℕ, zero, suc, ◌<◌, false, true, Bool, not, ◌&&◌, ◌||◌, List, [], ◌∷◌, length, map, refl, ap, sym, ◌∙◌, arith}
use Rattle.std.specs.Prelude.{◌==◌}
use Rattle.std.specs.Option.{option_map_or}
use Rattle.std.specs.List.{list_any, AllByRecursion}
use Rattle.std.proofs.Math.Bool.{and-false}
use Rattle.text_words.specs.Members.{has}
use Rattle.pide_base.specs.declared.part.PartKind.{PartKind}
use Rattle.pide_base.specs.declared.part.PartKind.TheVariants as kind
use Rattle.exec_rules.specs.declared.home.Home.{Home}
use Rattle.language.specs.Lang.{Lang}
use Rattle.core_rules.specs.declared.event.Event.{Event}
use Rattle.core_rules.specs.Numbered.{numbered}
use Rattle.core_rules.specs.Assigned.{assigns}
use Rattle.core_rules.specs.Parts.{forks, kinds_by, sources_of, waits_for, evaluation}
use Rattle.core_rules.specs.Standing.{is_finished}
use Rattle.core_rules.specs.Doc.{Doc, doc}
use Rattle.core_rules.specs.Sources.{IsSource, HasHome}
use Rattle.core_rules.specs.Stuck.{is_marked, is_stuck, is_stuck_in}
use Rattle.core_rules.proofs.KnownMarks.{marks}
use Rattle.prover_core.specs.Kept.{Tables, IsKept}
use Rattle.prover_core.specs.Progress.{part}
use Rattle.prover_core.proofs.StuckMarks.{AllBelow, marked_at}
use Rattle.prover_core.proofs.WaitedFor.{nothing_waits}

-- nothing that the tip assigns is cancelled
abbrev pub IsQuiet : Doc → Type 0
IsQuiet d = (e : ℕ) → assigns d.tip e ≡ true → has d.cancelled e ≡ false

-- so it is where nothing is noted
pub quiet_so : {S : Type 0} (l : Lang S) (h : List Event) (t : Tables S) → IsKept l h t → (length t.cancelled == 0) ≡ true → IsQuiet (doc l h)
quiet_so l h t k none e there = sym (ap (λ b. b && has (doc l h).cancelled e) there)
    ∙ sym (k.cancelled e) ∙ nothing_waits t.cancelled none e

module _ {S : Type 0} (l : Lang S) (h : List Event) (quiet : IsQuiet (doc l h))
    (homes : (e : ℕ) → assigns (doc l h).tip e ≡ true → HasHome l (doc l h) (doc l h).tip e) where
  abbrev d : Doc
  d = doc l h

  abbrev marked : ℕ → Bool
  marked e = is_marked (marks h d.cancelled d.homes) e

  below : (e : ℕ) (xs : List ℕ) → AllByRecursion (IsSource d d.tip e) xs → AllBelow e xs
  below e [] all = tt
  below e (x ∷ xs) all = (all.0.older, below e xs all.1)

  none_of : (e : ℕ) (xs : List ℕ) → AllByRecursion (IsSource d d.tip e) xs
      → ((f : ℕ) → f < e → assigns d.tip f ≡ true → marked f ≡ false) → list_any marked xs ≡ false
  none_of e [] all older = refl
  none_of e (x ∷ xs) all older =
      ap (λ b. b || list_any marked xs) (older x all.0.older all.0.assigned) ∙ none_of e xs all.1 older

  -- an evaluation is not stuck where older ones are not
  by_older : (e : ℕ) → assigns d.tip e ≡ true → ((f : ℕ) → f < e → assigns d.tip f ≡ true → marked f ≡ false) → marked e ≡ false
  by_older e is older =
      let x = homes e is in
      marked_at h d.cancelled d.homes e x.home x.homed (below e (sources_of x.home.input) x.sources)
      ∙ ap (λ b. not (is_finished h (evaluation e)) && (b || list_any marked (sources_of x.home.input))) (quiet e is)
      ∙ ap (λ b. not (is_finished h (evaluation e)) && b) (none_of e (sources_of x.home.input) x.sources older)
      ∙ and-false (not (is_finished h (evaluation e)))

  upto : (n e : ℕ) → e < n → assigns d.tip e ≡ true → marked e ≡ false
  upto zero e lt is = absurd (omega (arith, lt))
  upto (suc n) e lt is = by_older e is (λ f less there. upto n f (omega (arith, lt, less)) there)

  unmarked : (e : ℕ) → assigns d.tip e ≡ true → marked e ≡ false
  unmarked e is = upto (suc e) e (omega arith) is

  module _ (e : ℕ) (is : assigns d.tip e ≡ true) where
    abbrev x : HasHome l d d.tip e
    x = homes e is

    from_home : list_any marked (option_map_or (λ (y : Home). sources_of y.input) (numbered d.homes e) []) ≡ false
    from_home = ap (λ o. list_any marked (option_map_or (λ (y : Home). sources_of y.input) o [])) x.homed
        ∙ none_of e (sources_of x.home.input) x.sources (λ f less there. unmarked f there)

    waits_none : (k : PartKind) → list_any marked (waits_for d.homes (part e k)) ≡ false
    waits_none kind.Fork = ap (λ b. b || false) (unmarked e is)
    waits_none kind.Eval = from_home
    waits_none kind.Print = from_home

    part_free : (k : PartKind) → is_stuck h d (part e k) ≡ false
    part_free k = ap (λ b. not (is_finished h (part e k)) && (b || list_any marked (waits_for d.homes (part e k)))) (quiet e is)
        ∙ ap (λ b. not (is_finished h (part e k)) && b) (waits_none k) ∙ and-false (not (is_finished h (part e k)))

    parts_free : (ks : List PartKind) → list_any (is_stuck h d) (map (λ k. part e k) ks) ≡ false
    parts_free [] = refl
    parts_free (k ∷ ks) = ap (λ b. b || list_any (is_stuck h d) (map (λ y. part e y) ks)) (part_free k) ∙ parts_free ks

    pub not_stuck : is_stuck_in l h d e ≡ false
    not_stuck = ap (λ o. list_any (is_stuck h d) (option_map_or (λ (y : Home). map (λ k. part e k) (kinds_by y.input (forks l d.homes e))) o [])) x.homed
        ∙ parts_free (kinds_by x.home.input (forks l d.homes e))

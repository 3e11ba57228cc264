-- Where nothing that a version assigns is cancelled and the version is settled, all its parts are finished.
use Rattle.std.proofs.Common.{◌≡◌, ℕ, suc, Bool, true, false, cond, not, List, [], ◌∷◌, length, map, Option, Some, None, refl, sym, ap, subst, ◌∙◌}
use Rattle.std.proofs.lemmas.Bool.{eqb-true}
use Rattle.std.proofs.Math.Bool.{and-false}
use Rattle.std.specs.Prelude.{◌==◌, ◌&&◌, ◌||◌}
use Rattle.std.specs.Option.{option_map_or}
use Rattle.std.specs.List.{list_all, list_any, AllByRecursion}
use Rattle.text_words.specs.Members.{has}
use Rattle.text_words.proofs.KnownOptions.{one_of}
use Rattle.text_words.proofs.KnownMembers.{has_passed}
use Rattle.pide_base.specs.declared.part.PartKind.{PartKind}
use Rattle.pide_base.specs.declared.part.PartKind.TheVariants as kind
use Rattle.exec_rules.specs.declared.home.Home.{Home}
use Rattle.exec_rules.specs.declared.version.Version.{Version}
use Rattle.language.specs.Lang.{Lang}
use Rattle.core_rules.specs.declared.event.Event.{Event}
use Rattle.core_rules.specs.Assigned.{assigns, executions_of}
use Rattle.core_rules.specs.Doc.{Doc}
use Rattle.core_rules.specs.Numbered.{numbered}
use Rattle.core_rules.specs.Parts.{evaluation, forks, kinds_by, sources_of, waits_by}
use Rattle.core_rules.specs.Sources.{HasHome, IsSource}
use Rattle.core_rules.specs.Standing.{is_finished, is_open}
use Rattle.core_rules.specs.Stuck.{is_marked, is_over, is_settled, is_stuck, stuck_marks}
use Rattle.core_rules.proofs.KnownMarks.{length_marks}
use Rattle.core_rules.proofs.KnownNumbers.{numbered_newest, numbered_on}

-- none of those that all fail passes
none_of : (test : ℕ → Bool) (xs : List ℕ) → AllByRecursion (λ x. test x ≡ false) xs → list_any test xs ≡ false
none_of test [] all = refl
none_of test (x ∷ xs) all = ap (λ b. b || list_any test xs) all.0 ∙ none_of test xs all.1

mapped : (P Q : ℕ → Type 0) (xs : List ℕ) → ((x : ℕ) → P x → Q x) → AllByRecursion P xs → AllByRecursion Q xs
mapped P Q [] f all = tt
mapped P Q (x ∷ xs) f all = (f x all.0, mapped P Q xs f all.1)

module _ (h : List Event) (v : Version) (cancelled : List ℕ) (kept : (e : ℕ) → assigns v e ≡ true → has cancelled e ≡ false) where
  -- what executions take up is assigned as well
  abbrev RestInside : List Home → Type 0
  RestInside homes = (e : ℕ) (home : Home) → assigns v e ≡ true → numbered homes e ≡ Some home
      → AllByRecursion (λ f. assigns v f ≡ true) (sources_of home.input)

  -- one execution more
  module _ (home : Home) (homes : List Home) (inside : RestInside (home ∷ homes))
      (before : (f : ℕ) → assigns v f ≡ true → is_marked (stuck_marks h cancelled homes) f ≡ false) where
    abbrev number : ℕ
    number = suc (length (stuck_marks h cancelled homes))

    abbrev newest : Bool
    newest = not (is_finished h (evaluation number)) && (has cancelled number || list_any (is_marked (stuck_marks h cancelled homes)) (sources_of home.input))

    fine : (e : ℕ) → assigns v e ≡ true → e ≡ number → newest ≡ false
    fine e is same =
        let long : number ≡ suc (length homes) = ap suc (length_marks h cancelled homes) in
        let at : numbered (home ∷ homes) e ≡ Some home = ap (numbered (home ∷ homes)) (same ∙ long) ∙ numbered_newest homes home in
        let below = none_of (is_marked (stuck_marks h cancelled homes)) (sources_of home.input)
        (mapped (λ f. assigns v f ≡ true) (λ f. is_marked (stuck_marks h cancelled homes) f ≡ false) (sources_of home.input) before (inside e home is at)) in
        let out : has cancelled number ≡ false = ap (has cancelled) (sym same) ∙ kept e is in
        ap (λ b. not (is_finished h (evaluation number)) && (b || list_any (is_marked (stuck_marks h cancelled homes)) (sources_of home.input))) out
        ∙ ap (λ b. not (is_finished h (evaluation number)) && b) below ∙ and-false (not (is_finished h (evaluation number)))

    newest_unmarked : (e : ℕ) → assigns v e ≡ true → is_marked (stuck_marks h cancelled (home ∷ homes)) e ≡ false
    newest_unmarked e is = go (e == number) refl
      where
        go : (b : Bool) → (e == number) ≡ b → option_map_or (λ x. x) (cond b (Some newest) (numbered (stuck_marks h cancelled homes) e)) false ≡ false
        go true eq = fine e is (eqb-true e number eq)
        go false eq = before e is

  -- then none is marked
  unmarked : (homes : List Home) → RestInside homes → (e : ℕ) → assigns v e ≡ true
      → is_marked (stuck_marks h cancelled homes) e ≡ false
  unmarked [] inside e is = refl
  unmarked (home ∷ homes) inside e is = newest_unmarked home homes inside
      (unmarked homes (λ f x there at. inside f x there (numbered_on homes home x f at))) e is

module _ {S : Type 0} (l : Lang S) (h : List Event) (d : Doc) (v : Version)
    (homed : (e : ℕ) → assigns v e ≡ true → HasHome l d v e)
    (kept : (e : ℕ) → assigns v e ≡ true → has d.cancelled e ≡ false) where
  inside : RestInside h v d.cancelled kept d.homes
  inside e home is at =
      let own = homed e is in
      subst (λ (x : Home). AllByRecursion (λ f. assigns v f ≡ true) (sources_of x.input)) (one_of (numbered d.homes e) own.home home own.homed at)
      (mapped (IsSource d v e) (λ f. assigns v f ≡ true) (sources_of own.home.input) (λ f source. source.assigned) own.sources)

  clear : (e : ℕ) → assigns v e ≡ true → is_marked (stuck_marks h d.cancelled d.homes) e ≡ false
  clear = unmarked h v d.cancelled kept d.homes inside

  sources_clear : (e : ℕ) → assigns v e ≡ true
      → list_any (is_marked (stuck_marks h d.cancelled d.homes)) (option_map_or (λ (x : Home). sources_of x.input) (numbered d.homes e) []) ≡ false
  sources_clear e is =
      let own = homed e is in
      ap (λ o. list_any (is_marked (stuck_marks h d.cancelled d.homes)) (option_map_or (λ (x : Home). sources_of x.input) o [])) own.homed
      ∙ none_of (is_marked (stuck_marks h d.cancelled d.homes)) (sources_of own.home.input)
      (mapped (IsSource d v e) (λ f. is_marked (stuck_marks h d.cancelled d.homes) f ≡ false) (sources_of own.home.input)
      (λ f source. clear f source.assigned) own.sources)

  -- no part waits for what is stuck
  waits_clear : (e : ℕ) (k : PartKind) → assigns v e ≡ true
      → list_any (is_marked (stuck_marks h d.cancelled d.homes)) (waits_by d.homes k e) ≡ false
  waits_clear e kind.Fork is = ap (λ b. b || false) (clear e is)
  waits_clear e kind.Eval is = sources_clear e is
  waits_clear e kind.Print is = sources_clear e is

  pub loose : (e : ℕ) (k : PartKind) → assigns v e ≡ true → is_stuck h d (record { exec = e; kind = k }) ≡ false
  loose e k is = ap (λ b. not (is_finished h (record { exec = e; kind = k })) && (b || list_any (is_marked (stuck_marks h d.cancelled d.homes)) (waits_by d.homes k e))) (kept e is)
      ∙ ap (λ b. not (is_finished h (record { exec = e; kind = k })) && b) (waits_clear e k is)
      ∙ and-false (not (is_finished h (record { exec = e; kind = k })))

  -- so all parts are finished
  kinds_closed : (e : ℕ) (ks : List PartKind) → assigns v e ≡ true
      → list_all (λ p. is_finished h p || is_stuck h d p) (map (λ k. record { exec = e; kind = k }) ks) ≡ true
      → list_any (λ p. not (is_finished h p)) (map (λ k. record { exec = e; kind = k }) ks) ≡ false
  kinds_closed e [] is over = refl
  kinds_closed e (k ∷ ks) is over = go (is_finished h (record { exec = e; kind = k })) (is_stuck h d (record { exec = e; kind = k })) (loose e k is) over
      (kinds_closed e ks is)
    where
      rest : Bool
      rest = list_all (λ p. is_finished h p || is_stuck h d p) (map (λ k. record { exec = e; kind = k }) ks)

      left : Bool
      left = list_any (λ p. not (is_finished h p)) (map (λ k. record { exec = e; kind = k }) ks)

      go : (a b : Bool) → b ≡ false → ((a || b) && rest) ≡ true → (rest ≡ true → left ≡ false) → (not a || left) ≡ false
      go true b free over then = then over
      go false true free over then = absurd (cc)
      go false false free over then = absurd (cc)

  pub closed : is_settled l h d v ≡ true → (e : ℕ) → assigns v e ≡ true → is_open l h d.homes e ≡ false
  closed settled e is = go (numbered d.homes e) (has_passed (is_over l h d) (executions_of v) e settled is)
    where
      go : (o : Option Home) → list_all (λ p. is_finished h p || is_stuck h d p) (option_map_or
          (λ x. map (λ k. record { exec = e; kind = k }) (kinds_by x.input (forks l d.homes e))) o []) ≡ true
          → list_any (λ p. not (is_finished h p)) (option_map_or
          (λ x. map (λ k. record { exec = e; kind = k }) (kinds_by x.input (forks l d.homes e))) o []) ≡ false
      go None over = refl
      go (Some x) over = kinds_closed e (kinds_by x.input (forks l d.homes e)) is over

-- What a node has from its imports, where it begins with facts: those of all of them.
use Rattle.std.proofs.Common.{◌≡◌, ℕ, ◌==◌, Bool, true, false, List, find, filter_map, is_none, Option, Some, None, option_map, refl, sym, ap, ◌∙◌}
use Rattle.std.specs.Option.{option_and_then}
use Rattle.std.proofs.lemmas.Bool.{false≢true}
use Rattle.std.proofs.lemmas.Option.{none-some}
use Rattle.text_words.specs.Members.{has}
use Rattle.doc_nodes.specs.Rounds.{is_known}
use Rattle.theory_ctx.specs.Facts.{Fact}
use Rattle.theory_ctx.specs.Merged.{merged_facts}
use Rattle.doc_nodes.specs.Imports.{NodeList, place_of, is_bad}
use Rattle.language.specs.declared.made.Imported.{Imported}
use Rattle.core_rules.specs.Scratch.{Run, Runs, final, final_at, import_run, imports_run}
use Rattle.isar_rules.specs.declared.state.Given.TheVariants.{Facts}
use Rattle.isar_rules.specs.declared.state.State.{State}
use Rattle.isar_rules.specs.Isar.{isar}
use Rattle.isar_rules.specs.Starts.{facts_at, imported_facts, imports_given, given_from}
use Rattle.soundness_laws.specs.Imports.{IsListed}
use Rattle.soundness_laws.proofs.Merging.{twice, told_passes}
use Rattle.soundness_laws.proofs.Stating.{same_given}

module _ (nodes : NodeList) (runs : Runs State) where
  -- the facts of an import
  abbrev pub part_of : List ℕ → Option (List Fact)
  part_of name = option_and_then imported_facts (import_run isar nodes runs name)

  abbrev has_none : Imported State → Bool
  has_none i = is_none (imported_facts i)

  pub record IsGiven (imports : List (List ℕ)) (facts : List Fact) : Type 0 where
    pub none_bad : find (is_bad nodes) imports ≡ None
    pub none_lacks : find has_none (filter_map (import_run isar nodes runs) imports) ≡ None
    pub facts_are : facts ≡ merged_facts (filter_map part_of imports)

  pub given_is : (imports : List (List ℕ)) (facts : List Fact) → given_from (imports_run isar nodes runs imports (find (is_bad nodes) imports)) ≡ Facts facts
      → IsGiven imports facts
  given_is imports facts = go (find (is_bad nodes) imports) refl
    where
      all : List (Imported State)
      all = filter_map (import_run isar nodes runs) imports

      next : find (is_bad nodes) imports ≡ None → (o : Option (Imported State)) → find has_none (filter_map (import_run isar nodes runs) imports) ≡ o
          → imports_given (filter_map (import_run isar nodes runs) imports) o ≡ Facts facts
          → IsGiven imports facts
      next none None at e = record {
        none_bad = none;
        none_lacks = at;
        facts_are = sym (same_given _ facts e) ∙ ap merged_facts
            (twice (import_run isar nodes runs) imported_facts imports);
      }
      next none (Some bad) at e = absurd (cc)

      go : (o : Option (List ℕ)) → find (is_bad nodes) imports ≡ o → given_from (imports_run isar nodes runs imports o) ≡ Facts facts → IsGiven imports facts
      go None none e = next none (find has_none (filter_map (import_run isar nodes runs) imports)) refl e
      go (Some name) bad e = absurd (cc)

  -- an import of a node that begins so
  pub record IsImported (front : List ℕ) (name : List ℕ) : Type 0 where
    pub at : ℕ
    pub place : place_of nodes name ≡ Some at
    pub inside : has front at ≡ true
    pub one : ℕ × Run State
    pub run_is : find (λ o. o.0 == at) runs ≡ Some one
    pub part : List Fact
    pub part_is : facts_at (final isar one.1).place ≡ Some part
    pub told : part_of name ≡ Some part

  module _ (front : List ℕ) (there : (q : ℕ) → has front q ≡ true → (one : ℕ × Run State) × (find (λ o. o.0 == q) runs ≡ Some one))
      (imports : List (List ℕ)) (facts : List Fact) (given : IsGiven imports facts) (name : List ℕ) (listed : IsListed imports name) where
    abbrev as_import : State → Imported State
    as_import state = record { name = name; state = state }

    pub imported : is_known front (place_of nodes name) ≡ true → IsImported front name
    imported known = placed (place_of nodes name) refl known
      where
        some : (q : ℕ) → place_of nodes name ≡ Some q → has front q ≡ true → (one : ℕ × Run State) → find (λ o. o.0 == q) runs ≡ Some one
            → import_run isar nodes runs name ≡ Some (as_import (final isar one.1)) → (o : Option (List Fact)) → facts_at (final isar one.1).place ≡ o → IsImported front name
        some q at inside one is run None lacks =
            absurd (false≢true (sym (told_passes (import_run isar nodes runs) has_none imports name (as_import (final isar one.1)) given.none_lacks listed run) ∙ ap is_none lacks))
        some q at inside one is run (Some part) has = record {
          at = q;
          place = at;
          inside = inside;
          one = one;
          run_is = is;
          part = part;
          part_is = has;
          told = ap (option_and_then imported_facts) run ∙ has;
        }

        placed : (o : Option ℕ) → place_of nodes name ≡ o → is_known front o ≡ true → IsImported front name
        placed None at is = absurd (false≢true is)
        placed (Some q) at is =
            let one = there q is in
            some q at is one.0 one.1
            (ap (λ o. option_map as_import (option_and_then (final_at isar runs) o)) at
            ∙ ap (λ (o : Option (ℕ × Run State)). option_map as_import (option_map (λ (x : ℕ × Run State). final isar x.1) o)) one.1)
            (facts_at (final isar one.0.1).place) refl

  -- what an import is told to have, it has where it was run
  pub record WasRun (name : List ℕ) (part : List Fact) : Type 0 where
    pub at : ℕ
    pub place : place_of nodes name ≡ Some at
    pub one : ℕ × Run State
    pub run_is : find (λ o. o.0 == at) runs ≡ Some one
    pub part_is : facts_at (final isar one.1).place ≡ Some part

  pub was_run : (name : List ℕ) (part : List Fact) → part_of name ≡ Some part → WasRun name part
  was_run name part told = placed (place_of nodes name) refl told
    where
      as_one : State → Imported State
      as_one state = record { name = name; state = state }

      at_run : (q : ℕ) → place_of nodes name ≡ Some q → (o : Option (ℕ × Run State)) → find (λ x. x.0 == q) runs ≡ o
          → option_and_then imported_facts (option_map (λ state. record { name = name; state = state }) (option_map (λ x. final isar x.1) o)) ≡ Some part → WasRun name part
      at_run q at None is e = absurd (none-some part e)
      at_run q at (Some one) is e = record { at = q; place = at; one = one; run_is = is; part_is = e }

      placed : (o : Option ℕ) → place_of nodes name ≡ o
          → option_and_then imported_facts (option_map (λ state. record { name = name; state = state }) (option_and_then (final_at isar runs) o)) ≡ Some part → WasRun name part
      placed None at e = absurd (none-some part e)
      placed (Some q) at e = at_run q at (find (λ x. x.0 == q) runs) refl e

-- A node of a document, where it and its imports report no error, comes to a theory of just what
-- they state.
-- state.
use Rattle.std.proofs.Common.{◌≡◌, ◌↔◌, ◌⊎◌, ℕ, ◌<◌, ◌==◌, true, cond, List, [], ◌∷◌, ◌++◌, length, find, slice_get, Option, Some, None, refl, sym, ap, subst, ◌∙◌, inr, ⊎_elim, append_assoc}
use Rattle.std.specs.Option.{option_map_or}
use Rattle.std.proofs.lemmas.Bool.{eq-eqb}
use Rattle.std.proofs.lemmas.Option.{none-some, same_Some}
use Rattle.text_words.specs.Members.{has}
use Rattle.doc_nodes.specs.Rounds.{is_known}
use Rattle.text_words.proofs.KnownMembers.{has_middle}
use Rattle.nj_formula.specs.declared.formula.Formula.{Formula}
use Rattle.shared_map.specs.Pairs.{IsSorted}
use Rattle.theory_ctx.specs.declared.fact_name.FactName.{FactName}
use Rattle.theory_ctx.specs.Facts.{Fact}
use Rattle.theory_ctx.specs.Order.{by_name}
use Rattle.doc_nodes.specs.declared.node.Node.{Node}
use Rattle.doc_nodes.specs.Imports.{NodeList, place_of, order}
use Rattle.exec_rules.specs.Kept.{BlobList}
use Rattle.core_rules.specs.Scratch.{Run, Runs, final, begins_at, run_node, run_all, scratch_at}
use Rattle.isar_rules.specs.declared.state.Place.TheVariants as place
use Rattle.isar_rules.specs.declared.state.State.{State}
use Rattle.isar_rules.specs.Isar.{isar}
use Rattle.isar_rules.specs.Starts.{facts_at}
use Rattle.soundness_laws.specs.Clean.{AreClean}
use Rattle.soundness_laws.specs.Imports.{Needs, itself, imports, IsListed, AreCleanFrom}
use Rattle.soundness_laws.specs.Theories.{IsStatedIn, IsStatedFrom}
use Rattle.soundness_laws.proofs.Adding.{seen}
use Rattle.soundness_laws.proofs.Grown.{Has}
use Rattle.soundness_laws.proofs.Imported.{part_of, IsGiven, given_is, imported, was_run}
use Rattle.soundness_laws.proofs.Merging.{Gives, AreSorted, all_pass, fold_from, fold_has, fold_sorted}
use Rattle.soundness_laws.proofs.Needed.{clean_below}
use Rattle.soundness_laws.proofs.Stating.{ComesTo}
use Rattle.soundness_laws.proofs.Ending.{sees}
use Rattle.soundness_laws.proofs.Owned.{HasJust, IsHanded, needs_up, just_these}
use Rattle.soundness_laws.proofs.Stating.{some_commands}
use Rattle.soundness_laws.proofs.NodeRuns.{One, Order, found_one, all as all_of, IsDone, AreDone, IsRun, stays, named_end, place_is, ends_of, once_stated}

module _ (nodes : NodeList) (blobs : BlobList) (laws : Order nodes) where
  abbrev all : Runs State
  all = all_of nodes blobs laws

  module _ (front rest : List ℕ) (p : ℕ) (runs : Runs State) (split : order nodes ≡ front ++ p ∷ rest) (done : AreDone nodes blobs laws front runs) (pair : List ℕ × Node)
      (at : slice_get nodes p ≡ Some pair) where
    abbrev begins : State
    begins = begins_at isar nodes runs p pair

    abbrev pub new : One
    new = (p, run_node isar pair.1 blobs begins)

    abbrev pub new_run : IsRun nodes blobs laws new
    new_run = record { pair = pair; stands = at; begins = begins; given = _; keyword = _; starts = refl; run = refl }

    module _ (at_last : all ≡ run_all isar nodes blobs rest (new ∷ runs)) where
      new_found : find (λ o. o.0 == p) all ≡ Some new
      new_found =
          ap (find (λ (o : One). o.0 == p)) at_last
          ∙ stays nodes blobs laws p rest (front ++ p ∷ []) (new ∷ runs) (split ∙ sym (append_assoc front (p ∷ []) rest)) (has_middle front p [])
          ∙ ap (λ b. cond b (Some new) (find (λ (o : One). o.0 == p) runs)) (eq-eqb p p refl)

      own_commands : scratch_at isar nodes blobs p ≡ new.1.commands
      own_commands = ap (λ (o : Option One). option_map_or (λ (x : One). x.1.commands) o []) new_found

      module _ (clean : AreCleanFrom nodes blobs p) (some : 0 < length new.1.commands) where
        comes : ComesTo pair.0 pair.1 blobs new_run.given new.1.commands (final isar new.1).place
        comes = ends_of nodes blobs laws new new_run ((found_one (λ (o : One). Needs nodes p o.0 → AreClean o.1.commands) p all new clean new_found).1 itself) some

        given : IsGiven nodes runs pair.1.imports comes.facts
        given = given_is nodes runs pair.1.imports comes.facts comes.given_is

        known : (name : List ℕ) → IsListed pair.1.imports name → is_known front (place_of nodes name) ≡ true
        known name listed = all_pass (λ n. is_known front (place_of nodes n)) pair.1.imports name (laws.behind front rest p pair split at ((laws.ordered p pair at).1 given.none_bad)) listed

        import_just : (name : List ℕ) → IsListed pair.1.imports name → (q : ℕ) (one : One) (part : List Fact) → place_of nodes name ≡ Some q
            → find (λ o. o.0 == q) runs ≡ Some one → facts_at (final isar one.1).place ≡ Some part
            → ((fact : FactName) (f : Formula) → Has part fact f ↔ IsStatedFrom nodes blobs q fact f) × IsSorted by_name part
        import_just name listed q one part named is part_is =
            let found = found_one (IsDone nodes blobs laws) q runs one done.each is in
            let r = found.1.run in
            let needs : Needs nodes p one.0 = imports pair name at listed (named ∙ ap Some (sym found.0)) itself in
            let none : facts_at one.1.begins.place ≡ None = ap (λ (x : Run State). facts_at x.begins.place) r.run ∙ ap facts_at r.starts in
            let just = found.1.good (clean_below nodes p one.0 needs all clean) (some_commands one.1.commands one.1.begins part none part_is) in
            let same : just.facts ≡ part = same_Some just.facts part (sym just.there ∙ part_is) in
            subst (λ part. ((fact : FactName) (f : Formula) → Has part fact f ↔ IsStatedFrom nodes blobs q fact f) × IsSorted by_name part) same
            (subst (λ q. (fact : FactName) (f : Formula) → Has just.facts fact f ↔ IsStatedFrom nodes blobs q fact f) found.0 just.just, just.sorted)

        module _ (fact : FactName) where
          sorted : AreSorted (part_of nodes runs) fact pair.1.imports
          sorted name part listed told = let w = was_run nodes runs name part told in (import_just name listed w.at w.one part w.place w.run_is w.part_is).1

          abbrev FromImport : Formula → Type 0
          FromImport f = Gives (part_of nodes runs) fact pair.1.imports f

          abbrev Handed : Formula → Type 0
          Handed f = IsHanded nodes blobs pair fact f

          handed : (f : Formula) → FromImport f → Handed f
          handed f g =
              let w = was_run nodes runs g.name g.part g.part_is in
              record {
                name = g.name;
                q = w.at;
                listed = g.listed;
                named = w.place;
                stated = ((import_just g.name g.listed w.at w.one g.part w.place w.run_is w.part_is).0 fact f).0 g.has;
              }

          own_place : (f : Formula) (h : Handed f) → place_of nodes fact.theory ≡ Some h.stated.place
          own_place f h =
              let named = named_end nodes blobs laws h.q h.stated.place h.stated.needed h.name h.named in
              ap (place_of nodes) h.stated.stated.0 ∙ place_is nodes blobs laws h.stated.place h.stated.pair named.0 named.1 h.stated.stands

          agree : (f g : Formula) → FromImport f → FromImport g → f ≡ g
          agree f g one other =
              let a = handed f one in
              let b = handed g other in
              let same : b.stated.place ≡ a.stated.place = same_Some b.stated.place a.stated.place (sym (own_place g b) ∙ own_place f a) in
              once_stated nodes blobs laws p a.stated.place a.stated.pair b.stated.pair fact f g clean (needs_up nodes blobs p pair at fact f a) a.stated.stands
              (ap (slice_get nodes) (sym same) ∙ b.stated.stands) a.stated.stated
              (subst (λ r. IsStatedIn b.stated.pair.0 (scratch_at isar nodes blobs r) fact g) same b.stated.stated)

          -- what the node begins with
          given_just : (f : Formula) → Has comes.facts fact f ↔ Handed f
          given_just f = (
            λ has. ⊎_elim (λ none. absurd (none-some f none)) (handed f)
                (fold_from (part_of nodes runs) fact f pair.1.imports [] tt sorted (subst (λ facts. Has facts fact f) given.facts_are has)),
            λ h.
                let i = imported nodes runs front done.there pair.1.imports comes.facts given h.name h.listed (known h.name h.listed) in
                let same : h.q ≡ i.at = same_Some h.q i.at (sym h.named ∙ i.place) in
                let has : Has i.part fact f = ((import_just h.name h.listed i.at i.one i.part i.place i.run_is i.part_is).0 fact f).1 (subst (λ r. IsStatedFrom nodes blobs r fact f) same h.stated) in
                let gives : FromImport f = record { name = h.name; listed = h.listed; part = i.part; part_is = i.told; has = has } in
                subst (λ facts. Has facts fact f) (sym given.facts_are)
                (fold_has (part_of nodes runs) fact f pair.1.imports [] tt sorted (λ g none. absurd (none-some g none)) (λ g other. agree g f other gives) (inr gives)),
          )

        pub new_just : HasJust nodes blobs new
        new_just = record {
          facts = seen (final isar new.1).place;
          there = sees pair.0 (final isar new.1).place comes.ends.goes;
          sorted = comes.ends.sorted (subst (IsSorted by_name) (sym given.facts_are) (fold_sorted (part_of nodes runs) any pair.1.imports [] tt (sorted any)));
          just = λ fact f. just_these nodes blobs p pair at new.1.commands own_commands fact f comes.facts (seen (final isar new.1).place) comes.ends.grows (given_just fact f);
        }
          where
            any : FactName
            any = record { name = []; theory = [] }

-- A node's facts, where those that it begins with are what its imports hand on.
-- state.
use Rattle.std.proofs.Common.{◌≡◌, ◌↔◌, ◌⊎◌, ℕ, List, slice_get, Some, sym, subst, ◌∙◌, inl, inr, ⊎_elim}
use Rattle.std.proofs.lemmas.Option.{same_Some}
use Rattle.text_words.specs.Members.{has}
use Rattle.nj_formula.specs.declared.formula.Formula.{Formula}
use Rattle.theory_ctx.specs.declared.fact_name.FactName.{FactName}
use Rattle.theory_ctx.specs.Facts.{Fact}
use Rattle.core_rules.specs.Settings.{Setting}
use Rattle.core_rules.specs.Scratch.{Run, final}
use Rattle.isar_rules.specs.declared.state.State.{State}
use Rattle.isar_rules.specs.Starts.{facts_at}
use Rattle.shared_map.specs.Pairs.{IsSorted}
use Rattle.theory_ctx.specs.Facts.{Fact}
use Rattle.theory_ctx.specs.Order.{by_name}
use Rattle.doc_nodes.specs.declared.node.Node.{Node}
use Rattle.doc_nodes.specs.Imports.{NodeList, place_of}
use Rattle.exec_rules.specs.Kept.{BlobList}
use Rattle.core_rules.specs.Scratch.{scratch_at}
use Rattle.isar_rules.specs.declared.state.Place.TheVariants as place
use Rattle.isar_rules.specs.declared.state.State.{State}
use Rattle.isar_rules.specs.Isar.{isar}
use Rattle.soundness_laws.specs.Imports.{Needs, itself, imports, IsListed}
use Rattle.soundness_laws.specs.Stated.{facts_stated}
use Rattle.soundness_laws.specs.Theories.{IsStatedIn, IsStatedFrom}
use Rattle.soundness_laws.proofs.Grown.{Has, Grows}

module _ (nodes : NodeList) (blobs : BlobList) where
  -- an import of a node or one of its own imports states it
  pub record IsHanded (pair : List ℕ × Node) (fact : FactName) (f : Formula) : Type 0 where
    pub name : List ℕ
    pub q : ℕ
    pub listed : IsListed pair.1.imports name
    pub named : place_of nodes name ≡ Some q
    pub stated : IsStatedFrom nodes blobs q fact f

  -- the facts of a node are those that it and its imports state
  pub record HasJust (one : ℕ × Run State) : Type 0 where
    pub facts : List Fact
    pub there : facts_at (final isar one.1).place ≡ Some facts
    pub sorted : IsSorted by_name facts
    pub just : (fact : FactName) (f : Formula) → Has facts fact f ↔ IsStatedFrom nodes blobs one.0 fact f

  module _ (p : ℕ) (pair : List ℕ × Node) (at : slice_get nodes p ≡ Some pair) where
    pub up : (fact : FactName) (f : Formula) → IsHanded pair fact f → IsStatedFrom nodes blobs p fact f
    up fact f h = record {
      place = h.stated.place;
      pair = h.stated.pair;
      needed = imports pair h.name at h.listed h.named h.stated.needed;
      stands = h.stated.stands;
      stated = h.stated.stated;
    }

    pub needs_up : (fact : FactName) (f : Formula) (h : IsHanded pair fact f) → Needs nodes p h.stated.place
    needs_up fact f h = imports pair h.name at h.listed h.named h.stated.needed

    module _ (commands : List (Setting State)) (commands_are : scratch_at isar nodes blobs p ≡ commands) (fact : FactName) (f : Formula) where
      -- it is its own or handed on
      pub own_or_handed : IsStatedFrom nodes blobs p fact f → IsHanded pair fact f ⊎ IsStatedIn pair.0 commands fact f
      own_or_handed s = go s.place s.pair s.needed s.stands s.stated
        where
          go : (r : ℕ) (other : List ℕ × Node) → Needs nodes p r → slice_get nodes r ≡ Some other → IsStatedIn other.0 (scratch_at isar nodes blobs r) fact f
              → IsHanded pair fact f ⊎ IsStatedIn pair.0 commands fact f
          go r other itself on stated =
              let same : other ≡ pair = same_Some other pair (sym on ∙ at) in
              inr (subst (λ cs. IsStatedIn pair.0 cs fact f) commands_are (subst (λ (x : List ℕ × Node). IsStatedIn x.0 (scratch_at isar nodes blobs p) fact f) same stated))
          go r other (imports first name here listed named more) on stated =
              let same : first ≡ pair = same_Some first pair (sym here ∙ at) in
              inl (record {
                name = name;
                q = _;
                listed = subst (λ (x : List ℕ × Node). IsListed x.1.imports name) same listed;
                named = named;
                stated = record { place = r; pair = other; needed = more; stands = on; stated = stated };
              })

      pub just_these : (facts : List Fact) (end : List Fact) → Grows pair.0 facts (facts_stated commands) end → (Has facts fact f ↔ IsHanded pair fact f)
          → Has end fact f ↔ IsStatedFrom nodes blobs p fact f
      just_these facts end grows given = (
        λ h. ⊎_elim (λ has. up fact f (given.0 has)) (λ own. record {
          place = p;
          pair = pair;
          needed = itself;
          stands = at;
          stated = subst (λ cs. IsStatedIn pair.0 cs fact f) (sym commands_are) own;
        }) ((grows fact f).0 h),
        λ s. (grows fact f).1 (⊎_elim (λ handed. inl (given.1 handed)) (λ own. inr own) (own_or_handed s)),
      )

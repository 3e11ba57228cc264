-- An execution stands at one place of a version.
use Rattle.std.proofs.Common.{◌≡◌, inl, inr, ℕ, zero, suc, true, List, Option, Some, refl, ap, sym, subst, ◌∙◌, arith}
use Rattle.std.proofs.lemmas.Option.{slice_get_within}
use Rattle.std.specs.Prelude.{slice_get}
use Rattle.std.specs.Option.{option_map_or}
use Rattle.text_words.specs.Members.{has}
use Rattle.shared_map.specs.Pairs.{IsSorted}
use Rattle.doc_nodes.specs.declared.node.Node.{Node}
use Rattle.doc_nodes.specs.Names.{in_order}
use Rattle.exec_rules.specs.declared.row.Row.{Row}
use Rattle.exec_rules.specs.declared.home.Head.{Head}
use Rattle.exec_rules.specs.declared.home.Home.{Home}
use Rattle.exec_rules.specs.declared.home.Input.TheVariants as input
use Rattle.exec_rules.specs.declared.version.Version.{Version}
use Rattle.exec_rules.specs.Listed.{executions}
use Rattle.exec_rules.specs.Homes.{home}
use Rattle.exec_rules.proofs.KnownThere.{get_there}
use Rattle.language.specs.Lang.{Lang}
use Rattle.core_rules.specs.Numbered.{numbered}
use Rattle.core_rules.specs.Doc.{Doc}
use Rattle.core_rules.specs.FromScratch.{assigned_to, head_in, input_at, PrintIs, IsFromScratch, AllFromScratch}
use Rattle.core_rules.specs.Sources.{is_evaluation}
use Rattle.core_rules.proofs.AssignedRows.{IsIn, in_row}
use Rattle.core_rules.proofs.HandedSources.{input_evaluates}
use Rattle.core_rules.proofs.OneName.{one_name}

same_inputs : (o : Option Home) (a b : Home) → o ≡ Some a → o ≡ Some b → a.input ≡ b.input
same_inputs o a b x y = let same : a ≡ b = cc in ap (λ (z : Home). z.input) same

module _ {S : Type 0} (l : Lang S) (d : Doc) (v : Version) (sorted : IsSorted in_order v.nodes) (all : AllFromScratch l d v) where
  abbrev rows : ℕ → List Row
  rows p = (assigned_to v p).rows

  abbrev head : ℕ → List ℕ × Node → Head
  head p pair = head_in v.nodes p pair (assigned_to v p).key

  -- what the command at a place takes up, behind the first
  behind : (p i : ℕ) (pair : List ℕ × Node) (row : Row) → slice_get (rows p) (suc i) ≡ Some row
      → (r : Row) × (slice_get (rows p) i ≡ Some r) × (input_at (head p pair) (rows p) (suc i) ≡ input.Next r.evaluation)
  behind p i pair row at =
      let lt = slice_get_within (rows p) (suc i) row at in
      let there = get_there (rows p) i (omega (arith, lt)) in (
        there.0,
        there.1,
        ap (λ o. option_map_or (λ (r : Row). input.Next r.evaluation) o (input.First (head p pair))) there.1,
      )

  inputs : (p q i j : ℕ) (x y : List ℕ × Node) (r s : Row) → slice_get v.nodes p ≡ Some x → slice_get v.nodes q ≡ Some y
      → slice_get (rows p) i ≡ Some r → slice_get (rows q) j ≡ Some s → r.evaluation ≡ s.evaluation
      → input_at (head p x) (rows p) i ≡ input_at (head q y) (rows q) j
  inputs p q i j x y r s at on here there same =
      same_inputs (numbered d.homes s.evaluation) _ _ (ap (numbered d.homes) (sym same) ∙ (all p i x r at here).homed)
      (all q j y s on there).homed

  pub one_place : (p q i j : ℕ) (x y : List ℕ × Node) (r s : Row) → slice_get v.nodes p ≡ Some x → slice_get v.nodes q ≡ Some y
      → slice_get (rows p) i ≡ Some r → slice_get (rows q) j ≡ Some s → r.evaluation ≡ s.evaluation → (p ≡ q) × (i ≡ j)
  one_place p q zero zero x y r s at on here there same =
      let both : input.First (head p x) ≡ input.First (head q y) = inputs p q zero zero x y r s at on here there same in
      let heads : head p x ≡ head q y = cc in
      (one_name v.nodes p q x y sorted at on (ap (λ (z : Head). z.node) heads), refl)
  one_place p q zero (suc j) x y r s at on here there same =
      let before = behind q j y s there in
      let bad : input.First (head p x) ≡ input.Next before.0.evaluation =
      inputs p q zero (suc j) x y r s at on here there same ∙ before.2 in absurd (cc)
  one_place p q (suc i) zero x y r s at on here there same =
      let before = behind p i x r here in
      let bad : input.Next before.0.evaluation ≡ input.First (head q y) =
      sym before.2 ∙ inputs p q (suc i) zero x y r s at on here there same in absurd (cc)
  one_place p q (suc i) (suc j) x y r s at on here there same =
      let a = behind p i x r here in
      let b = behind q j y s there in
      let both : input.Next a.0.evaluation ≡ input.Next b.0.evaluation =
      sym a.2 ∙ inputs p q (suc i) (suc j) x y r s at on here there same ∙ b.2 in
      let evals : a.0.evaluation ≡ b.0.evaluation = cc in
      let rest = one_place p q i j x y a.0 b.0 at on a.1 b.1 evals in
      (rest.0, ap suc rest.1)

  printed : (p i e : ℕ) (x : List ℕ × Node) (r : Row) → slice_get v.nodes p ≡ Some x → slice_get (rows p) i ≡ Some r → r.print ≡ Some e
      → (h : Home) × (numbered d.homes e ≡ Some h) × (h.input ≡ input.Print r.evaluation)
  printed p i e x r at here is =
      let so : IsFromScratch l d v p x i r = all p i x r at here in
      let print : PrintIs l d (Some e) (home x.1 v.blobs so.command) r.evaluation so.works_on =
      subst (λ o. PrintIs l d o (home x.1 v.blobs so.command) r.evaluation so.works_on) is so.prints in
      (home x.1 v.blobs so.command (input.Print r.evaluation), print.0, refl)

  not_both : (p q i j e : ℕ) (x y : List ℕ × Node) (r s : Row) → slice_get v.nodes p ≡ Some x → slice_get v.nodes q ≡ Some y
      → slice_get (rows p) i ≡ Some r → slice_get (rows q) j ≡ Some s → e ≡ r.evaluation → s.print ≡ Some e → true ≡ is_evaluation (input.Print s.evaluation)
  not_both p q i j e x y r s at on here there is print =
      let a = printed q j e y s on there print in
      sym (input_evaluates (head p x) (rows p) i)
      ∙ ap is_evaluation (same_inputs (numbered d.homes e) _ _ (ap (numbered d.homes) is ∙ (all p i x r at here).homed) a.1 ∙ a.2)

  pub stands_once : (p q i j e : ℕ) (x y : List ℕ × Node) (r s : Row) → slice_get v.nodes p ≡ Some x → slice_get v.nodes q ≡ Some y
      → slice_get (rows p) i ≡ Some r → slice_get (rows q) j ≡ Some s → has (executions r) e ≡ true → has (executions s) e ≡ true
      → (p ≡ q) × (i ≡ j)
  stands_once p q i j e x y r s at on here there one other = go (in_row r e one) (in_row s e other)
    where
      go : IsIn r e → IsIn s e → (p ≡ q) × (i ≡ j)
      go (inl a) (inl b) = one_place p q i j x y r s at on here there (sym a ∙ b)
      go (inl a) (inr b) = let bad = not_both p q i j e x y r s at on here there a b in absurd (cc)
      go (inr a) (inl b) = let bad = not_both q p j i e y x s r on at there here b a in absurd (cc)
      go (inr a) (inr b) =
          let m = printed p i e x r at here a in
          let n = printed q j e y s on there b in
          let prints : input.Print r.evaluation ≡ input.Print s.evaluation =
          sym m.2 ∙ same_inputs (numbered d.homes e) m.0 n.0 m.1 n.1 ∙ n.2 in
          let evals : r.evaluation ≡ s.evaluation = cc in
          one_place p q i j x y r s at on here there evals

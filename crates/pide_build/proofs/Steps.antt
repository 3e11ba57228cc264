-- One batch more.
use Rattle.std.proofs.Common.{◌≡◌, ℕ, ◌<◌, ◌≤◌, Bool, true, false, List, [], ◌∷◌, ◌++◌, length, get_or, take, drop, refl, sym, ap, subst, ◌∙◌, append_assoc, append-nil, not}
use mathlib.Core.Bool.{false≢true}
use lib.Seq.{take_at, drop_at}
use Rattle.std.specs.List.{list_all}
use Rattle.std.proofs.lemmas.List.{length-map}
use Rattle.text_words.specs.Members.{has}
use Rattle.doc_nodes.specs.Rounds.{is_known, round, in_rounds}
use Rattle.doc_nodes.specs.Looks.{aims_at, met_by, AreMarks}
use Rattle.text_words.proofs.KnownMembers.{has_itself, has_middle}
use Rattle.doc_nodes.proofs.KnownFiltered.{filtered_within}
use Rattle.doc_nodes.specs.Graph.{Graph}
use Rattle.doc_nodes.specs.Graphs.{IsGraphOf}
use Rattle.doc_nodes.specs.Imports.{NodeList, aims, aims_of, is_ordered, other_places}
use Rattle.pide_build.specs.Batches.{begins_by}
use Rattle.pide_build.proofs.Rounds.{Stands, next, behind, fit, unfit, no_more}
use Rattle.pide_build.proofs.Cuts.{all_met, count_is}
use Rattle.pide_build.proofs.Joined.{unordered}

module _ (nodes : NodeList) where
  -- so many of the nodes that are left are the round after the ordered ones
  pub record IsCut (front rest : List ℕ) (count : ℕ) (later : List ℕ) : Type 0 where
    pub now : take count rest ≡ round (aims nodes) front
    pub later_is : drop count rest ≡ later ++ other_places nodes
    pub some : 0 < length (round (aims nodes) front)
    pub stands : Stands (aims nodes) (front ++ round (aims nodes) front) later

  apart : (o : ℕ) → has (other_places nodes) o ≡ true
      → (o < length (aims nodes)) × (has (in_rounds (aims nodes)) o ≡ false)
  apart o h = (
    subst (λ n. o < n) (sym (length-map nodes (λ pair. aims_of nodes pair.1)))
        (filtered_within (λ p. not (is_ordered nodes p)) (length nodes) o h),
    unordered nodes o h,
  )

  module _ (graph : Graph) (is : IsGraphOf nodes graph) (front left rest : List ℕ) (s : Stands (aims nodes) front left)
      (rest_is : rest ≡ left ++ other_places nodes) where
    -- what is left begins with an ordered node just where one is left
    first_left : (xs : List ℕ) → left ≡ xs → begins_by graph.marks (xs ++ other_places nodes) ≡ true → (p : ℕ) × (l : List ℕ) × (left ≡ p ∷ l)
    first_left [] e first = by (other_places nodes) refl first
      where
        by : (os : List ℕ) → other_places nodes ≡ os → begins_by graph.marks os ≡ true
            → (p : ℕ) × (l : List ℕ) × (left ≡ p ∷ l)
        by [] none first = absurd (false≢true first)
        by (o ∷ os) some first =
            let there : has (other_places nodes) o ≡ true = ap (λ xs. has xs o) some ∙ has_itself
            os o in
            absurd (false≢true (sym (apart o there).1 ∙ sym (is.marks_are o) ∙ first))
    first_left (p ∷ l) e first = (p, l, e)

    none_left : (xs : List ℕ) → left ≡ xs
        → begins_by graph.marks (xs ++ other_places nodes) ≡ false → left ≡ []
    none_left [] e first = e
    none_left (p ∷ l) e first =
        let whole : front ++ p ∷ l ≡ in_rounds (aims nodes) = ap (λ xs. front ++ xs) (sym e) ∙ s.whole in
        let there : has (in_rounds (aims nodes)) p ≡ true = ap (λ xs. has xs p) (sym whole) ∙ has_middle front p l in
        absurd (false≢true (sym first ∙ is.marks_are p ∙ there))

    -- where none begins, no round is left, but the others
    pub ended : begins_by graph.marks rest ≡ false
        → (round (aims nodes) front ≡ []) × (rest ≡ other_places nodes)
    ended first =
        let none = none_left left refl (ap (begins_by graph.marks) (sym rest_is) ∙ first) in
        let all : front ≡ in_rounds (aims nodes) = sym (append-nil front) ∙ ap (λ xs. front ++ xs) (sym none) ∙ s.whole in (
          ap (round (aims nodes)) all ∙ no_more (aims nodes),
          rest_is ∙ ap
              (λ xs. xs ++ other_places nodes) none,
        )

    module _ (marks : List Bool) (are : AreMarks marks front) (count : ℕ) where
      test : ℕ → Bool
      test q = list_all (met_by marks) (aims_at graph.aims q)

      agree : (q : ℕ) → test q ≡ list_all (is_known front) (aims_at (aims nodes) q)
      unfolding test
      agree q = ap (λ rows. list_all (met_by marks) (aims_at rows q)) is.aims_are ∙ all_met marks front are (aims_at (aims nodes) q)

      pub cut_at : begins_by graph.marks rest ≡ true → 0 < count → count ≤ length rest
          → ((q : ℕ) → 0 < q → q < count → list_all (met_by marks) (aims_at graph.aims (get_or rest q 0)) ≡ true)
          → (count < length rest → list_all (met_by marks) (aims_at graph.aims (get_or rest count 0)) ≡ false)
          → (later : List ℕ) × IsCut front rest count later
      unfolding test
      cut_at first least most passed stop =
          let head = first_left left refl (ap (begins_by graph.marks) (sym rest_is) ∙ first) in
          let n = next (aims nodes) front head.0 head.1 (subst (Stands (aims nodes) front) head.2 s) in
          let now = round (aims nodes) front in let more = n.0 ++ other_places nodes in
          let all : rest ≡ now ++ more =
          rest_is ∙ ap (λ xs. xs ++ other_places nodes) (head.2 ∙ n.1.cut) ∙ append_assoc now n.0
          (other_places nodes) in
          let fails : (q : ℕ) (tail : List ℕ) → more ≡ q ∷ tail → test q ≡ false = λ q tail e.
          let b = behind (aims nodes) (other_places nodes) front now n.0 q tail n.1.stands.whole
          apart e in
          agree q ∙ unfit (aims nodes) front q b.0 b.1 in
          let is_count : count ≡ length now =
          count_is test now more count n.1.some (λ q h. agree q ∙ fit (aims nodes) front q h) fails least
          (subst (λ xs. count ≤ length xs) all most)
          (λ q low high. subst (λ xs. test (get_or xs q 0) ≡ true) all (passed q low high))
          (λ short. subst (λ xs. test (get_or xs count 0) ≡ false) all (stop (subst (λ xs. count < length xs) (sym all) short))) in (
            n.0,
            record {
              now = ap (take count) all ∙ take_at now more count (sym is_count);
              later_is = ap (drop count) all ∙ drop_at now more count (sym is_count);
              some = n.1.some;
              stands = n.1.stands;
            },
          )

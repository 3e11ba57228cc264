-- The first fault from the left is the fault of the reading.
use Rattle.std.proofs.Common.{◌≡◌, ℕ, zero, suc, List, [], ◌∷◌, ◌++◌, map, Option, Some, None, Ok, Err, refl, sym, subst, ◌∙◌}
use Rattle.nj_kernel.specs.declared.rule.Rule.{Rule}
use Rattle.nj_kernel.specs.declared.rule.Rule.TheVariants as R
use Rattle.proof_terms.specs.declared.fault.TermFault.TheVariants.{ProofTooDeep}
use Rattle.proof_terms.specs.declared.mark.Mark.{Mark}
use Rattle.proof_terms.specs.declared.mark.Mark.TheVariants.{Opens, Name, Long}
use Rattle.proof_terms.specs.declared.reader.Start.TheVariants as S
use Rattle.proof_terms.specs.declared.term.Term.{Term}
use Rattle.proof_terms.specs.declared.term.Term.TheVariants.{ConjI, ConjE1, ConjE2, DisjI1, DisjI2, DisjE, ImpI, ImpE, NotI, NotE, FalseE, AllI, AllE, ExI, ExE}
use Rattle.proof_terms.specs.RuleNames.{rule_of}
use Rattle.proof_terms.specs.Slots.{Slot, formula, object, named, proof, slots, Part, a_formula, an_object, a_name, a_proof, built_term}
use Rattle.proof_terms.specs.Faults.{Awaited, in_slot, closing, judge_rule, goes_on, first_fault}
use Rattle.proof_terms.specs.Reading.{Read, and_then, of_name, read_name, read_close, read_formula, read_object, read_part, read_parts, made, read_rule, read_on, read_term}
use Rattle.proof_terms.proofs.StepLemmas.{parted, same_first}
use Rattle.proof_terms.proofs.JudgedParts.{after, mapped, formula_judged, object_judged, name_judged, close_judged}

-- parts stand in their places
abbrev Fits : List Slot → List Part → Type 0
Fits [] [] = Unit {0}
Fits (formula ∷ ss) (a_formula a ∷ ps) = Fits ss ps
Fits (object ∷ ss) (an_object a ∷ ps) = Fits ss ps
Fits (named ∷ ss) (a_name a ∷ ps) = Fits ss ps
Fits (proof ∷ ss) (a_proof a ∷ ps) = Fits ss ps
Fits _ _ = ⊥

built_fits : (r : Rule) (ps : List Part) → Fits (slots r) ps
    → (t : Term) × (built_term r ps ≡ Some t)
built_fits R.ConjI (a_proof t ∷ a_proof u ∷ []) h = (ConjI t u, refl)
built_fits R.ConjE1 (a_formula b ∷ a_proof t ∷ []) h = (ConjE1 b t, refl)
built_fits R.ConjE2 (a_formula a ∷ a_proof t ∷ []) h = (ConjE2 a t, refl)
built_fits R.DisjI1 (a_proof t ∷ []) h = (DisjI1 t, refl)
built_fits R.DisjI2 (a_proof t ∷ []) h = (DisjI2 t, refl)
built_fits R.DisjE (a_formula a ∷ a_formula b ∷ a_proof t ∷ a_name x ∷ a_proof u ∷ a_name y ∷ a_proof v ∷ []) h = (DisjE a b t x u y v, refl)
built_fits R.ImpI (a_name x ∷ a_proof t ∷ []) h = (ImpI x t, refl)
built_fits R.ImpE (a_formula a ∷ a_proof t ∷ a_proof u ∷ []) h = (ImpE a t u, refl)
built_fits R.NotI (a_name x ∷ a_proof t ∷ []) h = (NotI x t, refl)
built_fits R.NotE (a_formula a ∷ a_proof t ∷ a_proof u ∷ []) h = (NotE a t u, refl)
built_fits R.FalseE (a_proof t ∷ []) h = (FalseE t, refl)
built_fits R.AllI (a_name x ∷ a_proof t ∷ []) h = (AllI x t, refl)
built_fits R.AllE (a_formula q ∷ an_object s ∷ a_proof t ∷ []) h = (AllE q s t, refl)
built_fits R.ExI (an_object s ∷ a_proof t ∷ []) h = (ExI s t, refl)
built_fits R.ExE (a_formula q ∷ a_name x ∷ a_name k ∷ a_proof t ∷ a_proof u ∷ []) h = (ExE q x k t u, refl)
built_fits _ _ h = absurd h

module _ (sub : List Mark → Read Term) where
  part_fits : (s : Slot) (ms : List Mark) (p : Part) (behind : List Mark) (ss : List Slot) (ps : List Part)
      → read_part sub s ms ≡ Ok (p, behind) → Fits ss ps → Fits (s ∷ ss) (p ∷ ps)
  part_fits formula ms p behind ss ps e h = let q = parted (read_formula ms) (λ a more. Ok (a_formula a, more)) (p, behind) e in subst (λ z. Fits (formula ∷ ss) (z ∷ ps)) (same_first q.so) h
  part_fits object ms p behind ss ps e h = let q = parted (read_object ms) (λ a more. Ok (an_object a, more)) (p, behind) e in subst (λ z. Fits (object ∷ ss) (z ∷ ps)) (same_first q.so) h
  part_fits named ms p behind ss ps e h = let q = parted (read_name ms) (λ a more. Ok (a_name a, more)) (p, behind) e in subst (λ z. Fits (named ∷ ss) (z ∷ ps)) (same_first q.so) h
  part_fits proof ms p behind ss ps e h = let q = parted (sub ms) (λ a more. Ok (a_proof a, more)) (p, behind) e in subst (λ z. Fits (proof ∷ ss) (z ∷ ps)) (same_first q.so) h

  parts_fit : (ss : List Slot) (ms : List Mark) (ps : List Part) (last : List Mark) → read_parts sub ss ms ≡ Ok (ps, last) → Fits ss ps
  parts_fit [] ms ps last e = subst (λ z. Fits [] z) (same_first e) tt
  parts_fit (s ∷ ss) ms ps last e =
      let one = parted (read_part sub s ms) (λ p behind. and_then (read_parts sub ss behind) (λ qs end. Ok (p ∷ qs, end))) (ps, last) e in
      let more = parted (read_parts sub ss one.rest) (λ qs end. Ok (one.first ∷ qs, end)) (ps, last) one.so in
      subst (λ z. Fits (s ∷ ss) z) (same_first more.so)
      (part_fits s ms one.first one.rest ss more.first one.was (parts_fit ss one.rest more.first more.rest more.was))

  module _ (n : ℕ) (judged : (ms : List Mark) (aw : List Awaited) → first_fault (in_slot n proof ∷ aw) ms ≡ after (sub ms) aw) where
    part_judged : (s : Slot) (ms : List Mark) (aw : List Awaited) → first_fault (in_slot n s ∷ aw) ms ≡ after (read_part sub s ms) aw
    part_judged formula ms aw = formula_judged n ms aw ∙ sym (mapped (read_formula ms) a_formula aw)
    part_judged object ms aw = object_judged n ms aw ∙ sym (mapped (read_object ms) an_object aw)
    part_judged named ms aw = name_judged n ms aw ∙ sym (mapped (read_name ms) a_name aw)
    part_judged proof ms aw = judged ms aw ∙ sym (mapped (sub ms) a_proof aw)

    others_judged : (s : Slot) (ss : List Slot) (aw : List Awaited) (r : Read Part)
        → ((behind : List Mark) → first_fault (map (in_slot n) ss ++ aw) behind ≡ after (read_parts sub ss behind) aw)
        → after r (map (in_slot n) ss ++ aw) ≡ after (and_then r (λ p behind. and_then (read_parts sub ss behind) (λ qs end. Ok (p ∷ qs, end)))) aw
    others_judged s ss aw (Err f) others = refl
    others_judged s ss aw (Ok r) others = others r.1 ∙ sym (mapped (read_parts sub ss r.1) (λ qs. r.0 ∷ qs) aw)

    parts_judged : (ss : List Slot) (ms : List Mark) (aw : List Awaited) → first_fault (map (in_slot n) ss ++ aw) ms ≡ after (read_parts sub ss ms) aw
    parts_judged [] ms aw = refl
    parts_judged (s ∷ ss) ms aw = part_judged s ms (map (in_slot n) ss ++ aw) ∙ others_judged s ss aw (read_part sub s ms) (λ behind. parts_judged ss behind aw)

    rule_judged : (r : Rule) (ms : List Mark) (aw : List Awaited) → first_fault (map (in_slot n) (slots r) ++ closing ∷ aw) ms ≡ after (read_rule sub r ms) aw
    rule_judged r ms aw = parts_judged (slots r) ms (closing ∷ aw) ∙ go (read_parts sub (slots r) ms) refl
      where
        closed : (t : Term) (o : Option Term) (behind : List Mark) → o ≡ Some t
            → first_fault (closing ∷ aw) behind ≡ after (and_then (made o behind) (λ u more. and_then (read_close more) (λ _ last. Ok (u, last)))) aw
        closed t None behind e = cc
        closed t (Some u) behind e = close_judged u behind aw

        go : (m : Read (List Part)) → read_parts sub (slots r) ms ≡ m
            → after m (closing ∷ aw) ≡ after (and_then (and_then m (λ ps more. made (built_term r ps) more)) (λ u more. and_then (read_close more) (λ _ last. Ok (u, last)))) aw
        go (Err f) e = refl
        go (Ok p) e = let b = built_fits r p.0 (parts_fit (slots r) ms p.0 p.1 e) in closed b.0
            (built_term r p.0) p.1 b.1

-- a rule's name, where at most so many are nested
too_deep : (o : Option Rule) (ms : List Mark) (aw : List Awaited)
    → goes_on (judge_rule zero o aw) (λ next. first_fault next ms)
    ≡ after (and_then (and_then (of_name o ms) (λ r last. Ok (S.Rule r, last))) (read_on (λ r more. Err ProofTooDeep))) aw
too_deep None ms aw = refl
too_deep (Some r) ms aw = refl

behind_name : (n : ℕ) (judged : (ms : List Mark) (aw : List Awaited) → first_fault (in_slot n proof ∷ aw) ms ≡ after (read_term n ms) aw)
    (o : Option Rule) (ms : List Mark) (aw : List Awaited)
    → goes_on (judge_rule (suc n) o aw) (λ next. first_fault next ms)
    ≡ after (and_then (and_then (of_name o ms) (λ r last. Ok (S.Rule r, last))) (read_on (read_rule (read_term n)))) aw
behind_name n judged None ms aw = refl
behind_name n judged (Some r) ms aw = rule_judged (read_term n) n judged r ms aw

pub term_judged : (n : ℕ) (ms : List Mark) (aw : List Awaited) → first_fault (in_slot n proof ∷ aw) ms ≡ after (read_term n ms) aw
term_judged zero [] aw = refl
term_judged zero (Name c ∷ ms) aw = refl
term_judged zero (Long c ∷ ms) aw = refl
term_judged zero (Opens ∷ []) aw = refl
term_judged zero (Opens ∷ Name c ∷ ms) aw = too_deep (rule_of c.name) ms aw
term_judged zero (Opens ∷ _ ∷ ms) aw = refl
term_judged zero (_ ∷ ms) aw = refl
term_judged (suc n) [] aw = refl
term_judged (suc n) (Name c ∷ ms) aw = refl
term_judged (suc n) (Long c ∷ ms) aw = refl
term_judged (suc n) (Opens ∷ []) aw = refl
term_judged (suc n) (Opens ∷ Name c ∷ ms) aw = behind_name n (term_judged n) (rule_of c.name) ms aw
term_judged (suc n) (Opens ∷ _ ∷ ms) aw = refl
term_judged (suc n) (_ ∷ ms) aw = refl

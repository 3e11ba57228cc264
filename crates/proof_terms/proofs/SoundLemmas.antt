-- What is read is what the grammar says.
use Rattle.std.proofs.Common.{◌≡◌, ℕ, zero, suc, List, [], ◌∷◌, ◌++◌, Option, Some, None, Ok, Err, ap, sym, subst, ◌∙◌, append_assoc}
use Rattle.nj_kernel.specs.declared.rule.Rule.{Rule}
use Rattle.proof_terms.specs.declared.fault.TermFault.TheVariants.{ProofTooDeep}
use Rattle.proof_terms.specs.declared.mark.Mark.{Mark}
use Rattle.proof_terms.specs.declared.mark.Mark.TheVariants.{Opens, Closes, Name, Quoted}
use Rattle.proof_terms.specs.declared.term.Cite.{Cite}
use Rattle.proof_terms.specs.declared.term.Term.{Term}
use Rattle.proof_terms.specs.RuleNames.{rule_of}
use Rattle.proof_terms.specs.Slots.{Slot, formula, object, named, proof, slots, Part, a_formula, an_object, a_name, a_proof, built_term}
use Rattle.proof_terms.specs.Grammar.{IsTerm, ruled, AreParts, none, then_formula, then_object, then_name, then_proof}
use Rattle.proof_terms.specs.Reading.{and_then, read_start, read_name, read_close, read_formula, read_object, read_part, read_parts, made, read_inside, read_rule, read_on, read_term}
use Rattle.proof_terms.proofs.StepLemmas.{parted, same_first, same_rest}
use Rattle.proof_terms.proofs.TakenMarks.{Front, formula_front, object_front, name_front, close_front, start_front, begun}

module _ (n : ℕ) (sub : (ms : List Mark) (t : Term) (rest : List Mark) → read_term n ms ≡ Ok (t, rest) → Front (λ front. IsTerm n front t) ms rest) where
  -- one part in front of others
  one_more : (s : Slot) (ms behind last : List Mark) (p : Part) (ss : List Slot) (ps : List Part)
      → read_part (read_term n) s ms ≡ Ok (p, behind) → Front (λ front. AreParts n ss front ps) behind last
      → Front (λ front. AreParts n (s ∷ ss) front (p ∷ ps)) ms last
  one_more formula ms behind last p ss ps e others =
      let q = parted (read_formula ms) (λ a more. Ok (a_formula a, more)) (p, behind) e in
      let f = formula_front ms q.first q.rest q.was in
      record {
        front = Quoted f.0 ∷ others.front;
        cut = f.1 ∙ ap (λ z. Quoted f.0 ∷ z) (same_rest q.so ∙ others.cut);
        is = subst (λ z. AreParts n (formula ∷ ss) (Quoted f.0 ∷ others.front) (z ∷ ps)) (same_first q.so) (then_formula f.2 others.is);
      }
  one_more object ms behind last p ss ps e others =
      let q = parted (read_object ms) (λ a more. Ok (an_object a, more)) (p, behind) e in
      let f = object_front ms q.first q.rest q.was in
      record {
        front = Quoted f.0 ∷ others.front;
        cut = f.1 ∙ ap (λ z. Quoted f.0 ∷ z) (same_rest q.so ∙ others.cut);
        is = subst (λ z. AreParts n (object ∷ ss) (Quoted f.0 ∷ others.front) (z ∷ ps)) (same_first q.so) (then_object f.2 others.is);
      }
  one_more named ms behind last p ss ps e others =
      let q = parted (read_name ms) (λ x more. Ok (a_name x, more)) (p, behind) e in
      let f = name_front ms q.first q.rest q.was in
      record {
        front = Name f.0 ∷ others.front;
        cut = f.1 ∙ ap (λ z. Name f.0 ∷ z) (same_rest q.so ∙ others.cut);
        is = subst (λ z. AreParts n (named ∷ ss) (Name f.0 ∷ others.front) (z ∷ ps)) (ap a_name f.2 ∙ same_first q.so) (then_name others.is);
      }
  one_more proof ms behind last p ss ps e others =
      let q = parted (read_term n ms) (λ t more. Ok (a_proof t, more)) (p, behind) e in
      let f = sub ms q.first q.rest q.was in
      record {
        front = f.front ++ others.front;
        cut = f.cut ∙ (ap (λ z. f.front ++ z) (same_rest q.so ∙ others.cut) ∙ sym (append_assoc f.front others.front last));
        is = subst (λ z. AreParts n (proof ∷ ss) (f.front ++ others.front) (z ∷ ps)) (same_first q.so) (then_proof f.is others.is);
      }

  pub parts_front : (ss : List Slot) (ms : List Mark) (ps : List Part) (last : List Mark) → read_parts (read_term n) ss ms ≡ Ok (ps, last)
      → Front (λ front. AreParts n ss front ps) ms last
  parts_front [] ms ps last e = record { front = []; cut = same_rest e; is = subst (λ z. AreParts n [] [] z) (same_first e) none }
  parts_front (s ∷ ss) ms ps last e =
      let one = parted (read_part (read_term n) s ms) (λ p behind. and_then (read_parts (read_term n) ss behind) (λ qs end. Ok (p ∷ qs, end))) (ps, last) e in
      let more = parted (read_parts (read_term n) ss one.rest) (λ qs end. Ok (one.first ∷ qs, end)) (ps, last) one.so in
      let others = parts_front ss one.rest more.first last (more.was ∙ ap (λ z. Ok (more.first, z)) (same_rest more.so)) in
      subst (λ z. Front (λ front. AreParts n (s ∷ ss) front z) ms last) (same_first more.so)
      (one_more s ms one.rest last one.first ss more.first one.was others)

built_is : (o : Option Term) (more : List Mark) (t : Term) (rest : List Mark) → made o more ≡ Ok (t, rest) → (o ≡ Some t) × (more ≡ rest)
built_is None more t rest e = cc
built_is (Some u) more t rest e = (ap Some (same_first e), same_rest e)

in_rule : (n : ℕ) (sub : (ms : List Mark) (t : Term) (rest : List Mark) → read_term n ms ≡ Ok (t, rest) → Front (λ front. IsTerm n front t) ms rest)
    (r : Rule) (c : Cite) (ms more : List Mark) (t : Term) (rest : List Mark) → ms ≡ Opens ∷ Name c ∷ more → rule_of c.name ≡ Some r
    → read_rule (read_term n) r more ≡ Ok (t, rest) → Front (λ front. IsTerm (suc n) front t) ms rest
in_rule n sub r c ms more t rest is named_so e =
    let whole = parted (read_inside (read_term n) r more) (λ u behind. and_then (read_close behind) (λ _ last. Ok (u, last))) (t, rest) e in
    let end = parted (read_close whole.rest) (λ _ last. Ok (whole.first, last)) (t, rest) whole.so in
    let parts = parted (read_parts (read_term n) (slots r) more) (λ ps behind. made (built_term r ps) behind) (whole.first, whole.rest) whole.was in
    let b = built_is (built_term r parts.first) parts.rest whole.first whole.rest parts.so in
    let f = parts_front n sub (slots r) more parts.first parts.rest parts.was in
    let closed : parts.rest ≡ Closes ∷ rest = b.1 ∙ (close_front whole.rest end.rest end.first end.was ∙ ap (λ z. Closes ∷ z) (same_rest end.so)) in
    record {
      front = Opens ∷ Name c ∷ f.front ++ Closes ∷ [];
      cut = is ∙ ap (λ z. Opens ∷ Name c ∷ z) (f.cut ∙ (ap (λ z. f.front ++ z) closed ∙ sym (append_assoc f.front (Closes ∷ []) rest)));
      is = ruled r named_so f.is (b.0 ∙ ap Some (same_first end.so));
    }

pub term_front : (n : ℕ) (ms : List Mark) (t : Term) (rest : List Mark) → read_term n ms ≡ Ok (t, rest) → Front (λ front. IsTerm n front t) ms rest
term_front zero ms t rest e =
    let p = parted (read_start ms) (read_on (λ r more. Err ProofTooDeep)) (t, rest) e in
    begun zero (λ r more. Err ProofTooDeep) p.first ms p.rest t rest (start_front ms p.first p.rest p.was) p.so (λ r c is named_so no. cc)
term_front (suc n) ms t rest e =
    let p = parted (read_start ms) (read_on (read_rule (read_term n))) (t, rest) e in
    begun (suc n) (read_rule (read_term n)) p.first ms p.rest t rest (start_front ms p.first p.rest p.was) p.so
    (λ r c is named_so so. in_rule n (term_front n) r c ms p.rest t rest is named_so so)

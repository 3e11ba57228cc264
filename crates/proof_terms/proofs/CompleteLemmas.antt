-- What the grammar says of tokens is read from them.
use Rattle.std.proofs.Common.{◌≡◌, ℕ, zero, suc, List, [], ◌∷◌, ◌++◌, Some, Ok, refl, ap, ◌∙◌, append_assoc}
use Rattle.nj_kernel.specs.declared.rule.Rule.{Rule}
use Rattle.proof_terms.specs.declared.mark.Mark.{Mark}
use Rattle.proof_terms.specs.declared.mark.Mark.TheVariants.{Opens, Closes, Name, Quoted}
use Rattle.proof_terms.specs.declared.reader.Start.TheVariants as S
use Rattle.proof_terms.specs.declared.term.Cite.{Cite}
use Rattle.proof_terms.specs.declared.term.Term.{Term}
use Rattle.proof_terms.specs.declared.term.Term.TheVariants.{Fact}
use Rattle.proof_terms.specs.Slots.{Slot, formula, object, named, proof, slots, Part, a_formula, an_object, a_proof, built_term}
use Rattle.proof_terms.specs.Grammar.{IsCite, by_name, by_long_name, IsTerm, fact, ruled, AreParts, none, then_formula, then_object, then_name, then_proof}
use Rattle.proof_terms.specs.Reading.{Read, and_then, of_name, read_start, read_close, unquoted, read_part, read_parts, made, read_inside, read_rule, read_on, read_term}
use Rattle.proof_terms.proofs.StepLemmas.{then_ok}

cited : (n : ℕ) {m : Mark} {c : Cite} → IsCite m c → (back : List Mark) → read_term n (m ∷ back) ≡ Ok (Fact c, back)
cited zero by_name back = refl
cited zero by_long_name back = refl
cited (suc n) by_name back = refl
cited (suc n) by_long_name back = refl

-- a rule behind its name
rule_read : (sub : List Mark → Read Term) (r : Rule) (ms : List Mark) {back : List Mark} {ps : List Part} {t : Term}
    → read_parts sub (slots r) ms ≡ Ok (ps, Closes ∷ back) → built_term r ps ≡ Some t
    → read_rule sub r ms ≡ Ok (t, back)
rule_read sub r ms {back} {ps} {t} e is =
    let inside : read_inside sub r ms ≡ Ok (t, Closes ∷ back) =
    then_ok (λ qs more. made (built_term r qs) more) e ∙ ap (λ o. made o (Closes ∷ back)) is in
    then_ok (λ u more. and_then (read_close more) (λ _ last. Ok (u, last))) inside

-- one part and the others
more_read : (sub : List Mark → Read Term) (s : Slot) (more : List Slot) (ms : List Mark) {behind last : List Mark} {p : Part} {ps : List Part}
    → read_part sub s ms ≡ Ok (p, behind) → read_parts sub more behind ≡ Ok (ps, last)
    → read_parts sub (s ∷ more) ms ≡ Ok (p ∷ ps, last)
more_read sub s more ms {p = p} one others =
    then_ok (λ q rest. and_then (read_parts sub more rest) (λ qs end. Ok (q ∷ qs, end))) one
    ∙ then_ok (λ qs end. Ok (p ∷ qs, end)) others

mutual
  pub term_read : {n : ℕ} {front : List Mark} {t : Term} → IsTerm n front t → (back : List Mark)
      → read_term n (front ++ back) ≡ Ok (t, back)
  term_read (fact {n = n} is) back = cited n is back
  term_read (ruled {n = n} {c = c} {inside = inside} {parts = parts} {t = t} r named_so parts_are is) back =
      let behind : List Mark = (inside ++ Closes ∷ []) ++ back in
      let start : read_start (Opens ∷ Name c ∷ behind) ≡ Ok (S.Rule r, behind) =
      ap (λ o. and_then (of_name o behind) (λ q last. Ok (S.Rule q, last))) named_so in
      let cut : behind ≡ inside ++ (Closes ∷ back) = append_assoc inside (Closes ∷ []) back in
      then_ok (read_on (read_rule (read_term n))) start
      ∙ (ap (read_rule (read_term n) r) cut ∙ rule_read (read_term n) r (inside ++ (Closes ∷ back)) (parts_read parts_are (Closes ∷ back)) is)

  pub parts_read : {n : ℕ} {ss : List Slot} {inside : List Mark} {ps : List Part} → AreParts n ss inside ps → (back : List Mark)
      → read_parts (read_term n) ss (inside ++ back) ≡ Ok (ps, back)
  parts_read none back = refl
  parts_read (then_formula {n = n} {more = more} {s = s} {back = rest} is others) back =
      more_read (read_term n) formula more (Quoted s ∷ rest ++ back) (ap (λ r. and_then (unquoted r (rest ++ back)) (λ a behind. Ok (a_formula a, behind))) is) (parts_read others back)
  parts_read (then_object {n = n} {more = more} {s = s} {back = rest} is others) back =
      more_read (read_term n) object more (Quoted s ∷ rest ++ back) (ap (λ r. and_then (unquoted r (rest ++ back)) (λ a behind. Ok (an_object a, behind))) is) (parts_read others back)
  parts_read (then_name {n = n} {more = more} {c = c} {back = rest} others) back =
      more_read (read_term n) named more (Name c ∷ rest ++ back) refl (parts_read others back)
  parts_read (then_proof {n = n} {more = more} {front = front} {back = rest} {t = t} is others) back =
      more_read (read_term n) proof more ((front ++ rest) ++ back)
      (then_ok (λ u behind. Ok (a_proof u, behind)) (ap (read_term n) (append_assoc front rest back) ∙ term_read is (rest ++ back)))
      (parts_read others back)

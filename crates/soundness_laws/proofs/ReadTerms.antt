-- The marks of a term's lexemes are read as a term that says the same.
use Rattle.std.proofs.Common.{◌≡◌, inl, inr, ℕ, zero, suc, ◌+◌, List, [], ◌∷◌, ◌++◌, length, Result, Ok, sym, refl, ap, ◌∙◌, subst, append_assoc}
use Rattle.pide_base.specs.declared.range.Range.{Range}
use Rattle.nj_syntax.specs.Answer.{formula_of}
use Rattle.nj_kernel.specs.declared.rule.Rule.{Rule}
use Rattle.nj_kernel.specs.RuleNames.{rule_name}
use Rattle.outer_syntax.specs.declared.kind.Kind.TheVariants as kind
use Rattle.nj_syntax.specs.Printed.{formula_text}
use Rattle.proof_terms.specs.declared.fault.TermFault.{TermFault}
use Rattle.proof_terms.specs.declared.term.Term.{Term}
use Rattle.proof_terms.specs.declared.term.Term.TheVariants.{Fact}
use Rattle.proof_terms.specs.Marks.{mark}
use Rattle.proof_terms.specs.Slots.{Slot, formula, object, named, proof, slots, a_formula, a_name, a_proof, built_term}
use Rattle.proof_terms.specs.Reading.{and_then, unquoted, read_parts, read_close, read_term, made}
use Rattle.soundness_laws.specs.Lexemes.{Lexeme, word, opening, closing, text_of}
use Rattle.soundness_laws.specs.Alike.{IsAlike, fact}
use Rattle.soundness_laws.proofs.AlikeParts.{AreAlike, made_alike}
use Rattle.soundness_laws.proofs.LexemeMarks.{marks_of, marks_both, mark_at}
use Rattle.soundness_laws.proofs.ReadBack.{read_back, plain_text}
use Rattle.soundness_laws.proofs.ReadMarks.{content_plain, name_read, fact_read, rule_read}
use Rattle.soundness_laws.proofs.RuleParts.{Parts, listed, term_of, built_is}
use Rattle.soundness_laws.proofs.Written.{IsFact, AreWritten, IsWritten, parts_lexemes, rule_lexemes, lexemes}

-- a term alike is read of these marks, and these are left
pub record ReadsAs {M : Type 0} (read_of : List M → Result (Term × List M) TermFault) (t : Term) (ms rest : List M) : Type 0 where
  pub term : Term
  pub read : read_of (ms ++ rest) ≡ Ok (term, rest)
  pub alike : IsAlike t term

module _ (aliases : List (List ℕ)) where
  module _ (n : ℕ) (S : Term → Type 0) (sub : (t : Term) → S t → List Lexeme)
      (whole : (t : Term) (w : S t) (place : ℕ) (rest : _) → ReadsAs (read_term n) t (marks_of mark place (sub t w)) rest) where
    parts_read : (places : List Slot) (p : Parts places) (w : AreWritten aliases S places p) (place : ℕ) (rest : _)
        → (q : Parts places) × (read_parts (read_term n) places (marks_of mark place (parts_lexemes aliases S sub places p w) ++ rest) ≡ Ok (listed places q, rest)) × AreAlike places p q
    parts_read [] p w place rest = (tt, refl, tt)
    parts_read (formula ∷ places) p w place rest =
        let u : List ℕ = formula_text p.0 in
        let end : ℕ = place + 1 + length (34 ∷ (u ++ 34 ∷ [])) in
        let back = read_back p.0 w.0 in
        let more = parts_read places p.1 w.1 end rest in (
          (back.back, more.0),
          ap (λ o. and_then (and_then (unquoted o (marks_of mark end (parts_lexemes aliases S sub places p.1 w.1) ++ rest)) (λ a later. Ok (a_formula a, later)))
              (λ q later. and_then (read_parts (read_term n) places later) (λ qs last. Ok (q ∷ qs, last)))) (ap formula_of (content_plain u (plain_text p.0 w.0)) ∙ back.read)
              ∙ ap (λ o. and_then o (λ qs last. Ok (a_formula back.back ∷ qs, last))) more.1,
          (back.says, more.2),
        )
    parts_read (object ∷ places) p w place rest = absurd w
    parts_read (named ∷ places) p w place rest =
        let end : ℕ = place + 1 + length p.0 in
        let more = parts_read places p.1 w.1 end rest in (
          (p.0, more.0),
          ap (λ o. and_then (and_then o (λ x later. Ok (a_name x, later))) (λ q later. and_then (read_parts (read_term n) places later) (λ qs last. Ok (q ∷ qs, last))))
              (name_read p.0 (record { start = place + 1; stop = place + 1 + length p.0 }) w.0.0 (marks_of mark end (parts_lexemes aliases S sub places p.1 w.1) ++ rest))
              ∙ ap (λ o. and_then o (λ qs last. Ok (a_name p.0 ∷ qs, last))) more.1,
          (refl, more.2),
        )
    parts_read (proof ∷ places) p w place rest =
        let front : List Lexeme = sub p.0 w.0 in
        let back : List Lexeme = parts_lexemes aliases S sub places p.1 w.1 in
        let end : ℕ = place + 1 + length (text_of front) in
        let more = parts_read places p.1 w.1 end rest in
        let part = whole p.0 w.0 (place + 1) (marks_of mark end back ++ rest) in (
          (part.term, more.0),
          ap (λ ms. read_parts (read_term n) (proof ∷ places) ms)
              (ap (λ ms. ms ++ rest) (marks_both mark (place + 1) front back) ∙ append_assoc (marks_of mark (place + 1) front) (marks_of mark end back) rest)
              ∙ (ap (λ o. and_then (and_then o (λ t later. Ok (a_proof t, later)))
              (λ q later. and_then (read_parts (read_term n) places later) (λ qs last. Ok (q ∷ qs, last)))) part.read
              ∙ ap (λ o. and_then o (λ qs last. Ok (a_proof part.term ∷ qs, last))) more.1),
          (part.alike, more.2),
        )

  fact_reads : (n : ℕ) (t : Term) (w : IsFact aliases t) (place : ℕ) (rest : _) → ReadsAs (read_term n) t (marks_of mark place (word w.cite.name ∷ [])) rest
  fact_reads n t w place rest =
      let x : List ℕ = w.cite.name in
      let range : Range = record { start = place; stop = place + length x } in
      record {
        term = Fact (record { name = x; range = range });
        read = fact_read x range w.free.0 n rest;
        alike = subst (λ v. IsAlike v (Fact (record { name = x; range = range }))) (sym w.is) (fact refl);
      }

  -- the marks of a rule with what is inside
  rule_marks : (r : Rule) (inside : List Lexeme) (place : ℕ) (rest : _)
      → marks_of mark place (rule_lexemes r inside) ++ rest
      ≡ mark_at mark kind.Sym place opening ∷ mark_at mark kind.Ident (place + 1) (word (rule_name r))
      ∷ (marks_of mark (place + 1 + length (rule_name r)) inside ++ (mark_at mark kind.Sym (place + 1 + length (rule_name r) + length (text_of inside)) closing ∷ rest))
  rule_marks r inside place rest =
      let end : ℕ = place + 1 + length (rule_name r) in
      ap (λ ms. mark_at mark kind.Sym place opening ∷ mark_at mark kind.Ident (place + 1) (word (rule_name r)) ∷ ms)
      (ap (λ ms. ms ++ rest) (marks_both mark end inside (closing ∷ []))
      ∙ append_assoc (marks_of mark end inside) (marks_of mark (end + length (text_of inside)) (closing ∷ [])) rest)

  pub term_read : (n : ℕ) (t : Term) (w : IsWritten aliases n t) (place : ℕ) (rest : _) → ReadsAs (read_term n) t (marks_of mark place (lexemes aliases n t w)) rest
  term_read zero t w place rest = fact_reads zero t w place rest
  term_read (suc n) t (inl w) place rest = fact_reads (suc n) t w place rest
  term_read (suc n) t (inr w) place rest =
      let inside : List Lexeme = parts_lexemes aliases (IsWritten aliases n) (lexemes aliases n) (slots w.rule) w.parts w.inside in
      let end : ℕ = place + 1 + length (rule_name w.rule) in
      let parts = parts_read n (IsWritten aliases n) (lexemes aliases n) (term_read n) (slots w.rule) w.parts w.inside end (mark_at mark kind.Sym (end + length (text_of inside)) closing ∷ rest) in
      record {
        term = term_of w.rule parts.0;
        read =
            ap (read_term (suc n)) (rule_marks w.rule inside place rest)
            ∙ (rule_read n w.rule (record { start = place; stop = place + 1 }) (record { start = place + 1; stop = end })
            (marks_of mark end inside ++ (mark_at mark kind.Sym (end + length (text_of inside)) closing ∷ rest))
            ∙ (ap (λ o. and_then (and_then o (λ qs more. made (built_term w.rule qs) more)) (λ t more. and_then (read_close more) (λ _ last. Ok (t, last)))) parts.1
            ∙ ap (λ o. and_then (made o (mark_at mark kind.Sym (end + length (text_of inside)) closing ∷ rest)) (λ t more. and_then (read_close more) (λ _ last. Ok (t, last)))) (built_is w.rule parts.0)));
        alike = subst (λ v. IsAlike v (term_of w.rule parts.0)) (sym w.is) (made_alike w.rule w.propositional w.parts parts.0 parts.2);
      }

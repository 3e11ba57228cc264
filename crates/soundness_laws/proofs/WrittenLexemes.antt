-- The lexemes of a term fit one behind the other, none is a command, and the last is no space.
use Rattle.std.proofs.Common.{◌≡◌, inl, inr, ℕ, zero, suc, Bool, false, List, [], ◌∷◌, ◌++◌, sym, refl, ap, ◌∙◌, subst, append_assoc}
use Rattle.std.specs.List.{AllByRecursion}
use Rattle.std.specs.Char.{is_ascii_alphabetic}
use Rattle.text_words.specs.Identifier.{IsIdentifier}
use Rattle.text_words.proofs.KnownIdentifiers.{letter-ink}
use Rattle.text_words.proofs.KnownLists.{each-both}
use Rattle.outer_syntax.proofs.KnownLeads.{apart}
use Rattle.nj_kernel.specs.declared.rule.Rule.{Rule}
use Rattle.nj_kernel.specs.RuleNames.{rule_name}
use Rattle.proof_terms.specs.declared.term.Term.{Term}
use Rattle.proof_terms.specs.Slots.{Slot, formula, object, named, proof, slots}
use Rattle.soundness_laws.specs.Lexemes.{Lexeme, word, opening, closing, text_of, EndsWord, EndsSpace, EndsSign, Fitting}
use Rattle.soundness_laws.proofs.LexemeTokens.{text_both, fitting_both}
use Rattle.soundness_laws.specs.Citable.{IsFree}
use Rattle.soundness_laws.proofs.ReadBack.{plain_text}
use Rattle.soundness_laws.proofs.RuleParts.{Parts}
use Rattle.soundness_laws.proofs.CommandTexts.{IsQuiet, EndsSolid}
use Rattle.soundness_laws.proofs.Written.{AreWritten, IsWritten, parts_lexemes, rule_lexemes, lexemes}

word_ink : (x s : List ℕ) → IsIdentifier x → EndsSpace (x ++ s)
word_ink [] s id = absurd id
word_ink (c ∷ x) s id = letter-ink c id.0

word_sign : (x s : List ℕ) → IsIdentifier x → EndsSign (x ++ s)
word_sign [] s id = absurd id
word_sign (c ∷ x) s id = apart is_ascii_alphabetic 42 c refl id.0

-- what holds of the lexemes of a term
pub record Sits (ls : List Lexeme) : Type 0 where
  pub fit : (rest : List ℕ) → EndsWord rest → Fitting ls rest
  pub ink : (rest : List ℕ) → EndsSpace (text_of ls ++ rest)

-- and of those of parts, before `)`
pub record SitsInside (ls : List Lexeme) : Type 0 where
  pub fit : (rest : List ℕ) → Fitting ls (41 ∷ rest)
  pub end : (rest : List ℕ) → EndsWord (text_of ls ++ 41 ∷ rest)

behind : (xs ys : List Lexeme) (rest : List ℕ) → text_of xs ++ (text_of ys ++ rest) ≡ text_of (xs ++ ys) ++ rest
behind xs ys rest = sym (ap (λ s. s ++ rest) (text_both xs ys) ∙ append_assoc (text_of xs) (text_of ys) rest)

word_sits : (x : List ℕ) → IsIdentifier x → Sits (word x ∷ [])
word_sits x id = record {
  fit = λ rest ends. ((id, ends), tt);
  ink = λ rest. subst EndsSpace (sym (append_assoc x [] rest)) (word_ink x rest id);
}

rule_sits : (r : Rule) (inside : List Lexeme) → IsIdentifier (rule_name r) → SitsInside inside → Sits (rule_lexemes r inside)
rule_sits r inside id sits = record {
  fit = λ rest ends. (
    subst EndsSign (sym (append_assoc (rule_name r) (text_of (inside ++ closing ∷ [])) rest)) (word_sign (rule_name r) (text_of (inside ++ closing ∷ []) ++ rest) id),
    (
      (id, subst EndsWord (behind inside (closing ∷ []) rest) (sits.end rest)),
      fitting_both inside (closing ∷ []) rest (sits.fit rest) (tt, tt),
    ),
  );
  ink = λ rest. refl;
}

module _ (aliases : List (List ℕ)) where
  module _ (S : Term → Type 0) (sub : (t : Term) → S t → List Lexeme) (whole : (t : Term) (w : S t) → Sits (sub t w)) where
    parts_sit : (places : List Slot) (p : Parts places) (w : AreWritten aliases S places p) → SitsInside (parts_lexemes aliases S sub places p w)
    parts_sit [] p w = record { fit = λ rest. tt; end = λ rest. (refl, refl) }
    parts_sit (formula ∷ places) p w =
        let more = parts_sit places p.1 w.1 in
        record { fit = λ rest. (refl, (plain_text p.0 w.0, more.fit rest)); end = λ rest. (refl, refl) }
    parts_sit (object ∷ places) p w = absurd w
    parts_sit (named ∷ places) p w =
        let more = parts_sit places p.1 w.1 in
        let ls : List Lexeme = parts_lexemes aliases S sub places p.1 w.1 in
        record {
          fit = λ rest. (
            subst EndsSpace (sym (append_assoc p.0 (text_of ls) (41 ∷ rest))) (word_ink p.0 (text_of ls ++ 41 ∷ rest) w.0.0),
            ((w.0.0, more.end rest), more.fit rest),
          );
          end = λ rest. (refl, refl);
        }
    parts_sit (proof ∷ places) p w =
        let more = parts_sit places p.1 w.1 in
        let ls : List Lexeme = parts_lexemes aliases S sub places p.1 w.1 in
        let part = whole p.0 w.0 in
        record {
          fit = λ rest. (
            subst EndsSpace (behind (sub p.0 w.0) ls (41 ∷ rest)) (part.ink (text_of ls ++ 41 ∷ rest)),
            fitting_both (sub p.0 w.0) ls (41 ∷ rest) (part.fit (text_of ls ++ 41 ∷ rest) (more.end rest)) (more.fit rest),
          );
          end = λ rest. (refl, refl);
        }

  pub lexemes_sit : (n : ℕ) (t : Term) (w : IsWritten aliases n t) → Sits (lexemes aliases n t w)
  lexemes_sit zero t w = word_sits w.cite.name w.free.0
  lexemes_sit (suc n) t (inl w) = word_sits w.cite.name w.free.0
  lexemes_sit (suc n) t (inr w) =
      rule_sits w.rule _ w.free.0 (parts_sit (IsWritten aliases n) (lexemes aliases n) (lexemes_sit n) (slots w.rule) w.parts w.inside)

  -- under names which no free name is among
  module _ (is_command : List ℕ → Bool) (quiet : (x : List ℕ) → IsFree aliases x → is_command x ≡ false) where
    module _ (S : Term → Type 0) (sub : (t : Term) → S t → List Lexeme) (whole : (t : Term) (w : S t) → AllByRecursion (IsQuiet is_command) (sub t w)) where
      parts_quiet : (places : List Slot) (p : Parts places) (w : AreWritten aliases S places p) → AllByRecursion (IsQuiet is_command) (parts_lexemes aliases S sub places p w)
      parts_quiet [] p w = tt
      parts_quiet (formula ∷ places) p w = (tt, (tt, parts_quiet places p.1 w.1))
      parts_quiet (object ∷ places) p w = absurd w
      parts_quiet (named ∷ places) p w = (tt, ((quiet p.0 w.0, w.0.2), parts_quiet places p.1 w.1))
      parts_quiet (proof ∷ places) p w = (tt, each-both (IsQuiet is_command) (sub p.0 w.0) _ (whole p.0 w.0) (parts_quiet places p.1 w.1))

    pub lexemes_quiet : (n : ℕ) (t : Term) (w : IsWritten aliases n t) → AllByRecursion (IsQuiet is_command) (lexemes aliases n t w)
    lexemes_quiet zero t w = ((quiet w.cite.name w.free, w.free.2), tt)
    lexemes_quiet (suc n) t (inl w) = ((quiet w.cite.name w.free, w.free.2), tt)
    lexemes_quiet (suc n) t (inr w) = (
      tt,
      (
        (quiet (rule_name w.rule) w.free, w.free.2),
        each-both (IsQuiet is_command) _ (closing ∷ [])
            (parts_quiet (IsWritten aliases n) (lexemes aliases n) (lexemes_quiet n) (slots w.rule) w.parts w.inside) (tt, tt),
      ),
    )

  solid_last : (l : Lexeme) (ls : List Lexeme) → EndsSolid (l ∷ (ls ++ closing ∷ []))
  solid_last l [] = tt
  solid_last l (k ∷ ls) = solid_last k ls

  pub lexemes_solid : (n : ℕ) (t : Term) (w : IsWritten aliases n t) → EndsSolid (lexemes aliases n t w)
  lexemes_solid zero t w = tt
  lexemes_solid (suc n) t (inl w) = tt
  lexemes_solid (suc n) t (inr w) = solid_last opening (word (rule_name w.rule) ∷ parts_lexemes aliases (IsWritten aliases n) (lexemes aliases n) (slots w.rule) w.parts w.inside)

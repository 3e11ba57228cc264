-- The print of each form is read as the form, where the prints of its parts are read as the parts.
use Rattle.std.proofs.Common.{◌≡◌, ◌≤◌, ◌+◌, ℕ, ◌&&◌, true, List, [], ◌∷◌, ◌++◌, codes, refl, ap, sym, ◌∙◌, arith}
use Rattle.std.proofs.lemmas.Bool.{and_parts}
use Rattle.nj_formula.specs.declared.formula.Formula.{Formula}
use Rattle.nj_formula.specs.declared.formula.Formula.TheVariants as Formulas
use Rattle.nj_formula.specs.Statement.{neg}
use Rattle.nj_formula.specs.Meaning.{meaning}
use Rattle.nj_formula.proofs.KnownMeaning.{meaning-Not}
use Rattle.nj_syntax.specs.declared.token.Token.TheVariants as Tokens
use Rattle.text_words.specs.Identifier.{is_identifier}
use Rattle.nj_syntax.specs.declared.operator.Operator.{Operator}
use Rattle.nj_syntax.specs.declared.operator.Quantifier.{Quantifier}
use Rattle.nj_syntax.specs.Terms.{Deep}
use Rattle.nj_syntax.specs.Grammar.{priority, sign, joined, word, quantified}
use Rattle.nj_syntax.specs.Grammar as Grammar
use Rattle.nj_syntax.specs.Prints.{operator_text}
use Rattle.nj_syntax.specs.Within.{is_within}
use Rattle.nj_syntax.proofs.FormLemmas.{join, bind, meaning-joined, meaning-quantified}
use Rattle.nj_syntax.proofs.SpellsLemmas.{blank_then, sign_then, name_then}
use Rattle.nj_syntax.proofs.SpellsWhole.{both}
use Rattle.nj_syntax.proofs.OpensLemmas.{opens_of, opens_of-append, opens-sign, wanted, wanted-join, wanted-bind, no_pair}
use Rattle.nj_syntax.proofs.WithinTerms.{low_both}
use Rattle.nj_syntax.proofs.WithinLemmas.{no_inside, within-join, within-bind}
use Rattle.nj_syntax.proofs.WithinReading.{starts}
use Rattle.nj_syntax.proofs.TermReadLemmas.{enclosed}
use Rattle.nj_syntax.proofs.AtomReadLemmas.{IsRead, word_is, operator_spells, operator_breaks}

pub negation_read : (p d : ℕ) (names : List (List ℕ)) (a : Formula) (text : List ℕ) → p ≤ 40 → IsRead 40 (d + 1) names (meaning a) text
    → IsRead p d names (meaning (Formulas.Not a)) (codes "~" ++ text)
negation_read p d names a text fits operand = record {
  deep = (Tokens.Not, d) ∷ operand.deep;
  formula = Formulas.Not operand.formula;
  reads = Grammar.negation fits operand.reads;
  says = meaning-Not operand.formula ∙ (ap neg operand.says ∙ sym (meaning-Not a));
  spells = sign_then 126 Tokens.Not d (omega arith) refl (λ after. refl) operand.spells;
  opens_are = omega (arith, operand.opens_are, ap (wanted p) (meaning-Not a), no_pair 40 p fits);
  low = λ most is. (
    starts most (meaning (Formulas.Not a)) p d is,
    operand.low most (ap (λ e. is_within most (meaning a) 40 (e + 1)) (sym (no_inside 40 p d fits)) ∙ (ap (λ s. is_within most s p d) (sym (meaning-Not a)) ∙ is)),
  );
}

pub operator_read : (op : Operator) (p d : ℕ) (names : List (List ℕ)) (a b : Formula) (left right : List ℕ) → p ≤ priority op
    → IsRead (priority op + 1) d names (meaning a) left → IsRead (priority op) (d + 1) names (meaning b) right
    → IsRead p d names (meaning (joined op a b)) (left ++ (operator_text op ++ right))
operator_read op p d names a b left right fits l r = record {
  deep = l.deep ++ (sign op, d) ∷ r.deep;
  formula = joined op l.formula r.formula;
  reads = Grammar.operator op fits l.reads r.reads;
  says = meaning-joined op l.formula r.formula ∙ (ap (λ s. join op s (meaning r.formula)) l.says ∙ (ap (join op (meaning a)) r.says ∙ sym (meaning-joined op a b)));
  spells = both l.spells (λ rest e. operator_breaks op right rest) (operator_spells op d r.spells);
  opens_are = omega (
    arith,
    opens_of-append l.deep ((sign op, d) ∷ r.deep),
    opens-sign op d r.deep,
    l.opens_are,
    r.opens_are,
    ap (wanted p) (meaning-joined op a b),
    wanted-join op p (meaning a) (meaning b),
    no_pair (priority op) p fits,
  );
  low = λ most is.
      let n : ℕ = priority op in
      let both : (is_within most (meaning a) (n + 1) d && is_within most (meaning b) n (d + 1)) ≡ true =
      ap (λ e. is_within most (meaning a) (n + 1) e && is_within most (meaning b) n (e + 1)) (sym (no_inside n p d fits))
      ∙ (sym (within-join most op (meaning a) (meaning b) p d) ∙ (ap (λ s. is_within most s p d) (sym (meaning-joined op a b)) ∙ is)) in
      let parts = and_parts (is_within most (meaning a) (n + 1) d) (is_within most (meaning b) n (d + 1)) both in
      low_both most l.deep ((sign op, d) ∷ r.deep) (l.low most parts.0) (starts most (meaning (joined op a b)) p d is, r.low most parts.1);
}

opens-word : (q : Quantifier) (d : ℕ) (x : List ℕ) (deep : List Deep)
    → opens_of ((Tokens.Name (word q), d) ∷ (Tokens.Name x, d) ∷ (Tokens.Dot, d) ∷ deep) ≡ opens_of deep
opens-word q d x deep = refl

pub quantifier_read : (q : Quantifier) (p d : ℕ) (names : List (List ℕ)) (x y : List ℕ) (a : Formula) (text : List ℕ) → p ≤ 10 → is_identifier y ≡ true
    → IsRead 10 (d + 1) (y ∷ names) (meaning a) text
    → IsRead p d names (meaning (quantified q x a)) (word q ++ (codes " " ++ (y ++ (codes ". " ++ text))))
quantifier_read q p d names x y a text fits is body = record {
  deep = (Tokens.Name (word q), d) ∷ (Tokens.Name y, d) ∷ (Tokens.Dot, d) ∷ body.deep;
  formula = quantified q y body.formula;
  reads = Grammar.quantifier q fits body.reads;
  says = meaning-quantified q y body.formula ∙ (ap (bind q) body.says ∙ sym (meaning-quantified q x a));
  spells = name_then (word q) d (word_is q) (λ rest b. refl)
      (blank_then (name_then y d is (λ rest b. refl) (sign_then 46 Tokens.Dot d (omega arith) refl (λ after. refl) (blank_then body.spells))));
  opens_are = omega (arith, body.opens_are, ap (wanted p) (meaning-quantified q x a), wanted-bind q p (meaning a), no_pair 10 p fits);
  low = λ most is.
      let here = starts most (meaning (quantified q x a)) p d is in
      let inner : is_within most (meaning a) 10 (d + 1) ≡ true =
      ap (λ e. is_within most (meaning a) 10 (e + 1)) (sym (no_inside 10 p d fits))
      ∙ (sym (within-bind most q (meaning a) p d) ∙ (ap (λ s. is_within most s p d) (sym (meaning-quantified q x a)) ∙ is)) in
      (here, (here, (here, body.low most inner)));
}

pub parentheses_read : (p d : ℕ) (names : List (List ℕ)) (a : Formula) (text : List ℕ) → wanted p (meaning a) ≡ wanted 10 (meaning a) + 1
    → ((most : ℕ) → is_within most (meaning a) p d ≡ is_within most (meaning a) 10 (d + 1))
    → IsRead 10 (d + 1) names (meaning a) text → IsRead p d names (meaning a) (codes "(" ++ (text ++ codes ")"))
parentheses_read p d names a text one deeper inside = record {
  deep = (Tokens.Open, d) ∷ inside.deep ++ (Tokens.Close, d) ∷ [];
  formula = inside.formula;
  reads = Grammar.parentheses inside.reads;
  says = inside.says;
  spells = enclosed d inside.spells;
  opens_are = omega (arith, opens_of-append inside.deep ((Tokens.Close, d) ∷ []), inside.opens_are, one);
  low = λ most is.
      let here = starts most (meaning a) p d is in
      (here, low_both most inside.deep ((Tokens.Close, d) ∷ []) (inside.low most (sym (deeper most) ∙ is)) (here, tt));
}

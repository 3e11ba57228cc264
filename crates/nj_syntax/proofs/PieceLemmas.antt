-- What each step of the printer adds is a print.
use Rattle.std.proofs.Common.{◌≡◌, ◌+◌, ℕ, true, false, List, [], ◌∷◌, ◌++◌, map, codes, Result, Ok, Err, OnOk, is_ok, if◌then◌else◌, refl, ap, sym, subst, ◌∙◌, append_assoc, lit≤}
use Rattle.nj_formula.specs.declared.argument.Argument.{Argument}
use Rattle.nj_formula.specs.declared.formula.Formula.{Formula}
use Rattle.nj_formula.specs.declared.formula.Formula.TheVariants as Formulas
use Rattle.nj_syntax.specs.declared.operator.Operator.{Operator}
use Rattle.nj_syntax.specs.declared.operator.Quantifier.{Quantifier}
use Rattle.nj_syntax.specs.Grammar.{priority, joined, word, quantified}
use Rattle.nj_syntax.specs.ArgumentText.{listed, argument_text}
use Rattle.nj_syntax.specs.Prints.{operator_text, is_enclosed, Prints, PrintsBody, falsity, atom, predicate, negation, operator, quantifier, parentheses}
use Rattle.nj_syntax.specs.Adds.{Adds}
use Rattle.nj_syntax.proofs.EnclosedLemmas.{least_priority, in_place}

pub pushed : {A E : Type 0} (r : Result A E) (old piece : List ℕ) {new : List ℕ} → new ≡ (if is_ok r then old ++ piece else old) → OnOk r (new ≡ old ++ piece)
pushed (Ok x) old piece e = e
pushed (Err e) old piece is = tt

-- a piece that a text has grown by, and what stands before and after it
around : (t0 front piece back : List ℕ) {t1 t2 t3 : List ℕ} → t1 ≡ t0 ++ front → t2 ≡ t1 ++ piece → t3 ≡ t2 ++ back → t3 ≡ t0 ++ (front ++ (piece ++ back))
around t0 front piece back e f g =
    g ∙ (ap (λ t. t ++ back) (f ∙ ap (λ t. t ++ piece) e) ∙ simp append_assoc)

before : (t0 front piece : List ℕ) {t1 t2 : List ℕ} → t1 ≡ t0 ++ front → t2 ≡ t1 ++ piece → t2 ≡ t0 ++ (front ++ piece)
before t0 front piece e f = f ∙ (ap (λ t. t ++ piece) e ∙ append_assoc t0 front piece)

-- the same growth, of a text that is known by what it is
pub grown_from : {t0 t1 t2 : List ℕ} {Is : List ℕ → Type 0} → t1 ≡ t0 → Adds t1 t2 Is → Adds t0 t2 Is
grown_from same adds = record { piece = adds.piece; is = adds.is; added = adds.added ∙ ap (λ t. t ++ adds.piece) same }

module _ {names : List (List ℕ)} {t0 t1 : List ℕ} where
  pub wrote_false : {f : Formula} → f ≡ Formulas.False → t1 ≡ t0 ++ codes "False" → Adds t0 t1 (Prints 10 names f)
  wrote_false is e = record { piece = codes "False"; is = subst (λ g. Prints 10 names g (codes "False")) (sym is) falsity; added = e }

  pub wrote_atom : (x : List ℕ) (args : List Argument) → args ≡ [] → t1 ≡ t0 ++ x → Adds t0 t1 (Prints 10 names (Formulas.Atom x args))
  wrote_atom x [] none e = record { piece = x; is = atom; added = e }
  wrote_atom x (t ∷ more) none e = cc

  pub wrote_predicate : (x : List ℕ) (args : List Argument) {t2 t3 t4 : List ℕ} → (args ≡ [] → ⊥) → t1 ≡ t0 ++ x → t2 ≡ t1 ++ codes "("
      → t3 ≡ t2 ++ listed (map (argument_text names) args) → t4 ≡ t3 ++ codes ")" → Adds t0 t4 (Prints 10 names (Formulas.Atom x args))
  wrote_predicate x [] some e0 e1 e2 e3 = absurd (some refl)
  wrote_predicate x (t ∷ more) some e0 e1 e2 e3 =
      let listing : List ℕ = listed (map (argument_text names) (t ∷ more)) in
      record {
        piece = x ++ (codes "(" ++ (listing ++ codes ")"));
        is = predicate;
        added = before t0 x (codes "(" ++ (listing ++ codes ")")) e0 (around t1 (codes "(") listing (codes ")") e1 e2 e3);
      }

  pub wrote_negation : {f a b : Formula} {t2 : List ℕ} → f ≡ Formulas.Not a → b ≡ a → t1 ≡ t0 ++ codes "~"
      → Adds t1 t2 (Prints 40 names b) → Adds t0 t2 (Prints 10 names f)
  wrote_negation {t2 = t2} is same e operand = record {
    piece = codes "~" ++ operand.piece;
    is = subst (λ g. Prints 10 names g (codes "~" ++ operand.piece)) (ap Formulas.Not same ∙ sym is) (negation (lit≤ tt) operand.is);
    added = before t0 (codes "~") operand.piece e operand.added;
  }

  pub wrote_operator : (op : Operator) {f a b a' b' : Formula} {names' : List (List ℕ)} {t2 t3 : List ℕ} → f ≡ joined op a b → a' ≡ a → b' ≡ b
      → names' ≡ names → Adds t0 t1 (Prints (priority op + 1) names a') → t2 ≡ t1 ++ operator_text op
      → Adds t2 t3 (Prints (priority op) names' b') → Adds t0 t3 (Prints 10 names f)
  wrote_operator op {f} {a} {b} {a'} {b'} is same_a same_b kept left e right =
      let whole : List ℕ = left.piece ++ (operator_text op ++ right.piece) in
      let same : joined op a' b' ≡ f = ap (λ g. joined op g b') same_a ∙ (ap (joined op a) same_b ∙ sym is) in
      record {
        piece = whole;
        is = subst (λ g. Prints 10 names g whole) same
            (operator op (least_priority op) left.is (subst (λ ns. Prints (priority op) ns b' right.piece) kept right.is));
        added = around t0 left.piece (operator_text op) right.piece left.added e right.added;
      }

  pub wrote_quantifier : (q : Quantifier) {f a b : Formula} {x : List ℕ} {t2 : List ℕ} → f ≡ quantified q x a → b ≡ a
      → t1 ≡ t0 ++ (word q ++ codes " ") → Adds t1 t2 (PrintsBody names x b) → Adds t0 t2 (Prints 10 names f)
  wrote_quantifier q {f} {a} {b} {x} is same e body =
      let printed = body.is in
      let whole : List ℕ = word q ++ (codes " " ++ (printed.name ++ (codes ". " ++ printed.body))) in
      record {
        piece = whole;
        is = subst (λ g. Prints 10 names g whole) (ap (quantified q x) same ∙ sym is) (quantifier q (lit≤ tt) printed.primed printed.prints);
        added = before t0 (word q ++ codes " ") body.piece e body.added ∙ (ap (λ piece. t0 ++ ((word q ++ codes " ") ++ piece)) printed.is ∙ simp append_assoc);
      }

  pub wrote_bare : {p : ℕ} {f : Formula} → is_enclosed p f ≡ false → Adds t0 t1 (Prints 10 names f) → Adds t0 t1 (Prints p names f)
  wrote_bare fits bare = record { piece = bare.piece; is = in_place fits (lit≤ tt) bare.is; added = bare.added }

  pub wrote_enclosed : {p : ℕ} {f : Formula} {t2 t3 : List ℕ} → is_enclosed p f ≡ true → t1 ≡ t0 ++ codes "(" → Adds t1 t2 (Prints 10 names f)
      → t3 ≡ t2 ++ codes ")" → Adds t0 t3 (Prints p names f)
  wrote_enclosed over e bare e' = record {
    piece = codes "(" ++ (bare.piece ++ codes ")");
    is = parentheses over bare.is;
    added = around t0 (codes "(") bare.piece (codes ")") e bare.added e';
  }

-- A formula has one print.
use Rattle.std.proofs.Common.{◌≡◌, ◌≤◌, ℕ, nat_lt, Bool, true, false, List, [], ◌∷◌, ◌++◌, map, codes, refl, ap, sym, subst, ◌∙◌, le-ltb}
use Rattle.std.proofs.lemmas.Bool.{both_ways}
use Rattle.nj_formula.specs.declared.formula.Formula.{Formula, out-Formula}
use Rattle.nj_formula.specs.declared.formula.Formula.TheVariants as Formulas
use Rattle.nj_formula.specs.Meaning.{meaning}
use Rattle.nj_syntax.specs.Grammar.{priority, word}
use Rattle.nj_syntax.specs.ArgumentText.{listed, argument_text}
use Rattle.nj_syntax.specs.Prints.{operator_text, is_enclosed, Prints, falsity, atom, predicate, negation, operator, quantifier, parentheses}
use Rattle.nj_syntax.proofs.EnclosedLemmas.{enclosed-False, enclosed-Atom, enclosed-Not, enclosed-joined, enclosed-quantified}
use Rattle.nj_syntax.proofs.BareLemmas.{one_primed, IsNegation, IsOperator, IsQuantifier, Bare, out-False, out-Atom, out-Not, out-joined, out-quantified, to_layer, from_layer, to_binder, from_binder}

-- a print with no parentheses around it is the bare one
bare : {p : ℕ} {names : List (List ℕ)} {f : Formula} {text : List ℕ} → Prints p names f text → is_enclosed p f ≡ false → Bare names (out-Formula f) text
bare {p} {names} falsity fits = subst (λ l. Bare names l (codes "False")) (sym out-False) refl
bare {p} {names} (atom {x = x}) fits = subst (λ l. Bare names l x) (sym (out-Atom x [])) refl
bare {p} {names} (predicate {x = x} {t = t} {more = more}) fits =
    subst (λ l. Bare names l (x ++ (codes "(" ++ (listed (map (argument_text names) (t ∷ more)) ++ codes ")")))) (sym (out-Atom x (t ∷ more))) refl
bare {p} {names} (negation {a = a} {text = text} low h) fits =
    let v : IsNegation names a (codes "~" ++ text) = record { inner = text; prints = h; is = refl } in
    subst (λ l. Bare names l (codes "~" ++ text)) (sym (out-Not a)) v
bare {p} {names} (operator {a = a} {b = b} {left = left} {right = right} op low h k) fits =
    let whole : List ℕ = left ++ (operator_text op ++ right) in
    let v : IsOperator names op a b whole = record { left = left; right = right; prints_left = h; prints_right = k; is = refl } in
    subst (λ l. Bare names l whole) (sym (out-joined op a b)) (to_layer op names a b whole v)
bare {p} {names} (quantifier {x = x} {y = y} {a = a} {text = text} q low primed h) fits =
    let whole : List ℕ = word q ++ (codes " " ++ (y ++ (codes ". " ++ text))) in
    let v : IsQuantifier names q x a whole = record { name = y; body = text; primed = primed; prints = h; is = refl } in
    subst (λ l. Bare names l whole) (sym (out-quantified q x a)) (to_binder q names x a whole v)
bare {p} {f = f} (parentheses over h) fits = absurd (both_ways (is_enclosed p f) fits over)

pub record IsEnclosed (names : List (List ℕ)) (f : Formula) (text : List ℕ) : Type 0 where
  pub inner : List ℕ
  pub prints : Prints 10 names f inner
  pub is : text ≡ codes "(" ++ (inner ++ codes ")")

-- a formula fits in a place or not
fits_or_not : {p n : ℕ} {b : Bool} → b ≡ nat_lt n p → p ≤ n → b ≡ true → ⊥
fits_or_not {p} {n} {b} is low over = both_ways b (is ∙ le-ltb n p low) over

-- a print in parentheses
in_parentheses : {p : ℕ} {names : List (List ℕ)} {f : Formula} {text : List ℕ} → Prints p names f text → is_enclosed p f ≡ true → IsEnclosed names f text
in_parentheses {p} falsity over = absurd (both_ways (is_enclosed p Formulas.False) (enclosed-False p) over)
in_parentheses {p} (atom {x = x}) over = absurd (both_ways (is_enclosed p (Formulas.Atom x [])) (enclosed-Atom p x []) over)
in_parentheses {p} (predicate {x = x} {t = t} {more = more}) over =
    absurd (both_ways (is_enclosed p (Formulas.Atom x (t ∷ more))) (enclosed-Atom p x (t ∷ more)) over)
in_parentheses {p} (negation {a = a} low h) over = absurd (fits_or_not (enclosed-Not p a) low over)
in_parentheses {p} (operator {a = a} {b = b} op low h k) over = absurd (fits_or_not (enclosed-joined p op a b) low over)
in_parentheses {p} (quantifier {x = x} {a = a} q low primed h) over = absurd (fits_or_not (enclosed-quantified p q x a) low over)
in_parentheses (parentheses {text = text} over h) fits = record { inner = text; prints = h; is = refl }

pub one_print : {p : ℕ} {names : List (List ℕ)} {f : Formula} {text : List ℕ} → Prints p names f text → (other : List ℕ) → Prints p names f other → text ≡ other
one_print {p} {names} falsity other k = sym (subst (λ l. Bare names l other) out-False (bare k (enclosed-False p)))
one_print {p} {names} (atom {x = x}) other k = sym (subst (λ l. Bare names l other) (out-Atom x []) (bare k (enclosed-Atom p x [])))
one_print {p} {names} (predicate {x = x} {t = t} {more = more}) other k =
    sym (subst (λ l. Bare names l other) (out-Atom x (t ∷ more)) (bare k (enclosed-Atom p x (t ∷ more))))
one_print {p} {names} (negation {a = a} low h) other k =
    let v : IsNegation names a other = subst (λ l. Bare names l other) (out-Not a) (bare k (enclosed-Not p a ∙ le-ltb 40 p low)) in
    ap (λ t. codes "~" ++ t) (one_print h v.inner v.prints) ∙ sym v.is
one_print {p} {names} (operator {a = a} {b = b} {left = left} {right = right} op low h k) other j =
    let v : IsOperator names op a b other = from_layer op names a b other
    (subst (λ l. Bare names l other) (out-joined op a b) (bare j (enclosed-joined p op a b ∙ le-ltb (priority op) p low))) in
    ap (λ t. t ++ (operator_text op ++ right)) (one_print h v.left v.prints_left)
    ∙ (ap (λ t. v.left ++ (operator_text op ++ t)) (one_print k v.right v.prints_right) ∙ sym v.is)
one_print {p} {names} (quantifier {x = x} {y = y} {a = a} {text = text} q low primed h) other k =
    let v : IsQuantifier names q x a other = from_binder q names x a other
    (subst (λ l. Bare names l other) (out-quantified q x a) (bare k (enclosed-quantified p q x a ∙ le-ltb 10 p low))) in
    let same : v.name ≡ y = one_primed names x (meaning a) v.name y v.primed primed in
    ap (λ t. word q ++ (codes " " ++ (y ++ (codes ". " ++ t)))) (one_print h v.body (subst (λ z. Prints 10 (z ∷ names) a v.body) same v.prints))
    ∙ (ap (λ z. word q ++ (codes " " ++ (z ++ (codes ". " ++ v.body)))) (sym same) ∙ sym v.is)
one_print (parentheses {text = text} over h) other k =
    let v = in_parentheses k over in
    ap (λ t. codes "(" ++ (t ++ codes ")")) (one_print h v.inner v.prints) ∙ sym v.is

-- An operand with the innermost thing pending is an operand of what is pending outside.
use Rattle.std.proofs.Common.{◌≡◌, ◌≤◌, ℕ, suc, ◌+◌, List, [], ◌∷◌, ◌++◌, ap, sym, subst, ◌∙◌, arith, add-one, append_assoc, le_trans, le_refl}
use Rattle.nj_formula.specs.declared.argument.Argument.{Argument}
use Rattle.nj_formula.specs.declared.formula.Formula.{Formula}
use Rattle.nj_formula.specs.declared.formula.Formula.TheVariants as Formulas
use Rattle.nj_syntax.specs.declared.token.Token.TheVariants as Tokens
use Rattle.nj_syntax.specs.declared.operator.Operator.{Operator}
use Rattle.nj_syntax.specs.declared.operator.Quantifier.{Quantifier}
use Rattle.nj_syntax.specs.declared.state.Pending.{Pending}
use Rattle.nj_syntax.specs.Terms.{Deep, AreArguments, name, apply, comma}
use Rattle.nj_syntax.specs.Grammar.{Reads, falsity, atom, predicate, parentheses, negation, operator, quantifier, priority, sign, joined, word, quantified}
use Rattle.nj_syntax.specs.Reduced.{place}
use Rattle.nj_syntax.proofs.Around.{Gathered, none, some}

pub priority_most : (op : Operator) → priority op + 1 ≤ 40
priority_most Operator.And = omega arith
priority_most Operator.Or = omega arith
priority_most Operator.Implies = omega arith

pub priority_least : (op : Operator) → 10 ≤ priority op
priority_least Operator.And = omega arith
priority_least Operator.Or = omega arith
priority_least Operator.Implies = omega arith

pub place_most : (pending : List Pending) → place pending ≤ 40
place_most [] = omega arith
place_most (Pending.Not ∷ below) = omega arith
place_most (Pending.Right Operator.And a ∷ below) = omega arith
place_most (Pending.Right Operator.Or a ∷ below) = omega arith
place_most (Pending.Right Operator.Implies a ∷ below) = omega arith
place_most (Pending.Parenthesis ∷ below) = omega arith
place_most (Pending.Body q x ∷ below) = omega arith
place_most (Pending.Predicate x arguments ∷ below) = omega arith
place_most (Pending.Function f arguments ∷ below) = omega arith

-- what stands in a place may stand where less is asked
pub weaker : {p q d : ℕ} {bound : List (List ℕ)} {ts : List Deep} {a : Formula} → p ≤ q → Reads q d bound ts a → Reads p d bound ts a
weaker le falsity = falsity
weaker le (atom e) = atom e
weaker le (predicate e inside) = predicate e inside
weaker le (parentheses inside) = parentheses inside
weaker le (negation most inside) = negation (le_trans le most) inside
weaker le (operator op most left right) = operator op (le_trans le most) left right
weaker le (quantifier q most body) = quantifier q (le_trans le most) body

deeper : {p d : ℕ} {bound : List (List ℕ)} {ts : List Deep} {a : Formula} → Reads p (suc d) bound ts a → Reads p (d + 1) bound ts a
deeper {p} {d} {bound} {ts} {a} reads = subst (λ n. Reads p n bound ts a) (sym (add-one d)) reads

module _ {p d : ℕ} {bound : List (List ℕ)} {ts : List Deep} {a : Formula} where
  pub not_read : 40 ≤ p → Reads p (suc d) bound ts a → Reads 40 d bound ((Tokens.Not, d) ∷ ts) (Formulas.Not a)
  not_read le reads = negation (le_refl 40) (deeper (weaker le reads))

  pub right_read : (op : Operator) → priority op ≤ p → {left : List Deep} {b : Formula} → Reads (priority op + 1) d bound left b
      → Reads p (suc d) bound ts a → Reads (priority op) d bound (left ++ (sign op, d) ∷ ts) (joined op b a)
  right_read op le left reads = operator op (le_refl (priority op)) left (deeper (weaker le reads))

  pub parenthesis_read : 10 ≤ p → Reads p (suc d) bound ts a → Reads 40 d bound ((Tokens.Open, d) ∷ ts ++ (Tokens.Close, d) ∷ []) a
  parenthesis_read le reads = parentheses (deeper (weaker le reads))

  pub body_read : (q : Quantifier) (x : List ℕ) → 10 ≤ p → Reads p (suc d) (x ∷ bound) ts a
      → Reads 10 d bound ((Tokens.Name (word q), d) ∷ (Tokens.Name x, d) ∷ (Tokens.Dot, d) ∷ ts) (quantified q x a)
  body_read q x le reads = quantifier q (le_refl 10) (deeper (weaker le reads))

-- the same tokens, otherwise joined
pub with_left : (read left last : List Deep) (t : Deep) → (read ++ (left ++ t ∷ [])) ++ last ≡ read ++ (left ++ t ∷ last)
with_left read left last t = append_assoc read (left ++ t ∷ []) last ∙ ap (λ ts. read ++ ts) (append_assoc left (t ∷ []) last)

pub around_one : (read last : List Deep) (opens closes : Deep) → ((read ++ opens ∷ []) ++ last) ++ closes ∷ [] ≡ read ++ (opens ∷ last ++ closes ∷ [])
around_one read last opens closes =
    ap (λ ts. ts ++ closes ∷ []) (append_assoc read (opens ∷ []) last) ∙ append_assoc read (opens ∷ last) (closes ∷ [])

pub after_argument : (read inside last : List Deep) (x opens t : Deep)
    → ((read ++ x ∷ opens ∷ inside) ++ last) ++ t ∷ [] ≡ read ++ (x ∷ opens ∷ ((inside ++ last) ++ t ∷ []))
after_argument read inside last x opens t =
    ap (λ ts. ts ++ t ∷ []) (append_assoc read (x ∷ opens ∷ inside) last) ∙ append_assoc read (x ∷ opens ∷ (inside ++ last)) (t ∷ [])

-- one more argument, after commas
added : {bound : List (List ℕ)} {d : ℕ} {inside last : List Deep} {arguments : List Argument} {t : Argument}
    → AreArguments bound d inside arguments → AreArguments bound d last (t ∷ [])
    → AreArguments bound d (inside ++ (Tokens.Comma, d) ∷ last) (arguments ++ t ∷ [])
added name last = comma name last
added (apply inside) last = comma (apply inside) last
added {bound} {d} {last = last} {t = t} (comma {first = first} {rest = rest} {t = u} {more = more} one others) end =
    subst (λ ts. AreArguments bound d ts (u ∷ more ++ t ∷ []))
    (sym (append_assoc first ((Tokens.Comma, d) ∷ rest) ((Tokens.Comma, d) ∷ last))) (comma one (added others end))

pub gathered : {bound : List (List ℕ)} {d : ℕ} {inside last : List Deep} {arguments : List Argument} {t : Argument}
    → Gathered bound (d + 1) inside arguments → AreArguments bound (suc d) last (t ∷ [])
    → AreArguments bound (d + 1) (inside ++ last) (arguments ++ t ∷ [])
gathered {bound} {d} {last = last} {t = t} are one =
    joined_to are (subst (λ n. AreArguments bound n last (t ∷ [])) (sym (add-one d)) one)
  where
    joined_to : {n : ℕ} {inside : List Deep} {arguments : List Argument} → Gathered bound n inside arguments → AreArguments bound n last (t ∷ [])
        → AreArguments bound n (inside ++ last) (arguments ++ t ∷ [])
    joined_to none end = end
    joined_to {n} (some {inside = before} {arguments = others} these) end =
        subst (λ ts. AreArguments bound n ts (others ++ t ∷ [])) (sym (append_assoc before ((Tokens.Comma, n) ∷ []) last)) (added these end)

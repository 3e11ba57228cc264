-- No print of what a text was read as is deeper than the text.
use Rattle.std.proofs.Common.{◌≡◌, ◌≤◌, ◌+◌, le_refl, ℕ, nat_le, nat_lt, Bool, true, false, cond, ◌&&◌, List, [], ◌∷◌, refl, ap, sym, subst, ◌∙◌, arith, le-ltb, ltb-true}
use Rattle.std.proofs.lemmas.Bool.{lt-ltb, and_parts, and_from}
use Rattle.nj_formula.specs.declared.argument.Argument.{Argument}
use Rattle.nj_formula.specs.Statement.{Statement, falsity, atom, neg, conj, disj, implies, every, exists}
use Rattle.nj_syntax.specs.declared.operator.Operator.{Operator}
use Rattle.nj_syntax.specs.declared.operator.Quantifier.{Quantifier}
use Rattle.nj_syntax.specs.Grammar.{priority}
use Rattle.nj_syntax.specs.Within.{are_within, inside, is_within}
use Rattle.nj_syntax.proofs.FormLemmas.{join, bind}
use Rattle.nj_syntax.proofs.WithinTerms.{terms_sink, less_deep}

-- in a place for what binds so strongly nothing is added, and otherwise one level
pub no_inside : (n p d : ℕ) → p ≤ n → inside n p d ≡ d
no_inside n p d fits = ap (λ b. cond b (d + 1) d) (le-ltb n p fits)

pub one_inside : (n p d : ℕ) {b : Bool} → b ≡ nat_lt n p → b ≡ true → inside n p d ≡ d + 1
one_inside n p d is over = ap (λ b. cond b (d + 1) d) (sym is ∙ over)

pub inside_least : (n p d : ℕ) → d ≤ inside n p d
inside_least n p d = go (nat_lt n p)
  where
    go : (b : Bool) → d ≤ cond b (d + 1) d
    go true = omega arith
    go false = omega arith

-- a place for more adds no less
pub inside_wider : (n p q d : ℕ) → p ≤ q → inside n p d ≤ inside n q d
inside_wider n p q d le = go (nat_lt n p) refl
  where
    go : (b : Bool) → nat_lt n p ≡ b → cond b (d + 1) d ≤ inside n q d
    go true is = subst (λ c. d + 1 ≤ cond c (d + 1) d) (sym (lt-ltb n q (let less = ltb-true n p is in omega arith))) (le_refl (d + 1))
    go false is = inside_least n q d

inside_most : (n p d : ℕ) → inside n p d ≤ d + 1
inside_most n p d = go (nat_lt n p)
  where
    go : (b : Bool) → cond b (d + 1) d ≤ d + 1
    go true = omega arith
    go false = omega arith

inside_sinks : (n p d e : ℕ) → d ≤ e → inside n p d ≤ inside n p e
inside_sinks n p d e le = go (nat_lt n p)
  where
    go : (b : Bool) → cond b (d + 1) d ≤ cond b (e + 1) e
    go true = omega arith
    go false = le

pub within-join : (most : ℕ) (op : Operator) (s t : Statement) (p d : ℕ) → is_within most (join op s t) p d
    ≡ (is_within most s (priority op + 1) (inside (priority op) p d) && is_within most t (priority op) (inside (priority op) p d + 1))
within-join most Operator.And s t p d = refl
within-join most Operator.Or s t p d = refl
within-join most Operator.Implies s t p d = refl

pub within-bind : (most : ℕ) (q : Quantifier) (s : Statement) (p d : ℕ) → is_within most (bind q s) p d ≡ is_within most s 10 (inside 10 p d + 1)
within-bind most Quantifier.All s p d = refl
within-bind most Quantifier.Exists s p d = refl

module _ (most : ℕ) where
  two_within : (s t : Statement) (m n d e d' e' : ℕ) → (is_within most s m e && is_within most t n e') ≡ true
      → (is_within most s m e ≡ true → is_within most s m d ≡ true) → (is_within most t n e' ≡ true → is_within most t n d' ≡ true)
      → (is_within most s m d && is_within most t n d') ≡ true
  two_within s t m n d e d' e' is f g =
      let parts = and_parts (is_within most s m e) (is_within most t n e') is in
      and_from (is_within most s m d) (is_within most t n d') (f parts.0) (g parts.1)

  atom_sinks : (t : Argument) (more : List Argument) (d e : ℕ) → d ≤ e → (nat_le e most && are_within most (t ∷ more) (e + 1)) ≡ true
      → (nat_le d most && are_within most (t ∷ more) (d + 1)) ≡ true
  atom_sinks t more d e le is =
      let parts = and_parts (nat_le e most) (are_within most (t ∷ more) (e + 1)) is in
      and_from (nat_le d most) (are_within most (t ∷ more) (d + 1)) (less_deep most d e le parts.0)
      (terms_sink most (t ∷ more) (d + 1) (e + 1) (omega arith) parts.1)

  -- outside, a formula stands less deep
  sinks : (s : Statement) (p d e : ℕ) → d ≤ e → is_within most s p e ≡ true → is_within most s p d ≡ true
  sinks falsity p d e le is = less_deep most d e le is
  sinks (atom x []) p d e le is = less_deep most d e le is
  sinks (atom x (t ∷ more)) p d e le is = atom_sinks t more d e le is
  sinks (neg a) p d e le is = sinks a 40 (inside 40 p d + 1) (inside 40 p e + 1) (let less = inside_sinks 40 p d e le in omega arith) is
  sinks (conj a b) p d e le is =
      two_within a b 36 35 (inside 35 p d) (inside 35 p e) (inside 35 p d + 1) (inside 35 p e + 1) is
      (sinks a 36 (inside 35 p d) (inside 35 p e) (inside_sinks 35 p d e le))
      (sinks b 35 (inside 35 p d + 1) (inside 35 p e + 1) (let less = inside_sinks 35 p d e le in omega arith))
  sinks (disj a b) p d e le is =
      two_within a b 31 30 (inside 30 p d) (inside 30 p e) (inside 30 p d + 1) (inside 30 p e + 1) is
      (sinks a 31 (inside 30 p d) (inside 30 p e) (inside_sinks 30 p d e le))
      (sinks b 30 (inside 30 p d + 1) (inside 30 p e + 1) (let less = inside_sinks 30 p d e le in omega arith))
  sinks (implies a b) p d e le is =
      two_within a b 26 25 (inside 25 p d) (inside 25 p e) (inside 25 p d + 1) (inside 25 p e + 1) is
      (sinks a 26 (inside 25 p d) (inside 25 p e) (inside_sinks 25 p d e le))
      (sinks b 25 (inside 25 p d + 1) (inside 25 p e + 1) (let less = inside_sinks 25 p d e le in omega arith))
  sinks (every a) p d e le is = sinks a 10 (inside 10 p d + 1) (inside 10 p e + 1) (let less = inside_sinks 10 p d e le in omega arith) is
  sinks (exists a) p d e le is = sinks a 10 (inside 10 p d + 1) (inside 10 p e + 1) (let less = inside_sinks 10 p d e le in omega arith) is

  -- in another place, which is outside enough
  pub lowered : (s : Statement) (p q d e : ℕ) → d ≤ e → ((n : ℕ) → inside n p d ≤ inside n q e) → is_within most s q e ≡ true → is_within most s p d ≡ true
  lowered falsity p q d e le out is = less_deep most d e le is
  lowered (atom x []) p q d e le out is = less_deep most d e le is
  lowered (atom x (t ∷ more)) p q d e le out is = atom_sinks t more d e le is
  lowered (neg a) p q d e le out is = sinks a 40 (inside 40 p d + 1) (inside 40 q e + 1) (let less = out 40 in omega arith) is
  lowered (conj a b) p q d e le out is =
      two_within a b 36 35 (inside 35 p d) (inside 35 q e) (inside 35 p d + 1) (inside 35 q e + 1) is
      (sinks a 36 (inside 35 p d) (inside 35 q e) (out 35)) (sinks b 35 (inside 35 p d + 1) (inside 35 q e + 1) (let less = out 35 in omega arith))
  lowered (disj a b) p q d e le out is =
      two_within a b 31 30 (inside 30 p d) (inside 30 q e) (inside 30 p d + 1) (inside 30 q e + 1) is
      (sinks a 31 (inside 30 p d) (inside 30 q e) (out 30)) (sinks b 30 (inside 30 p d + 1) (inside 30 q e + 1) (let less = out 30 in omega arith))
  lowered (implies a b) p q d e le out is =
      two_within a b 26 25 (inside 25 p d) (inside 25 q e) (inside 25 p d + 1) (inside 25 q e + 1) is
      (sinks a 26 (inside 25 p d) (inside 25 q e) (out 25)) (sinks b 25 (inside 25 p d + 1) (inside 25 q e + 1) (let less = out 25 in omega arith))
  lowered (every a) p q d e le out is = sinks a 10 (inside 10 p d + 1) (inside 10 q e + 1) (let less = out 10 in omega arith) is
  lowered (exists a) p q d e le out is = sinks a 10 (inside 10 p d + 1) (inside 10 q e + 1) (let less = out 10 in omega arith) is

  -- one level further out any place will do
  pub risen : (s : Statement) (p q d : ℕ) → is_within most s q (d + 1) ≡ true → is_within most s p d ≡ true
  risen s p q d is = lowered s p q d (d + 1) (omega arith) (λ n. let most = inside_most n p d in let least = inside_least n q (d + 1) in omega arith) is

-- Formulas that say the same have the same outermost layer, of parts that say the same.
use Rattle.std.proofs.Common.{◌≡◌, ℕ, List, sym, ap, ◌∙◌}
use Rattle.nj_formula.specs.declared.argument.Argument.{Argument}
use Rattle.nj_formula.specs.declared.formula.Formula.{Formula, out-Formula, roll-Formula, roll-out-Formula}
use Rattle.nj_formula.specs.declared.formula.Formula.TheOpen.{Formula-F}
use Rattle.nj_formula.specs.declared.formula.Formula.TheVariants.{rolls-False, rolls-Atom, rolls-Not, rolls-And, rolls-Or, rolls-Implies, rolls-All, rolls-Exists}
use Rattle.nj_formula.specs.Meaning.{meaning}
use Rattle.nj_formula.specs.Statement.{Statement, falsity, atom, neg, conj, disj, implies, every, exists}
use Rattle.nj_formula.proofs.KnownMeaning.{meaning-False, meaning-Atom, meaning-Not, meaning-And, meaning-Or, meaning-Implies, meaning-All, meaning-Exists}

-- layers that say the same
pub data AlikeLayers : Formula-F Formula → Formula-F Formula → Type 0 where
  both_false : AlikeLayers Formula-F.False Formula-F.False
  both_atom : {p q : List ℕ} {args more : List Argument} → AlikeLayers (Formula-F.Atom p args) (Formula-F.Atom q more)
  both_not : {a c : Formula} → meaning a ≡ meaning c → AlikeLayers (Formula-F.Not a) (Formula-F.Not c)
  both_and : {a b c d : Formula} → meaning a ≡ meaning c → meaning b ≡ meaning d → AlikeLayers (Formula-F.And a b) (Formula-F.And c d)
  both_or : {a b c d : Formula} → meaning a ≡ meaning c → meaning b ≡ meaning d → AlikeLayers (Formula-F.Or a b) (Formula-F.Or c d)
  both_implies : {a b c d : Formula} → meaning a ≡ meaning c → meaning b ≡ meaning d → AlikeLayers (Formula-F.Implies a b) (Formula-F.Implies c d)
  both_all : {x y : List ℕ} {a c : Formula} → AlikeLayers (Formula-F.All x a) (Formula-F.All y c)
  both_exists : {x y : List ℕ} {a c : Formula} → AlikeLayers (Formula-F.Exists x a) (Formula-F.Exists y c)

-- what a layer says
abbrev said : Formula-F Formula → Statement
said Formula-F.False = falsity
said (Formula-F.Atom p args) = atom p args
said (Formula-F.Not a) = neg (meaning a)
said (Formula-F.And a b) = conj (meaning a) (meaning b)
said (Formula-F.Or a b) = disj (meaning a) (meaning b)
said (Formula-F.Implies a b) = implies (meaning a) (meaning b)
said (Formula-F.All x a) = every (meaning a)
said (Formula-F.Exists x a) = exists (meaning a)

rolled_said : (l : Formula-F Formula) → meaning (roll-Formula l) ≡ said l
rolled_said Formula-F.False = ap meaning rolls-False ∙ meaning-False
rolled_said (Formula-F.Atom p args) = ap meaning (rolls-Atom p args) ∙ meaning-Atom p args
rolled_said (Formula-F.Not a) = ap meaning (rolls-Not a) ∙ meaning-Not a
rolled_said (Formula-F.And a b) = ap meaning (rolls-And a b) ∙ meaning-And a b
rolled_said (Formula-F.Or a b) = ap meaning (rolls-Or a b) ∙ meaning-Or a b
rolled_said (Formula-F.Implies a b) = ap meaning (rolls-Implies a b) ∙ meaning-Implies a b
rolled_said (Formula-F.All x a) = ap meaning (rolls-All x a) ∙ meaning-All x a
rolled_said (Formula-F.Exists x a) = ap meaning (rolls-Exists x a) ∙ meaning-Exists x a

is_said : (f : Formula) → meaning f ≡ said (out-Formula f)
is_said f = ap meaning (sym (roll-out-Formula f)) ∙ rolled_said (out-Formula f)

-- by the first layer, each second
like_false : (k : Formula-F Formula) → said Formula-F.False ≡ said k → AlikeLayers Formula-F.False k
like_false Formula-F.False e = both_false
like_false (Formula-F.Atom q more) e = absurd (cc (e))
like_false (Formula-F.Not c) e = absurd (cc (e))
like_false (Formula-F.And c d) e = absurd (cc (e))
like_false (Formula-F.Or c d) e = absurd (cc (e))
like_false (Formula-F.Implies c d) e = absurd (cc (e))
like_false (Formula-F.All y c) e = absurd (cc (e))
like_false (Formula-F.Exists y c) e = absurd (cc (e))

like_atom : (p : List ℕ) (args : List Argument) → (k : Formula-F Formula) → said (Formula-F.Atom p args) ≡ said k → AlikeLayers (Formula-F.Atom p args) k
like_atom p args Formula-F.False e = absurd (cc (e))
like_atom p args (Formula-F.Atom q more) e = both_atom
like_atom p args (Formula-F.Not c) e = absurd (cc (e))
like_atom p args (Formula-F.And c d) e = absurd (cc (e))
like_atom p args (Formula-F.Or c d) e = absurd (cc (e))
like_atom p args (Formula-F.Implies c d) e = absurd (cc (e))
like_atom p args (Formula-F.All y c) e = absurd (cc (e))
like_atom p args (Formula-F.Exists y c) e = absurd (cc (e))

like_not : (a : Formula) → (k : Formula-F Formula) → said (Formula-F.Not a) ≡ said k → AlikeLayers (Formula-F.Not a) k
like_not a Formula-F.False e = absurd (cc (e))
like_not a (Formula-F.Atom q more) e = absurd (cc (e))
like_not a (Formula-F.Not c) e = both_not (cc (e))
like_not a (Formula-F.And c d) e = absurd (cc (e))
like_not a (Formula-F.Or c d) e = absurd (cc (e))
like_not a (Formula-F.Implies c d) e = absurd (cc (e))
like_not a (Formula-F.All y c) e = absurd (cc (e))
like_not a (Formula-F.Exists y c) e = absurd (cc (e))

like_and : (a : Formula) (b : Formula) → (k : Formula-F Formula) → said (Formula-F.And a b) ≡ said k → AlikeLayers (Formula-F.And a b) k
like_and a b Formula-F.False e = absurd (cc (e))
like_and a b (Formula-F.Atom q more) e = absurd (cc (e))
like_and a b (Formula-F.Not c) e = absurd (cc (e))
like_and a b (Formula-F.And c d) e = both_and (cc (e)) (cc (e))
like_and a b (Formula-F.Or c d) e = absurd (cc (e))
like_and a b (Formula-F.Implies c d) e = absurd (cc (e))
like_and a b (Formula-F.All y c) e = absurd (cc (e))
like_and a b (Formula-F.Exists y c) e = absurd (cc (e))

like_or : (a : Formula) (b : Formula) → (k : Formula-F Formula) → said (Formula-F.Or a b) ≡ said k → AlikeLayers (Formula-F.Or a b) k
like_or a b Formula-F.False e = absurd (cc (e))
like_or a b (Formula-F.Atom q more) e = absurd (cc (e))
like_or a b (Formula-F.Not c) e = absurd (cc (e))
like_or a b (Formula-F.And c d) e = absurd (cc (e))
like_or a b (Formula-F.Or c d) e = both_or (cc (e)) (cc (e))
like_or a b (Formula-F.Implies c d) e = absurd (cc (e))
like_or a b (Formula-F.All y c) e = absurd (cc (e))
like_or a b (Formula-F.Exists y c) e = absurd (cc (e))

like_implies : (a : Formula) (b : Formula) → (k : Formula-F Formula) → said (Formula-F.Implies a b) ≡ said k → AlikeLayers (Formula-F.Implies a b) k
like_implies a b Formula-F.False e = absurd (cc (e))
like_implies a b (Formula-F.Atom q more) e = absurd (cc (e))
like_implies a b (Formula-F.Not c) e = absurd (cc (e))
like_implies a b (Formula-F.And c d) e = absurd (cc (e))
like_implies a b (Formula-F.Or c d) e = absurd (cc (e))
like_implies a b (Formula-F.Implies c d) e = both_implies (cc (e)) (cc (e))
like_implies a b (Formula-F.All y c) e = absurd (cc (e))
like_implies a b (Formula-F.Exists y c) e = absurd (cc (e))

like_all : (x : List ℕ) (a : Formula) → (k : Formula-F Formula) → said (Formula-F.All x a) ≡ said k → AlikeLayers (Formula-F.All x a) k
like_all x a Formula-F.False e = absurd (cc (e))
like_all x a (Formula-F.Atom q more) e = absurd (cc (e))
like_all x a (Formula-F.Not c) e = absurd (cc (e))
like_all x a (Formula-F.And c d) e = absurd (cc (e))
like_all x a (Formula-F.Or c d) e = absurd (cc (e))
like_all x a (Formula-F.Implies c d) e = absurd (cc (e))
like_all x a (Formula-F.All y c) e = both_all
like_all x a (Formula-F.Exists y c) e = absurd (cc (e))

like_exists : (x : List ℕ) (a : Formula) → (k : Formula-F Formula) → said (Formula-F.Exists x a) ≡ said k → AlikeLayers (Formula-F.Exists x a) k
like_exists x a Formula-F.False e = absurd (cc (e))
like_exists x a (Formula-F.Atom q more) e = absurd (cc (e))
like_exists x a (Formula-F.Not c) e = absurd (cc (e))
like_exists x a (Formula-F.And c d) e = absurd (cc (e))
like_exists x a (Formula-F.Or c d) e = absurd (cc (e))
like_exists x a (Formula-F.Implies c d) e = absurd (cc (e))
like_exists x a (Formula-F.All y c) e = absurd (cc (e))
like_exists x a (Formula-F.Exists y c) e = both_exists

layers : (l k : Formula-F Formula) → said l ≡ said k → AlikeLayers l k
layers Formula-F.False k e = like_false k e
layers (Formula-F.Atom p args) k e = like_atom p args k e
layers (Formula-F.Not a) k e = like_not a k e
layers (Formula-F.And a b) k e = like_and a b k e
layers (Formula-F.Or a b) k e = like_or a b k e
layers (Formula-F.Implies a b) k e = like_implies a b k e
layers (Formula-F.All x a) k e = like_all x a k e
layers (Formula-F.Exists x a) k e = like_exists x a k e

pub alike_layers : (f g : Formula) → meaning f ≡ meaning g → AlikeLayers (out-Formula f) (out-Formula g)
alike_layers f g e = layers (out-Formula f) (out-Formula g) (sym (is_said f) ∙ (e ∙ is_said g))

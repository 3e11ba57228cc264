-- What a rule's premises derive, as a theorem holds it.
use Rattle.std.proofs.Common.{◌≡◌, List, ap, subst, ◌∙◌}
use Rattle.std.proofs.Math.Logic.{∥∥₁_map, ∥∥₁_elim, ∥∥₁_prop}
use Rattle.nj_formula.specs.Statement.{Statement}
use Rattle.nj_kernel.specs.Nj.{Nj}

abbrev pub Derives : List Statement → Statement → Type 0
Derives s a = ∥ Nj s a ∥₁

pub along : {s t : List Statement} {a b : Statement} → s ≡ t → a ≡ b → Derives s a → Derives t b
along {s} {t} {a} {b} same is d = subst (λ x. Derives x b) same (subst (λ x. Derives s x) is d)

pub by_one : {s t : List Statement} {a b : Statement} → (Nj s a → Nj t b) → Derives s a → Derives t b
by_one rule d = ∥∥₁_map d rule

pub by_two : {s t u : List Statement} {a b c : Statement} → (Nj s a → Nj t b → Nj u c) → Derives s a → Derives t b → Derives u c
by_two rule d e = ∥∥₁_elim d ∥∥₁_prop (λ x. ∥∥₁_map e (rule x))

pub by_three : {s t u v : List Statement} {a b c d : Statement} → (Nj s a → Nj t b → Nj u c → Nj v d)
    → Derives s a → Derives t b → Derives u c → Derives v d
by_three rule d e f = ∥∥₁_elim d ∥∥₁_prop (λ x. by_two (rule x) e f)

-- a statement of two others, each said in another way
pub paired : (op : Statement → Statement → Statement) {a b c d : Statement} → a ≡ c → b ≡ d → op a b ≡ op c d
paired op {b = b} {c = c} e f = ap (λ x. op x b) e ∙ ap (op c) f

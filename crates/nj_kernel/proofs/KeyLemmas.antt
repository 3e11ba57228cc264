-- Different statements have different keys, also where more numbers follow.
use Rattle.std.proofs.Common.{◌≡◌, ℕ, List, [], ◌∷◌, ◌++◌, length, map, refl, ap, sym, ◌∙◌}
use Rattle.std.proofs.lemmas.List.{append_assoc}
use Rattle.nj_formula.specs.declared.argument.Argument.{Argument}
use Rattle.nj_formula.specs.declared.argument.Argument.TheVariants.{Free, Bound, Apply}
use Rattle.nj_formula.specs.Statement.{Statement, falsity, atom, neg, conj, disj, implies, every, exists}
use Rattle.nj_formula.proofs.KnownArguments.{Each, fold-Free, fold-Bound, fold-Apply, by_forms}
use Rattle.nj_kernel.specs.Keys.{counted_name, joined_keys, counted_keys, key_layer, argument_key, statement_key}

-- two numbers after two others that are the same
heads : {m n : ℕ} {x y : List ℕ} → ◌≡◌ {A = List ℕ} (m ∷ x) (n ∷ y) → m ≡ n
heads e = cc

tails : {m n : ℕ} {x y : List ℕ} → ◌≡◌ {A = List ℕ} (m ∷ x) (n ∷ y) → x ≡ y
tails e = cc

-- two names of one length, and what follows them
names_split : (x y u v : List ℕ) → length x ≡ length y → x ++ u ≡ y ++ v → (x ≡ y) × (u ≡ v)
names_split [] [] u v l e = (refl, e)
names_split [] (n ∷ y) u v l e = cc
names_split (m ∷ x) [] u v l e = cc
names_split (m ∷ x) (n ∷ y) u v l e =
    let lengths : length x ≡ length y = cc in
    let rest = names_split x y u v lengths (tails e) in
    let first = heads e in
    let same : ◌≡◌ {A = List ℕ} (m ∷ x) (n ∷ y) = ap (λ k. k ∷ x) first ∙ ap (λ z. n ∷ z) rest.0 in
    (same, rest.1)

-- the keys of two arguments, and what follows them
abbrev Splits : Argument → Type 0
Splits a = (b : Argument) (u v : List ℕ) → argument_key a ++ u ≡ argument_key b ++ v → (a ≡ b) × (u ≡ v)

all_split : (ps qs : List Argument) (u v : List ℕ) → Each Splits ps → length (map argument_key ps) ≡ length (map argument_key qs)
    → joined_keys (map argument_key ps) ++ u ≡ joined_keys (map argument_key qs) ++ v → (ps ≡ qs) × (u ≡ v)
all_split [] [] u v each l e = (refl, e)
all_split [] (b ∷ qs) u v each l e = cc
all_split (a ∷ ps) [] u v each l e = cc
all_split (a ∷ ps) (b ∷ qs) u v each l e =
    let lengths : length (map argument_key ps) ≡ length (map argument_key qs) = cc in
    let one = each.0 b (joined_keys (map argument_key ps) ++ u) (joined_keys (map argument_key qs) ++ v)
    (sym (append_assoc (argument_key a) (joined_keys (map argument_key ps)) u) ∙ (e ∙ append_assoc (argument_key b) (joined_keys (map argument_key qs)) v)) in
    let rest = all_split ps qs u v each.1 lengths one.1 in
    (ap (λ k. k ∷ ps) one.0 ∙ ap (λ z. b ∷ z) rest.0, rest.1)

-- the two after one another: a name, and arguments
spelled_split : (x y : List ℕ) (ps qs : List Argument) (u v : List ℕ) → Each Splits ps
    → (counted_name x ++ counted_keys (map argument_key ps)) ++ u ≡ (counted_name y ++ counted_keys (map argument_key qs)) ++ v
    → (x ≡ y) × (ps ≡ qs) × (u ≡ v)
spelled_split x y ps qs u v each e =
    let rest : x ++ (counted_keys (map argument_key ps) ++ u) ≡ y ++ (counted_keys (map argument_key qs) ++ v) =
    sym (append_assoc x (counted_keys (map argument_key ps)) u) ∙ (tails e ∙ append_assoc y (counted_keys (map argument_key qs)) v) in
    let one = names_split x y (counted_keys (map argument_key ps) ++ u) (counted_keys (map argument_key qs) ++ v) (heads e) rest in
    let more = all_split ps qs u v each (heads one.1) (tails one.1) in
    (one.0, more.0, more.1)

free_key : (x : List ℕ) → argument_key (Free x) ≡ 0 ∷ counted_name x
free_key = fold-Free key_layer

bound_key : (n : ℕ) → argument_key (Bound n) ≡ 1 ∷ n ∷ []
bound_key = fold-Bound key_layer

apply_key : (f : List ℕ) (args : List Argument) → argument_key (Apply f args) ≡ 2 ∷ counted_name f ++ counted_keys (map argument_key args)
apply_key = fold-Apply key_layer

-- by the keys of the two forms
by_keys : (a b : Argument) (u v : List ℕ) {k l : List ℕ} → argument_key a ≡ k → argument_key b ≡ l → argument_key a ++ u ≡ argument_key b ++ v → k ++ u ≡ l ++ v
by_keys a b u v p q e = sym (ap (λ z. z ++ u) p) ∙ (e ∙ ap (λ z. z ++ v) q)

apart : {A : Type 0} {m n : ℕ} {x y : List ℕ} → (m ≡ n → ⊥) → ◌≡◌ {A = List ℕ} (m ∷ x) (n ∷ y) → A
apart other e = absurd (other (heads e))

free_splits : (x : List ℕ) → Splits (Free x)
free_splits x b u v = by_forms (λ b. argument_key (Free x) ++ u ≡ argument_key b ++ v → (Free x ≡ b) × (u ≡ v))
    (λ y e. let f = by_keys (Free x) (Free y) u v (free_key x) (free_key y) e in
    let r = names_split x y u v (heads (tails f)) (tails (tails f)) in (ap Free r.0, r.1))
    (λ n e. apart (λ h. cc) (by_keys (Free x) (Bound n) u v (free_key x) (bound_key n) e))
    (λ g args each e. apart (λ h. cc) (by_keys (Free x) (Apply g args) u v (free_key x) (apply_key g args) e))
    b

bound_splits : (n : ℕ) → Splits (Bound n)
bound_splits n b u v = by_forms (λ b. argument_key (Bound n) ++ u ≡ argument_key b ++ v → (Bound n ≡ b) × (u ≡ v))
    (λ y e. apart (λ h. cc) (by_keys (Bound n) (Free y) u v (bound_key n) (free_key y) e))
    (λ m e. let f = tails (by_keys (Bound n) (Bound m) u v (bound_key n) (bound_key m) e) in (ap Bound (heads f), tails f))
    (λ g args each e. apart (λ h. cc) (by_keys (Bound n) (Apply g args) u v (bound_key n) (apply_key g args) e))
    b

apply_splits : (f : List ℕ) (ps : List Argument) → Each Splits ps → Splits (Apply f ps)
apply_splits f ps each b u v = by_forms (λ b. argument_key (Apply f ps) ++ u ≡ argument_key b ++ v → (Apply f ps ≡ b) × (u ≡ v))
    (λ y e. apart (λ h. cc) (by_keys (Apply f ps) (Free y) u v (apply_key f ps) (free_key y) e))
    (λ m e. apart (λ h. cc) (by_keys (Apply f ps) (Bound m) u v (apply_key f ps) (bound_key m) e))
    (λ g qs others e. let r = spelled_split f g ps qs u v each (tails (by_keys (Apply f ps) (Apply g qs) u v (apply_key f ps) (apply_key g qs) e)) in
    (ap (λ h. Apply h ps) r.0 ∙ ap (Apply g) r.1, r.2))
    b

splits : (a : Argument) → Splits a
splits = by_forms Splits free_splits bound_splits apply_splits

all_splits : (ps : List Argument) → Each Splits ps
all_splits [] = tt
all_splits (a ∷ ps) = (splits a, all_splits ps)

abbrev Parts : (a b : Statement) (u v : List ℕ) → Type 0
Parts a b u v = (a ≡ b) × (u ≡ v)

-- what follows a key that both begin with
abbrev Split : Statement → Type 0
Split a = (b : Statement) (u v : List ℕ) → statement_key a ++ u ≡ statement_key b ++ v → (a ≡ b) × (u ≡ v)

two_split : (op : Statement → Statement → Statement) (a b c d : Statement) → Split a → Split b → (u v : List ℕ)
    → (statement_key a ++ statement_key b) ++ u ≡ (statement_key c ++ statement_key d) ++ v → (op a b ≡ op c d) × (u ≡ v)
two_split op a b c d split_a split_b u v e =
    let one = split_a c (statement_key b ++ u) (statement_key d ++ v) (sym (append_assoc (statement_key a) (statement_key b) u) ∙ (e ∙ append_assoc (statement_key c) (statement_key d) v)) in
    let two = split_b d u v one.1 in
    (ap (λ f. op f b) one.0 ∙ ap (op c) two.0, two.1)

one_split : (op : Statement → Statement) (a c : Statement) → Split a → (u v : List ℕ) → statement_key a ++ u ≡ statement_key c ++ v → (op a ≡ op c) × (u ≡ v)
one_split op a c split u v e = let one = split c u v e in (ap op one.0, one.1)

pub statement_splits : (a : Statement) → Split a
statement_splits falsity falsity u v e = (refl, tails e)
statement_splits falsity _ u v e = apart (λ h. cc) e
statement_splits (atom p args) (atom q brgs) u v e = let r = spelled_split p q args brgs u v (all_splits args) (tails e) in (ap (λ x. atom x args) r.0 ∙ ap (atom q) r.1, r.2)
statement_splits (atom p args) _ u v e = apart (λ h. cc) e
statement_splits (neg a) (neg c) u v e = one_split neg a c (statement_splits a) u v (tails e)
statement_splits (neg a) _ u v e = apart (λ h. cc) e
statement_splits (conj a b) (conj c d) u v e = two_split conj a b c d (statement_splits a) (statement_splits b) u v (tails e)
statement_splits (conj a b) _ u v e = apart (λ h. cc) e
statement_splits (disj a b) (disj c d) u v e = two_split disj a b c d (statement_splits a) (statement_splits b) u v (tails e)
statement_splits (disj a b) _ u v e = apart (λ h. cc) e
statement_splits (implies a b) (implies c d) u v e = two_split implies a b c d (statement_splits a) (statement_splits b) u v (tails e)
statement_splits (implies a b) _ u v e = apart (λ h. cc) e
statement_splits (every a) (every c) u v e = one_split every a c (statement_splits a) u v (tails e)
statement_splits (every a) _ u v e = apart (λ h. cc) e
statement_splits (exists a) (exists c) u v e = one_split exists a c (statement_splits a) u v (tails e)
statement_splits (exists a) _ u v e = apart (λ h. cc) e

pub key_injective : (a b : Statement) → statement_key a ≡ statement_key b → a ≡ b
key_injective a b e = (statement_splits a b [] [] (ap (λ k. k ++ []) e)).0

-- What lies within bounds.
use Rattle.std.proofs.Common.{◌≡◌, ◌<◌, ◌≤◌, ◌⊎◌, ℕ, nat_lt, nat_le, false, Some, None, List, [], ◌∷◌, ◌++◌, cond, filter, refl, sym, ◌∙◌, ap, subst, inl, inr, ⊎_elim, append-nil, arith}
use Rattle.std.specs.Prelude.{◌&&◌}
use Rattle.std.specs.Option.{option_or}
use Rattle.std.proofs.lemmas.Bool.{le-ltb, lt-leb, and_right}
use Rattle.pide_base.specs.declared.range.Range.{Range}
use Rattle.report_markup.specs.declared.report.Report.{Report}
use Rattle.report_markup.specs.declared.bounds.Bounds.{Bounds}
use Rattle.std.specs.Arc.{arc_value}
use Rattle.report_markup.specs.declared.tree.Fork.{Fork}
use Rattle.report_markup.specs.Items.{reports_of}
use Rattle.report_markup.specs.Bounds.{LieWithin, joined_bounds}
use Rattle.report_markup.specs.Crossing.{contains}
use Rattle.report_markup.specs.Innermost.{surrounds, innermost}

wider : (b c : Bounds) (xs : List Report) → c.first ≤ b.first → b.reach ≤ c.reach → LieWithin b xs → LieWithin c xs
wider b c [] low high all = tt
wider b c (x ∷ xs) low high all = ((omega (arith, low, all.0), omega (arith, high, all.0)), wider b c xs low high all.1)

both_within : (b : Bounds) (xs ys : List Report) → LieWithin b xs → LieWithin b ys → LieWithin b (xs ++ ys)
both_within b [] ys one two = two
both_within b (x ∷ xs) ys one two = (one.0, both_within b xs ys one.1 two)

pub fork_within : (b c : Bounds) (left : List Report) (x : Report) (right : List Report) → LieWithin b left → LieWithin c right
    → LieWithin (joined_bounds b x.range c) (left ++ x ∷ right)
fork_within b c left x right one two =
    both_within (joined_bounds b x.range c) left (x ∷ right)
    (wider b (joined_bounds b x.range c) left (omega arith) (omega arith) one)
    ((omega arith, omega arith), wider c (joined_bounds b x.range c) right (omega arith) (omega arith) two)

-- nothing surrounds a place outside of the bounds
outside : (place : ℕ) (r : Range) → (place ≤ r.start) ⊎ (r.stop ≤ place) → surrounds place r ≡ false
outside place r out =
    ⊎_elim (λ low. ap (λ b. b && nat_lt place r.stop) (le-ltb r.start place low)) (λ high. and_right (nat_lt r.start place) (nat_lt place r.stop) (le-ltb place r.stop high)) out

pub none_around : (place : ℕ) (b : Bounds) (xs : List Report) → (place ≤ b.first) ⊎ (b.reach ≤ place) → LieWithin b xs → innermost place xs ≡ None
none_around place b [] out all = refl
none_around place b (x ∷ xs) out all =
    ap (λ o. option_or o (cond (surrounds place x.range) (Some x.range) None)) (none_around place b xs out all.1)
    ∙ ap (λ t. cond t (Some x.range) None)
    (outside place x.range (⊎_elim (λ low. inl (omega (arith, low, all.0))) (λ high. inr (omega (arith, high, all.0))) out))

-- no report contains a range that is not within the bounds
pub none_contains : (range : Range) (b : Bounds) (xs : List Report) → (range.start < b.first) ⊎ (b.reach < range.stop) → LieWithin b xs → filter (contains range) xs ≡ []
none_contains range b [] out all = refl
none_contains range b (x ∷ xs) out all =
    ap (λ t. cond t (x ∷ filter (contains range) xs) (filter (contains range) xs)) (apart (⊎_elim (λ low. inl (omega (arith, low, all.0))) (λ high. inr (omega (arith, high, all.0))) out))
    ∙ none_contains range b xs out all.1
  where
    apart : (range.start < x.range.start) ⊎ (x.range.stop < range.stop) → contains range x ≡ false
    apart (inl low) = ap (λ t. t && nat_le range.stop x.range.stop) (lt-leb x.range.start range.start low)
    apart (inr high) = and_right (nat_le x.range.start range.start) (nat_le range.stop x.range.stop) (lt-leb range.stop x.range.stop high)

pub none_added : (range : Range) (b : Bounds) (xs : List Report) → (range.start < b.first) ⊎ (b.reach < range.stop) → LieWithin b xs
    → (old : List Report) → old ≡ old ++ filter (contains range) xs
none_added range b xs out all old = sym (ap (λ l. old ++ l) (none_contains range b xs out all) ∙ append-nil old)

-- a fork of these parts knows how far its reports reach
pub fork_bounded : (f : Fork) (b c d : Bounds) (left right : List Report) (x held : Report) → f.bounds ≡ d → d ≡ joined_bounds b held.range c
    → f.left ≡ left → f.right ≡ right → arc_value f.report ≡ x → held ≡ x → LieWithin b left → LieWithin c right → LieWithin f.bounds (reports_of f)
fork_bounded f b c d left right x held bounds joined is_left is_right is_x is_held one two =
    let whole : left ++ held ∷ right ≡ reports_of f =
    ap (λ l. l ++ held ∷ right) (sym is_left) ∙ (ap (λ r. f.left ++ held ∷ r) (sym is_right) ∙ ap (λ y. f.left ++ y ∷ f.right) (is_held ∙ sym is_x)) in
    subst (λ e. LieWithin e (reports_of f)) (sym (bounds ∙ joined))
    (subst (LieWithin (joined_bounds b held.range c)) whole (fork_within b c left held right one two))

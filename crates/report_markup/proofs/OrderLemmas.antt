-- Report order, and what it says of ranges.
use Rattle.std.proofs.Common.{rules, ◌≡◌, ◌<◌, ◌≤◌, ◌⊎◌, ℕ, true, false, refl, sym, subst, ◌∙◌, ap, inl, inr, arith}
use Rattle.std.specs.declared.cmp.Ordering.{Ordering}
use Rattle.std.specs.declared.cmp.Ordering.TheVariants.{Less, Equal, Greater}
use Rattle.std.specs.Ordering.{nat_cmp, is_gt, ordering_then, ordering_reverse}
use Rattle.std.specs.Cmp.{IsTotalOrder, ranks}
use Rattle.std.specs.Ordering.{MatchOrdering}
use Rattle.std.specs.Cmp.Rules.{comparing}
use Rattle.pide_base.specs.declared.range.Range.{Range}
use Rattle.report_markup.specs.declared.report.Report.{Report}
use Rattle.report_markup.specs.Order.{report_cmp}

pub total : IsTotalOrder report_cmp
total = search (comparing, rules) depth 12

abbrev pub NotAfter : Report → Report → Type 0
NotAfter a b = is_gt (report_cmp a b) ≡ false

-- what is greater than a report is greater than those before it
pub greater_still : (r x y : Report) → is_gt (report_cmp r x) ≡ true → NotAfter y x → is_gt (report_cmp r y) ≡ true
greater_still r x y more before = go (report_cmp r x) refl (report_cmp y x) refl
  where
    less : report_cmp r x ≡ Greater → report_cmp x r ≡ Less
    less f = total.antisymm x r ∙ ap ordering_reverse f

    go : (p : Ordering) → report_cmp r x ≡ p → (o : Ordering) → report_cmp y x ≡ o → is_gt (report_cmp r y) ≡ true
    go Less f o e = absurd (cc (ap is_gt f))
    go Equal f o e = absurd (cc (ap is_gt f))
    go Greater f Less e = ap is_gt (total.antisymm r y ∙ ap ordering_reverse (total.trans y x r e (less f)))
    go Greater f Equal e = ap is_gt (total.antisymm r y ∙ ap ordering_reverse (total.congr y x r e ∙ less f))
    go Greater f Greater e = absurd (cc (ap is_gt e))

pub not_after : (a b c : Report) → NotAfter a b → NotAfter b c → NotAfter a c
not_after a b c one two = go (report_cmp a b) refl (report_cmp b c) refl
  where
    go : (o : Ordering) → report_cmp a b ≡ o → (p : Ordering) → report_cmp b c ≡ p → NotAfter a c
    go Less e Less f = ap is_gt (total.trans a b c e f)
    go Less e Equal f =
        ap is_gt (total.antisymm a c ∙ ap ordering_reverse (sym (total.congr b c a f) ∙ (total.antisymm b a ∙ ap ordering_reverse e)))
    go Equal e Less f = ap is_gt (total.congr a b c e ∙ f)
    go Equal e Equal f = ap is_gt (total.congr a b c e ∙ f)
    go Greater e p f = absurd (cc (ap is_gt e))
    go o e Greater f = absurd (cc (ap is_gt f))

pub greater_turned : (a b : Report) → is_gt (report_cmp a b) ≡ true → NotAfter b a
greater_turned a b e = go (report_cmp a b) refl
  where
    go : (o : Ordering) → report_cmp a b ≡ o → NotAfter b a
    go Less f = absurd (cc (ap is_gt f))
    go Equal f = absurd (cc (ap is_gt f))
    go Greater f = ap is_gt (total.antisymm b a ∙ ap ordering_reverse f)

-- start rising, stop falling
abbrev pub Before : Range → Range → Type 0
Before r s = (r.start < s.start) ⊎ ((r.start ≡ s.start) × (s.stop ≤ r.stop))

ranked : (x y : ℕ) (o : Ordering) → nat_cmp x y ≡ o → MatchOrdering o (x < y) (x ≡ y) (y < x)
ranked x y o e = subst (λ p. MatchOrdering p (x < y) (x ≡ y) (y < x)) e (ranks x y)

stops : (x y : ℕ) (o p : Ordering) → nat_cmp x y ≡ o → is_gt (ordering_then o p) ≡ false → x ≤ y
stops x y Less p e f = let less : x < y = ranked x y Less e in omega (arith, less)
stops x y Equal p e f = let same : x ≡ y = ranked x y Equal e in omega (arith, same)
stops x y Greater p e f = cc f

starts : (r s : Range) (o p : Ordering) → nat_cmp r.start s.start ≡ o
    → is_gt (ordering_then o (ordering_then (nat_cmp s.stop r.stop) p)) ≡ false → Before r s
starts r s Less p e f = inl (ranked r.start s.start Less e)
starts r s Equal p e f =
    inr (ranked r.start s.start Equal e, stops s.stop r.stop (nat_cmp s.stop r.stop) p refl f)
starts r s Greater p e f = cc f

pub before_of : (a b : Report) → NotAfter a b → Before a.range b.range
before_of a b e = starts a.range b.range (nat_cmp a.range.start b.range.start) _ refl e

-- What is innermost in the parts of a list of reports.
use Rattle.std.proofs.Common.{◌≡◌, ℕ, Bool, true, false, Option, Some, None, List, [], ◌∷◌, ◌++◌, cond, refl, sym, ◌∙◌, ap}
use Rattle.std.specs.Prelude.{find, option_map}
use Rattle.std.specs.Option.{option_or}
use Rattle.pide_base.specs.declared.range.Range.{Range}
use Rattle.report_markup.specs.declared.report.Report.{Report}
use Rattle.report_markup.specs.Crossing.{crosses, first_crossing}
use Rattle.report_markup.specs.Innermost.{surrounds, innermost}

module _ (range : Range) (x : Report) (right : List Report) where
  abbrev First : List Report → Option Range
  First left = first_crossing range (left ++ x ∷ right)

  -- where one is found before the report, else the report, else behind it
  pub first_split : (left : List Report)
      → First left ≡ option_or (first_crossing range left) (cond (crosses range x.range) (Some x.range) (first_crossing range right))
  first_split [] = by (crosses range x.range)
    where
      by : (b : Bool) → option_map (λ r. r.range) (cond b (Some x) (find (λ r. crosses range r.range) right)) ≡ cond b (Some x.range) (first_crossing range right)
      by true = refl
      by false = refl
  first_split (y ∷ left) = by (crosses range y.range) (first_split left)
    where
      by : (b : Bool) → First left ≡ option_or (first_crossing range left) (cond (crosses range x.range) (Some x.range) (first_crossing range right))
          → option_map (λ r. r.range) (cond b (Some y) (find (λ r. crosses range r.range) (left ++ x ∷ right)))
          ≡ option_or (option_map (λ r. r.range) (cond b (Some y) (find (λ r. crosses range r.range) left))) (cond (crosses range x.range) (Some x.range) (first_crossing range right))
      by true e = refl
      by false e = e

or_assoc : (a b c : Option Range) → option_or (option_or a b) c ≡ option_or a (option_or b c)
or_assoc None b c = refl
or_assoc (Some r) b c = refl

module _ (place : ℕ) (x : Report) (right : List Report) where
  -- where one is found behind the report, else the report, else before it
  pub innermost_split : (left : List Report)
      → innermost place (left ++ x ∷ right) ≡ option_or (innermost place right) (option_or (cond (surrounds place x.range) (Some x.range) None) (innermost place left))
  innermost_split [] = ap (option_or (innermost place right)) (by (surrounds place x.range))
    where
      by : (b : Bool) → cond b (Some x.range) None ≡ option_or (cond b (Some x.range) None) None
      by true = refl
      by false = refl
  innermost_split (y ∷ left) =
      ap (λ o. option_or o (cond (surrounds place y.range) (Some y.range) None)) (innermost_split left)
      ∙ (or_assoc (innermost place right) (option_or (cond (surrounds place x.range) (Some x.range) None) (innermost place left)) (cond (surrounds place y.range) (Some y.range) None)
      ∙ ap (option_or (innermost place right)) (or_assoc (cond (surrounds place x.range) (Some x.range) None) (innermost place left) (cond (surrounds place y.range) (Some y.range) None)))

module _ (tree left : List Report) (x held : Report) (right : List Report) (whole : tree ≡ left ++ x ∷ right) (is : held ≡ x) where
  parts : tree ≡ left ++ held ∷ right
  parts = whole ∙ ap (λ y. left ++ y ∷ right) (sym is)

  module _ (range : Range) where
    split_here : first_crossing range tree ≡ option_or (first_crossing range left) (cond (crosses range held.range) (Some held.range) (first_crossing range right))
    split_here = ap (first_crossing range) parts ∙ first_split range held right left

    pub first_before : (f : Range) → Some f ≡ first_crossing range left → Some f ≡ first_crossing range tree
    first_before f e =
        sym (split_here ∙ ap (λ o. option_or o (cond (crosses range held.range) (Some held.range) (first_crossing range right))) (sym e))

    pub first_here : None ≡ first_crossing range left → crosses range held.range ≡ true → Some held.range ≡ first_crossing range tree
    first_here e f =
        sym (split_here
        ∙ (ap (λ o. option_or o (cond (crosses range held.range) (Some held.range) (first_crossing range right))) (sym e)
        ∙ ap (λ b. cond b (Some held.range) (first_crossing range right)) f))

    pub first_behind : (o : Option Range) → None ≡ first_crossing range left → crosses range held.range ≡ false → o ≡ first_crossing range right → o ≡ first_crossing range tree
    first_behind o e f g =
        g ∙ sym (split_here
        ∙ (ap (λ p. option_or p (cond (crosses range held.range) (Some held.range) (first_crossing range right))) (sym e)
        ∙ ap (λ b. cond b (Some held.range) (first_crossing range right)) f))

  module _ (place : ℕ) where
    split_around : innermost place tree ≡ option_or (innermost place right) (option_or (cond (surrounds place held.range) (Some held.range) None) (innermost place left))
    split_around = ap (innermost place) parts ∙ innermost_split place held right left

    pub inner_behind : (f : Range) → Some f ≡ innermost place right → Some f ≡ innermost place tree
    inner_behind f e =
        sym (split_around ∙ ap (λ o. option_or o (option_or (cond (surrounds place held.range) (Some held.range) None) (innermost place left))) (sym e))

    pub inner_here : None ≡ innermost place right → surrounds place held.range ≡ true → Some held.range ≡ innermost place tree
    inner_here e f =
        sym (split_around
        ∙ (ap (λ o. option_or o (option_or (cond (surrounds place held.range) (Some held.range) None) (innermost place left))) (sym e)
        ∙ ap (λ b. option_or (cond b (Some held.range) None) (innermost place left)) f))

    pub inner_before : (o : Option Range) → None ≡ innermost place right → surrounds place held.range ≡ false → o ≡ innermost place left → o ≡ innermost place tree
    inner_before o e f g =
        g ∙ sym (split_around
        ∙ (ap (λ p. option_or p (option_or (cond (surrounds place held.range) (Some held.range) None) (innermost place left))) (sym e)
        ∙ ap (λ b. option_or (cond b (Some held.range) None) (innermost place left)) f))

-- An instance at a name stands as deep as the body.
use Rattle.std.proofs.Common.{◌≡◌, ◌+◌, ◌==◌, ℕ, nat_le, Bool, true, false, cond, ◌&&◌, List, [], ◌∷◌, map, refl, ap, sym, ◌∙◌}
use Rattle.nj_formula.specs.declared.argument.Argument.{Argument}
use Rattle.nj_formula.specs.declared.argument.Argument.TheVariants.{Free, Bound, Apply}
use Rattle.nj_formula.specs.Statement.{Statement, falsity, atom, neg, conj, disj, implies, every, exists}
use Rattle.nj_formula.specs.Instance.{filled_layer, filled_argument, filled}
use Rattle.nj_formula.proofs.KnownArguments.{Each, fold-Free, fold-Bound, fold-Apply, by_forms}
use Rattle.nj_syntax.specs.Within.{within_layer, is_term_within, are_within, inside, is_within}

module _ (most : ℕ) (y : List ℕ) where
  module _ (place : ℕ) where
    Same : Argument → Type 0
    Same t = (d : ℕ) → is_term_within most (filled_argument place (Free y) t) d ≡ is_term_within most t d

    name_within : (x : List ℕ) (d : ℕ) → is_term_within most (Free x) d ≡ nat_le d most
    name_within x d = ap (λ g. g d) (fold-Free (within_layer most) x)

    place_within : (n d : ℕ) → is_term_within most (Bound n) d ≡ nat_le d most
    place_within n d = ap (λ g. g d) (fold-Bound (within_layer most) n)

    free_same : (x : List ℕ) → Same (Free x)
    unfolding Same
    free_same x d = ap (λ t. is_term_within most t d) (fold-Free (filled_layer place (Free y)) x)

    bound_same : (n : ℕ) → Same (Bound n)
    unfolding Same
    bound_same n d = ap (λ t. is_term_within most t d) (fold-Bound (filled_layer place (Free y)) n) ∙ go (n == place)
      where
        go : (b : Bool) → is_term_within most (cond b (Free y) (Bound n)) d ≡ is_term_within most (Bound n) d
        go true = name_within y d ∙ sym (place_within n d)
        go false = refl

    each_same : (args : List Argument) → Each Same args → (d : ℕ) → are_within most (map (filled_argument place (Free y)) args) d ≡ are_within most args d
    unfolding Same
    each_same [] each d = refl
    each_same (t ∷ args) each d =
        ap (λ b. b && are_within most (map (filled_argument place (Free y)) args) d) (each.0 d)
        ∙ ap (λ b. is_term_within most t d && b) (each_same args each.1 d)

    apply_same : (f : List ℕ) (args : List Argument) → Each Same args → Same (Apply f args)
    unfolding Same
    apply_same f args each d =
        let new : List Argument = map (filled_argument place (Free y)) args in
        ap (λ t. is_term_within most t d) (fold-Apply (filled_layer place (Free y)) f args)
        ∙ (ap (λ g. g d) (fold-Apply (within_layer most) f new)
        ∙ (ap (λ b. nat_le d most && b) (each_same args each (d + 1)) ∙ sym (ap (λ g. g d) (fold-Apply (within_layer most) f args))))

    argument_same : (t : Argument) → Same t
    argument_same = by_forms Same free_same bound_same apply_same

    all_same : (args : List Argument) → Each Same args
    all_same [] = tt
    all_same (t ∷ args) = (argument_same t, all_same args)

  both_same : {a b c d : Bool} → a ≡ c → b ≡ d → (a && b) ≡ (c && d)
  both_same {b = b} {c = c} e f = ap (λ v. v && b) e ∙ ap (λ v. c && v) f

  pub filled_within : (s : Statement) (place p d : ℕ) → is_within most (filled place (Free y) s) p d ≡ is_within most s p d
  filled_within falsity place p d = refl
  filled_within (atom x []) place p d = refl
  filled_within (atom x (t ∷ more)) place p d = ap (λ b. nat_le d most && b) (each_same place (t ∷ more) (all_same place (t ∷ more)) (d + 1))
  filled_within (neg a) place p d = filled_within a place 40 (inside 40 p d + 1)
  filled_within (conj a b) place p d = both_same (filled_within a place 36 (inside 35 p d)) (filled_within b place 35 (inside 35 p d + 1))
  filled_within (disj a b) place p d = both_same (filled_within a place 31 (inside 30 p d)) (filled_within b place 30 (inside 30 p d + 1))
  filled_within (implies a b) place p d = both_same (filled_within a place 26 (inside 25 p d)) (filled_within b place 25 (inside 25 p d + 1))
  filled_within (every a) place p d = filled_within a (place + 1) 10 (inside 10 p d + 1)
  filled_within (exists a) place p d = filled_within a (place + 1) 10 (inside 10 p d + 1)

-- A name that is shown in arguments is no longer than what is added up of the names in them.
use Rattle.std.proofs.Common.{◌≡◌, ◌≤◌, ◌+◌, ◌-◌, ℕ, zero, suc, true, nat_le, List, [], ◌∷◌, length, map, bytes_eq, sym, subst, ◌∙◌, arith, ⊎_elim}
use Rattle.std.specs.List.{list_any}
use Rattle.std.proofs.lemmas.Bool.{or_cases, and_parts}
use Rattle.text_words.proofs.KnownLists.{same_length}
use Rattle.nj_formula.specs.declared.argument.Argument.{Argument, fold-Argument}
use Rattle.nj_formula.specs.declared.argument.Argument.TheOpen.{Argument-F}
use Rattle.nj_formula.specs.declared.argument.Argument.TheVariants.{Free, Bound, Apply}
use Rattle.nj_formula.proofs.KnownArguments.{Each, fold-Free, fold-Bound, fold-Apply, by_forms}
use Rattle.nj_syntax.specs.ArgumentText.{name_at}
use Rattle.nj_syntax.specs.Primed.{shown_layer, is_shown_in}

-- a way to add up numbers
module _ (add : List ℕ → ℕ) (more : (n : ℕ) (ns : List ℕ) → add (n ∷ ns) ≡ n + add ns) where
  named_length : (names : List (List ℕ)) (k : ℕ) → length (name_at names k) ≤ add (map length names)
  named_length [] k = omega arith
  named_length (x ∷ names) zero = omega (arith, more (length x) (map length names))
  named_length (x ∷ names) (suc k) = omega (arith, named_length names k, more (length x) (map length names))

  -- a layer that adds up the lengths of the names of an argument
  module _ (names : List (List ℕ)) (layer : Argument-F ℕ → ℕ) (free : (x : List ℕ) → layer (Argument-F.Free x) ≡ length x)
      (bound : (n : ℕ) → layer (Argument-F.Bound n) ≡ add (map length names)) (apply : (f : List ℕ) (ns : List ℕ) → layer (Argument-F.Apply f ns) ≡ add ns)
      (y : List ℕ) (d : ℕ) where
    Fits : Argument → Type 0
    Fits a = is_shown_in y names d a ≡ true → length y ≤ fold-Argument ℕ layer a

    free_fits : (x : List ℕ) → Fits (Free x)
    unfolding Fits
    free_fits x shown =
        let e : length y ≡ length x = same_length x y (sym (fold-Free (shown_layer y names d) x) ∙ shown) in
        omega (arith, e, fold-Free layer x, free x)

    bound_fits : (n : ℕ) → Fits (Bound n)
    unfolding Fits
    bound_fits n shown =
        let parts = and_parts (nat_le d n) (bytes_eq (name_at names (n - d)) y) (sym (fold-Bound (shown_layer y names d) n) ∙ shown) in
        let e : length y ≡ length (name_at names (n - d)) = same_length (name_at names (n - d)) y parts.1 in
        omega (arith, e, named_length names (n - d), fold-Bound layer n, bound n)

    each_fits : (args : List Argument) → Each Fits args → list_any (λ shown. shown) (map (is_shown_in y names d) args) ≡ true
        → length y ≤ add (map (fold-Argument ℕ layer) args)
    unfolding Fits
    each_fits [] each shown = cc
    each_fits (a ∷ args) each shown =
        let sums = more (fold-Argument ℕ layer a) (map (fold-Argument ℕ layer) args) in
        ⊎_elim (λ first. omega (arith, sums, each.0 first)) (λ later. omega (arith, sums, each_fits args each.1 later))
        (or_cases (is_shown_in y names d a) (list_any (λ shown. shown) (map (is_shown_in y names d) args)) shown)

    apply_fits : (f : List ℕ) (args : List Argument) → Each Fits args → Fits (Apply f args)
    unfolding Fits
    apply_fits f args each shown =
        let inside = each_fits args each (sym (fold-Apply (shown_layer y names d) f args) ∙ shown) in
        subst (λ n. length y ≤ n) (sym (fold-Apply layer f args ∙ apply f (map (fold-Argument ℕ layer) args))) inside

    argument_fits : (a : Argument) → Fits a
    argument_fits = by_forms Fits free_fits bound_fits apply_fits

    each_argument : (args : List Argument) → Each Fits args
    each_argument [] = tt
    each_argument (a ∷ args) = (argument_fits a, each_argument args)

    pub arguments_fit : (args : List Argument) → list_any (λ shown. shown) (map (is_shown_in y names d) args) ≡ true
        → length y ≤ add (map (fold-Argument ℕ layer) args)
    arguments_fit args shown = each_fits args (each_argument args) shown

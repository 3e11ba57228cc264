-- The tokens of terms are no deeper than their print: each term has one spelling.
use Rattle.std.proofs.Common.{◌≡◌, ◌≤◌, ◌+◌, ℕ, nat_le, true, ◌&&◌, List, [], ◌∷◌, ◌++◌, Option, Some, None, All, refl, ap, sym, ◌∙◌, arith, le-leb, leb-true}
use Rattle.std.proofs.lemmas.Bool.{and_parts, and_from}
use Rattle.std.proofs.lemmas.List.Elements.{All-nil, All-cons, All-head, All-tail}
use Rattle.std.specs.List.{AllByRecursion}
use Rattle.nj_formula.specs.declared.argument.Argument.{Argument}
use Rattle.nj_formula.specs.declared.argument.Argument.TheVariants.{Free, Bound, Apply}
use Rattle.nj_formula.proofs.KnownArguments.{Each, fold-Free, fold-Bound, fold-Apply, by_forms}
use Rattle.text_words.proofs.KnownLists.{each-both, each-part}
use Rattle.nj_syntax.specs.declared.token.Token.TheVariants as Tokens
use Rattle.nj_syntax.specs.Terms.{Deep, binder_place, named_at, named_term, AreArguments, name, apply, comma}
use Rattle.nj_syntax.specs.Within.{within_layer, is_term_within, are_within}

-- none of the tokens is deeper than most
abbrev pub Low : ℕ → List Deep → Type 0
Low most deep = AllByRecursion (λ t. t.1 ≤ most) deep

pub low_of : (most : ℕ) (deep : List Deep) → All (λ t. t.1 ≤ most) deep → Low most deep
low_of most [] all = tt
low_of most (t ∷ deep) all = (All-head (λ u. u.1 ≤ most) t deep all, low_of most deep (All-tail (λ u. u.1 ≤ most) t deep all))

pub all_of : (most : ℕ) (deep : List Deep) → Low most deep → All (λ t. t.1 ≤ most) deep
all_of most [] low = All-nil (λ u. u.1 ≤ most)
all_of most (t ∷ deep) low = All-cons (λ u. u.1 ≤ most) t deep low.0 (all_of most deep low.1)

pub low_both : (most : ℕ) (xs ys : List Deep) → Low most xs → Low most ys → Low most (xs ++ ys)
low_both most xs ys h k = each-both (λ t. t.1 ≤ most) xs ys h k

pub low_parts : (most : ℕ) (xs ys : List Deep) → Low most (xs ++ ys) → Low most xs × Low most ys
low_parts most xs ys h = each-part (λ t. t.1 ≤ most) xs ys h

module _ (most : ℕ) where
  within-named : (x : List ℕ) (place : Option ℕ) (d : ℕ) → is_term_within most (named_at x place) d ≡ nat_le d most
  within-named x None d = ap (λ g. g d) (fold-Free (within_layer most) x)
  within-named x (Some n) d = ap (λ g. g d) (fold-Bound (within_layer most) n)

  within-Apply : (f : List ℕ) (args : List Argument) (d : ℕ) → is_term_within most (Apply f args) d ≡ (nat_le d most && are_within most args (d + 1))
  within-Apply f args d = ap (λ g. g d) (fold-Apply (within_layer most) f args)

  one_within : (t : Argument) (d : ℕ) → is_term_within most t d ≡ true → are_within most (t ∷ []) d ≡ true
  one_within t d is = and_from (is_term_within most t d) true is refl

  one_of : (t : Argument) (d : ℕ) → are_within most (t ∷ []) d ≡ true → is_term_within most t d ≡ true
  one_of t d is = (and_parts (is_term_within most t d) true is).0

  pub terms_within : {bound : List (List ℕ)} {d : ℕ} {deep : List Deep} {args : List Argument} → AreArguments bound d deep args
      → Low most deep → are_within most args d ≡ true
  terms_within {bound} {d} (name {x = x}) low = one_within (named_term bound x) d (within-named x (binder_place bound x) d ∙ le-leb d most low.0)
  terms_within {d = d} (apply {f = f} {inside = inside} {arguments = args} h) low =
      one_within (Apply f args) d (within-Apply f args d ∙ and_from (nat_le d most) (are_within most args (d + 1)) (le-leb d most low.0)
      (terms_within h (low_parts most inside ((Tokens.Close, d) ∷ []) low.1.1).0))
  terms_within {d = d} (comma {first = first} {rest = rest} {t = t} {more = more} h k) low =
      let parts = low_parts most first ((Tokens.Comma, d) ∷ rest) low in
      and_from (is_term_within most t d) (are_within most more d) (one_of t d (terms_within h parts.0)) (terms_within k parts.1.1)

  -- the first token stands at the depth of the terms
  first_low : {bound : List (List ℕ)} {d : ℕ} {deep : List Deep} {args : List Argument} → AreArguments bound d deep args
      → are_within most args d ≡ true → d ≤ most
  first_low {bound} {d} (name {x = x}) is = leb-true d most (sym (within-named x (binder_place bound x) d) ∙ one_of (named_term bound x) d is)
  first_low {d = d} (apply {f = f} {arguments = args} h) is =
      leb-true d most (and_parts (nat_le d most) (are_within most args (d + 1)) (sym (within-Apply f args d) ∙ one_of (Apply f args) d is)).0
  first_low {d = d} (comma {t = t} {more = more} h k) is = first_low k (and_parts (is_term_within most t d) (are_within most more d) is).1

  pub terms_low : {bound : List (List ℕ)} {d : ℕ} {deep : List Deep} {args : List Argument} → AreArguments bound d deep args
      → are_within most args d ≡ true → Low most deep
  terms_low (name {x = x}) is = (first_low (name {x = x}) is, tt)
  terms_low {d = d} (apply {f = f} {inside = inside} {arguments = args} h) is =
      let parts = and_parts (nat_le d most) (are_within most args (d + 1)) (sym (within-Apply f args d) ∙ one_of (Apply f args) d is) in
      let here = leb-true d most parts.0 in
      (here, (here, low_both most inside ((Tokens.Close, d) ∷ []) (terms_low h parts.1) (here, tt)))
  terms_low {d = d} (comma {first = first} {rest = rest} {t = t} {more = more} h k) is =
      let parts = and_parts (is_term_within most t d) (are_within most more d) is in
      low_both most first ((Tokens.Comma, d) ∷ rest) (terms_low h (one_within t d parts.0)) (first_low k parts.1, terms_low k parts.1)

  -- outside, terms stand less deep
  abbrev Sinks : Argument → Type 0
  Sinks t = (d e : ℕ) → d ≤ e → is_term_within most t e ≡ true → is_term_within most t d ≡ true

  -- what stands less deep stands deep enough
  pub less_deep : (d e : ℕ) → d ≤ e → nat_le e most ≡ true → nat_le d most ≡ true
  less_deep d e le is = let deep = leb-true e most is in le-leb d most (omega arith)

  free_sinks : (x : List ℕ) → Sinks (Free x)
  free_sinks x d e le is = within-named x None d ∙ less_deep d e le (sym (within-named x None e) ∙ is)

  bound_sinks : (n : ℕ) → Sinks (Bound n)
  bound_sinks n d e le is = within-named [] (Some n) d ∙ less_deep d e le (sym (within-named [] (Some n) e) ∙ is)

  each_sinks : (args : List Argument) → Each Sinks args → (d e : ℕ) → d ≤ e → are_within most args e ≡ true → are_within most args d ≡ true
  each_sinks [] each d e le is = refl
  each_sinks (t ∷ args) each d e le is =
      let parts = and_parts (is_term_within most t e) (are_within most args e) is in
      and_from (is_term_within most t d) (are_within most args d) (each.0 d e le parts.0) (each_sinks args each.1 d e le parts.1)

  apply_sinks : (f : List ℕ) (args : List Argument) → Each Sinks args → Sinks (Apply f args)
  apply_sinks f args each d e le is =
      let parts = and_parts (nat_le e most) (are_within most args (e + 1)) (sym (within-Apply f args e) ∙ is) in
      within-Apply f args d ∙ and_from (nat_le d most) (are_within most args (d + 1)) (less_deep d e le parts.0)
      (each_sinks args each (d + 1) (e + 1) (omega arith) parts.1)

  term_sinks : (t : Argument) → Sinks t
  term_sinks = by_forms Sinks free_sinks bound_sinks apply_sinks

  all_sink : (args : List Argument) → Each Sinks args
  all_sink [] = tt
  all_sink (t ∷ args) = (term_sinks t, all_sink args)

  pub terms_sink : (args : List Argument) (d e : ℕ) → d ≤ e → are_within most args e ≡ true → are_within most args d ≡ true
  terms_sink args d e le is = each_sinks args (all_sink args) d e le is

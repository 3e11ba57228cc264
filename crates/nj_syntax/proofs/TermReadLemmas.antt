-- The text of a term is read as the term.
use Rattle.std.proofs.Common.{◌≡◌, ◌<◌, ◌+◌, ◌-◌, ℕ, zero, suc, true, false, List, [], ◌∷◌, ◌++◌, map, length, codes, bytes_eq, Some, refl, ap, sym, subst, ◌∙◌, arith, append-nil, ltb-true}
use Rattle.std.proofs.lemmas.Bool.{both_ways, and_parts, or_parts}
use Rattle.std.specs.List.{list_all, list_any}
use Rattle.nj_formula.specs.declared.argument.Argument.{Argument}
use Rattle.nj_formula.specs.declared.argument.Argument.TheVariants.{Free, Bound, Apply}
use Rattle.nj_syntax.specs.declared.token.Token.TheVariants as Tokens
use Rattle.nj_syntax.specs.Terms.{Deep, binder_place, named_at, named_term, AreArguments, name, apply, comma}
use Rattle.nj_syntax.specs.ArgumentText.{name_at, listed, text_layer, argument_text}
use Rattle.nj_syntax.specs.Primed.{shown_layer, is_shown_in}
use Rattle.text_words.specs.Identifier.{is_identifier}
use Rattle.nj_syntax.specs.Spellable.{spellable_layer, is_spellable_argument}
use Rattle.nj_formula.proofs.KnownArguments.{Each, fold-Free, fold-Bound, fold-Apply, by_forms}
use Rattle.nj_syntax.proofs.FreshLemmas.{Shown, FreshBy, weakened, place_of-free, shown_place, place_of-bound}
use Rattle.nj_syntax.proofs.SpellsLemmas.{Spells, nothing, blank_then, sign_then, name_then}
use Rattle.nj_syntax.proofs.SpellsWhole.{both, text_of}
use Rattle.nj_syntax.specs.ReadBack.{IsTextOf}
use Rattle.nj_syntax.specs.Answers.{IsTerm}

abbrev pub shown_by_argument : Argument → Shown
shown_by_argument a y outer d = is_shown_in y outer d a

abbrev pub shown_by_each : List Argument → Shown
shown_by_each args y outer d = list_any (λ shown. shown) (map (is_shown_in y outer d) args)

-- the text is that of the arguments, at the depth, under the names
pub record AreRead (names : List (List ℕ)) (d : ℕ) (args : List Argument) (text : List ℕ) : Type 0 where
  pub deep : List Deep
  pub reads : AreArguments names d deep args
  pub spells : Spells text deep

pub is_identifier_at : (names : List (List ℕ)) → list_all is_identifier names ≡ true → (place : ℕ) → place < length names → is_identifier (name_at names place) ≡ true
is_identifier_at [] all place below = absurd (omega arith)
is_identifier_at (y ∷ names) all zero below = (and_parts (is_identifier y) (list_all is_identifier names) all).0
is_identifier_at (y ∷ names) all (suc place) below = is_identifier_at names (and_parts (is_identifier y) (list_all is_identifier names) all).1 place (omega arith)

-- a text in parentheses
pub enclosed : (d : ℕ) {text : List ℕ} {inside : List Deep} → Spells text inside
    → Spells (codes "(" ++ (text ++ codes ")")) ((Tokens.Open, d) ∷ inside ++ (Tokens.Close, d) ∷ [])
enclosed d s =
    sign_then 40 Tokens.Open d (omega arith) refl (λ after. refl) (both s (λ rest b. refl) (sign_then 41 Tokens.Close d (omega arith) refl (λ after. refl) nothing))

module _ (names : List (List ℕ)) (identifiers : list_all is_identifier names ≡ true) where
  -- a name by itself, which is read as this
  name_read : (d : ℕ) (x : List ℕ) (a : Argument) (text : List ℕ) → is_identifier x ≡ true → named_term names x ≡ a → x ≡ text → AreRead names d (a ∷ []) text
  name_read d x a text is reads same = record {
    deep = (Tokens.Name x, d) ∷ [];
    reads = subst (λ t. AreArguments names d ((Tokens.Name x, d) ∷ []) (t ∷ [])) reads name;
    spells = subst (λ t. Spells t ((Tokens.Name x, d) ∷ [])) (append-nil x ∙ same) (name_then x d is (λ rest b. b) nothing);
  }

  abbrev pub IsRead : Argument → Type 0
  IsRead a = (d : ℕ) → is_spellable_argument (length names) a ≡ true → FreshBy (shown_by_argument a) names 0 → AreRead names d (a ∷ []) (argument_text names a)

  free_read : (x : List ℕ) → IsRead (Free x)
  free_read x d spellable fresh =
      let shown : FreshBy (λ y outer e. bytes_eq x y) names 0 =
      weakened (shown_by_argument (Free x)) (λ y outer e. bytes_eq x y) (λ y outer e no. sym (fold-Free (shown_layer y outer e) x) ∙ no) names 0 fresh in
      name_read d x (Free x) (argument_text names (Free x)) (sym (fold-Free (spellable_layer (length names)) x) ∙ spellable)
      (ap (named_at x) (place_of-free x names 0 shown)) (sym (fold-Free (text_layer names) x))

  bound_read : (n : ℕ) → IsRead (Bound n)
  bound_read n d spellable fresh =
      let below : n < length names = ltb-true n (length names) (sym (fold-Bound (spellable_layer (length names)) n) ∙ spellable) in
      let shown : FreshBy (shown_place n) names 0 =
      weakened (shown_by_argument (Bound n)) (shown_place n) (λ y outer e no. sym (fold-Bound (shown_layer y outer e) n) ∙ no) names 0 fresh in
      let none : n - 0 ≡ n = omega arith in
      let placed : binder_place names (name_at names n) ≡ Some n =
      subst (λ k. binder_place names (name_at names k) ≡ Some k) none (place_of-bound n names 0 shown (omega arith) (omega arith)) in
      name_read d (name_at names n) (Bound n) (argument_text names (Bound n)) (is_identifier_at names identifiers n below)
      (ap (named_at (name_at names n)) placed) (sym (fold-Bound (text_layer names) n))

  both_read : (d : ℕ) (a b : Argument) (more : List Argument) → AreRead names d (a ∷ []) (argument_text names a)
      → AreRead names d (b ∷ more) (listed (map (argument_text names) (b ∷ more))) → AreRead names d (a ∷ b ∷ more) (listed (map (argument_text names) (a ∷ b ∷ more)))
  both_read d a b more first rest = record {
    deep = first.deep ++ (Tokens.Comma, d) ∷ rest.deep;
    reads = comma first.reads rest.reads;
    spells = both first.spells (λ after b. refl) (sign_then 44 Tokens.Comma d (omega arith) refl (λ after. refl) (blank_then rest.spells));
  }

  pub list_read : (d : ℕ) (a : Argument) (more : List Argument) → Each IsRead (a ∷ more)
      → list_all (λ is. is) (map (is_spellable_argument (length names)) (a ∷ more)) ≡ true → FreshBy (shown_by_each (a ∷ more)) names 0
      → AreRead names d (a ∷ more) (listed (map (argument_text names) (a ∷ more)))
  list_read d a [] each spellable fresh =
      let is = and_parts (is_spellable_argument (length names) a) true spellable in
      let one = each.0 d is.0 (weakened (shown_by_each (a ∷ [])) (shown_by_argument a) (λ y outer e no. (or_parts (is_shown_in y outer e a) false no).0) names 0 fresh) in
      record { deep = one.deep; reads = one.reads; spells = subst (λ t. Spells t one.deep) (sym (append-nil (argument_text names a))) one.spells }
  list_read d a (b ∷ more) each spellable fresh =
      let is = and_parts (is_spellable_argument (length names) a) (list_all (λ is. is) (map (is_spellable_argument (length names)) (b ∷ more))) spellable in
      let fresh_a = weakened (shown_by_each (a ∷ b ∷ more)) (shown_by_argument a) (λ y outer e no. (or_parts (is_shown_in y outer e a) (shown_by_each (b ∷ more) y outer e) no).0) names 0 fresh in
      let fresh_more = weakened (shown_by_each (a ∷ b ∷ more)) (shown_by_each (b ∷ more)) (λ y outer e no. (or_parts (is_shown_in y outer e a) (shown_by_each (b ∷ more) y outer e) no).1) names 0 fresh in
      both_read d a b more (each.0 d is.0 fresh_a) (list_read d b more each.1 is.1 fresh_more)

  apply_read : (f : List ℕ) (args : List Argument) → Each IsRead args → IsRead (Apply f args)
  apply_read f [] each d spellable fresh = absurd (both_ways false refl (sym (fold-Apply (spellable_layer (length names)) f []) ∙ spellable))
  apply_read f (a ∷ more) each d spellable fresh =
      let is = and_parts (is_identifier f) (list_all (λ is. is) (map (is_spellable_argument (length names)) (a ∷ more)))
      (sym (fold-Apply (spellable_layer (length names)) f (a ∷ more)) ∙ spellable) in
      let shown = weakened (shown_by_argument (Apply f (a ∷ more))) (shown_by_each (a ∷ more))
      (λ y outer e no. sym (fold-Apply (shown_layer y outer e) f (a ∷ more)) ∙ no) names 0 fresh in
      let inside = list_read (d + 1) a more each is.1 shown in
      record {
        deep = (Tokens.Name f, d) ∷ (Tokens.Open, d) ∷ inside.deep ++ (Tokens.Close, d) ∷ [];
        reads = apply inside.reads;
        spells = subst (λ t. Spells t ((Tokens.Name f, d) ∷ (Tokens.Open, d) ∷ inside.deep ++ (Tokens.Close, d) ∷ []))
            (sym (fold-Apply (text_layer names) f (a ∷ more))) (name_then f d is.0 (λ rest b. refl) (enclosed d inside.spells));
      }

  argument_read : (a : Argument) → IsRead a
  argument_read = by_forms IsRead free_read bound_read apply_read

  each_read : (args : List Argument) → Each IsRead args
  each_read [] = tt
  each_read (a ∷ args) = (argument_read a, each_read args)

  -- the arguments of an atom
  pub arguments_read : (d : ℕ) (a : Argument) (more : List Argument)
      → list_all (λ is. is) (map (is_spellable_argument (length names)) (a ∷ more)) ≡ true → FreshBy (shown_by_each (a ∷ more)) names 0
      → AreRead names d (a ∷ more) (listed (map (argument_text names) (a ∷ more)))
  arguments_read d a more spellable fresh = list_read d a more (each_read (a ∷ more)) spellable fresh

pub term_reads_back : (t : Argument) → is_spellable_argument 0 t ≡ true → IsTextOf IsTerm (argument_text [] t) t
term_reads_back t spellable = let read = argument_read [] refl t 0 spellable tt in text_of IsTerm read.spells read.reads

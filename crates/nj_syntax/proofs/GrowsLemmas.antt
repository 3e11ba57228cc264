-- What a text can say under some quantifiers, it can say under more.
use Rattle.std.proofs.Common.{◌≡◌, ◌≤◌, ◌<◌, ℕ, Bool, true, false, List, [], ◌∷◌, map, refl, sym, ◌∙◌, arith, ltb-true}
use Rattle.std.proofs.lemmas.Bool.{lt-ltb, and_parts, and_from, both_ways}
use Rattle.std.specs.List.{list_all}
use Rattle.nj_formula.specs.declared.argument.Argument.{Argument}
use Rattle.nj_formula.specs.declared.argument.Argument.TheVariants.{Free, Bound, Apply}
use Rattle.nj_formula.proofs.KnownArguments.{Each, fold-Free, fold-Bound, fold-Apply, by_forms}
use Rattle.text_words.specs.Identifier.{is_identifier}
use Rattle.nj_syntax.specs.Spellable.{spellable_layer, is_spellable_argument}

abbrev pub all_spellable : ℕ → List Argument → Bool
all_spellable k args = list_all (λ is. is) (map (is_spellable_argument k) args)

-- under more quantifiers more places are bound
module _ (m k : ℕ) (more : m ≤ k) where
  abbrev Grows : Argument → Type 0
  Grows t = is_spellable_argument m t ≡ true → is_spellable_argument k t ≡ true

  free_grows : (x : List ℕ) → Grows (Free x)
  free_grows x is = fold-Free (spellable_layer k) x ∙ (sym (fold-Free (spellable_layer m) x) ∙ is)

  bound_grows : (n : ℕ) → Grows (Bound n)
  bound_grows n is =
      let less : n < m = ltb-true n m (sym (fold-Bound (spellable_layer m) n) ∙ is) in
      fold-Bound (spellable_layer k) n ∙ lt-ltb n k (omega arith)

  each_grows : (args : List Argument) → Each Grows args → all_spellable m args ≡ true → all_spellable k args ≡ true
  each_grows [] each is = refl
  each_grows (t ∷ args) each is =
      let parts = and_parts (is_spellable_argument m t) (all_spellable m args) is in
      and_from (is_spellable_argument k t) (all_spellable k args) (each.0 parts.0) (each_grows args each.1 parts.1)

  apply_grows : (f : List ℕ) (args : List Argument) → Each Grows args → Grows (Apply f args)
  apply_grows f [] each is = absurd (both_ways false refl (sym (fold-Apply (spellable_layer m) f []) ∙ is))
  apply_grows f (t ∷ args) each is =
      let parts = and_parts (is_identifier f) (all_spellable m (t ∷ args)) (sym (fold-Apply (spellable_layer m) f (t ∷ args)) ∙ is) in
      fold-Apply (spellable_layer k) f (t ∷ args)
      ∙ and_from (is_identifier f) (all_spellable k (t ∷ args)) parts.0 (each_grows (t ∷ args) each parts.1)

  pub grows : (t : Argument) → Grows t
  grows = by_forms Grows free_grows bound_grows apply_grows

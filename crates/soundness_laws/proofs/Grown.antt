-- Facts that are found by their names, with more facts and with more.
use Rattle.std.proofs.Common.{◌≡◌, ◌↔◌, ◌⊎◌, ℕ, zero, suc, ◌<◌, Bool, true, false, ◌&&◌, cond, List, [], ◌∷◌, ◌++◌, find, get_or, Contains, Option, Some, None, option_map, is_some, refl, sym, ap, ap₂, subst, ◌∙◌, inl, inr, ⊎_elim, arith}
use Rattle.std.specs.Ordering.{is_eq}
use Rattle.std.proofs.lemmas.Bool.{false≢true}
use Rattle.std.proofs.lemmas.Cmp.{tied_itself}
use Rattle.std.proofs.lemmas.List.Elements.{Contains-append_left, Contains-append_right, Contains-append_cases}
use Rattle.std.proofs.lemmas.Map.Text.{is_eq-slice_cmp}
use Rattle.std.proofs.lemmas.Option.{none-some, same_Some}
use Rattle.nj_formula.specs.declared.formula.Formula.{Formula}
use Rattle.shared_map.specs.Pairs.{IsSorted, has_key, found}
use Rattle.shared_map.proofs.KnownFound.{found_put}
use Rattle.shared_map.proofs.KnownSorted.{IsSorted-put}
use Rattle.theory_ctx.specs.declared.fact_name.FactName.{FactName}
use Rattle.theory_ctx.specs.Facts.{Fact, is_called, fact_of}
use Rattle.theory_ctx.specs.Merged.{extended_facts}
use Rattle.theory_ctx.specs.Order.{by_bytes, by_name, by_name_total}
use Rattle.theory_ctx.proofs.KnownOrder.{both_equal}
use Rattle.doc_nodes.proofs.KnownNames.{name_is}
use Rattle.isar_rules.specs.declared.state.Theory.{Theory}
use Rattle.isar_rules.specs.BlobLines.{Listed}
use Rattle.isar_rules.specs.Theories.{has_fact, with_fact}

-- the facts have the formula by the name
abbrev pub Has : List Fact → FactName → Formula → Type 0
Has facts fact f = found by_name fact facts ≡ Some f

-- these facts of the theory of a node are more than those, and no others are
abbrev pub Grows : List ℕ → List Fact → List Listed → List Fact → Type 0
Grows node old more new = (fact : FactName) (f : Formula) → Has new fact f ↔ (Has old fact f ⊎ ((fact.theory ≡ node) × Contains more (fact.name, f)))

pub no_more : (node : List ℕ) (facts : List Fact) → Grows node facts [] facts
no_more node facts fact f = (inl, λ h. ⊎_elim (λ has. has) (λ more. absurd (omega (arith, more.1.1))) h)

pub and_more : (node : List ℕ) (a : List Fact) (xs : List Listed) (b : List Fact) (ys : List Listed) (c : List Fact) → Grows node a xs b → Grows node b ys c → Grows node a (xs ++ ys) c
and_more node a xs b ys c one two fact f = (
  λ h. ⊎_elim (λ has. ⊎_elim inl (λ m. inr (m.0, Contains-append_left xs ys (fact.name, f) m.1)) ((one fact f).0 has))
      (λ m. inr (m.0, Contains-append_right xs ys (fact.name, f) m.1)) ((two fact f).0 h),
  λ h. (two fact f).1 (⊎_elim (λ has. inl ((one fact f).1 (inl has)))
      (λ m. ⊎_elim (λ l. inl ((one fact f).1 (inr (m.0, l)))) (λ r. inr (m.0, r)) (Contains-append_cases xs ys (fact.name, f) m.1)) h),
)

abbrev pub key : List ℕ → List ℕ → FactName
key node name = record { name = name; theory = node }

called : (node name : List ℕ) (fact : Fact) → has_key by_name (key node name) fact ≡ is_called node name fact
called node name fact =
    both_equal (by_bytes fact.0.name name) (by_bytes fact.0.theory node)
    ∙ ap₂ (λ a b. a && b) (is_eq-slice_cmp fact.0.theory node) (is_eq-slice_cmp fact.0.name name)

found_called : (node name : List ℕ) (facts : List Fact) → find (has_key by_name (key node name)) facts ≡ fact_of node name facts
found_called node name [] = refl
found_called node name (fact ∷ facts) = ap₂ (λ b o. cond b (Some fact) o) (called node name fact) (found_called node name facts)

none_found : (node name : List ℕ) (facts : List Fact) → is_some (fact_of node name facts) ≡ false → found by_name (key node name) facts ≡ None
none_found node name facts none = ap (option_map (λ pair. pair.1)) (found_called node name facts ∙ go (fact_of node name facts) none)
  where
    go : (o : Option Fact) → is_some o ≡ false → o ≡ None
    go None e = refl
    go (Some x) e = cc

both_true : (a b : Bool) → (a && b) ≡ true → (a ≡ true) × (b ≡ true)
both_true true b e = (refl, e)
both_true false b e = cc

same_key : (node name : List ℕ) (fact : FactName) → is_eq (by_name (key node name) fact) ≡ true → key node name ≡ fact
same_key node name fact e =
    let b = both_true (is_eq (by_bytes node fact.theory)) (is_eq (by_bytes name fact.name)) (sym (both_equal (by_bytes name fact.name) (by_bytes node fact.theory)) ∙ e) in
    ap₂ (λ n t. record { name = n; theory = t }) (name_is name fact.name b.1) (name_is node fact.theory b.0)

single : (x y : Listed) → Contains (x ∷ []) y ↔ (x ≡ y)
single x y = (λ c. go c.0 c.1 c.2, λ e. (0, omega arith, e))
  where
    go : (k : ℕ) → k < 1 → get_or (x ∷ []) k y ≡ y → x ≡ y
    go zero less e = e
    go (suc k) less e = absurd (omega (arith, less))

module _ (node name : List ℕ) (f : Formula) (facts : List Fact) (none : is_some (fact_of node name facts) ≡ false) where
  -- one fact more, of a new name
  pub one_more : Grows node facts ((name, f) ∷ []) (extended_facts (key node name, f) facts)
  one_more fact g = go (is_eq (by_name (key node name) fact)) refl
    where
      is : (b : Bool) → is_eq (by_name (key node name) fact) ≡ b → found by_name fact (extended_facts (key node name, f) facts) ≡ cond b (Some f) (found by_name fact facts)
      is b e = found_put by_name_total (key node name, f) facts fact ∙ ap (λ c. cond c (Some f) (found by_name fact facts)) e

      go : (b : Bool) → is_eq (by_name (key node name) fact) ≡ b
          → Has (extended_facts (key node name, f) facts) fact g ↔ (Has facts fact g ⊎ ((fact.theory ≡ node) × Contains {X = Listed} ((name, f) ∷ []) (fact.name, g)))
      go true e =
          let same : key node name ≡ fact = same_key node name fact e in (
            λ h. inr (ap (λ k. k.theory) (sym same), (single (name, f) (fact.name, g)).1 (ap₂ (λ k x. (k.name, x)) same (same_Some f g (sym (is true e) ∙ h)))),
            λ h. is true e ∙ ⊎_elim
                (λ has. absurd (none-some g (sym (none_found node name facts none) ∙ ap (λ k. found by_name k facts) same ∙ has)))
                (λ m. ap (λ x. Some x.1) ((single (name, f) (fact.name, g)).0 m.1)) h,
          )
      go false e = (
        λ h. inl (sym (is false e) ∙ h),
        λ h. is false e ∙ ⊎_elim (λ has. has)
            (λ m. absurd (false≢true (sym e ∙ ap₂ (λ t n. is_eq (by_name (key node name) (key t n))) m.0 (ap (λ x. x.0) (sym ((single (name, f) (fact.name, g)).0 m.1))) ∙ ap is_eq (tied_itself by_name_total (key node name))))) h,
      )

-- so for a theory of the node
pub fact_more : (node name : List ℕ) (f : Formula) (theory : Theory) → theory.name ≡ node → has_fact name theory ≡ false
    → Grows node theory.facts ((name, f) ∷ []) (with_fact name f theory).facts
fact_more node name f theory own none = subst (λ n. Grows n theory.facts ((name, f) ∷ []) (with_fact name f theory).facts) own (one_more theory.name name f theory.facts none)

pub fact_sorted : (name : List ℕ) (f : Formula) (theory : Theory) → IsSorted by_name theory.facts → IsSorted by_name (with_fact name f theory).facts
fact_sorted name f theory sorted = IsSorted-put by_name_total (key theory.name name, f) theory.facts sorted

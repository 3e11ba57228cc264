-- A rule's text, added piece by piece.
use Rattle.std.proofs.Common.{◌≡◌, ℕ, List, [], ◌∷◌, ◌++◌, codes, refl, ap, sym, ◌∙◌, append_assoc, append-nil}
use Rattle.std.specs.List.{flat_map}
use Rattle.nj_kernel.specs.declared.rule.Rule.{Rule}
use Rattle.nj_kernel.specs.RuleNames.{rule_name}
use Rattle.suggest_rules.specs.TermText.{ruled}

abbrev spaced : List (List ℕ) → List ℕ
spaced = flat_map (λ part. 32 ∷ part)

spaced_more : (parts : List (List ℕ)) (x : List ℕ) → spaced parts ++ 32 ∷ x ≡ spaced (parts ++ x ∷ [])
spaced_more [] x = sym (append-nil (32 ∷ x))
spaced_more (p ∷ parts) x = append_assoc (32 ∷ p) (spaced parts) (32 ∷ x) ∙ ap (λ l. (32 ∷ p) ++ l) (spaced_more parts x)

-- the rule's name and these parts are added
abbrev pub IsBegun : Rule → List ℕ → List ℕ → List (List ℕ) → Type 0
IsBegun rule old new parts = new ≡ old ++ ((codes "(" ++ rule_name rule) ++ spaced parts)

module _ (rule : Rule) (old new : List ℕ) where
  pub none_yet : new ≡ old ++ (codes "(" ++ rule_name rule) → IsBegun rule old new []
  none_yet e = e ∙ ap (λ l. old ++ l) (sym (append-nil (codes "(" ++ rule_name rule)))

  pub one_yet : (x : List ℕ) → new ≡ old ++ ((codes "(" ++ rule_name rule) ++ 32 ∷ x) → IsBegun rule old new (x ∷ [])
  one_yet x e = e ∙ ap (λ l. old ++ ((codes "(" ++ rule_name rule) ++ l)) (sym (append-nil (32 ∷ x)))

  module _ (parts : List (List ℕ)) (begun : IsBegun rule old new parts) (newer : List ℕ) where
    pub one_more : (x : List ℕ) → newer ≡ new ++ 32 ∷ x → IsBegun rule old newer (parts ++ x ∷ [])
    one_more x e =
        let head = codes "(" ++ rule_name rule in
        e ∙ (ap (λ l. l ++ 32 ∷ x) begun ∙ (append_assoc old (head ++ spaced parts) (32 ∷ x)
        ∙ ap (λ l. old ++ l) (append_assoc head (spaced parts) (32 ∷ x) ∙ ap (λ l. head ++ l) (spaced_more parts x))))

  -- a closing parenthesis behind all
  pub closed : (parts : List (List ℕ)) (end : List ℕ) → IsBegun rule old new parts → end ≡ new ++ codes ")" → end ≡ old ++ ruled rule parts
  closed parts end begun e =
      e ∙ (ap (λ l. l ++ codes ")") begun ∙ (append_assoc old ((codes "(" ++ rule_name rule) ++ spaced parts) (codes ")")
      ∙ ap (λ l. old ++ l) (append_assoc (codes "(" ++ rule_name rule) (spaced parts) (codes ")") ∙ append_assoc (codes "(") (rule_name rule) (spaced parts ++ codes ")"))))

module _ (rule : Rule) (old new : List ℕ) (parts : List (List ℕ)) (begun : IsBegun rule old new parts) where
  pub two_more : (x y newer : List ℕ) → newer ≡ new ++ (32 ∷ x ++ 32 ∷ y) → IsBegun rule old newer ((parts ++ x ∷ []) ++ y ∷ [])
  two_more x y newer e =
      one_more rule old (new ++ 32 ∷ x) (parts ++ x ∷ []) (one_more rule old new parts begun (new ++ 32 ∷ x) x refl) newer y
      (e ∙ sym (append_assoc new (32 ∷ x) (32 ∷ y)))

  pub last : (x end : List ℕ) → end ≡ new ++ 32 ∷ (x ++ codes ")") → end ≡ old ++ ruled rule (parts ++ x ∷ [])
  last x end e =
      closed rule old (new ++ 32 ∷ x) (parts ++ x ∷ []) end (one_more rule old new parts begun (new ++ 32 ∷ x) x refl)
      (e ∙ sym (append_assoc new (32 ∷ x) (codes ")")))

  pub last_two : (x y end : List ℕ) → end ≡ new ++ (32 ∷ x ++ 32 ∷ (y ++ codes ")")) → end ≡ old ++ ruled rule ((parts ++ x ∷ []) ++ y ∷ [])
  last_two x y end e =
      closed rule old (new ++ (32 ∷ x ++ 32 ∷ y)) ((parts ++ x ∷ []) ++ y ∷ []) end (two_more x y (new ++ (32 ∷ x ++ 32 ∷ y)) refl)
      (e ∙ (ap (λ l. new ++ l) (sym (append_assoc (32 ∷ x) (32 ∷ y) (codes ")"))) ∙ sym (append_assoc new (32 ∷ x ++ 32 ∷ y) (codes ")"))))

-- An instance is true just where the body is.
use Rattle.std.proofs.Common.{◌≡◌, ◌↔◌, ◌+◌, ◌==◌, ℕ, suc, Bool, true, false, cond, List, [], ◌∷◌, ◌++◌, length, map, get_or, refl, ap, sym, subst, ◌∙◌, inl, inr, ⊎_elim}
use Rattle.std.proofs.lemmas.Bool.{eqb-true, eq-eqb}
use Rattle.std.proofs.Math.Seq.{get_or-append_seam}
use Rattle.std.proofs.Math.Numerals.{add-one}
use Rattle.nj_formula.specs.declared.argument.Argument.{Argument}
use Rattle.nj_formula.specs.declared.argument.Argument.TheVariants.{Bound, Apply}
use Rattle.nj_formula.specs.Statement.{Statement, falsity, atom, neg, conj, disj, implies, every, exists}
use Rattle.nj_formula.specs.Closed.{closed_layer, is_closed}
use Rattle.nj_formula.specs.Instance.{filled_layer, filled_argument, filled, instance}
use Rattle.nj_formula.specs.Truth.{Assignment, point_layer, point, truth}
use Rattle.nj_formula.proofs.KnownArguments.{Each, fold-Free, fold-Bound, fold-Apply, by_forms}
use Rattle.nj_formula.proofs.PointLemmas.{elsewhere, AgreesWhere, all_agree}

module _ {D : Type 0} (apply : List ℕ → List D → D) (v : Assignment D) where
  at : List D → Argument → D
  at = point apply v

  at_Apply : (bound : List D) (h : List ℕ) (args : List Argument) → point apply v bound (Apply h args) ≡ apply h (map (point apply v bound) args)
  at_Apply bound h args = fold-Apply (point_layer apply v bound) h args

  -- a term is the same point wherever it stands
  pub point_closed : (b c : List D) (t : Argument) → is_closed t ≡ true → point apply v b t ≡ point apply v c t
  point_closed b c = by_forms (AgreesWhere (point apply v b) (point apply v c) is_closed true)
      (λ x h. fold-Free (point_layer apply v b) x ∙ sym (fold-Free (point_layer apply v c) x))
      (λ n h. let e : is_closed (Bound n) ≡ false = fold-Bound closed_layer n in cc)
      (λ k args each h. at_Apply b k args ∙ (ap (apply k) (all_agree (point apply v b) (point apply v c) is_closed args each (sym (fold-Apply closed_layer k args) ∙ h)) ∙ sym (at_Apply c k args)))

  module _ (t : Argument) (closed : is_closed t ≡ true) where
    abbrev there : D
    there = point apply v [] t

    bound_filled : (bound : List D) (n m : ℕ) → n ≡ length bound → (b : Bool) → (m == n) ≡ b
        → point apply v bound (cond b t (Bound m)) ≡ get_or (bound ++ there ∷ []) m (v.of_place m)
    bound_filled bound n m is true same =
        let e : m ≡ length bound = eqb-true m n same ∙ is in
        point_closed bound [] t closed
        ∙ (sym (get_or-append_seam bound there [] (v.of_place m)) ∙ ap (λ i. get_or (bound ++ there ∷ []) i (v.of_place m)) (sym e))
    bound_filled bound n m is false other = fold-Bound (point_layer apply v bound) m ∙ elsewhere bound there m (v.of_place m) (λ e. let f : false ≡ true = sym other ∙ eq-eqb m n (e ∙ sym is) in cc)

    points_filled : (bound : List D) (n : ℕ) (args : List Argument)
        → Each (λ a. point apply v bound (filled_argument n t a) ≡ point apply v (bound ++ there ∷ []) a) args
        → map (point apply v bound) (map (filled_argument n t) args) ≡ map (point apply v (bound ++ there ∷ [])) args
    points_filled bound n [] tt = refl
    points_filled bound n (a ∷ args) each =
        ap (λ d. d ∷ map (point apply v bound) (map (filled_argument n t) args)) each.0
        ∙ ap (λ ds. point apply v (bound ++ there ∷ []) a ∷ ds) (points_filled bound n args each.1)

    -- what is filled is the point that the term is
    pub point_filled : (bound : List D) (n : ℕ) → n ≡ length bound → (a : Argument)
        → point apply v bound (filled_argument n t a) ≡ point apply v (bound ++ there ∷ []) a
    point_filled bound n is = by_forms (λ a. point apply v bound (filled_argument n t a) ≡ point apply v (bound ++ there ∷ []) a)
        (λ x. ap (point apply v bound) (fold-Free (filled_layer n t) x) ∙ (fold-Free (point_layer apply v bound) x ∙ sym (fold-Free (point_layer apply v (bound ++ there ∷ [])) x)))
        (λ m. ap (point apply v bound) (fold-Bound (filled_layer n t) m) ∙ (bound_filled bound n m is (m == n) refl ∙ sym (fold-Bound (point_layer apply v (bound ++ there ∷ [])) m)))
        (λ k args each. ap (point apply v bound) (fold-Apply (filled_layer n t) k args)
        ∙ (at_Apply bound k (map (filled_argument n t) args) ∙ (ap (apply k) (points_filled bound n args each) ∙ sym (at_Apply (bound ++ there ∷ []) k args))))

    all_filled : (bound : List D) (n : ℕ) → n ≡ length bound → (args : List Argument)
        → map (point apply v bound) (map (filled_argument n t) args) ≡ map (point apply v (bound ++ there ∷ [])) args
    all_filled bound n is [] = refl
    all_filled bound n is (a ∷ args) =
        ap (λ d. d ∷ map (point apply v bound) (map (filled_argument n t) args)) (point_filled bound n is a)
        ∙ ap (λ ds. point apply v (bound ++ there ∷ []) a ∷ ds) (all_filled bound n is args)

    module _ (holds : List ℕ → List D → Type 0) where
      -- the instance is true just where the body is
      pub truth_filled : (bound : List D) (n : ℕ) → n ≡ length bound → (p : Statement)
          → truth apply holds v bound (filled n t p) ↔ truth apply holds v (bound ++ there ∷ []) p
      truth_filled bound n is falsity = (λ h. h, λ h. h)
      truth_filled bound n is (atom q args) =
          let e = all_filled bound n is args in (λ h. subst (holds q) e h, λ h. subst (holds q) (sym e) h)
      truth_filled bound n is (neg a) =
          let r = truth_filled bound n is a in (λ h x. h (r.1 x), λ h x. h (r.0 x))
      truth_filled bound n is (conj a b) =
          let r = truth_filled bound n is a in let s = truth_filled bound n is b in
          (λ h. (r.0 h.0, s.0 h.1), λ h. (r.1 h.0, s.1 h.1))
      truth_filled bound n is (disj a b) =
          let r = truth_filled bound n is a in let s = truth_filled bound n is b in
          (λ h. ⊎_elim (λ x. inl (r.0 x)) (λ y. inr (s.0 y)) h, λ h. ⊎_elim (λ x. inl (r.1 x)) (λ y. inr (s.1 y)) h)
      truth_filled bound n is (implies a b) =
          let r = truth_filled bound n is a in let s = truth_filled bound n is b in
          (λ h x. s.0 (h (r.1 x)), λ h x. s.1 (h (r.0 x)))
      truth_filled bound n is (every a) =
          let r = λ (d : D). truth_filled (d ∷ bound) (n + 1) (add-one n ∙ ap (λ i. suc i) is) a in
          (λ h d. (r d).0 (h d), λ h d. (r d).1 (h d))
      truth_filled bound n is (exists a) =
          let r = λ (d : D). truth_filled (d ∷ bound) (n + 1) (add-one n ∙ ap (λ i. suc i) is) a in
          (λ h. (h.0, (r h.0).0 h.1), λ h. (h.0, (r h.0).1 h.1))

      pub truth_instance : (p : Statement) → truth apply holds v [] (instance t p) ↔ truth apply holds v (there ∷ []) p
      truth_instance p = truth_filled [] 0 refl p

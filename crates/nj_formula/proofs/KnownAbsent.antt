-- A name that is not free does not matter.
use Rattle.std.proofs.Common.{◌≡◌, ◌↔◌, ℕ, false, cond, List, [], ◌∷◌, map, refl, ap, sym, subst, ◌∙◌, inl, inr, ⊎_elim}
use Rattle.std.specs.List.{list_any}
use Rattle.std.specs.Str.{bytes_eq}
use Rattle.nj_formula.specs.declared.argument.Argument.{Argument}
use Rattle.nj_formula.specs.Statement.{Statement, falsity, atom, neg, conj, disj, implies, every, exists}
use Rattle.nj_formula.specs.Free.{free_layer, is_free_in, is_free}
use Rattle.nj_formula.specs.Truth.{Assignment, renamed, point_layer, point, truth}
use Rattle.nj_formula.proofs.KnownArguments.{fold-Free, fold-Bound, fold-Apply, by_forms}
use Rattle.nj_formula.proofs.PointLemmas.{neither_left, neither_right, AgreesWhere, none_agree}

module _ {D : Type 0} (apply : List ℕ → List D → D) (v : Assignment D) (x : List ℕ) (d : D) where
  abbrev w : Assignment D
  w = renamed v x d

  pub point_renamed : (bound : List D) (a : Argument) → is_free_in x a ≡ false → point apply v bound a ≡ point apply (renamed v x d) bound a
  point_renamed bound = by_forms (AgreesWhere (point apply v bound) (point apply (renamed v x d) bound) (is_free_in x) false)
      (λ y h. let e : bytes_eq y x ≡ false = sym (fold-Free (free_layer x) y) ∙ h in
      fold-Free (point_layer apply v bound) y ∙ (sym (ap (λ b. cond b d (v.of_name y)) e) ∙ sym (fold-Free (point_layer apply (renamed v x d) bound) y)))
      (λ n h. fold-Bound (point_layer apply v bound) n ∙ sym (fold-Bound (point_layer apply (renamed v x d) bound) n))
      (λ k args each h. fold-Apply (point_layer apply v bound) k args
      ∙ (ap (apply k) (none_agree (point apply v bound) (point apply (renamed v x d) bound) (is_free_in x) args each (sym (fold-Apply (free_layer x) k args) ∙ h))
      ∙ sym (fold-Apply (point_layer apply (renamed v x d) bound) k args)))

  all_renamed : (bound : List D) (args : List Argument) → list_any (λ c. c) (map (is_free_in x) args) ≡ false
      → map (point apply v bound) args ≡ map (point apply (renamed v x d) bound) args
  all_renamed bound [] h = refl
  all_renamed bound (a ∷ args) h =
      ap (λ e. e ∷ map (point apply v bound) args) (point_renamed bound a (neither_left (is_free_in x a) (list_any (λ c. c) (map (is_free_in x) args)) h))
      ∙ ap (λ es. point apply (renamed v x d) bound a ∷ es) (all_renamed bound args (neither_right (is_free_in x a) (list_any (λ c. c) (map (is_free_in x) args)) h))

  module _ (holds : List ℕ → List D → Type 0) where
    pub truth_renamed : (bound : List D) (p : Statement) → is_free x p ≡ false
        → truth apply holds v bound p ↔ truth apply holds (renamed v x d) bound p
    truth_renamed bound falsity h = (λ k. k, λ k. k)
    truth_renamed bound (atom q args) h =
        let e = all_renamed bound args h in (λ k. subst (holds q) e k, λ k. subst (holds q) (sym e) k)
    truth_renamed bound (neg a) h =
        let r = truth_renamed bound a h in (λ k y. k (r.1 y), λ k y. k (r.0 y))
    truth_renamed bound (conj a b) h =
        let r = truth_renamed bound a (neither_left (is_free x a) (is_free x b) h) in
        let s = truth_renamed bound b (neither_right (is_free x a) (is_free x b) h) in
        (λ k. (r.0 k.0, s.0 k.1), λ k. (r.1 k.0, s.1 k.1))
    truth_renamed bound (disj a b) h =
        let r = truth_renamed bound a (neither_left (is_free x a) (is_free x b) h) in
        let s = truth_renamed bound b (neither_right (is_free x a) (is_free x b) h) in
        (λ k. ⊎_elim (λ y. inl (r.0 y)) (λ z. inr (s.0 z)) k, λ k. ⊎_elim (λ y. inl (r.1 y)) (λ z. inr (s.1 z)) k)
    truth_renamed bound (implies a b) h =
        let r = truth_renamed bound a (neither_left (is_free x a) (is_free x b) h) in
        let s = truth_renamed bound b (neither_right (is_free x a) (is_free x b) h) in
        (λ k y. s.0 (k (r.1 y)), λ k y. s.1 (k (r.0 y)))
    truth_renamed bound (every a) h =
        let r = λ (e : D). truth_renamed (e ∷ bound) a h in (λ k e. (r e).0 (k e), λ k e. (r e).1 (k e))
    truth_renamed bound (exists a) h =
        let r = λ (e : D). truth_renamed (e ∷ bound) a h in (λ k. (k.0, (r k.0).0 k.1), λ k. (k.0, (r k.0).1 k.1))

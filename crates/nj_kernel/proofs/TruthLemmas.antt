-- What is derived is true in each structure where what it assumes is.
use Rattle.std.proofs.Common.{◌≡◌, ℕ, true, false, cond, IsTrue, List, [], ◌∷◌, refl, ap, sym, subst, ◌∙◌, inl, inr, ⊎_elim}
use Rattle.std.specs.Str.{bytes_eq}
use Rattle.nj_formula.specs.declared.argument.Argument.TheVariants.{Free}
use Rattle.nj_formula.specs.Statement.{Statement}
use Rattle.std.proofs.lemmas.Slice.Eq.{bytes_eq-Decides}
use Rattle.nj_formula.specs.Free.{is_free}
use Rattle.nj_formula.specs.Closed.{closed_layer, is_closed}
use Rattle.nj_formula.specs.Instance.{instance}
use Rattle.nj_formula.specs.Truth.{Assignment, renamed, point_layer, point, truth}
use Rattle.nj_formula.proofs.KnownArguments.{fold-Free}
use Rattle.nj_formula.proofs.KnownTruth.{truth_instance}
use Rattle.nj_formula.proofs.KnownAbsent.{truth_renamed}
use Rattle.nj_kernel.specs.Sets.{members, Lists, ◌∖◌, IsFreshIn}
use Rattle.nj_kernel.specs.Nj.{Nj, assume, same_set, conj_i, conj_e1, conj_e2, disj_i1, disj_i2, disj_e, imp_i, imp_e, not_i, not_e, false_e, all_i, all_e, ex_i, ex_e}
use Rattle.nj_kernel.proofs.OrderLemmas.{decide}

-- a name is the same name
bytes_same : (x : List ℕ) → bytes_eq x x ≡ true
bytes_same x = (bytes_eq-Decides x x).1 refl

-- a name by itself is a term
closed_name : (x : List ℕ) → IsTrue (is_closed (Free x))
closed_name x = fold-Free closed_layer x

module _ {D : Type 0} (apply : List ℕ → List D → D) (holds : List ℕ → List D → Type 0) where
  abbrev AllTrue : Assignment D → (Statement → Type 0) → Type 0
  AllTrue v P = (f : Statement) → P f → truth apply holds v [] f

  -- what a list lists is true, where its members are
  part : (v : Assignment D) (s : List Statement) (P : Statement → Type 0) → Lists s P → AllTrue v (members s) → AllTrue v P
  part v s P l all f p = all f ((l f).1 p)

  -- where a statement holds, what a rule that discharges it assumes is all that its premise assumes
  restored : (v : Assignment D) (P : Statement → Type 0) (a : Statement) → AllTrue v (P ∖ a) → truth apply holds v [] a → AllTrue v P
  restored v P a rest h f in_p = ⊎_elim (λ same. subst (truth apply holds v []) (sym same) h) (λ other. rest f (in_p, other)) (decide f a)

  -- what does not have the name stays true when it means another point
  kept : (v : Assignment D) (x : List ℕ) (d : D) (P : Statement → Type 0) → IsFreshIn x P → AllTrue v P → AllTrue (renamed v x d) P
  kept v x d P fresh all f p = (truth_renamed apply v x d holds [] f (fresh f p)).0 (all f p)

  -- the name is the point that it means now
  named : (v : Assignment D) (x : List ℕ) (d : D) → point apply (renamed v x d) [] (Free x) ≡ d
  named v x d = fold-Free (point_layer apply (renamed v x d) []) x ∙ ap (λ b. cond b d (v.of_name x)) (bytes_same x)

  -- the instance at a name that is not free, where that name is d, is the body of d
  body_of : (v : Assignment D) (x : List ℕ) (d : D) (p : Statement) → is_free x p ≡ false
      → truth apply holds (renamed v x d) [] (instance (Free x) p) → truth apply holds v (d ∷ []) p
  body_of v x d p absent h =
      let at : truth apply holds (renamed v x d) (point apply (renamed v x d) [] (Free x) ∷ []) p =
      (truth_instance apply (renamed v x d) (Free x) (closed_name x) holds p).0 h in
      (truth_renamed apply v x d holds (d ∷ []) p absent).1 (subst (λ e. truth apply holds (renamed v x d) (e ∷ []) p) (named v x d) at)

  of_body : (v : Assignment D) (x : List ℕ) (d : D) (p : Statement) → is_free x p ≡ false
      → truth apply holds v (d ∷ []) p → truth apply holds (renamed v x d) [] (instance (Free x) p)
  of_body v x d p absent h =
      (truth_instance apply (renamed v x d) (Free x) (closed_name x) holds p).1
      (subst (λ e. truth apply holds (renamed v x d) (e ∷ []) p) (sym (named v x d)) ((truth_renamed apply v x d holds (d ∷ []) p absent).0 h))

  pub sound : {s : List Statement} {a : Statement} → Nj s a → (v : Assignment D) → AllTrue v (members s) → truth apply holds v [] a
  sound {a = a} assume v all = all a (inl refl)
  sound (same_set l d) v all = sound d v (part v _ _ l all)
  sound (conj_i l d e) v all =
      (sound d v (λ f m. part v _ _ l all f (inl m)), sound e v (λ f m. part v _ _ l all f (inr m)))
  sound (conj_e1 d) v all = (sound d v all).0
  sound (conj_e2 d) v all = (sound d v all).1
  sound (disj_i1 d) v all = inl (sound d v all)
  sound (disj_i2 d) v all = inr (sound d v all)
  sound (disj_e {a = a} {b = b} l d e g) v all =
      ⊎_elim (λ x. sound e v (restored v _ a (λ f m. part v _ _ l all f (inl (inr m))) x))
      (λ y. sound g v (restored v _ b (λ f m. part v _ _ l all f (inr m)) y))
      (sound d v (λ f m. part v _ _ l all f (inl (inl m))))
  sound (imp_i {a = a} l d) v all = λ x. sound d v (restored v _ a (part v _ _ l all) x)
  sound (imp_e l d e) v all =
      (sound d v (λ f m. part v _ _ l all f (inl m))) (sound e v (λ f m. part v _ _ l all f (inr m)))
  sound (not_i {a = a} l d) v all = λ x. sound d v (restored v _ a (part v _ _ l all) x)
  sound (not_e l d e) v all =
      (sound d v (λ f m. part v _ _ l all f (inl m))) (sound e v (λ f m. part v _ _ l all f (inr m)))
  sound (false_e d) v all = absurd (sound d v all)
  sound (all_i x {p = p} absent fresh d) v all =
      λ e. body_of v x e p absent (sound d (renamed v x e) (kept v x e _ fresh all))
  sound (all_e t p closed d) v all =
      (truth_instance apply v t closed holds p).1 (sound d v all (point apply v [] t))
  sound (ex_i t {p = p} closed d) v all =
      (point apply v [] t, (truth_instance apply v t closed holds p).0 (sound d v all))
  sound (ex_e x p {c = c} l absent absent_in_c fresh d e) v all =
      let some = sound d v (λ f m. part v _ _ l all f (inl m)) in
      let rest = kept v x some.0 _ fresh (λ f m. part v _ _ l all f (inr m)) in
      (truth_renamed apply v x some.0 holds [] c absent_in_c).1
      (sound e (renamed v x some.0) (restored (renamed v x some.0) _ (instance (Free x) p) rest (of_body v x some.0 p absent some.1)))

-- What of the tip is noted as cancelled.
use Rattle.std.proofs.Common.{◌≡◌, ℕ, Bool, true, false, ◌&&◌, ◌||◌, List, [], ◌∷◌, ◌++◌, refl, ap, sym, ◌∙◌}
use Rattle.std.proofs.lemmas.Bool.{eqb-true}
use Rattle.std.proofs.Math.Bool.{or-false, or-true}
use Rattle.std.specs.Prelude.{◌==◌}
use Rattle.text_words.specs.Members.{has}
use Rattle.text_words.proofs.KnownMembers.{has_both}

-- nothing, where nothing of it is cancelled
pub none_noted : (there cancelled : Bool) → (there ≡ true → cancelled ≡ false) → false ≡ (there && cancelled)
none_noted false cancelled none = refl
none_noted true cancelled none = sym (none refl)

module _ (tip : ℕ → Bool) (was : List ℕ) (e f : ℕ) (now : Bool) (marked : now ≡ ((f == e) || has was f)) where
  -- one more of it
  pub noted_too : (noted : List ℕ) → tip e ≡ true → has noted f ≡ (tip f && has was f) → has (noted ++ e ∷ []) f ≡ (tip f && now)
  noted_too noted there all = has_both noted (e ∷ []) f ∙ go (f == e) refl
    where
      go : (b : Bool) → (f == e) ≡ b → (has noted f || ((f == e) || false)) ≡ (tip f && now)
      go true is = ap (λ b. has noted f || (b || false)) is ∙ or-true (has noted f)
          ∙ sym (ap (λ b. b && now) (ap tip (eqb-true f e is) ∙ there) ∙ marked ∙ ap (λ b. b || has was f) is)
      go false is = ap (λ b. has noted f || (b || false)) is ∙ or-false (has noted f) ∙ all
          ∙ ap (λ b. tip f && b) (sym (marked ∙ ap (λ b. b || has was f) is))

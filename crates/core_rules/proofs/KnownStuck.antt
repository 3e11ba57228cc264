-- Of unfinished executions that others wait for, one is stuck.
use Rattle.std.proofs.Common.{◌≡◌, ℕ, Bool, true, false, ◌&&◌, ◌||◌, List, [], ◌∷◌, refl, ap}
use Rattle.std.proofs.lemmas.Bool.{true≢false, or_right}
use Rattle.std.specs.List.{list_any, list_all, AllByRecursion}
use Rattle.core_rules.specs.declared.event.Event.{Event}
use Rattle.core_rules.specs.Parts.{evaluation}
use Rattle.core_rules.specs.Standing.{is_finished}

module _ (h : List Event) (marked : ℕ → Bool) where
  -- the evaluation is finished or stuck
  abbrev pub OverBy : ℕ → Type 0
  OverBy e = (is_finished h (evaluation e) || marked e) ≡ true

  -- something that is waited for and unfinished is stuck
  pub one_stuck : (es : List ℕ) → AllByRecursion OverBy es → list_all (λ e. is_finished h (evaluation e)) es ≡ false
      → list_any marked es ≡ true
  one_stuck [] all open_ = absurd (true≢false open_)
  one_stuck (e ∷ es) all open_ = go (is_finished h (evaluation e)) refl all.0 open_ (one_stuck es all.1)
    where
      go : (b : Bool) → is_finished h (evaluation e) ≡ b → (b || marked e) ≡ true
          → (b && list_all (λ x. is_finished h (evaluation x)) es) ≡ false
          → (list_all (λ x. is_finished h (evaluation x)) es ≡ false → list_any marked es ≡ true)
          → (marked e || list_any marked es) ≡ true
      go true same over open_ rest = or_right (marked e) (list_any marked es) (rest open_)
      go false same over open_ rest = ap (λ b. b || list_any marked es) over

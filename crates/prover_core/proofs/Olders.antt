-- What an execution works on goes by older ones alone.
use Rattle.std.proofs.Common.{◌≡◌, ℕ, suc, ◌<◌, Bool, true, false, cond, List, [], ◌∷◌, length, Some, refl, ap, sym, ◌∙◌, arith}
use Rattle.std.proofs.lemmas.Bool.{eqb-true, eq-eqb}
use Rattle.std.specs.Prelude.{◌==◌}
use Rattle.std.specs.Option.{option_and_then}
use Rattle.exec_rules.specs.declared.home.Home.{Home}
use Rattle.language.specs.Lang.{Lang}
use Rattle.core_rules.specs.Numbered.{numbered}
use Rattle.core_rules.specs.Settings.{setting_by, settings, setting}
use Rattle.core_rules.proofs.KnownNumbers.{numbered_within}
use Rattle.core_rules.proofs.KnownStays.{length_settings, setting_more}

module _ {A : Type 0} where
  pub numbered_last : (x : A) (xs : List A) (n : ℕ) → n ≡ suc (length xs) → numbered (x ∷ xs) n ≡ Some x
  numbered_last x xs n is = ap (λ b. cond b (Some x) (numbered xs n)) (eq-eqb n (suc (length xs)) is)

module _ {S : Type 0} (l : Lang S) where
  -- the executions that are older, by which it works on what it does
  pub record Olders (homes : List Home) (n : ℕ) (home : Home) : Type 0 where
    pub older : List Home
    pub works_on : setting l homes n ≡ setting_by l (settings l older) home
    pub same : (e : ℕ) → e < n → setting l older e ≡ setting l homes e

  pub olders : (homes : List Home) (n : ℕ) (home : Home) → numbered homes n ≡ Some home → Olders homes n home
  olders [] n home at = absurd (cc)
  olders (x ∷ homes) n home at = go (n == suc (length homes)) refl at (olders homes n home)
    where
      go : (b : Bool) → (n == suc (length homes)) ≡ b → cond b (Some x) (numbered homes n) ≡ Some home
          → (numbered homes n ≡ Some home → Olders homes n home) → Olders (x ∷ homes) n home
      go true is at rest =
          let last = eqb-true n (suc (length homes)) is in
          let this : x ≡ home = cc in record {
            older = homes;
            works_on = ap (λ o. option_and_then (λ s. s) o) (numbered_last (setting_by l (settings l homes) x) (settings l homes) n
                (last ∙ ap suc (sym (length_settings l homes)))) ∙ ap (setting_by l (settings l homes)) this;
            same = λ e less. sym (setting_more l homes x e (omega (arith, less, last)));
          }
      go false is at rest =
          let before = rest at in
          let le = numbered_within homes n home at in record {
            older = before.older;
            works_on = setting_more l homes x n le ∙ before.works_on;
            same = λ e less. before.same e less ∙ sym (setting_more l homes x e (omega (arith, less, le)));
          }

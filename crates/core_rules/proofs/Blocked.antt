-- Where nothing is ready and nothing held, an unfinished part that can be worked on waits for one
-- that is stuck.
use Rattle.std.proofs.Common.{◌≡◌, ℕ, Bool, true, false, not, ◌&&◌, ◌||◌, List, None, refl, ap, ◌∙◌}
use Rattle.std.specs.List.{list_any, AllByRecursion}
use Rattle.text_words.specs.Members.{has}
use Rattle.pide_base.specs.declared.part.Part.{Part}
use Rattle.language.specs.Lang.{Lang}
use Rattle.core_rules.specs.declared.event.Event.{Event}
use Rattle.core_rules.specs.Assigned.{is_assigned}
use Rattle.core_rules.specs.Parts.{waits_for}
use Rattle.core_rules.specs.Standing.{Standing, Free, Held, Done, standing, is_done, is_unclaimed, is_finished, held}
use Rattle.core_rules.specs.Doc.{Doc, doc}
use Rattle.core_rules.specs.Legal.{IsLegal}
use Rattle.core_rules.specs.Ready.{is_part, is_wanted, has_inputs, is_ready}
use Rattle.core_rules.specs.Stuck.{is_marked, stuck_marks, is_stuck}
use Rattle.core_rules.proofs.Holders.{tells_all}
use Rattle.core_rules.proofs.KnownStuck.{OverBy, one_stuck}

module _ {S : Type 0} (l : Lang S) (h : List Event) (legal : IsLegal l h) (nothing : (p : Part) → is_ready l h p ≡ false)
    (idle : (w : ℕ) → held h w ≡ None) where
  abbrev d : Doc
  d = doc l h

  abbrev pub marked : ℕ → Bool
  marked e = is_marked (stuck_marks h d.cancelled d.homes) e

  -- the evaluation is finished or stuck
  abbrev pub IsOver : ℕ → Type 0
  IsOver e = OverBy h marked e

  is_free_by : (p : Part) (s : Standing) → standing h p ≡ s → is_done s ≡ false
      → is_unclaimed s ≡ true
  is_free_by p Free e open_ = refl
  is_free_by p (Held w) e open_ = let mine = (tells_all l h legal w p).1 e in let none = idle w in absurd (cc)
  is_free_by p Done e open_ = absurd (cc)

  waits_by : (a b c e : Bool) → a ≡ true → b ≡ true → c ≡ true → (a && (b && (c && e))) ≡ false → e ≡ false
  waits_by true true true e p q r is = is
  waits_by false b c e p q r is = absurd (cc)
  waits_by true false c e p q r is = absurd (cc)
  waits_by true true false e p q r is = absurd (cc)

  -- a part of a live execution is finished or stuck, where all that it waits for is
  pub blocked : (p : Part) → is_part l d.homes p ≡ true → is_assigned d.live p.exec ≡ true
      → AllByRecursion IsOver (waits_for d.homes p) → (is_finished h p || is_stuck h d p) ≡ true
  blocked p part live all = go (is_finished h p) refl (has d.cancelled p.exec) refl
    where
      go : (a : Bool) → is_finished h p ≡ a → (b : Bool) → has d.cancelled p.exec ≡ b
          → (a || (not a && (b || list_any marked (waits_for d.homes p)))) ≡ true
      go true e b f = refl
      go false e true f = refl
      go false e false f = one_stuck h marked (waits_for d.homes p) all
          (waits_by (is_part l d.homes p) (is_wanted d p.exec) (is_unclaimed (standing h p))
          (has_inputs h d.homes p) part
          (ap (λ b. b && not (has d.cancelled p.exec)) live ∙ ap not f) (is_free_by p (standing h p) refl e) (nothing p))

-- The tip of a core is live, and has all that can be worked on.
use Rattle.std.proofs.Common.{◌≡◌, ◌↔◌, ℕ, zero, suc, true, List, [], ◌∷◌, Option, Some, None, refl, ap, sym, subst, ◌∙◌}
use Rattle.std.proofs.lemmas.Bool.{false≢true, or_left, or_right}
use Rattle.std.specs.Prelude.{slice_get}
use Rattle.std.specs.Option.{option_map_or}
use Rattle.pide_base.specs.declared.part.Part.{Part}
use Rattle.core_tables.specs.declared.versions.Live.{Live}
use Rattle.core_tables.specs.Live.{History, newest, tip_of}
use Rattle.exec_rules.specs.declared.version.Version.{Version}
use Rattle.language.specs.Lang.{Lang}
use Rattle.core_rules.specs.declared.event.Event.{Event}
use Rattle.core_rules.specs.Assigned.{assigns, is_assigned}
use Rattle.core_rules.specs.Standing.{Held, standing, held, is_open}
use Rattle.core_rules.specs.Doc.{doc, start_version}
use Rattle.core_rules.specs.Ready.{is_wanted}
use Rattle.core_rules.specs.Legal.{IsLegal}
use Rattle.prover_core.specs.Kept.{Tables, IsKept}
use Rattle.prover_core.proofs.ReadyParts.{AreInTip}

-- what holds of each document
pub record Laws {S : Type 0} (l : Lang S) (h : List Event) : Type 0 where
  pub tip : (e : ℕ) → is_wanted (doc l h) e ≡ true → is_open l h (doc l h).homes e ≡ true
      → assigns (doc l h).tip e ≡ true
  pub told : (who : ℕ) (p : Part) → (held h who ≡ Some p) ↔ (standing h p ≡ Held who)

-- as laws say it of each list
pub laws_of : {S : Type 0} (l : Lang S) (h : List Event) (t : Tables S) → IsKept l h t
    → ((h : List Event) (e : ℕ) → IsLegal l h → is_wanted (doc l h) e ≡ true → is_open l h (doc l h).homes e ≡ true
    → assigns (doc l h).tip e ≡ true)
    → ((h : List Event) (who : ℕ) (p : Part) → IsLegal l h → (held h who ≡ Some p) ↔ (standing h p ≡ Held who)) → Laws l h
laws_of l h t k tip told = record { tip = λ e. tip h e k.legal; told = λ who p. told h who p k.legal }

one_assigns : (live : List (Live Version)) (n e : ℕ) (one : Live Version) → slice_get live n ≡ Some one → assigns one.version e ≡ true
    → is_assigned live e ≡ true
one_assigns [] n e one at is = absurd (cc)
one_assigns (x ∷ live) zero e one at is =
    let same : x ≡ one = cc in or_left _ _ (ap (λ (y : Live Version). assigns y.version e) same ∙ is)
one_assigns (x ∷ live) (suc n) e one at is = or_right _ _ (one_assigns live n e one at is)

newest_assigns : (v : History Version) (e : ℕ) → v.start ≡ start_version → assigns (tip_of v) e ≡ true → is_assigned v.live e ≡ true
newest_assigns v e begins is = go (newest v.live) refl is
  where
    go : (o : Option (Live Version)) → newest v.live ≡ o → assigns (option_map_or (λ (x : Live Version). x.version) o v.start) e ≡ true
        → is_assigned v.live e ≡ true
    go None at is = let none : assigns start_version e ≡ true = ap (λ x. assigns x e) (sym begins) ∙ is in absurd (false≢true none)
    go (Some one) at is = one_assigns v.live _ e one at is

module _ {S : Type 0} (l : Lang S) (h : List Event) (t : Tables S) (k : IsKept l h t) where
  pub tip_live : (e : ℕ) → assigns (doc l h).tip e ≡ true → is_assigned (doc l h).live e ≡ true
  tip_live e is = subst (λ live. is_assigned live e ≡ true) k.live
      (newest_assigns t.versions e k.start_is (ap (λ x. assigns x e) k.tip ∙ is))

  pub in_tip : Laws l h → AreInTip l h (doc l h) t.tasks
  in_tip laws = record { tasks = k.tasks; wanted = laws.tip; live = tip_live }

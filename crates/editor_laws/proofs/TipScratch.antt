-- The tip's executions come to what checking it from nothing gives.
use Rattle.std.proofs.Common.{◌≡◌, ℕ, List, [], ◌∷◌, ◌++◌, length, Option, Some, None, refl, ap, ◌∙◌}
use Rattle.std.specs.Prelude.{slice_get}
use Rattle.exec_rules.specs.declared.home.Home.{Home}
use Rattle.exec_rules.specs.declared.home.Input.{Input}
use Rattle.exec_rules.specs.declared.version.Version.{Version}
use Rattle.exec_rules.specs.Homes.{home}
use Rattle.language.specs.Lang.{Lang}
use Rattle.core_rules.specs.declared.event.Event.{Event}
use Rattle.core_rules.specs.declared.event.Event.TheVariants as event
use Rattle.core_rules.specs.Numbered.{numbered}
use Rattle.core_rules.specs.Settings.{Setting, setting}
use Rattle.core_rules.specs.Doc.{Doc, doc}
use Rattle.core_rules.specs.FromScratch.{AllFromScratch, IsFromScratch, PrintIs}
use Rattle.core_rules.specs.Legal.{IsLegal}
use Rattle.editor_laws.proofs.Facts.{Facts}

-- what is added stands last
pub last_there : {A : Type 0} (xs : List A) (x : A) → slice_get (xs ++ x ∷ []) (length xs) ≡ Some x
last_there [] x = refl
last_there (y ∷ xs) x = last_there xs x

module _ {S : Type 0} (l : Lang S) where
  print_on : (d e : Doc) → e.homes ≡ d.homes → (o : Option ℕ) (homed : Input → Home) (v : ℕ) (s : Setting S) → PrintIs l d o homed v s → PrintIs l e o homed v s
  print_on d e same None homed v s is = tt
  print_on d e same (Some q) homed v s is =
      (ap (λ hs. numbered hs q) same ∙ is.0, ap (λ hs. setting l hs q) same ∙ is.1)

  -- it goes by executions' homes alone
  pub scratch_on : (d e : Doc) (v : Version) → e.homes ≡ d.homes → AllFromScratch l d v → AllFromScratch l e v
  scratch_on d e v same all p i pair row stands at =
      let x : IsFromScratch l d v p pair i row = all p i pair row stands at in
      record {
        command = x.command;
        stands = x.stands;
        key = x.key;
        closed = x.closed;
        homed = ap (λ hs. numbered hs row.evaluation) same ∙ x.homed;
        works_on = x.works_on;
        kept = ap (λ hs. setting l hs row.evaluation) same ∙ x.kept;
        scratch = x.scratch;
        prints = print_on d e same row.print (home pair.1 v.blobs x.command) row.evaluation x.works_on x.prints;
      }

  pub tip_scratch : Facts l → (h : List Event) → IsLegal l h → AllFromScratch l (doc l h) (doc l h).tip
  tip_scratch facts [] legal = λ p i pair row stands at. absurd (cc)
  tip_scratch facts (event.Update id nodes blobs ∷ h) legal =
      facts.each (event.Update id nodes blobs ∷ h) (length (doc l h).live) _ legal (last_there (doc l h).live _)
  tip_scratch facts (event.Cancel e ∷ h) legal = scratch_on (doc l h) (doc l (event.Cancel e ∷ h)) (doc l h).tip refl (tip_scratch facts h legal.0)
  tip_scratch facts (event.Remove ids ∷ h) legal = scratch_on (doc l h) (doc l (event.Remove ids ∷ h)) (doc l h).tip refl (tip_scratch facts h legal.0)
  tip_scratch facts (event.Claimed who q ∷ h) legal = tip_scratch facts h legal.0
  tip_scratch facts (event.Finished who q ∷ h) legal = tip_scratch facts h legal.0
  tip_scratch facts (event.Dropped who q ∷ h) legal = tip_scratch facts h legal.0
  tip_scratch facts (event.Ended ∷ h) legal = tip_scratch facts h legal.0

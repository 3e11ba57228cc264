-- A part is finished, where the tables are kept.
use Rattle.std.proofs.Common.{◌≡◌, ℕ, true, List, ◌∷◌, Some}
use Rattle.pide_base.specs.declared.part.Part.{Part}
use Rattle.language.specs.Lang.{Lang}
use Rattle.core_rules.specs.declared.event.Event.{Event}
use Rattle.core_rules.specs.declared.event.Event.TheVariants.{Finished}
use Rattle.core_rules.specs.Standing.{held}
use Rattle.core_rules.specs.Doc.{Doc, doc}
use Rattle.core_rules.specs.Ready.{is_wanted}
use Rattle.prover_core.specs.Kept.{Tables, IsKept}
use Rattle.prover_core.proofs.TipLive.{Laws}

-- the part is held and wanted
pub record Finishing {S : Type 0} (l : Lang S) (h : List Event) (t : Tables S) (who : ℕ) (p : Part) : Type 0 where
  pub kept : IsKept l h t
  pub laws : Laws l h
  pub holds : held h who ≡ Some p
  pub wanted : is_wanted (doc l h) p.exec ≡ true

module _ {S : Type 0} {l : Lang S} {h : List Event} {t : Tables S} {who : ℕ} {p : Part} (finish : Finishing l h t who p) where
  abbrev pub d : Doc
  d = doc l h

  abbrev pub more : List Event
  more = Finished who p ∷ h

-- The editor's document beside the core's, with the jobs that workers hold.
use Rattle.std.specs.Prelude.{◌≡◌, ℕ, List, Option, Some, Ok}
use Rattle.language.specs.Lang.{Lang}
use Rattle.core_jobs.specs.Jobs.{JobContent}
use Rattle.core_jobs.specs.Fits.{IsJobOf}
use Rattle.core_rules.specs.declared.event.Event.{Event}
use Rattle.core_rules.specs.Standing.{held}
use Rattle.core_rules.specs.Doc.{doc}
use Rattle.editor_buffer.specs.NameSets.{AreChanged}
use Rattle.buffer_rules.specs.Nodes.{AreKept}
use Rattle.editor_buffer.specs.Preparation.{Preparation}
use Rattle.buffer_rules.specs.Updates.{Asked}
use Rattle.buffer_rules.specs.Preparing.{Buffer, prepared}
use Rattle.buffer_laws.specs.Fitting.{Agrees}

-- the worker holds the job's part, and the job works on what the part's execution works on
pub record Holds {S : Type 0} (l : Lang S) (h : List Event) (who : ℕ) (job : JobContent S)
    : Type 0 where
  pub part : held h who ≡ Some job.part
  pub right : IsJobOf l (doc l h).homes job

-- both documents agree, blobs too; the newest version is known; and so is what is held
pub record IsDesk {S : Type 0} (l : Lang S) (b : Buffer) (h : List Event) (last : ℕ)
    (jobs : ℕ → Option (JobContent S)) : Type 0 where
  pub agrees : Agrees b (doc l h)
  pub blobs : (doc l h).tip.blobs ≡ b.document.blobs
  pub last_is : last ≡ (doc l h).last
  pub holds : (who : ℕ) (job : JobContent S) → jobs who ≡ Some job → Holds l h who job

-- the editor's document, and all that has happened
pub record DeskState : Type 0 where
  pub buffer : Buffer
  pub past : List Event

-- an update that was prepared beside this buffer
pub record IsPreparedBy (b : Buffer) (p : Preparation) : Type 0 where
  pub live : ℕ
  pub asked : Asked
  pub after : prepared b live asked ≡ Ok p.after
  pub kept : AreKept b.nodes p.untouched p.after.nodes
  pub changed : AreChanged p.changed b.document.blobs p.after.document.blobs

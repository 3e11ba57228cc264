-- How often a run of a session's job asks whether to stop (this project's own).
use Rattle.std.specs.Prelude.{◌≡◌, ⊤, ℕ}
use Rattle.pide_base.specs.Questions.{risen_by, IsAskedUpTo}
use Rattle.session_replies.specs.declared.ran.SessionRan.{SessionRan}
use Rattle.session_replies.specs.declared.ran.SessionRan.TheVariants as ran

-- of the counts of questions before and after: so many were asked, or up to so many where it was
-- stopped
abbrev pub SessionJobAsks : {S : Type 0} → SessionRan S → ℕ → ℕ → ℕ → Type 0
SessionJobAsks (ran.Done done) questions before now = now ≡ risen_by questions before
SessionJobAsks (ran.Stopped job) questions before now = IsAskedUpTo questions before now
SessionJobAsks (ran.NoMemory job) questions before now = ⊤

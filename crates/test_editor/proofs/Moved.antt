-- What holds of a desk once an event more has happened, and other jobs are held.
use Rattle.std.proofs.Common.{◌≡◌, ℕ, ◌<◌, Bool, true, false, cond, List, ◌∷◌, Option, Some, None, refl, ap, sym, subst, ◌∙◌}
use Rattle.std.proofs.lemmas.Bool.{eqb-true}
use Rattle.std.specs.Prelude.{◌==◌, if◌then◌else◌}
use Rattle.pide_base.specs.declared.part.Part.{Part}
use Rattle.exec_rules.specs.declared.version.Version.{Version}
use Rattle.language.specs.Lang.{Lang}
use Rattle.core_jobs.specs.Jobs.{JobContent}
use Rattle.core_jobs.specs.Fits.{IsJobOf}
use Rattle.core_rules.specs.declared.event.Event.{Event}
use Rattle.core_rules.specs.declared.event.Event.TheVariants as event
use Rattle.core_rules.specs.Standing.{held}
use Rattle.core_rules.specs.Doc.{Doc, doc}
use Rattle.core_tables.specs.declared.execs.Cancelling.{Cancelling}
use Rattle.core_tables.specs.declared.execs.Cancelling.TheVariants as cancelling
use Rattle.core_tables.specs.declared.versions.Removing.{Removing}
use Rattle.core_tables.specs.declared.versions.Removing.TheVariants as removing
use Rattle.prover_core.specs.Answers.{CancelledSo}
use Rattle.prover_core.specs.Removal.{with_removal}
use Rattle.buffer_rules.specs.Preparing.{Buffer}
use Rattle.buffer_laws.specs.Fitting.{Agrees}
use Rattle.test_editor.specs.Desk.{Holds, IsDesk}
use Rattle.test_editor.proofs.Quiet.{IsOther, IsQuiet, holds_on, tip_on, commands_on, last_on}

agrees_on : (b : Buffer) (d e : Doc) → e.tip ≡ d.tip → e.commands ≡ d.commands → Agrees b d → Agrees b e
agrees_on b d e tip commands a = record {
  names = a.names;
  nodes = ap (λ (v : Version). v.nodes) tip ∙ a.nodes;
  differ = a.differ;
  below = a.below;
  first = subst (λ n. n < b.next) (sym commands) a.first;
  headers = a.headers;
}

module _ {S : Type 0} (l : Lang S) where
  -- the same in other words
  pub told_as : (b now : Buffer) (h later : List Event) (last newest : ℕ) (jobs : ℕ → Option (JobContent S)) → now ≡ b → later ≡ h
      → newest ≡ last → IsDesk l b h last jobs → IsDesk l now later newest jobs
  told_as b now h later last newest jobs buffer past version k =
      subst (λ x. IsDesk l x later newest jobs) (sym buffer)
      (subst (λ x. IsDesk l b x newest jobs) (sym past) (subst (λ x. IsDesk l b h x jobs) (sym version) k))

  -- all that has happened in other words
  pub later : (b : Buffer) (h now : List Event) (last : ℕ) (jobs : ℕ → Option (JobContent S)) → now ≡ h
      → IsDesk l b h last jobs → IsDesk l b now last jobs
  later b h now last jobs past k = told_as b b h now last last jobs refl past refl k

  module _ (b : Buffer) (h : List Event) (last : ℕ) (jobs : ℕ → Option (JobContent S)) (k : IsDesk l b h last jobs) where
    -- other jobs are held
    pub with_jobs : (now : ℕ → Option (JobContent S)) → ((w : ℕ) (job : JobContent S) → now w ≡ Some job → Holds l h w job)
        → IsDesk l b h last now
    with_jobs now holds = record { agrees = k.agrees; blobs = k.blobs; last_is = k.last_is; holds = holds }

    -- an event more, which makes no version
    pub moved : (e : Event) (now : ℕ → Option (JobContent S)) → IsQuiet e
        → ((w : ℕ) (job : JobContent S) → now w ≡ Some job → Holds l (e ∷ h) w job) → IsDesk l b (e ∷ h) last now
    moved e now quiet holds = record {
      agrees = agrees_on b (doc l h) (doc l (e ∷ h)) (tip_on l h e quiet) (commands_on l h e quiet) k.agrees;
      blobs = ap (λ (v : Version). v.blobs) (tip_on l h e quiet) ∙ k.blobs;
      last_is = k.last_is ∙ sym (last_on l h e quiet);
      holds = holds;
    }

    -- one that is no worker's
    pub moved_on : (e : Event) → IsQuiet e → ((w : ℕ) → IsOther w e) → IsDesk l b (e ∷ h) last jobs
    moved_on e quiet other = moved e jobs quiet (λ w job at. holds_on l h e w job (other w) (k.holds w job at))

    without_by : (v w : ℕ) (c : Bool) (job : JobContent S) → (v == w) ≡ c → cond c None (jobs w) ≡ Some job
        → ((v == w) ≡ false) × (jobs w ≡ Some job)
    without_by v w true job is at = absurd (cc)
    without_by v w false job is at = (is, at)

    -- a worker holds nothing any more
    pub without : (v : ℕ) (now : ℕ → Option (JobContent S)) → ((w : ℕ) → now w ≡ (if v == w then None else jobs w))
        → (w : ℕ) (job : JobContent S) → now w ≡ Some job → ((v == w) ≡ false) × (jobs w ≡ Some job)
    without v now are w job at = without_by v w (v == w) job refl (sym (are w) ∙ at)

    -- the job is gone, and nothing has happened
    pub let_go : (v : ℕ) (now : ℕ → Option (JobContent S)) → ((w : ℕ) → now w ≡ (if v == w then None else jobs w)) → IsDesk l b h last now
    let_go v now are = with_jobs now (λ w job at. k.holds w job (without v now are w job at).1)

    -- the part is finished, or dropped
    pub ended : (v : ℕ) (e : Event) (now : ℕ → Option (JobContent S)) → IsQuiet e → ((w : ℕ) → (v == w) ≡ false → IsOther w e)
        → ((w : ℕ) → now w ≡ (if v == w then None else jobs w)) → IsDesk l b (e ∷ h) last now
    ended v e now quiet others are = moved e now quiet (λ w job at.
        let so = without v now are w job at in holds_on l h e w job (others w so.0) (k.holds w job so.1))

    taken_by : (v w : ℕ) (c : Bool) (one job : JobContent S) → (v == w) ≡ c → IsJobOf l (doc l h).homes one
        → cond c (Some one) (jobs w) ≡ Some job → Holds l (event.Claimed v one.part ∷ h) w job
    taken_by v w true one job is right at =
        let same : one ≡ job = cc in
        subst (Holds l (event.Claimed v one.part ∷ h) w) same
        (record { part = ap (λ c. cond c (Some one.part) (held h w)) is; right = right })
    taken_by v w false one job is right at = holds_on l h (event.Claimed v one.part) w job is (k.holds w job at)

    -- a part is taken
    pub taken : (v : ℕ) (one : JobContent S) (now : ℕ → Option (JobContent S)) → IsJobOf l (doc l h).homes one
        → ((w : ℕ) → now w ≡ (if v == w then Some one else jobs w)) → IsDesk l b (event.Claimed v one.part ∷ h) last now
    taken v one now right are = moved (event.Claimed v one.part) now tt (λ w job at.
        taken_by v w (v == w) one job refl right (sym (are w) ∙ at))

    -- a part is taken, but its job is lost
    pub lost : (v : ℕ) (p : Part) (now : ℕ → Option (JobContent S)) → held h v ≡ None → ((w : ℕ) → now w ≡ jobs w)
        → IsDesk l b (event.Claimed v p ∷ h) last now
    lost v p now idle are = moved (event.Claimed v p) now tt (λ w job at. by w job (v == w) refl (k.holds w job (sym (are w) ∙ at)))
      where
        by : (w : ℕ) (job : JobContent S) (c : Bool) → (v == w) ≡ c → Holds l h w job → Holds l (event.Claimed v p ∷ h) w job
        by w job true is holds =
            let same : v ≡ w = eqb-true v w is in
            let none : held h w ≡ None = subst (λ x. held h x ≡ None) same idle in
            let some = holds.part in absurd (cc)
        by w job false is holds = holds_on l h (event.Claimed v p) w job is holds

    goes_by : (v w : ℕ) (c : Bool) (one back job : JobContent S) (o : Option (JobContent S)) → (v == w) ≡ c → Holds l h v one → back ≡ one
        → (o ≡ Some job → Holds l h w job) → cond c (Some back) o ≡ Some job → Holds l h w job
    goes_by v w true one back job o is holds same others at =
        let two : one ≡ job = cc in
        let who : v ≡ w = eqb-true v w is in
        subst (λ x. Holds l h x job) who (subst (Holds l h v) two holds)
    goes_by v w false one back job o is holds same others at = others at

    -- a part that was given up goes on
    pub goes_on : (v : ℕ) (one back : JobContent S) (out now : ℕ → Option (JobContent S)) → Holds l h v one → back ≡ one
        → ((w : ℕ) → out w ≡ (if v == w then None else jobs w)) → ((w : ℕ) → now w ≡ (if v == w then Some back else out w))
        → IsDesk l b h last now
    goes_on v one back out now holds same without_it are = with_jobs now (λ w job at.
        goes_by v w (v == w) one back job (out w) refl holds same (λ there. k.holds w job (without v out without_it w job there).1) (sym (are w) ∙ at))

    -- a cancellation was asked for
    pub cancelled : (e : ℕ) (answer : Cancelling) (now : List Event) → CancelledSo l e h answer now → IsDesk l b now last jobs
    cancelled e cancelling.Unknown now so = later b h now last jobs so.1 k
    cancelled e cancelling.Idle now so = later b (event.Cancel e ∷ h) now last jobs so.2 (moved_on (event.Cancel e) tt (λ w. tt))
    cancelled e cancelling.Cancelled now so = later b (event.Cancel e ∷ h) now last jobs so.2 (moved_on (event.Cancel e) tt (λ w. tt))

    -- a removal was asked for
    pub removed : (ids : List ℕ) (answer : Removing) → IsDesk l b (with_removal ids answer h) last jobs
    removed ids removing.Removed = moved_on (event.Remove ids) tt (λ w. tt)
    removed ids (removing.Unknown id) = k
    removed ids removing.Tip = k

  -- a version is made
  pub updated : (b b' : Buffer) (h : List Event) (last id : ℕ) (jobs : ℕ → Option (JobContent S)) → IsDesk l b h last jobs
      → Agrees b' (doc l (event.Update id b'.nodes b'.document.blobs ∷ h))
      → IsDesk l b' (event.Update id b'.nodes b'.document.blobs ∷ h) id jobs
  updated b b' h last id jobs k agrees = record {
    agrees = agrees;
    blobs = refl;
    last_is = refl;
    holds = λ w job at. holds_on l h (event.Update id b'.nodes b'.document.blobs) w job tt (k.holds w job at);
  }

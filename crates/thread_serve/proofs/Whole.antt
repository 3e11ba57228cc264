-- What the reader, the writer and the rest tell comes to what is promised of the run.
use Rattle.std.proofs.Common.{◌≡◌, ◌≢◌, ℕ, ◌≤◌, Bool, true, false, List, ◌++◌, Option, refl, sym, ap, subst, ◌∙◌, arith, append_assoc}
use Rattle.std.specs.Io.KnownBytes.{Appends}
use Rattle.pide_base.specs.Faults.{Rose}
use Rattle.pide_base.specs.Moves.{AppendsFront}
use Rattle.pide_base.proofs.Known.{front_more}
use Rattle.pide_base.specs.declared.status.Status.{Status}
use Rattle.pide_base.specs.declared.status.Status.TheVariants as status
use Rattle.language.specs.Lang.{Lang}
use Rattle.hist_lock.specs.declared.view.View.{View}
use Rattle.worker_loop.specs.declared.writer.Written.{Written}
use Rattle.worker_loop.specs.declared.writer.Written.TheVariants as written
use Rattle.reply_outbox.specs.Items.{entries, is_lost}
use Rattle.session_rules.specs.declared.entry.Entry.{Entry}
use Rattle.session_rules.specs.declared.service.Service.{Service}
use Rattle.document_session.specs.keeping_rules_below.Items.{SessionItem}
use Rattle.document_session.specs.Contents.{SessionState}
use Rattle.document_serve.specs.Served.{replies_in, sent_in}
use Rattle.document_serve.specs.Runs.{IsSame}
use Rattle.document_serve.proofs.KnownSent.{sent_whole}
use Rattle.view_laws.specs.Sent.{bytes_sent}
use Rattle.thread_serve.specs.Promises.{status_of}
use Rattle.thread_serve.specs.Rest.{RestSo}
use Rattle.thread_serve.specs.Stopped.{WroteSo}
use Rattle.thread_serve.proofs.Bytes.{JoinLaw}
use Rattle.thread_serve.proofs.Composed.{Ends, ends_kept}
use Rattle.thread_serve.proofs.Statuses.{kept_status}

module _ {S : Type 0} (l : Lang S) (held now then : Option (List ℕ)) (bytes : List ℕ) (s t : SessionState)
    (told : bytes ≡ sent_in l s.service s.items) (front : (rest : List ℕ) × (replies_in l s.service s.items ≡ sent_in l s.service s.items ++ rest)) where
  -- the writer wrote all that it was handed, and the rest is written too
  both_kept : JoinLaw l → Appends held now bytes → RestSo l written.Ended now then s t false → (how : Status) → how ≢ status.WriteFault → Ends l held then t how
  both_kept join wrote rest how other =
      let sent = rest.2 held (subst (Appends held now) told wrote) in
      let all = sent_whole l t.service t.items (join t.service) rest.1 in
      ends_kept l held then t (subst (Appends held then) all sent) sent rest.0 rest.1 how other

  -- the sink fails at the rest
  rest_lost : Appends held now bytes → RestSo l written.Ended now then s t true → Ends l held then t status.WriteFault
  rest_lost wrote rest = let so = subst (Appends held now) told wrote in
      record { written = rest.0 held so; sent = rest.1 held so; lost = ap (λ (items : List SessionItem). is_lost items) rest.2.is }

  -- the sink failed before
  writer_lost : AppendsFront held now bytes → is_lost s.items ≡ true → t ≡ s → then ≡ now → Ends l held then t status.WriteFault
  writer_lost wrote lost same stays =
      let sent = subst (λ b. AppendsFront held b bytes) (sym stays) wrote in
      let so : AppendsFront held then (sent_in l s.service s.items) = subst (AppendsFront held then) told sent in
      let all : AppendsFront held then (replies_in l s.service s.items) = subst (AppendsFront held then) (sym front.1)
      (front_more held then (sent_in l s.service s.items) front.0 so) in
      record {
        written = subst (λ (u : SessionState). AppendsFront held then (replies_in l u.service u.items)) (sym same) all;
        sent = subst (λ (u : SessionState). AppendsFront held then (sent_in l u.service u.items)) (sym same) so;
        lost = subst (λ (u : SessionState). is_lost u.items ≡ true) (sym same) lost;
      }

-- by how the writer stopped, and whether the sink is lost
pub ends_so : {S : Type 0} (l : Lang S) (who : ℕ) (held now then : Option (List ℕ)) (faults later : ℕ) (writer : View SessionItem) (s t : SessionState)
    → bytes_sent l who writer.seen ≡ sent_in l s.service s.items → (rest : List ℕ) × (replies_in l s.service s.items ≡ sent_in l s.service s.items ++ rest)
    → JoinLaw l → (why : Written) → WroteSo l who (record { contents = held; faults = faults }) why writer (record { contents = now; faults = later })
    → (lost : Bool) → RestSo l why now then s t lost → (why ≡ written.WriteFault → is_lost s.items ≡ true) → (why ≡ written.Ended → is_lost s.items ≡ false)
    → (is_short : Bool) (how : Status) → (how ≡ status.WriteFault → is_lost s.items ≡ true) → Ends l held then t (status_of lost is_short how)
ends_so l who held now then faults later writer s t told front join written.Ended wrote false rest fault kept is_short how saw =
    let all = both_kept l held now then (bytes_sent l who writer.seen) s t told front join wrote.0 rest in
    kept_status (λ h. Ends l held then t h) is_short how
    (all how (λ e. let no : true ≡ false = sym (saw e) ∙ kept refl in absurd (let never : ⊥ = cc in never)))
    (λ done. all status.NoMemory (λ e. absurd (let never : ⊥ = cc in never)))
ends_so l who held now then faults later writer s t told front join written.Ended wrote true rest fault kept is_short how saw =
    rest_lost l held now then (bytes_sent l who writer.seen) s t told front wrote.0 rest
ends_so l who held now then faults later writer s t told front join written.WriteFault wrote true rest fault kept is_short how saw =
    writer_lost l held now then (bytes_sent l who writer.seen) s t told front wrote.0 (fault refl) rest.1 rest.2
ends_so l who held now then faults later writer s t told front join written.WriteFault wrote false rest fault kept is_short how saw =
    let no = rest.0 in absurd (let never : ⊥ = cc in never)

-- where the status is a write fault, the count rose
pub rose_so : {S : Type 0} (l : Lang S) (who : ℕ) (held now then : Option (List ℕ)) (faults later last : ℕ) (writer : View SessionItem) (s t : SessionState)
    (why : Written) → WroteSo l who (record { contents = held; faults = faults }) why writer (record { contents = now; faults = later })
    → (lost : Bool) → RestSo l why now then s t lost → (why ≡ written.Ended → is_lost s.items ≡ false) → (is_short : Bool) (how : Status)
    → (how ≡ status.WriteFault → is_lost s.items ≡ true) → faults ≤ later → later ≤ last → (why ≡ written.Ended → lost ≡ true → Rose later last)
    → status_of lost is_short how ≡ status.WriteFault → Rose faults last
rose_so l who held now then faults later last writer s t written.WriteFault wrote lost rest kept is_short how saw low high cause e = omega (arith, wrote.2)
rose_so l who held now then faults later last writer s t written.Ended wrote true rest kept is_short how saw low high cause e =
    let rose = cause refl refl in omega (arith, rose)
rose_so l who held now then faults later last writer s t written.Ended wrote false rest kept is_short how saw low high cause e =
    let is : how ≡ status.WriteFault = kept_status (λ h. h ≡ status.WriteFault → how ≡ status.WriteFault) is_short how (λ same. same)
    (λ done same. absurd (let never : ⊥ = cc in never)) e in
    let no : true ≡ false = sym (saw is) ∙ kept refl in absurd (let never : ⊥ = cc in never)

-- what holds of the entries before the rest is written holds after it
pub on_same : {S : Type 0} (l : Lang S) (s t : SessionState) → IsSame l s t → (P : Service → List Entry → Type 0) → P s.service (entries s.items) → P t.service (entries t.items)
on_same l s t same P p = subst (λ v. P v (entries t.items)) (sym same.service) (subst (P s.service) (sym same.entries_are) p)

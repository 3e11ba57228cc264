-- The versions are those of two updates alone, and the second assigns nothing that is cancelled.
use Rattle.std.proofs.Common.{◌≡◌, ℕ, ◌<◌, true, false, [], ◌∷◌, Some, Ok, refl, sym, ap, ◌∙◌}
use Rattle.text_words.specs.Members.{has}
use Rattle.core_tables.specs.Live.{version_of}
use Rattle.exec_rules.specs.declared.version.Version.{Version}
use Rattle.language.specs.Lang.{Lang}
use Rattle.buffer_laws.specs.buffer_rules_below.Preparing.{Buffer}
use Rattle.buffer_laws.specs.buffer_rules_below.Preparing as buffer
use Rattle.core_rules.specs.Assigned.{assigns}
use Rattle.core_rules.specs.Doc.{doc}
use Rattle.core_rules.specs.Doc as core
use Rattle.core_rules.specs.Standing.{is_open}
use Rattle.session_rules.specs.declared.service.Service.TheVariants.{Workers}
use Rattle.session_rules.specs.Heard.{Message}
use Rattle.session_rules.specs.Session.{Session, document}
use Rattle.session_rules.specs.History.{session}
use Rattle.session_rules.specs.Updates.{Updates, document_of, update_read}
use Rattle.session_rules.proofs.Documents.{buffer_by, doc_by, first_doc, newer, same_live, second_tip, tip_kept}
use Rattle.session_rules.proofs.Sessions.{HasBoth, first_comes, first_outcome, second_comes, second_outcome}

module _ {S : Type 0} (l : Lang S) (u : Updates) where
  both_empty : HasBoth l u (session l (Workers 0) (Message (update_read u.second u.second_asked) ∷ Message (update_read u.first u.first_asked) ∷ []))
  both_empty = second_comes l u (session l (Workers 0) (Message (update_read u.first u.first_asked) ∷ []))
      (first_comes l u (session l (Workers 0) []) (record { buffer_is = refl; doc_is = refl }))

  -- the versions are those of two updates alone
  pub live_is : (s : Session) → HasBoth l u s → (document l s).live ≡ (document_of l u).live
  live_is s both =
      ap (λ (d : core.Doc). d.live) both.doc_is
      ∙ same_live both.opened both_empty.opened (first_doc u.first (first_outcome l u)) u.second (second_outcome l u)
      ∙ sym (ap (λ (d : core.Doc). d.live) both_empty.doc_is)

  above : (more : Buffer) → second_outcome l u ≡ Ok more → (first_doc u.first (first_outcome l u)).last < u.second
  above more is = newer (buffer_by buffer.empty_buffer (first_outcome l u)) (first_doc u.first (first_outcome l u)) u.second u.second_asked more is

  -- what the second assigns is not cancelled
  pub kept : (s : Session) → HasBoth l u s → (version : Version) → version_of (document l s).live u.second ≡ Some version
      → (e : ℕ) → assigns version e ≡ true → has (document l s).cancelled e ≡ false
  kept s both version at e is =
      let known = doc_by both.opened (first_doc u.first (first_outcome l u)) u.second (second_outcome l u) in
      let there : version_of known.live u.second ≡ Some version = ap (λ (d : core.Doc). version_of d.live u.second) (sym both.doc_is) ∙ at in
      let same : version ≡ known.tip = second_tip both.opened u.first u.second (first_outcome l u) (second_outcome l u) above version there in
      ap (λ (d : core.Doc). has d.cancelled e) both.doc_is
      ∙ tip_kept both.opened u.first u.second (first_outcome l u) (second_outcome l u) e (ap (λ v. assigns v e) (sym same) ∙ is)

  -- all that the second assigns is finished
  abbrev pub IsWhole : Session → Type 0
  IsWhole s = (version : Version) → version_of (document l s).live u.second ≡ Some version
      → (e : ℕ) → assigns version e ≡ true → is_open l s.events (document l s).homes e ≡ false

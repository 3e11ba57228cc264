-- What updates make of a session, whatever happened between them.
use Rattle.std.proofs.Common.{◌≡◌, ℕ, Bool, true, false, length, Result, Ok, Err, refl, ap, ◌∙◌}
use Rattle.std.specs.Prelude.{nat_lt, if◌then◌else◌}
use Rattle.language.specs.Lang.{Lang}
use Rattle.message_values.specs.declared.refusal.Refusal.{Refusal}
use Rattle.message_values.specs.declared.refusal.Refusal.TheVariants.{Limit, VersionNotHigher}
use Rattle.buffer_laws.specs.buffer_rules_below.Preparing.{Buffer, prepared}
use Rattle.buffer_laws.specs.buffer_rules_below.Preparing as buffer
use Rattle.buffer_laws.specs.buffer_rules_below.Trying.{◌>>=◌}
use Rattle.buffer_laws.specs.buffer_rules_below.Updates.{Asked}
use Rattle.core_rules.specs.Doc.{Doc, doc_after}
use Rattle.core_rules.specs.Doc as core
use Rattle.core_rules.specs.Standing.{is_open}
use Rattle.session_rules.specs.Session.{Session, answered, document}
use Rattle.session_rules.specs.Updating.{runs_out, updated_session, with_buffer}
use Rattle.session_rules.specs.Updates.{Updates}
use Rattle.session_rules.proofs.Documents.{outcome, buffer_by, doc_by, first_doc, none_open, same_first}

module _ {S : Type 0} (l : Lang S) where
  -- a session after what an update makes of it, by what is prepared
  module _ (s : Session) (version : ℕ) where
    abbrev Both : Result Session Refusal → Result Buffer Refusal → Type 0
    Both r o = ((answered s r).buffer ≡ buffer_by s.buffer o)
        × (document l (answered s r) ≡ doc_by (is_open l s.events (document l s).homes) (document l s) version o)

    by_room : (more : Buffer) (c : Bool)
        → Both (if c then Err Limit else Ok (with_buffer s version more)) (if c then Err Limit else Ok more)
    by_room more true = (refl, refl)
    by_room more false = (refl, refl)

    by_limits : (o : Result Buffer Refusal) → Both (o >>= λ more. if runs_out (document l s) more then Err Limit else Ok (with_buffer s version more))
        (o >>= λ more. if runs_out (document l s) more then Err Limit else Ok more)
    by_limits (Err reason) = (refl, refl)
    by_limits (Ok more) = by_room more (runs_out (document l s) more)

    by_number : (o : Result Buffer Refusal) (c : Bool)
        → Both (if c then (o >>= λ more. if runs_out (document l s) more then Err Limit else Ok (with_buffer s version more)) else Err VersionNotHigher)
        (if c then (o >>= λ more. if runs_out (document l s) more then Err Limit else Ok more) else Err VersionNotHigher)
    by_number o true = by_limits o
    by_number o false = (refl, refl)

    pub update_is : (asked : Asked)
        → Both (updated_session l s version asked) (outcome s.buffer (document l s) version asked)
    update_is asked = by_number (prepared s.buffer (length (document l s).live) asked) (nat_lt (document l s).last version)

  module _ (u : Updates) where
    abbrev pub first_outcome : Result Buffer Refusal
    first_outcome = outcome buffer.empty_buffer core.empty_doc u.first u.first_asked

    abbrev pub second_outcome : Result Buffer Refusal
    second_outcome = outcome (buffer_by buffer.empty_buffer first_outcome) (first_doc u.first first_outcome) u.second u.second_asked

    -- before the updates, after the first, and after both
    pub record IsBegun (s : Session) : Type 0 where
      pub buffer_is : s.buffer ≡ buffer.empty_buffer
      pub doc_is : document l s ≡ core.empty_doc

    pub record HasFirst (s : Session) : Type 0 where
      pub buffer_is : s.buffer ≡ buffer_by buffer.empty_buffer first_outcome
      pub doc_is : document l s ≡ first_doc u.first first_outcome

    pub record HasBoth (s : Session) : Type 0 where
      pub opened : ℕ → Bool
      pub doc_is : document l s ≡ doc_by opened (first_doc u.first first_outcome) u.second second_outcome

    pub first_comes : (s : Session) → IsBegun s
        → HasFirst (answered s (updated_session l s u.first u.first_asked))
    first_comes s begun =
        let is = update_is s u.first u.first_asked in
        let opened = is_open l s.events (document l s).homes in
        record {
          buffer_is = is.0 ∙ ap (λ b. buffer_by b (outcome b (document l s) u.first u.first_asked)) begun.buffer_is
              ∙ ap (λ d. buffer_by buffer.empty_buffer
              (outcome buffer.empty_buffer d u.first u.first_asked)) begun.doc_is;
          doc_is = is.1 ∙ ap (λ b. doc_by opened (document l s) u.first (outcome b (document l s) u.first u.first_asked)) begun.buffer_is
              ∙ ap (λ d. doc_by opened d u.first
              (outcome buffer.empty_buffer d u.first u.first_asked)) begun.doc_is
              ∙ same_first opened none_open u.first first_outcome;
        }

    pub second_comes : (s : Session) → HasFirst s
        → HasBoth (answered s (updated_session l s u.second u.second_asked))
    second_comes s before =
        let is = update_is s u.second u.second_asked in
        let opens = is_open l s.events (document l s).homes in
        record {
          opened = opens;
          doc_is = is.1 ∙ ap (λ b. doc_by opens (document l s) u.second (outcome b (document l s) u.second u.second_asked)) before.buffer_is
              ∙ ap (λ d. doc_by opens d u.second (outcome (buffer_by buffer.empty_buffer first_outcome) d u.second u.second_asked)) before.doc_is;
        }

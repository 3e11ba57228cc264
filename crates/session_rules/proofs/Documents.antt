-- What two updates make of the versions, whoever works.
use Rattle.std.proofs.Common.{◌≡◌, ℕ, ◌<◌, Bool, true, false, cond, not, [], ◌∷◌, ◌++◌, length, find, Some, None, Result, Ok, Err, refl, sym, ap, ◌∙◌}
use Rattle.std.proofs.lemmas.Bool.{ltb-true}
use Rattle.std.proofs.lemmas.List.{append-nil}
use Rattle.std.proofs.Math.Bool.{and-false}
use Rattle.std.specs.Prelude.{◌==◌, ◌&&◌, nat_lt, if◌then◌else◌}
use Rattle.std.specs.Option.{option_map}
use Rattle.text_words.specs.Members.{has}
use Rattle.text_words.proofs.KnownMembers.{has_passing}
use Rattle.core_tables.specs.declared.versions.Live.{Live}
use Rattle.core_tables.specs.Live.{version_of}
use Rattle.exec_rules.specs.declared.version.Version.{Version}
use Rattle.message_values.specs.declared.refusal.Refusal.{Refusal}
use Rattle.message_values.specs.declared.refusal.Refusal.TheVariants.{Limit, VersionNotHigher}
use Rattle.buffer_laws.specs.buffer_rules_below.Preparing.{Buffer, prepared}
use Rattle.buffer_laws.specs.buffer_rules_below.Trying.{◌>>=◌}
use Rattle.buffer_laws.specs.buffer_rules_below.Updates.{Asked}
use Rattle.core_rules.specs.declared.event.Event.TheVariants as event
use Rattle.core_rules.specs.Assigned.{assigns, executions_of}
use Rattle.core_rules.specs.Doc.{Doc, doc_after}
use Rattle.core_rules.specs.Doc as core
use Rattle.core_rules.proofs.KnownNumbers.{differ}
use Rattle.session_rules.specs.Updating.{runs_out}

-- what an update prepares, or why it is refused
abbrev pub outcome : Buffer → Doc → ℕ → Asked → Result Buffer Refusal
outcome b d version asked = if nat_lt d.last version
    then (prepared b (length d.live) asked >>= λ more. if runs_out d more then Err Limit else Ok more) else Err VersionNotHigher

abbrev pub buffer_by : Buffer → Result Buffer Refusal → Buffer
buffer_by b (Ok more) = more
buffer_by b (Err reason) = b

abbrev pub doc_by : (ℕ → Bool) → Doc → ℕ → Result Buffer Refusal → Doc
doc_by opened d version (Ok more) = doc_after opened d
    (event.Update version more.nodes more.document.blobs)
doc_by opened d version (Err reason) = d

-- an update that isn't refused is to a version above the last
pub newer : (b : Buffer) (d : Doc) (version : ℕ) (asked : Asked) (more : Buffer) → outcome b d version asked ≡ Ok more → d.last < version
newer b d version asked more is = go (nat_lt d.last version) refl is
  where
    go : (c : Bool) → nat_lt d.last version ≡ c
        → ◌≡◌ {A = Result Buffer Refusal} (if c then (prepared b (length d.live) asked >>= λ x. if runs_out d x then Err Limit else Ok x) else Err VersionNotHigher) (Ok more)
        → d.last < version
    go true e is = ltb-true d.last version e
    go false e is = absurd (cc)

-- versions do not rest on who works
pub same_live : (f g : ℕ → Bool) (d : Doc) (version : ℕ) (o : Result Buffer Refusal) → (doc_by f d version o).live ≡ (doc_by g d version o).live
same_live f g d version (Ok more) = refl
same_live f g d version (Err reason) = refl

pub same_first : (f g : ℕ → Bool) (version : ℕ) (o : Result Buffer Refusal) → doc_by f core.empty_doc version o ≡ doc_by g core.empty_doc version o
same_first f g version (Ok more) = refl
same_first f g version (Err reason) = refl

abbrev pub none_open : ℕ → Bool
none_open e = false

-- the document after the first of two updates
abbrev pub first_doc : ℕ → Result Buffer Refusal → Doc
first_doc version o = doc_by none_open core.empty_doc version o

one_live : (id asked : ℕ) (w version : Version) → version_of (record { id = id; version = w } ∷ []) asked ≡ Some version → version ≡ w
one_live id asked w version is = go (id == asked) is
  where
    go : (b : Bool) → option_map (λ (live : Live Version). live.version) (cond b (Some (record { id = id; version = w })) None) ≡ Some version → version ≡ w
    go true is = cc
    go false is = absurd (cc)

two_live : (id asked : ℕ) (old w version : Version) → id < asked
    → version_of (record { id = id; version = old } ∷ record { id = asked; version = w } ∷ []) asked ≡ Some version → version ≡ w
two_live id asked old w version lt is =
    one_live asked asked w version (sym (ap (λ b. option_map (λ (live : Live Version). live.version)
    (cond b (Some (record { id = id; version = old })) (find (λ live. live.id == asked) (record { id = asked; version = w } ∷ [])))) (differ id asked lt)) ∙ is)

-- the version of the second's number is the tip
pub second_tip : (opened : ℕ → Bool) (one two : ℕ) (o p : Result Buffer Refusal) → ((more : Buffer) → p ≡ Ok more → (first_doc one o).last < two)
    → (version : Version) → version_of (doc_by opened (first_doc one o) two p).live two ≡ Some version
    → version ≡ (doc_by opened (first_doc one o) two p).tip
second_tip opened one two (Err r) (Err q) above version is = absurd (cc)
second_tip opened one two (Err r) (Ok y) above version is = one_live two two (doc_by opened (first_doc one (Err r)) two (Ok y)).tip version is
second_tip opened one two (Ok x) (Err q) above version is = one_live one two (first_doc one (Ok x)).tip version is
second_tip opened one two (Ok x) (Ok y) above version is =
    two_live one two (first_doc one (Ok x)).tip (doc_by opened (first_doc one (Ok x)) two (Ok y)).tip version (above y refl) is

none_first : (one : ℕ) (o : Result Buffer Refusal) → (first_doc one o).cancelled ≡ []
none_first one (Ok x) = refl
none_first one (Err r) = refl

-- which assigns nothing that is cancelled
pub tip_kept : (opened : ℕ → Bool) (one two : ℕ) (o p : Result Buffer Refusal) (e : ℕ)
    → assigns (doc_by opened (first_doc one o) two p).tip e ≡ true → has (doc_by opened (first_doc one o) two p).cancelled e ≡ false
tip_kept opened one two o (Err q) e is = ap (λ xs. has xs e) (none_first one o)
tip_kept opened one two o (Ok y) e is =
    let new = (doc_by opened (first_doc one o) two (Ok y)).tip in
    let drops : ℕ → Bool = λ x. opened x && not (assigns new x) in
    let those = executions_of (first_doc one o).tip in
    ap (λ xs. has (core.dropped opened (first_doc one o).tip new ++ xs) e) (none_first one o)
    ∙ ap (λ xs. has xs e) (append-nil (core.dropped opened (first_doc one o).tip new))
    ∙ has_passing drops those e ∙ ap (λ b. (opened e && not b) && has those e) is
    ∙ ap (λ b. b && has those e) (and-false (opened e))

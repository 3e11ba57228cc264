-- The messages that were answered are those that make the document.
use Rattle.std.proofs.Common.{◌≡◌, ℕ, List, [], ◌∷◌, ◌++◌, map, Option, Some, None, Result, Ok, Err, refl, sym, ap, subst, ◌∙◌}
use Rattle.std.proofs.lemmas.List.{append-nil}
use Rattle.std.specs.Prelude.{IfOk, OnOk}
use Rattle.std.specs.Io.KnownBytes.{Consumes, IsAtEnd}
use Rattle.byte_message.specs.Stream.{Ending, IsReadAs}
use Rattle.byte_message.specs.Stream.Ending.{Whole}
use Rattle.pide_base.specs.declared.status.Status.{Status}
use Rattle.pide_base.specs.declared.status.Status.TheVariants as status
use Rattle.language.specs.Lang.{Lang}
use Rattle.message_values.specs.declared.editor_message.EditorMessage.{EditorMessage}
use Rattle.message_values.specs.declared.mode.Mode.TheVariants.{Serve}
use Rattle.message_values.specs.declared.refusal.Refusal.{Refusal}
use Rattle.message_values.specs.Asked.{asked}
use Rattle.message_input.specs.Causes.{DoneSo}
use Rattle.session_rules.specs.declared.entry.Entry.{Entry}
use Rattle.session_rules.specs.declared.entry.Entry.TheVariants as entry
use Rattle.session_rules.specs.declared.service.Service.{Service}
use Rattle.session_rules.specs.declared.service.Service.TheVariants.{Workers}
use Rattle.session_rules.specs.Heard.{all_heard}
use Rattle.session_rules.specs.Legal.{IsLegal}
use Rattle.session_rules.specs.Services.{mode_of}
use Rattle.session_rules.specs.OneThread.{reads}
use Rattle.thread_serve.specs.keeping_rules_below.Items.{heard_in}
use Rattle.reply_outbox.specs.Items.{entries}
use Rattle.thread_serve.specs.document_session_below.Contents.{SessionState}
use Rattle.thread_serve.specs.document_serve_below.Served.{calls, calls_in}
use Rattle.thread_serve.specs.document_serve_below.Headline.{MessagesRead, OneLegalHistory}
use Rattle.made_document.specs.Asking.{Ask}
use Rattle.made_document.specs.Messages.{made_messages}
use Rattle.pide_program.specs.Answered.{Answered, Made}

-- what is read, the newest first, by the messages in order
abbrev Read : Type 0
Read = Result EditorMessage Refusal

map_more : {A B : Type 0} (f : A → B) (xs : List A) (x : A) → map f (xs ++ x ∷ []) ≡ map f xs ++ f x ∷ []
map_more f [] x = refl
map_more f (y ∷ ys) x = ap (λ zs. f y ∷ zs) (map_more f ys x)

-- the newest first
abbrev backwards : List Read → List Read
backwards [] = []
backwards (r ∷ rs) = backwards rs ++ r ∷ []

backwards_more : (rs : List Read) (r : Read) → backwards (rs ++ r ∷ []) ≡ r ∷ backwards rs
backwards_more [] r = refl
backwards_more (x ∷ rs) r = ap (λ xs. xs ++ x ∷ []) (backwards_more rs r)

reads_are : (service : Service) (es : List Entry) → reads (all_heard service es) ≡ backwards (map (asked (mode_of service)) (calls es))
reads_are service [] = refl
reads_are service (entry.Call message ∷ es) =
    ap (λ rs. asked (mode_of service) message ∷ rs) (reads_are service es)
    ∙ sym (backwards_more (map (asked (mode_of service)) (calls es)) (asked (mode_of service) message))
    ∙ ap backwards (sym (map_more (asked (mode_of service)) (calls es) message))
reads_are service (entry.Claimed who part ∷ es) = reads_are service es
reads_are service (entry.Finished who part ∷ es) = reads_are service es
reads_are service (entry.Dropped who part ∷ es) = reads_are service es
reads_are service (entry.Ended ∷ es) = reads_are service es

-- all bytes were taken
taken_all : (bytes : List ℕ) (left : Option (List ℕ)) (taken : List ℕ) → Consumes (Some bytes) left taken → IsAtEnd left → taken ≡ bytes
taken_all bytes None taken takes at_end = absurd (takes)
taken_all bytes (Some rest) taken takes at_end = sym (takes ∙ ap (λ xs. taken ++ xs) at_end ∙ append-nil taken)

-- where a call succeeds, with just this
pub ok_with : {A E : Type 0} (r : Result A E) (P : Type 0) (x : A) (Q : A → Type 0) → IfOk r (λ y. P) → IfOk r (λ y. y ≡ x) → (P → Q x) → IfOk r Q
ok_with (Ok y) P x Q is same follows = subst Q (sym same) (follows is)
ok_with (Err e) P x Q is same follows = is

pub ok_on : {A E : Type 0} (r : Result A E) (P Q : A → Type 0) → ((x : A) → P x → Q x) → IfOk r P → IfOk r Q
ok_on (Ok x) P Q follows is = follows x is
ok_on (Err e) P Q follows is = is

module _ {S : Type 0} (l : Lang S) where
  -- a run that is done has answered the messages of the source
  pub answered : (bytes : List ℕ) (left : Option (List ℕ)) (service : Service) (s : SessionState) (how : Status) → s.service ≡ service
      → OneLegalHistory l how s → MessagesRead how (Some bytes) left s → (how ≡ status.Done → DoneSo (Some bytes) left) → how ≡ status.Done
      → Answered l service bytes s
  answered bytes left service s how served legal reads_so done_so is =
      let read = subst (λ x. MessagesRead x (Some bytes) left s) is reads_so in
      let done = done_so is in
      record {
        served = served;
        legal = legal.legal;
        ending = read.2.0;
        read = subst (λ xs. IsReadAs xs (calls_in s.items) read.2.0) (taken_all bytes left read.0 read.1 done.2) read.2.1;
      }

  -- those that make a document
  pub made : ((stream : List ℕ) (messages others : List (List (List ℕ))) (ending end : Ending)
      → IsReadAs stream messages ending → IsReadAs stream others end → (messages ≡ others) × (ending ≡ end))
      → (count workers : ℕ) (bytes left : List ℕ) (service : Service) (s : SessionState) → Ask Serve bytes (made_messages count)
      → left ≡ bytes → service ≡ Workers workers → Answered l service left s → Made l count workers s
  made one count workers bytes left service s ask left_is service_is is =
      let whole = subst (λ xs. IsReadAs xs (calls_in s.items) is.ending) left_is is.read in
      let same : calls_in s.items ≡ ask.chunks = (one bytes (calls_in s.items) ask.chunks is.ending Whole whole ask.read).0 in
      let served = is.served ∙ service_is in
      record {
        served = served;
        legal = subst (λ x. IsLegal l x (heard_in x s.items)) served is.legal;
        read = reads_are (Workers workers) (entries s.items) ∙ ap (λ chunks. backwards (map (asked Serve) chunks)) same ∙ ap backwards ask.asks;
      }

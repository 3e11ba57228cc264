-- A run that was not begun keeps what is promised.
use Rattle.std.proofs.Common.{◌≡◌, ℕ, false, List, [], ◌∷◌, ◌++◌, Option, refl, sym, subst, arith}
use Rattle.std.specs.Io.KnownBytes.{Appends}
use Rattle.std.proofs.KnownBytes.{Appends-nil, Consumes-nil}
use Rattle.pide_base.specs.declared.status.Status.TheVariants as status
use Rattle.byte_message.specs.Stream.{IsReadAs}
use Rattle.byte_message.specs.Stream.Ending.{Whole}
use Rattle.language.specs.Lang.{Lang}
use Rattle.reply_outbox.specs.declared.item.Item.TheVariants as item
use Rattle.reply_outbox.specs.Items.{is_lost}
use Rattle.session_rules.specs.declared.service.Service.{Service}
use Rattle.session_rules.specs.Legal.{IsLegal}
use Rattle.session_rules.specs.Steps.{Nothing, due}
use Rattle.document_session.specs.keeping_rules_below.Items.{SessionItem, heard_in}
use Rattle.document_session.specs.keeping_rules_below.Legal.{AreLegal}
use Rattle.document_session.specs.Contents.{SessionState}
use Rattle.document_serve.specs.Served.{AllSent, calls_in, replies_in, sent_in}
use Rattle.thread_serve.specs.Promises.{IsServed}

module _ {S : Type 0} (l : Lang S) (limit : ℕ) (left held : Option (List ℕ)) (s : SessionState) (new : s.items ≡ item.Opened s.service ∷ []) where
  none_read : IsReadAs [] (calls_in s.items ++ []) Whole
  none_read = subst (λ (items : List SessionItem). IsReadAs [] (calls_in items ++ []) Whole) (sym new)
      (record { front = []; rest = []; whole = refl; spelled = refl; ends = refl })

  list_legal : AreLegal l s.service s.items
  list_legal = subst (AreLegal l s.service) (sym new) refl

  pub unbegun_so : ((service : Service) (items : List SessionItem) → AreLegal l service items → IsLegal l service (heard_in service items))
      → due l s.service (heard_in s.service s.items) ≡ Nothing → IsServed l limit status.NoMemory left left held held s
  unbegun_so history rests = record {
    written = subst (λ (items : List SessionItem). Appends held held (replies_in l s.service items)) (sym new) (Appends-nil held);
    sent = subst (λ (items : List SessionItem). Appends held held (sent_in l s.service items)) (sym new) (Appends-nil held);
    lost = (
      subst (λ (items : List SessionItem). is_lost items ≡ false) (sym new) refl,
      subst (λ (items : List SessionItem). AllSent l s.service items) (sym new) refl,
    );
    legal = record { legal = history s.service s.items list_legal; list = list_legal; none_due = rests; closed = tt };
    read = ([], Consumes-nil left, record { rest = []; ending = Whole; read = none_read; holds = tt });
    free = λ e. absurd (let no : ⊥ = cc in no);
    replies = λ len e. absurd (let no : ⊥ = cc in no);
    causes = record {
      bad_frame = λ at e. absurd (let no : ⊥ = cc in no);
      truncated = λ at e. absurd (let no : ⊥ = cc in no);
      long_input = ([], Consumes-nil left, omega arith);
      done = λ e. absurd (let no : ⊥ = cc in no);
      no_text = λ at e. absurd (let no : ⊥ = cc in no);
      no_words = λ e. absurd (let no : ⊥ = cc in no);
    };
  }

-- What the reader brings back, by what its input came to.
use Rattle.std.proofs.Common.{◌≡◌, ◌≢◌, ℕ, List, [], ◌∷◌, ◌++◌, Contains, Option, None, inl, inr, refl, sym, ap, subst, ◌∙◌, append-nil, append_assoc}
use Rattle.std.proofs.lemmas.List.Elements.{Contains-append_left, Contains-push}
use Rattle.std.specs.Io.KnownBytes.{Consumes}
use mathlib.Core.List.{IsPrefix}
use Rattle.pide_base.specs.declared.status.Status.{Status}
use Rattle.pide_base.specs.declared.status.Status.TheVariants as status
use Rattle.byte_message.specs.Stream.{Ending, IsReadAs}
use Rattle.hist_lock.specs.declared.view.View.{View}
use Rattle.worker_loop.specs.Held.{held_in}
use Rattle.worker_loop.specs.Rounds.{HasSeen}
use Rattle.worker_loop.specs.declared.said.Said.TheVariants as said
use Rattle.worker_loop.proofs.KnownHeld.{held_made}
use Rattle.reply_outbox.specs.declared.item.Item.TheVariants as item
use Rattle.session_rules.specs.declared.entry.Entry.TheVariants as entry
use Rattle.document_session.specs.keeping_rules_below.Items.{SessionItem}
use Rattle.document_session.specs.Contents.{SessionState}
use Rattle.message_input.specs.declared.answering.Halt.{Halt}
use Rattle.message_input.specs.declared.answering.Halt.TheVariants as halt
use Rattle.message_input.specs.Answers.{AnswersSome}
use Rattle.message_input.specs.Causes.{HasCause, Tells}
use Rattle.message_input.specs.Inputs.{AnswersSo, AnswersToEnd}
use Rattle.document_serve.specs.Served.{calls_in}
use Rattle.document_serve.specs.Headline.{CallsSo, IsFront}
use Rattle.view_laws.specs.Says.{says}
use Rattle.thread_serve.specs.Reader.{Answers, EndsAll, SeesWhy, calls_made}
use Rattle.thread_serve.specs.Stopped.{HasRead, IsHalt}
use Rattle.thread_serve.specs.Joins.{calls_append, same_then}

-- the status of a halt
abbrev pub status_of_halt : Halt → Status
status_of_halt halt.WriteFault = status.WriteFault
status_of_halt halt.NoMemory = status.NoMemory
status_of_halt (halt.BadReply len) = status.BadReply len

module _ {A : Type 0} (Goes : A → List (List (List ℕ)) → A → Type 0) (Halts : A → List (List (List ℕ)) → Halt → List (List (List ℕ)) → A → Type 0)
    (Ends : A → A → Type 0) (old : A) (taken : List ℕ) (new : A) where
  pub to_end : (how : Status) → how ≢ status.WriteFault → how ≢ status.NoMemory → ((len : ℕ) → how ≢ status.BadReply len) → AnswersSo Goes Halts Ends how old taken new
      → AnswersToEnd Goes Ends how old taken new
  to_end status.Done fault short fine so = so
  to_end status.Usage fault short fine so = so
  to_end status.ReadFault fault short fine so = so
  to_end status.WriteFault fault short fine so = absurd (fault refl)
  to_end (status.BadFrame at) fault short fine so = so
  to_end (status.Truncated at) fault short fine so = so
  to_end status.LongInput fault short fine so = so
  to_end (status.BadText at) fault short fine so = so
  to_end status.NoMemory fault short fine so = absurd (short refl)
  to_end (status.BadReply len) fault short fine so = absurd (fine len refl)

  -- where it halted
  pub some_so : (how : Status) → IsHalt how → AnswersSo Goes Halts Ends how old taken new
      → (why : Halt) × (how ≡ status_of_halt why) × AnswersSome Halts old taken why new
  some_so how (inl is) so = (halt.WriteFault, is, subst (λ (h : Status). AnswersSo Goes Halts Ends h old taken new) is so)
  some_so how (inr is) so = (halt.NoMemory, is, subst (λ (h : Status). AnswersSo Goes Halts Ends h old taken new) is so)

  -- it never halts for a long reply, where that has no answers
  pub long_only : (how : Status) → ((len : ℕ) → AnswersSome Halts old taken (halt.BadReply len) new → ⊥) → AnswersSo Goes Halts Ends how old taken new
      → (len : ℕ) → how ≢ status.BadReply len
  long_only how none so len is = none len (subst (λ (h : Status). AnswersSo Goes Halts Ends h old taken new) is so)

-- all messages were answered
calls_so : (taken : List ℕ) (s : SessionState) (ending : Ending) → IsReadAs taken (calls_in s.items) ending → (how : Status) → how ≢ status.WriteFault → how ≢ status.NoMemory
    → ((len : ℕ) → how ≢ status.BadReply len) → Tells how ending → CallsSo how taken s
calls_so taken s ending read status.Done fault short fine tells = (ending, read, tells)
calls_so taken s ending read status.Usage fault short fine tells = (ending, read, tells)
calls_so taken s ending read status.ReadFault fault short fine tells = (ending, read, tells)
calls_so taken s ending read status.WriteFault fault short fine tells = absurd (fault refl)
calls_so taken s ending read (status.BadFrame at) fault short fine tells = (ending, read, tells)
calls_so taken s ending read (status.Truncated at) fault short fine tells = (ending, read, tells)
calls_so taken s ending read status.LongInput fault short fine tells = (ending, read, tells)
calls_so taken s ending read (status.BadText at) fault short fine tells = (ending, read, tells)
calls_so taken s ending read status.NoMemory fault short fine tells = absurd (short refl)
calls_so taken s ending read (status.BadReply len) fault short fine tells = absurd (fine len refl)

abbrev end : SessionItem
end = item.Made entry.Ended

-- what it had made before comes first
pub made_first : (v u w : View SessionItem) (messages : List (List (List ℕ)))
    → Answers v messages u → EndsAll u w → IsPrefix v.mine w.mine
made_first v u w messages answers ends =
    let whole : w.mine ≡ v.mine ++ (answers.news ++ end ∷ []) =
    ends.mine ∙ (ap (λ (xs : List SessionItem). xs ++ end ∷ []) answers.mine
    ∙ append_assoc v.mine answers.news (end ∷ [])) in
    (answers.news ++ end ∷ [], sym whole)

-- the reader answered these messages, and then ended all
module _ (limit : ℕ) (left left' : Option (List ℕ)) (taken : List ℕ) (consumes : Consumes left left' taken) (v u w : View SessionItem)
    (messages : List (List (List ℕ))) (reader : v.caller ≡ 0) (new : calls_made v.mine ≡ []) (answers : Answers v messages u) (ends : EndsAll u w) where
  same_all : w ≡ record v { seen = w.seen; mine = w.mine }
  same_all = same_then v u w answers.same ends.same

  calls_are : calls_made w.mine ≡ messages
  calls_are = ap calls_made ends.mine ∙ (calls_append u.mine (end ∷ []) ∙ (append-nil (calls_made u.mine)
      ∙ (ap calls_made answers.mine ∙ (calls_append v.mine answers.news ∙ (ap (λ (ms : List (List (List ℕ))). ms ++ calls_made answers.news) new ∙ answers.called)))))

  has_end : Contains w.mine end
  has_end = subst (λ (xs : List SessionItem). Contains xs end) (sym ends.mine) (Contains-push u.mine end)

  caller_is : w.caller ≡ 0
  caller_is = ap (λ (z : View SessionItem). z.caller) same_all ∙ reader

  pub free_still : held_in says u.mine ≡ None → held_in says w.mine ≡ None
  free_still free = held_made says u.mine w.mine end said.Ended refl ends.mine ∙ free

  -- to the end of the input
  pub read_all : (how : Status) → how ≢ status.WriteFault → how ≢ status.NoMemory → ((len : ℕ) → how ≢ status.BadReply len) → (ending : Ending)
      → IsReadAs taken messages ending → Tells how ending
      → held_in says u.mine ≡ None → HasCause limit how left left' → HasRead limit how left left' w
  read_all how fault short fine ending read tells free causes = record {
    reader = caller_is;
    messages = λ s calls. (
      taken,
      consumes,
      calls_so taken s ending (subst (λ (ms : List (List (List ℕ))). IsReadAs taken ms ending) (sym (calls ∙ calls_are)) read) how fault short fine tells,
    );
    ended = has_end;
    free = λ done. free_still free;
    lost = λ is. absurd (fault is);
    replies = fine;
    causes = causes;
  }

  -- or until it halted
  pub read_some : (why : Halt) (rest : List (List (List ℕ))) (ending : Ending) → IsReadAs taken (messages ++ rest) ending → SeesWhy why u → IsPrefix u.seen w.seen
      → HasCause limit (status_of_halt why) left left' → HasRead limit (status_of_halt why) left left' w
  read_some why rest ending read saw begins causes = record {
    reader = caller_is;
    messages = λ s calls. (taken, consumes, front why s (calls ∙ calls_are));
    ended = has_end;
    free = λ done. absurd (not_done why done);
    lost = λ is. seen_why why is saw;
    replies = λ len is. never_long why len is saw;
    causes = causes;
  }
    where
      front_of : (s : SessionState) → calls_in s.items ≡ messages → IsFront taken (calls_in s.items) (λ others. Unit {0})
      front_of s are = record { rest = rest; ending = ending; read = subst (λ (ms : List (List (List ℕ))). IsReadAs taken (ms ++ rest) ending) (sym are) read; holds = tt }

      front : (h : Halt) (s : SessionState) → calls_in s.items ≡ messages → CallsSo (status_of_halt h) taken s
      front halt.WriteFault s are = front_of s are
      front halt.NoMemory s are = front_of s are
      front (halt.BadReply len) s are = front_of s are

      not_done : (h : Halt) → status_of_halt h ≡ status.Done → ⊥
      not_done halt.WriteFault e = absurd (let no : ⊥ = cc in no)
      not_done halt.NoMemory e = absurd (let no : ⊥ = cc in no)
      not_done (halt.BadReply len) e = absurd (let no : ⊥ = cc in no)

      seen_why : (h : Halt) → status_of_halt h ≡ status.WriteFault → SeesWhy h u → HasSeen says w said.Lost
      seen_why halt.WriteFault e has = (has.0, subst (λ (xs : List SessionItem). Contains xs has.0) begins.1 (Contains-append_left u.seen begins.0 has.0 has.1), has.2)
      seen_why halt.NoMemory e has = absurd (let no : ⊥ = cc in no)
      seen_why (halt.BadReply len) e has = absurd (has)

      never_long : (h : Halt) (len : ℕ) → status_of_halt h ≡ status.BadReply len → SeesWhy h u → ⊥
      never_long halt.WriteFault len e saw = let no : ⊥ = cc in no
      never_long halt.NoMemory len e saw = let no : ⊥ = cc in no
      never_long (halt.BadReply long) len e saw = saw

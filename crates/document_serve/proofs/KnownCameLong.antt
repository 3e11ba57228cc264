-- What came of an input of which a front was answered, behind which the session has ended.
use Rattle.std.proofs.Common.{◌≡◌, [], ◌∷◌, ◌++◌, List, ℕ, Option, ◌∙◌}
use Rattle.std.specs.Prelude.{⊤}
use Rattle.std.specs.Io.KnownBytes.{Appends}
use Rattle.pide_base.specs.declared.status.Status.TheVariants as status
use Rattle.byte_message.specs.Stream.{Ending, IsReadAs}
use Rattle.language.specs.Lang.{Lang}
use Rattle.reply_outbox.specs.declared.item.Item.TheVariants.{Opened}
use Rattle.session_rules.specs.Steps.{Nothing, due}
use Rattle.document_session.specs.keeping_rules_below.Items.{heard_in}
use Rattle.document_session.specs.Contents.{SessionState}
use Rattle.document_serve.specs.Laws.{ListLaws}
use Rattle.document_serve.specs.Runs.{GoesOn, IsEnded}
use Rattle.document_serve.specs.Served.{sent_in}
use Rattle.document_serve.proofs.Ended.{ended_alone, ended_calls, ended_closed, ended_kept, ended_legal, ended_sent, ended_written}
use Rattle.document_serve.proofs.KnownCame.{Came, front_read, none_sent}

module _ {S : Type 0} (l : Lang S) (laws : ListLaws l) (old s t : SessionState) (new : old.items ≡ Opened old.service ∷ []) (held held' : Option (List ℕ))
    (taken : List ℕ) (messages first rest : List (List (List ℕ))) (ending : Ending) (read : IsReadAs taken messages ending) (parts : messages ≡ first ++ rest)
    (goes : GoesOn l held held' old s first) (e : IsEnded l s t) (rests : due l t.service (heard_in t.service t.items) ≡ Nothing) where
  now_held : Appends held held' (sent_in l s.service s.items)
  now_held = goes.writes held (none_sent l old new held)

  pub came_long : (len : ℕ) → Came l (status.BadReply len) taken held held' old t
  came_long len = record {
    service = e.service ∙ goes.service;
    written = ended_written l laws s t e held held' goes.rests now_held;
    sent = ended_sent l laws s t e held held' goes.rests now_held;
    kept = ended_kept l laws s t e goes.rests;
    legal = record { legal = ended_legal l laws s t e; list = e.legal; none_due = rests; closed = ended_closed l laws s t e };
    read = front_read l laws old t new held held' taken rests messages first rest ending read parts (ended_calls l laws s t e ∙ goes.called) (λ rest. ⊤) tt;
    alone = ended_alone l laws s t e goes.rests.going.alone;
  }

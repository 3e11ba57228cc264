-- What is so of answers one after the other is so of them all (this project's own).
use Rattle.std.specs.Prelude.{◌≡◌, ℕ, ◌≤◌, List, [], ◌++◌, Option}
use Rattle.std.proofs.Common.{inl, refl, sym, ap, ◌∙◌, append-nil, append_assoc, arith}
use Rattle.language.specs.Lang.{Lang}
use Rattle.document_session.specs.keeping_rules_below.Items.{heard_in}
use Rattle.document_session.specs.Contents.{SessionState}
use Rattle.message_input.specs.declared.answering.Halt.{Halt}
use Rattle.message_input.specs.declared.answering.Halt.TheVariants as halt
use Rattle.document_serve.specs.Served.{calls_in}
use Rattle.document_serve.specs.Going.{IsAtRest}
use Rattle.document_serve.specs.Runs.{GoesOn, StopsSo}
use Rattle.document_serve.specs.Waits.{more_left, more_waits}

module _ {S : Type 0} (l : Lang S) where
  -- nothing happens by itself
  pub stays : (held : Option (List ℕ)) (s : SessionState) → IsAtRest l s
      → GoesOn l held held s s []
  stays held s rests = record {
    service = refl;
    called = sym (append-nil (calls_in s.items));
    rests = rests;
    writes = λ first w. w;
  }

  -- memory may be short before the next message is there
  pub short_of : (held : Option (List ℕ)) (s : SessionState) (rest : List (List (List ℕ)))
      → IsAtRest l s → StopsSo l halt.NoMemory held held s s [] rest
  short_of held s rest rests = record {
    service = refl;
    legal = rests.going.legal;
    called = sym (append-nil (calls_in s.items));
    alone = more_left l s.service [] rest (heard_in s.service s.items) (inl rests.going.alone);
    writes = λ first w. w;
    kept = rests.going.kept;
    all = rests.sent;
  }

  module _ (held now then : Option (List ℕ)) (old mid new : SessionState)
      (first : List (List (List ℕ))) (a : GoesOn l held now old mid first) where
    called_later : (more : List (List (List ℕ))) → calls_in new.items ≡ calls_in mid.items ++ more
        → calls_in new.items ≡ calls_in old.items ++ (first ++ more)
    called_later more called = called ∙ ap (λ (ms : List (List (List ℕ))). ms ++ more) a.called
        ∙ append_assoc (calls_in old.items) first more

    -- more were answered
    pub goes_later : (more : List (List (List ℕ))) → GoesOn l now then mid new more
        → GoesOn l held then old new (first ++ more)
    goes_later more b = record {
      service = b.service ∙ a.service;
      called = called_later more b.called;
      rests = b.rests;
      writes = λ f w. b.writes f (a.writes f w);
    }

    -- or not all of them
    pub stops_later : (h : Halt) (more rest : List (List (List ℕ)))
        → StopsSo l h now then mid new more rest
        → StopsSo l h held then old new (first ++ more) rest
    stops_later halt.WriteFault more rest b = record {
      service = b.service ∙ a.service;
      legal = b.legal;
      called = called_later more b.called;
      alone = b.alone;
      writes = λ f w. b.writes f (a.writes f w);
      sends = λ f w. b.sends f (a.writes f w);
      lost = b.lost;
    }
    stops_later halt.NoMemory more rest b = record {
      service = b.service ∙ a.service;
      legal = b.legal;
      called = called_later more b.called;
      alone = b.alone;
      writes = λ f w. b.writes f (a.writes f w);
      kept = b.kept;
      all = b.all;
    }
    stops_later (halt.BadReply len) more rest b = absurd (b)

  -- others may wait behind those that wait
  pub more_stops : (h : Halt) (held now : Option (List ℕ)) (old new : SessionState)
      (first rest more : List (List (List ℕ))) → StopsSo l h held now old new first rest
      → StopsSo l h held now old new first (rest ++ more)
  more_stops halt.WriteFault held now old new first rest more b = record {
    service = b.service;
    legal = b.legal;
    called = b.called;
    alone = more_waits l new.service rest more (heard_in new.service new.items) b.alone;
    writes = b.writes;
    sends = b.sends;
    lost = b.lost;
  }
  more_stops halt.NoMemory held now old new first rest more b = record {
    service = b.service;
    legal = b.legal;
    called = b.called;
    alone = more_left l new.service rest more (heard_in new.service new.items) b.alone;
    writes = b.writes;
    kept = b.kept;
    all = b.all;
  }
  more_stops (halt.BadReply len) held now old new first rest more b = absurd (b)

-- a count that doesn't fall doesn't fall later
pub steady_first : (n : ℕ) → n ≤ n
steady_first n = omega arith

pub steady_later : (before mid now : ℕ) → before ≤ mid → mid ≤ now → before ≤ now
steady_later before mid now first then = omega arith

-- What a build takes and writes, by its status (this project's own).
use Rattle.std.specs.Prelude.{◌≡◌, ◌⊎◌, List, [], ◌++◌, ℕ, Option}
use Rattle.std.specs.Io.KnownBytes.{Appends, Consumes, IsAtEnd}
use Rattle.pide_base.specs.Moves.{AppendsFront}
use Rattle.pide_base.specs.declared.status.Status.{Status}
use Rattle.pide_base.specs.declared.status.Status.TheVariants as status
use Rattle.byte_message.specs.Stream.{Ending, IsReadAs}
use Rattle.byte_message.specs.Stream.Ending.{Whole}
use Rattle.language.specs.Lang.{Lang}
use Rattle.pide_build.specs.Replies.{build_replies, refusals}
use Rattle.pide_build.specs.Theories.{theories_after}

module _ {S : Type 0} (l : Lang S) where
  -- all that these messages are replied, when no more come
  abbrev pub all_replies : List (List (List ℕ)) → List ℕ
  all_replies messages = refusals messages [] ++ build_replies l (theories_after messages [])

  -- a front of the refusals is written; or of all replies, where the source ended between messages
  abbrev pub WritesFront : List (List (List ℕ)) → Ending → Option (List ℕ) → Option (List ℕ)
      → Option (List ℕ) → Type 0
  WritesFront messages ending left held held' = AppendsFront held held' (refusals messages [])
      ⊎ (IsAtEnd left × (ending ≡ Whole) × AppendsFront held held' (all_replies messages))

  -- what is written: all replies, where it is done; a front, where the sink failed or memory was
  -- short; else the refusals
  abbrev pub WritesSo : Status → List (List (List ℕ)) → Ending → Option (List ℕ)
      → Option (List ℕ) → Option (List ℕ) → Type 0
  WritesSo status.Done messages ending left held held' = Appends held held' (all_replies messages)
  WritesSo status.WriteFault messages ending left held held' =
      WritesFront messages ending left held held'
  WritesSo status.NoMemory messages ending left held held' =
      WritesFront messages ending left held held'
  WritesSo _ messages ending left held held' = Appends held held' (refusals messages [])

  -- a run: some bytes are taken, and what is written goes by their messages
  pub record IsBuild (how : Status) (left left' held held' : Option (List ℕ)) : Type 0 where
    pub taken : List ℕ
    pub consumes : Consumes left left' taken
    pub messages : List (List (List ℕ))
    pub ending : Ending
    pub read : IsReadAs taken messages ending
    pub writes : WritesSo how messages ending left' held held'

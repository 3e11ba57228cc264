-- What is so of answers one after the other is so of them all (this project's own).
use Rattle.std.specs.Prelude.{ℕ, ◌≤◌, List, [], ◌++◌, Option}
use Rattle.language.specs.Lang.{Lang}
use Rattle.document_session.specs.Contents.{SessionState}
use Rattle.message_input.specs.declared.answering.Halt.{Halt}
use Rattle.message_input.specs.declared.answering.Halt.TheVariants as halt
use Rattle.message_input.proofs.KnownHalting.{counts_later}
use Rattle.document_serve.specs.Going.{IsAtRest}
use Rattle.document_serve.specs.Joins.{goes_later, more_stops, short_of, steady_first, steady_later, stops_later}
use Rattle.document_serve.specs.Runs.{GoesOn}
use Rattle.mirror_serve.specs.Halts.{HaltsSo}

module _ {S : Type 0} (l : Lang S) where
  -- memory may be short before the next message is there
  pub short_halts : (held : Option (List ℕ)) (faults : ℕ) (s : SessionState)
      (rest : List (List (List ℕ))) → IsAtRest l s
      → HaltsSo l halt.NoMemory held held faults faults s s [] rest
  short_halts held faults s rest rests = (short_of l held s rest rests, steady_first faults)

  -- some messages were answered before it halted
  pub halts_later : (held now then : Option (List ℕ)) (before mid after : ℕ)
      (old between new : SessionState) (first : List (List (List ℕ)))
      → GoesOn l held now old between first → before ≤ mid → (h : Halt)
      (more rest : List (List (List ℕ))) → HaltsSo l h now then mid after between new more rest
      → HaltsSo l h held then before after old new (first ++ more) rest
  halts_later held now then before mid after old between new first a steady halt.WriteFault more
      rest b = (
        stops_later l held now then old between new first a halt.WriteFault more rest b.0,
        counts_later halt.WriteFault before mid after steady b.1,
      )
  halts_later held now then before mid after old between new first a steady halt.NoMemory more
      rest b = (
        stops_later l held now then old between new first a halt.NoMemory more rest b.0,
        counts_later halt.NoMemory before mid after steady b.1,
      )
  halts_later held now then before mid after old between new first a steady (halt.BadReply len)
      more rest b = (
        record {
          last = b.0.last;
          goes = goes_later l held now then old between b.0.last first a more b.0.goes;
          ends = b.0.ends;
          more = b.0.more;
          long = b.0.long;
        },
        steady_later before mid after steady b.1,
      )

  -- others may wait behind those that wait
  pub more_halts : (h : Halt) (held now : Option (List ℕ)) (faults later : ℕ)
      (old new : SessionState) (first rest more : List (List (List ℕ)))
      → HaltsSo l h held now faults later old new first rest
      → HaltsSo l h held now faults later old new first (rest ++ more)
  more_halts halt.WriteFault held now faults later old new first rest more b =
      (more_stops l halt.WriteFault held now old new first rest more b.0, b.1)
  more_halts halt.NoMemory held now faults later old new first rest more b =
      (more_stops l halt.NoMemory held now old new first rest more b.0, b.1)
  more_halts (halt.BadReply len) held now faults later old new first rest more b = b

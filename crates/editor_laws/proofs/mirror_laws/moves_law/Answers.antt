use Rattle.editor_laws.proofs.mirror_laws.moves_law.Goals as goal
use Rattle.editor_laws.proofs.OneHearing.{HearingLaws}
use Rattle.editor_laws.proofs.OneWay.{one_way}

pub returns : goal.returns
returns c = λ mode events moves others are also.
    let laws : HearingLaws = record {
      one = c.one_reading.ensures;
      every = c.longer_streams.ensures.every;
      reply = c.what_is_written_is_read_back.ensures.one;
    } in
    one_way laws mode events moves others are also

use Rattle.editor_laws.proofs.mirror_laws.bytes_law.Goals as goal
use Rattle.editor_laws.proofs.BytesLaw.{going, sees}
use Rattle.editor_laws.proofs.KnownReadings.{StreamLaws}

pub returns-clause-going : goal.returns-clause-going
returns-clause-going g c = λ service history events moves is_told follows.
    let laws : StreamLaws = record {
      one = c.one_reading.ensures;
      spelled = c.written_is_read.ensures.spelled;
      longer = c.longer_streams.ensures.longer;
      bad = c.longer_streams.ensures.bad;
      back = c.what_is_written_is_read_back.ensures.back;
    } in
    going g.L.Language.lang service laws (λ ahead h sent ms legal alone f. c.mirror_law.ensures.sees service ahead h sent ms is_told legal alone f)
    history events moves follows

pub returns-clause-sees : goal.returns-clause-sees
returns-clause-sees g c = λ service history ahead h e events moves is_told follows split ends.
    let laws : StreamLaws = record {
      one = c.one_reading.ensures;
      spelled = c.written_is_read.ensures.spelled;
      longer = c.longer_streams.ensures.longer;
      bad = c.longer_streams.ensures.bad;
      back = c.what_is_written_is_read_back.ensures.back;
    } in
    sees g.L.Language.lang service laws (λ a k sent ms legal alone f. c.mirror_law.ensures.sees service a k sent ms is_told legal alone f)
    history events moves follows ahead h e split ends

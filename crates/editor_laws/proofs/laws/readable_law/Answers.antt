use Rattle.editor_laws.proofs.HearingReplies.{all_readable}
use Rattle.editor_laws.proofs.laws.readable_law.Goals as goal

pub returns : goal.returns
returns g c = λ service history is legal are.
    all_readable g.L.Language.lang (record {
      legal = c.events_law.ensures.legal;
      agree = c.events_law.ensures.agree;
      each = c.core_law.ensures.each;
      tip = c.homes_law.ensures.tip;
      there = c.places_law.ensures.there;
      within = c.places_in_symbols.ensures.within;
      numbers = c.numbers_law.ensures;
      nodes = record { named = c.names_law.ensures; headed = c.sheets_law.ensures };
      reports = record { lie = is.told.tidy.lie; fits = is.fits };
    }) c.a_message_is_asked_where_it_is_spelled.ensures service history legal are

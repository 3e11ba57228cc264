use Rattle.editor_laws.proofs.mirror_laws.mirror_law.Goals as goal
use Rattle.std.proofs.Common.{refl}
use Rattle.command_spans.specs.Cutting.{spans_in}
use Rattle.editor_laws.proofs.Filled.{nodes_filled}
use Rattle.editor_laws.proofs.MirrorLaw.{sees_so, waits_so}

pub returns-clause-sees : goal.returns-clause-sees
returns-clause-sees g c = λ service ahead h sent moves is_told legal alone follows.
    sees_so g.L.Language.lang (record {
      order = c.one_order.ensures.one;
      rises = c.places_in_symbols.ensures.rises;
      counted = c.places_in_symbols.ensures.counted;
      back = c.ranges_are_had_back.ensures.reports;
    }) is_told (record {
      legal = c.events_law.ensures.legal;
      keeps = c.headline_law.ensures.kept;
      each = c.core_law.ensures.each;
      shown = c.core_law.ensures.shown;
      tells = c.holders_law.ensures.told;
      made = c.homes_law.ensures.made;
      unmade = c.homes_law.ensures.unmade;
      begun = c.homes_law.ensures.begun;
      there = c.places_law.ensures.there;
      kept = c.kept_law.ensures.all;
      filled = nodes_filled (λ text aliases. (c.one_list.ensures.just text aliases (spans_in text aliases)).1 refl);
    }) (λ mode chunks message. c.a_message_is_asked_where_it_is_spelled.ensures mode chunks message) service ahead h sent moves legal alone follows

pub returns-clause-waits : goal.returns-clause-waits
returns-clause-waits g c = λ service ahead h sent moves is_told legal alone follows.
    waits_so g.L.Language.lang (record {
      order = c.one_order.ensures.one;
      rises = c.places_in_symbols.ensures.rises;
      counted = c.places_in_symbols.ensures.counted;
      back = c.ranges_are_had_back.ensures.reports;
    }) is_told (record {
      legal = c.events_law.ensures.legal;
      keeps = c.headline_law.ensures.kept;
      each = c.core_law.ensures.each;
      shown = c.core_law.ensures.shown;
      tells = c.holders_law.ensures.told;
      made = c.homes_law.ensures.made;
      unmade = c.homes_law.ensures.unmade;
      begun = c.homes_law.ensures.begun;
      there = c.places_law.ensures.there;
      kept = c.kept_law.ensures.all;
      filled = nodes_filled (λ text aliases. (c.one_list.ensures.just text aliases (spans_in text aliases)).1 refl);
    }) (λ mode chunks message. c.a_message_is_asked_where_it_is_spelled.ensures mode chunks message) service ahead h sent moves legal alone follows

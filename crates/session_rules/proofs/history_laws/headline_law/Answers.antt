-- What each message of a legal history is answered.
use Rattle.std.proofs.Common.{◌∷◌}
use Rattle.session_rules.specs.Heard.{Message}
use Rattle.session_rules.specs.Promises.{CoversSo, ExactSo, KeepsSo, LeavesCancelled, ShowsSo}
use Rattle.session_rules.proofs.Covers.{covers_each, each_message, keeps_each, leaves_each}
use Rattle.session_rules.proofs.Keeping.{keeps_front}
use Rattle.session_rules.proofs.Shows.{exact, shows}
use Rattle.session_rules.proofs.history_laws.headline_law.Goals as goal

pub returns-clause-shows : goal.returns-clause-shows
returns-clause-shows g c = λ service h legal. each_message g.L.Language.lang service (ShowsSo g.L.Language.lang service)
    (λ k read may. shows g.L.Language.lang c.core_law.ensures.shown service k (c.events_law.ensures.legal service k may.0) read) h legal

pub returns-clause-covers : goal.returns-clause-covers
returns-clause-covers g c = λ service h legal. each_message g.L.Language.lang service (CoversSo g.L.Language.lang service)
    (λ k read may. covers_each g.L.Language.lang c.covers_law.ensures service k read (c.events_law.ensures.legal service (Message read ∷ k) may)) h legal

pub returns-clause-cancelled : goal.returns-clause-cancelled
returns-clause-cancelled g c = λ service h legal. each_message g.L.Language.lang service (LeavesCancelled g.L.Language.lang service)
    (λ k read may. leaves_each g.L.Language.lang c.cancelled_law.ensures.not_again service k read) h legal

pub returns-clause-exact : goal.returns-clause-exact
returns-clause-exact g c = λ service h legal. each_message g.L.Language.lang service (ExactSo g.L.Language.lang service)
    (λ k read may. exact g.L.Language.lang c.homes_law.ensures.live c.places_law.ensures.there service k (c.events_law.ensures.legal service k may.0) read) h legal

pub returns-clause-kept : goal.returns-clause-kept
returns-clause-kept g c = λ service h legal. each_message g.L.Language.lang service (KeepsSo g.L.Language.lang service)
    (λ k read may. keeps_each g.L.Language.lang (keeps_front (record {
      keeps = c.rows_law.ensures.keeps;
      next = c.rows_law.ensures.next;
      within = c.rows_law.ensures.within;
      prints = c.rows_law.ensures.prints;
    }) (λ nodes. record {
      every = c.order_law.ensures.every nodes;
      once = c.order_law.ensures.once nodes;
      inside = λ front rest p pair split at good. c.order_law.ensures.behind nodes front rest p pair split at
          ((c.order_law.ensures.ordered nodes p pair at).1 good);
    })) service k read) h legal

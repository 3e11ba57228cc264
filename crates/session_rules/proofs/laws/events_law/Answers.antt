use Rattle.session_rules.proofs.Events.{all_legal}
use Rattle.session_rules.proofs.laws.events_law.Goals as goal

pub returns-clause-legal : goal.returns-clause-legal
returns-clause-legal g c = λ service h legal.
    (all_legal g.L.Language.lang (record { fits = c.fits_law.ensures.fits; kept = c.fits_law.ensures.kept; begins = c.fits_law.ensures.begins }) service h legal).legal

pub returns-clause-agree : goal.returns-clause-agree
returns-clause-agree g c = λ service h legal.
    (all_legal g.L.Language.lang (record { fits = c.fits_law.ensures.fits; kept = c.fits_law.ensures.kept; begins = c.fits_law.ensures.begins }) service h legal).agree

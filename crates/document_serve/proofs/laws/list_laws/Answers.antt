use Rattle.document_serve.proofs.laws.list_laws.Goals as goal

pub returns : goal.returns
returns g c = record { legal = c.history_law.ensures.legal; sends = c.sent_law.ensures.front; join = c.sent_law.ensures.joined }

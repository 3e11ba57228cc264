-- A job that goes on is as it was, and so is the session.
use Rattle.std.proofs.Common.{◌≡◌, List, sym, subst}
use Rattle.language.specs.Lang.{Lang}
use Rattle.session_rules.specs.declared.service.Service.{Service}
use Rattle.document_session.specs.session_replies_below.Works.{Work}
use Rattle.document_session.specs.keeping_rules_below.Items.{SessionItem, session_in}
use Rattle.document_session.specs.keeping_rules_below.Works.{IsWorkOf}

pub still_works : {S : Type 0} (l : Lang S) (service after : Service) (items new : List SessionItem) (work back : Work S) → after ≡ service
    → new ≡ items → back ≡ work → IsWorkOf l (session_in l service items) 1 work → IsWorkOf l (session_in l after new) 1 back
still_works {S} l service after items new work back same unchanged as_it_was is =
    subst (λ (v : Service). IsWorkOf l (session_in l v new) 1 back) (sym same)
    (subst (λ (xs : List SessionItem). IsWorkOf l (session_in l service xs) 1 back) (sym unchanged)
    (subst (λ (w : Work S). IsWorkOf l (session_in l service items) 1 w) (sym as_it_was) is))

-- What a session keeps where nothing happened but that it is served so.
use Rattle.std.proofs.Common.{◌≡◌, ℕ, ◌+◌, ◌≤◌, false, List, [], ◌∷◌, Option, Some, None, refl, sym, ap, subst, ◌∙◌, arith}
use Rattle.language.specs.Lang.{Lang}
use Rattle.message_values.specs.declared.protocol.Protocol.TheVariants.{Scalars}
use Rattle.message_values.specs.Workers.{most_workers}
use Rattle.buffer_rules.specs.Preparing.{Buffer, empty_buffer}
use Rattle.core_rules.specs.declared.event.Event.{Event}
use Rattle.reply_outbox.specs.declared.item.Item.TheVariants.{Opened}
use Rattle.reply_outbox.specs.Waiting.{Log}
use Rattle.session_rules.specs.declared.entry.Entry.{Entry}
use Rattle.session_rules.specs.declared.service.Service.{Service}
use Rattle.session_rules.specs.Services.{free_workers}
use Rattle.session_rules.specs.Session.{Session}
use Rattle.session_rules.specs.Steps.{due}
use Rattle.keeping_rules.specs.session_replies_below.Works.{Work}
use Rattle.keeping_rules.specs.Items.{SessionItem, heard_in}
use Rattle.keeping_rules.specs.Kept.{session_of, IsListed, IsKept}

not_both : {A B : Type 0} (o : Option A) (x : A) → o ≡ None → o ≡ Some x → B
not_both o x none some = let clash : None ≡ Some x = sym none ∙ some in absurd (cc)

enough : (n : ℕ) → n ≡ 1 → 0 + 1 ≤ n
enough n is = omega (arith, is)

-- before anything happened
abbrev pub at_start : Session
at_start = session_of empty_buffer [] Scalars false

listed_so : {S : Type 0} (l : Lang S) (service : Service) → IsListed l service (Opened service ∷ []) [] at_start
listed_so l service = record {
  legal = refl;
  stands = refl;
  waits = record { gone = []; replies = refl; count = refl };
}

pub begun : {S : Type 0} (l : Lang S) (service : Service) (log : Log Service Entry) (b : Buffer) (past : List Event) (jobs : ℕ → Option (Work S))
    → log.items ≡ Opened service ∷ [] → log.waiting ≡ [] → log.free ≡ 1 → b ≡ empty_buffer → past ≡ [] → free_workers service ≤ most_workers
    → ((who : ℕ) → jobs who ≡ None) → IsKept l service log (session_of b past Scalars false) 0 0 jobs
begun l service log b past jobs items waiting free buffer_is past_is workers none =
    subst (λ (x : Buffer). IsKept l service log (session_of x past Scalars false) 0 0 jobs) (sym buffer_is)
    (subst (λ (h : List Event). IsKept l service log (session_of empty_buffer h Scalars false) 0 0
    jobs) (sym past_is) (record {
      listed = subst (λ (is : List SessionItem). IsListed l service is log.waiting at_start) (sym items)
          (subst (λ (ws : List (List ℕ)). IsListed l service (Opened service ∷ []) ws at_start) (sym waiting) (listed_so l service));
      at_rest = ap (λ (is : List SessionItem). due l service (heard_in service is)) items;
      last_is = refl;
      workers = workers;
      jobs_are = record {
        right = λ who work at. not_both (jobs who) work (none who) at;
        all = λ who script worker gone. refl;
        only = λ who work at. not_both (jobs who) work (none who) at;
      };
      holders_are = refl;
      blobs_are = refl;
      room = enough log.free free;
    }))

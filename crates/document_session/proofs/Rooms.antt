-- A session's state with more room, and once an entry was added.
use Rattle.std.proofs.Common.{◌≡◌, ℕ, ◌+◌, ◌≤◌, false, List, [], ◌∷◌, ◌++◌, Option, sym, ap, subst, ◌∙◌, arith}
use Rattle.language.specs.Lang.{Lang}
use Rattle.core_rules.specs.Standing.{has_ended}
use Rattle.reply_outbox.specs.declared.item.Item.TheVariants.{Made}
use Rattle.reply_outbox.specs.Waiting.{Log}
use Rattle.session_rules.specs.declared.entry.Entry.{Entry}
use Rattle.session_rules.specs.declared.service.Service.{Service}
use Rattle.session_rules.specs.Session.{Session}
use Rattle.session_rules.specs.Steps.{due}
use Rattle.keeping_rules.specs.session_replies_below.Works.{Work}
use Rattle.keeping_rules.specs.Items.{SessionItem, heard_in}
use Rattle.keeping_rules.specs.Kept.{IsListed, IsKept}
use Rattle.keeping_rules.specs.States.{State, IsAdded}

-- the state of these parts
abbrev pub state : {S : Type 0} → Log Service Entry → Session → ℕ → ℕ → (ℕ → Option (Work S)) → State S
state log s last holding jobs = record {
  log = log;
  session = s;
  last = last;
  holding = holding;
  jobs = jobs;
}

-- the session and the state that are kept
module _ {S : Type 0} {l : Lang S} {service : Service} {log : Log Service Entry} {s : Session} {last holding : ℕ} {jobs : ℕ → Option (Work S)}
    (k : IsKept l service log s last holding jobs) where
  abbrev pub session_kept : Session
  session_kept = s

  abbrev pub state_kept : State S
  state_kept = state log s last holding jobs

module _ {S : Type 0} (l : Lang S) (service : Service) (old : Log Service Entry) (s : Session) (last holding : ℕ)
    (jobs : ℕ → Option (Work S)) (k : IsKept l service old s last holding jobs) where
  -- room was made, and then the entry was added
  pub added_by : (mid new : Log Service Entry) (added : Entry) (replies : List (List ℕ)) → has_ended s.events ≡ false
      → mid.items ≡ old.items → mid.waiting ≡ old.waiting → holding + 1 + 1 ≤ mid.free → new.items ≡ Made added ∷ mid.items
      → new.waiting ≡ mid.waiting ++ replies → new.free + 1 ≡ mid.free → IsAdded l service (state old s last holding jobs) added replies new
  added_by mid new added replies going items waiting room more told less = record {
    sound = k;
    going = going;
    items = more ∙ ap (λ (is : List SessionItem). Made added ∷ is) items;
    waiting = told ∙ ap (λ (ws : List (List ℕ)). ws ++ replies) waiting;
    free = omega (arith, room, less);
  }

  -- it was added with a reply
  pub replied_by : (mid new : Log Service Entry) (added : Entry) (bytes told : List ℕ) → bytes ≡ told → has_ended s.events ≡ false
      → mid.items ≡ old.items → mid.waiting ≡ old.waiting → holding + 1 + 1 ≤ mid.free → new.items ≡ Made added ∷ mid.items
      → new.waiting ≡ mid.waiting ++ bytes ∷ [] → new.free + 1 ≡ mid.free
      → IsAdded l service (state old s last holding jobs) added (told ∷ []) new
  replied_by mid new added bytes told same going items waiting room more says less = added_by mid new added (told ∷ []) going items waiting room more
      (says ∙ ap (λ (b : List ℕ). mid.waiting ++ b ∷ []) same) less

  -- more room, and the same list
  pub room_kept : (new : Log Service Entry) (s' : Session) → new.items ≡ old.items → new.waiting ≡ old.waiting
      → old.free ≤ new.free → s ≡ s' → IsKept l service new s' last holding jobs
  room_kept new s' items waiting free same =
      subst (λ (t : Session). IsKept l service new t last holding jobs) same (record {
        listed = subst (λ (is : List SessionItem). IsListed l service is new.waiting s) (sym items)
            (subst (λ (ws : List (List ℕ)). IsListed l service old.items ws s) (sym waiting) k.listed);
        at_rest = ap (λ (is : List SessionItem). due l service (heard_in service is)) items ∙ k.at_rest;
        last_is = k.last_is;
        workers = k.workers;
        jobs_are = k.jobs_are;
        holders_are = k.holders_are;
        blobs_are = k.blobs_are;
        room = omega (arith, free, k.room);
      })

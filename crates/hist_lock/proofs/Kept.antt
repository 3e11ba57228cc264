-- A step of one seat keeps the rule.
use Rattle.std.proofs.Common.{◌≡◌, ◌≢◌, ℕ, ◌+◌, ◌%◌, ◌^◌, ◌<◌, ◌≤◌, List, [], ◌∷◌, length, set, sym, refl, ap, ◌∙◌, subst, arith, length-set, get_or, Option}
use Rattle.std.proofs.lemmas.List.{set-get_or}
use mathlib.Core.List.{IsPrefix}
use mathlib.Core.Option as maybe
use mathlib.Core.Option.{some}
use lib.ListN.{get_elem?}
use Rattle.atomic_table.specs.Table.{State}
use Rattle.atomic_table.proofs.Lists.{set_else, set_again}
use Rattle.hist_lock.specs.declared.view.Joined.{Joined}
use Rattle.hist_lock.specs.declared.view.Doing.{Doing}
use Rattle.hist_lock.specs.declared.view.Stage.{Stage}
use Rattle.hist_lock.specs.declared.view.Stage.TheVariants.{Idle, Waits, Holds, Spent}
use Rattle.hist_lock.specs.Entries.{own}
use Rattle.hist_lock.specs.Rule.{Phase, home, out, tickets, AtStage, IsGone, Knows, InPlace, Kept}
use Rattle.hist_lock.specs.Steps.{staged}
use Rattle.hist_lock.proofs.Entries.{prefix_trans}
use Rattle.hist_lock.proofs.Seats.{at_inside, at_same, stays}

pub idle_live : (st : Stage) → st ≡ Idle → st ≢ Spent
idle_live st e f = let h : Idle ≡ Spent = sym e ∙ f in cc

pub holds_live : (st : Stage) (t : ℕ) → st ≡ Holds t → st ≢ Spent
holds_live st t e f = let h : Holds t ≡ Spent = sym e ∙ f in cc

pub waits_live : (st : Stage) (t : ℕ) → st ≡ Waits t → st ≢ Spent
waits_live st t e f = let h : Waits t ≡ Spent = sym e ∙ f in cc

module _ {S E : Type 0} (entries : S → List E) (whose : E → ℕ) (legal : List E → Type 0) where
  -- who is gone stays so, where one seat that isn't spent changes and adds no entry but its own
  pub gone_stays : (log log' : List E) (vs : List (Doing E)) (id : ℕ) (d w : Doing E) → get_elem? vs id ≡ some d → d.stage ≢ Spent → ((c : ℕ) → c ≢ id → own whose c log' ≡ own whose c log)
      → (r : Joined E) → IsGone whose legal log vs r → IsGone whose legal log' (set vs id w) r
  gone_stays log log' vs id d w at live same r g =
      let other : r.caller ≢ id = λ e. live (ap (λ (x : Doing E). x.stage) (at_same vs id r.caller d g.spent.0 (sym e) at g.spent.1) ∙ g.spent.2) in record {
        spent = (g.spent.0, set_else vs id r.caller w other ∙ g.spent.1, g.spent.2);
        mine = same r.caller other ∙ g.mine;
      }

  pub knows_stays : (log log' : List E) (vs : List (Doing E)) (id : ℕ) (d w : Doing E) → get_elem? vs id ≡ some d → d.stage ≢ Spent → IsPrefix log log' → ((c : ℕ) → c ≢ id → own whose c log' ≡ own whose c log)
      → (j : ℕ) (e : Doing E) → j ≢ id → Knows whose legal log vs j e → Knows whose legal log' (set vs id w) j e
  knows_stays log log' vs id d w at live grows same j e other k = record {
    caller = k.caller;
    seen = (prefix_trans e.view.seen log log' k.seen.0 grows, k.seen.1);
    told = (prefix_trans e.told log log' k.told.0 grows, k.told.1);
    mine = same j other ∙ k.mine;
    joined = λ i x l. gone_stays log log' vs id d w at live same _ (k.joined i x l);
    made = λ z. length-set vs id w ∙ k.made z;
  }

  -- a step that changes nothing
  pub unmoved : (s : State (Option S) (Doing E)) → Kept entries whose legal s → (i id : ℕ) (d : Doing E) → get_elem? s.views id ≡ some d
      → Kept entries whose legal record { words = set s.words i (get_or s.words i 0); homes = s.homes; views = set s.views id d }
  unmoved s k i id d at = subst (λ (x : List ℕ × List (Doing E)). Kept entries whose legal record { words = x.0; homes = s.homes; views = x.1 })
      (λ j. (sym (set-get_or s.words i 0) j, sym (set_again s.views id d at) j)) k

  -- a step of the seat id, from d to w
  pub moved : (s : State (Option S) (Doing E)) (k : Kept entries whose legal s) (id : ℕ) (d w : Doing E) → get_elem? s.views id ≡ some d → d.stage ≢ Spent
      → (words' : List ℕ) (homes' : List (maybe.Option (Option S))) (log' : List E) (drawn' served' : ℕ) (owner' : ℕ → ℕ) (phase' : Phase)
      → words' ≡ (drawn' % 2 ^ 64) ∷ (served' % 2 ^ 64) ∷ length log' ∷ [] → length log' < 2 ^ 64 → legal log' → IsPrefix k.log log' → ((c : ℕ) → c ≢ id → own whose c log' ≡ own whose c k.log)
      → served' + tickets (set s.views id w) ≡ drawn' → InPlace entries homes' (set s.views id w) log' served' phase'
      → AtStage log' drawn' served' owner' phase' id w.view.seen w.stage
      → ((j : ℕ) (e : Doing E) → j ≢ id → get_elem? s.views j ≡ some e → AtStage k.log k.drawn k.served k.owner k.phase j e.view.seen e.stage → AtStage log' drawn' served' owner' phase' j e.view.seen e.stage)
      → (w.stage ≢ Spent → Knows whose legal log' (set s.views id w) id w)
      → Kept entries whose legal record { words = words'; homes = homes'; views = set s.views id w }
  moved s k id d w at live words' homes' log' drawn' served' owner' phase' words short is_legal grows same counted placed here others knows = record {
    log = log';
    drawn = drawn';
    served = served';
    owner = owner';
    phase = phase';
    words = words;
    short = short;
    legal_log = is_legal;
    few = subst (λ (n : ℕ). n ≤ 2 ^ 32) (sym (length-set s.views id w)) k.few;
    counted = counted;
    placed = placed;
    staged = stays (λ j e. AtStage log' drawn' served' owner' phase' j e.view.seen e.stage) s.views id w here (λ j e n a. others j e n a (k.staged j e a));
    known = stays (λ j e. e.stage ≢ Spent → Knows whose legal log' (set s.views id w) j e) s.views id w knows (λ j e n a z. knows_stays k.log log' s.views id d w at live grows same j e n (k.known j e a z));
    no_other = λ c l. let l' : length s.views ≤ c = subst (λ (n : ℕ). n ≤ c) (length-set s.views id w) l in let i = at_inside s.views id d at in same c (λ e. omega arith) ∙ k.no_other c l';
  }

  -- what a seat knows, where only its stage changes
  pub restaged : (s : State (Option S) (Doing E)) (k : Kept entries whose legal s) (id : ℕ) (d : Doing E) (st : Stage) → get_elem? s.views id ≡ some d → d.stage ≢ Spent
      → Knows whose legal k.log (set s.views id (staged d st)) id (staged d st)
  restaged s k id d st at live = let o = k.known id d at live in record {
    caller = o.caller;
    seen = o.seen;
    told = o.told;
    mine = o.mine;
    joined = λ i x l. gone_stays k.log k.log s.views id d (staged d st) at live (λ c n. refl) _ (o.joined i x l);
    made = λ z. length-set s.views id (staged d st) ∙ o.made z;
  }

  -- the state's place, where a seat that hasn't the turn changes
  pub same_place : (homes : List (maybe.Option (Option S))) (vs : List (Doing E)) (log : List E) (served : ℕ) (id : ℕ) (d w : Doing E) (p : Phase) → get_elem? vs id ≡ some d → d.stage ≢ Holds served
      → InPlace entries homes vs log served p → InPlace entries homes (set vs id w) log served p
  same_place homes vs log served id d w home at waits h = h
  same_place homes vs log served id d w (out j) at waits h =
      let other : j ≢ id = λ e. waits (ap (λ (x : Doing E). x.stage) (at_same vs id j d h.0 (sym e) at h.1) ∙ h.2) in
      (h.0, set_else vs id j w other ∙ h.1, h.2)

  -- the same history and queue, with other seats
  pub reseated : (s : State (Option S) (Doing E)) (k : Kept entries whose legal s) (vs : List (Doing E))
      → length vs ≤ 2 ^ 32 → k.served + tickets vs ≡ k.drawn → InPlace entries s.homes vs k.log k.served k.phase
      → ((j : ℕ) (d : Doing E) → get_elem? vs j ≡ some d → AtStage k.log k.drawn k.served k.owner k.phase j d.view.seen d.stage)
      → ((j : ℕ) (d : Doing E) → get_elem? vs j ≡ some d → d.stage ≢ Spent → Knows whose legal k.log vs j d)
      → ((c : ℕ) → length vs ≤ c → own whose c k.log ≡ [])
      → Kept entries whose legal record { words = s.words; homes = s.homes; views = vs }
  reseated s k vs few counted placed at_stages known no_other = record {
    log = k.log;
    drawn = k.drawn;
    served = k.served;
    owner = k.owner;
    phase = k.phase;
    words = k.words;
    short = k.short;
    legal_log = k.legal_log;
    few = few;
    counted = counted;
    placed = placed;
    staged = at_stages;
    known = known;
    no_other = no_other;
  }

-- The rule at the start and at the end.
use Rattle.std.proofs.Common.{◌≡◌, ℕ, zero, suc, ◌^◌, ◌<◌, ◌≤◌, List, [], ◌∷◌, cond, length, sym, refl, ap, ◌∙◌, subst, arith, get_or, Option, Some, ne_eqb, eq-eqb}
use Rattle.std.proofs.lemmas.List.Elements.{All-nil, All-head, All-tail}
use Rattle.std.specs.List.{All, Contains}
use mathlib.Core.Logic.{dite}
use native.Mathlib.Decide.{ℕ_discrete, dec_le}
use mathlib.Core.List.{IsPrefix}
use mathlib.Core.Option.{some, some-injective, some-ne-none}
use lib.ListN.{get_elem?}
use Rattle.atomic_table.specs.Table.{State, opening, Final, Seen}
use Rattle.hist_lock.specs.declared.view.View.{View}
use Rattle.hist_lock.specs.declared.view.Joined.{Joined}
use Rattle.hist_lock.specs.declared.view.Doing.{Doing}
use Rattle.hist_lock.specs.declared.view.Stage.TheVariants.{Idle, Holds, Spent}
use Rattle.hist_lock.specs.Entries.{own}
use Rattle.hist_lock.specs.Known.{Fits}
use Rattle.hist_lock.specs.Rule.{Phase, home, out, first_seat, AtStage, IsGone, Knows, InPlace, Kept}
use Rattle.hist_lock.specs.Callers.{callers, HasTheirs, HasNoOther}
use Rattle.hist_lock.proofs.Entries.{prefix_refl}
use Rattle.hist_lock.proofs.Seats.{at_inside, at_same}
use Rattle.hist_lock.proofs.Kept.{idle_live}

module _ {E : Type 0} (whose : E → ℕ) where
  own_all : (log : List E) → All (λ e. whose e ≡ 0) log → own whose 0 log ≡ log
  own_all [] a = refl
  own_all (e ∷ log) a = let h : whose e ≡ 0 = All-head (λ e. whose e ≡ 0) e log a in
      ap (λ b. cond b (e ∷ own whose 0 log) (own whose 0 log)) (eq-eqb (whose e) 0 h) ∙ ap (λ l. e ∷ l) (own_all log (All-tail (λ e. whose e ≡ 0) e log a))

  own_none : (c : ℕ) (log : List E) → 0 < c → All (λ e. whose e ≡ 0) log → own whose c log ≡ []
  own_none c [] l a = refl
  own_none c (e ∷ log) l a = let h : whose e ≡ 0 = All-head (λ e. whose e ≡ 0) e log a in
      ap (λ b. cond b (e ∷ own whose c log) (own whose c log)) (ne_eqb (whose e) c (λ f. omega arith)) ∙ own_none c log l (All-tail (λ e. whose e ≡ 0) e log a)

-- the record of a caller that was joined
record_at : {E : Type 0} (P : Joined E → Type 0) (js : List (Joined E)) (c k : ℕ) → All P js → k < length (callers js) → get_or (callers js) k c ≡ c → (r : Joined E) × (r.caller ≡ c) × P r
record_at P [] c k a l e = absurd (omega arith)
record_at P (r ∷ js) c zero a l e = (r, e, All-head P r js a)
record_at P (r ∷ js) c (suc k) a l e = record_at P js c k (All-tail P r js a) (omega arith) e

-- what holds of the one seat at the start
only_seat : {A : Type 0} (K : ℕ → A → Type 0) (a : A) → K 0 a → (j : ℕ) (d : A) → get_elem? (a ∷ []) j ≡ some d → K j d
only_seat K a k zero d at = subst (K 0) (some-injective a d at) k
only_seat K a k (suc j) d at = absurd (some-ne-none d (sym at))

module _ {S E : Type 0} (entries : S → List E) (whose : E → ℕ) (legal : List E → Type 0) where
  abbrev Rule : State (Option S) (Doing E) → Type 0
  Rule = Kept entries whose legal

  -- what is so of the state at the end
  pub record Ends (v : View E) (x : S) : Type 0 where
    pub fits : Fits entries whose legal v x
    pub theirs : HasTheirs whose v (entries x)
    pub no_other : HasNoOther whose v (entries x)

  pub opens : (x : S) (n : ℕ) → n ≡ length (entries x) → n < 2 ^ 64 → legal (entries x) → All (λ e. whose e ≡ 0) (entries x) → Rule (opening (0 ∷ 0 ∷ n ∷ []) (Some x ∷ []) (first_seat (entries x)))
  opens x n long short is_legal first = let log : List E = entries x in record {
    log = log;
    drawn = 0;
    served = 0;
    owner = λ _. 0;
    phase = home;
    words = ap (λ z. 0 ∷ 0 ∷ z ∷ []) long;
    short = subst (λ z. z < 2 ^ 64) long short;
    legal_log = is_legal;
    few = omega arith;
    counted = refl;
    placed = (x, refl, refl);
    staged = only_seat (λ j d. AtStage log 0 0 (λ _. 0) home j d.view.seen d.stage) (first_seat log) tt;
    known = λ j d at lives. only_seat (Knows whose legal log (first_seat log ∷ [])) (first_seat log) record {
      caller = refl;
      seen = (prefix_refl log, is_legal);
      told = (prefix_refl log, is_legal);
      mine = own_all whose log first;
      joined = All-nil (IsGone whose legal log (first_seat log ∷ []));
      made = λ _. refl;
    } j d at;
    no_other = λ c l. own_none whose c log (omega arith) first;
  }

  -- a caller that has ended hasn't the turn
  gone_waits : (log : List E) (vs : List (Doing E)) (r : Joined E) (j t : ℕ) (e : Doing E) → IsGone whose legal log vs r → r.caller ≡ j → get_elem? vs j ≡ some e → e.stage ≡ Holds t → ⊥
  gone_waits log vs r j t e g is there has = let same = at_same vs r.caller j g.spent.0 e is g.spent.1 there in
      let h : Spent ≡ Holds t = sym g.spent.2 ∙ (ap (λ (x : Doing E). x.stage) same ∙ has) in cc

  module _ (s : State (Option S) (Doing E)) (k : Rule s) (id : ℕ) (d : Doing E) (at : get_elem? s.views id ≡ some d) (idle : d.stage ≡ Idle) (first : d.view.caller ≡ 0)
      (all : (c : ℕ) → 0 < c → c ≤ d.view.made → Contains (callers d.view.joined) c) where
    -- no seat has the turn
    none_out : (j : ℕ) (e : Doing E) → get_elem? s.views j ≡ some e → e.stage ≡ Holds k.served → ⊥
    none_out j e there has = let o = k.known id d at (idle_live d.stage idle) in let is_first : id ≡ 0 = sym o.caller ∙ first in
        let inside = at_inside s.views j e there in let many = o.made is_first in
        dite (ℕ_discrete j 0)
        (λ z. let same : d ≡ e = at_same s.views id j d e (is_first ∙ sym z) at there in
        let h : Idle ≡ Holds k.served = sym idle ∙ (ap (λ (x : Doing E). x.stage) same ∙ has) in cc)
        (λ n. let c = all j (omega arith) (omega arith) in let r = record_at (IsGone whose legal k.log s.views) d.view.joined j c.0 o.joined c.1 c.2 in
        gone_waits k.log s.views r.0 j k.served e r.2 r.1 there has)

    back_home : (p : Phase) → InPlace entries s.homes s.views k.log k.served p → (x : S) × (get_elem? s.homes 0 ≡ some (some (Some x))) × (entries x ≡ k.log)
    back_home home h = h
    back_home (out j) h = absurd (none_out j h.0 h.1 h.2)

    ends : (x : S) → entries x ≡ k.log → Ends d.view x
    ends x is = let o = k.known id d at (idle_live d.stage idle) in let is_first : id ≡ 0 = sym o.caller ∙ first in let many = o.made is_first in record {
      fits = record {
        is_legal = subst legal (sym is) k.legal_log;
        seen = subst (IsPrefix d.view.seen) (sym is) o.seen.0;
        mine = ap (λ c. own whose c (entries x)) o.caller ∙ (ap (own whose id) is ∙ o.mine);
      };
      theirs = λ i r l. ap (own whose _) is ∙ (o.joined i r l).mine;
      no_other = λ c n absent. ap (own whose c) is ∙ dite (dec_le c d.view.made) (λ (l : c ≤ d.view.made). absurd (absent (all c (omega arith) l))) (λ l. k.no_other c (omega arith));
    }

  pub closes : (id : ℕ) (d : Doing E) (ws : List ℕ) (xs : List (Option S)) → d.stage ≡ Idle → d.view.caller ≡ 0 → ((c : ℕ) → 0 < c → c ≤ d.view.made → Contains (callers d.view.joined) c)
      → Final (Seen Rule id d) ws xs → (x : S) × (get_elem? xs 0 ≡ some (Some x)) × Ends d.view x
  closes id d ws xs idle first all f = let s = f.0 in let k = f.1.0 in let at = f.1.1 in let h = back_home s k id d at idle first all k.phase k.placed in
      (h.0, f.4 0 (Some h.0) h.1, ends s k id d at idle first all h.0 h.2)

  -- the same, at what the slot then gives
  pub closed : (id : ℕ) (d : Doing E) (ws : List ℕ) (xs : List (Option S)) (r : Option S) → d.stage ≡ Idle → d.view.caller ≡ 0 → ((c : ℕ) → 0 < c → c ≤ d.view.made → Contains (callers d.view.joined) c)
      → Final (Seen Rule id d) ws xs → get_elem? xs 0 ≡ some r → (x : S) × (r ≡ Some x) × Ends d.view x
  closed id d ws xs r idle first all f found = let h = closes id d ws xs idle first all f in (h.0, some-injective r (Some h.0) (sym found ∙ h.1), h.2)

  pub closed_at : (id : ℕ) (d : Doing E) (ws : List ℕ) (xs : List (Option S)) (x : S) → d.stage ≡ Idle → d.view.caller ≡ 0 → ((c : ℕ) → 0 < c → c ≤ d.view.made → Contains (callers d.view.joined) c)
      → Final (Seen Rule id d) ws xs → get_elem? xs 0 ≡ some (Some x) → Ends d.view x
  closed_at id d ws xs x idle first all f found = let h = closed id d ws xs (Some x) idle first all f found in let e = h.1 in let same : h.0 ≡ x = cc in subst (Ends d.view) same h.2

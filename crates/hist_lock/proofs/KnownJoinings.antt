-- The callers that were joined.
use Rattle.std.proofs.Common.{◌≡◌, ℕ, ◌+◌, List, ◌++◌, sym, refl, ap, ◌∙◌, subst, arith}
use mathlib.Core.Logic.{dite}
use native.Mathlib.Decide.{ℕ_discrete}
use Rattle.std.proofs.lemmas.List.{map-append}
use Rattle.std.proofs.lemmas.List.Elements.{Contains-append_left, Contains-append_right}
use Rattle.std.specs.List.{Contains}
use Rattle.hist_lock.specs.declared.view.View.{View}
use Rattle.hist_lock.specs.declared.view.Joined.{Joined}
use Rattle.hist_lock.specs.Callers.{callers, brings, HasJoined, HasJoinedUpTo, KeepsJoined}

module _ {E : Type 0} where
  pub callers-append : (js ks : List (Joined E)) → callers (js ++ ks) ≡ callers js ++ callers ks
  callers-append js ks = map-append (λ (r : Joined E). r.caller) js ks

  -- a join keeps the callers that were joined before
  pub joined_before : (js : List (Joined E)) (u : View E) (c : ℕ) → Contains (callers js) c → Contains (callers (js ++ brings u)) c
  joined_before js u c h = subst (λ (cs : List ℕ). Contains cs c) (sym (callers-append js (brings u))) (Contains-append_left (callers js) (callers (brings u)) c h)

  -- and adds the caller of the other pass
  pub joined_now : (js : List (Joined E)) (u : View E) → Contains (callers (js ++ brings u)) u.caller
  joined_now js u = subst (λ (cs : List ℕ). Contains cs u.caller) (sym (callers-append js (brings u))) (Contains-append_right (callers js) (callers (brings u)) u.caller (0, omega arith, refl))

  module _ (v u w : View E) (joined : HasJoined v u w) where
    now_joined : w.joined ≡ v.joined ++ brings u
    now_joined = ap (λ (z : View E). z.joined) joined

    pub keeps_joined : KeepsJoined v w
    keeps_joined c h = subst (λ (js : List (Joined E)). Contains (callers js) c) (sym now_joined) (joined_before v.joined u c h)

    pub joined_last : Contains (callers w.joined) u.caller
    joined_last = subst (λ (js : List (Joined E)). Contains (callers js) u.caller) (sym now_joined) (joined_now v.joined u)

    -- where the callers above low + 1 were joined, and then that of low + 1
    pub joined_from : (low high : ℕ) → u.caller ≡ low + 1 → HasJoinedUpTo (low + 1) high v → HasJoinedUpTo low high w
    joined_from low high is before c above below = dite (ℕ_discrete c (low + 1))
        (λ e. subst (λ (k : ℕ). Contains (callers w.joined) k) (is ∙ sym e) joined_last)
        (λ n. keeps_joined c (before c (omega arith) below))

-- What is ready where a task waits no more for an execution.
use Rattle.std.proofs.Common.{◌≡◌, ◌≢◌, ℕ, zero, suc, ◌+◌, ◌≤◌, ◌<◌, Bool, true, false, not, ◌&&◌, List, [], ◌∷◌, length, get_or, option_map, Option, Some, None, IsSome, sym, ◌∙◌, ap, refl, subst, eqb, arith}
use Rattle.std.specs.List.{All, AllPairs}
use Rattle.std.specs.Map.{lookup}
use Rattle.std.specs.Option.{option_map_or}
use Rattle.pide_base.specs.declared.part.Part.{Part}
use Rattle.pide_base.specs.declared.part.PartKind.{PartKind}
use Rattle.core_tables.specs.declared.priority.Priority.TheVariants as priority
use Rattle.core_tables.specs.declared.task.Standing.{Standing}
use Rattle.text_words.specs.Members.{has}
use Rattle.core_tables.specs.Tasks.{is_ready}
use Rattle.core_tables.specs.Ready.{Standings, AreReady, IsPlaceFor, with_standing, priority_of, comes_first}
use Rattle.core_tables.specs.Changes.{without, kind_if_ready, released}
use Rattle.core_tables.proofs.KeptAlike.{ready_alike}
use Rattle.core_tables.proofs.Links.{few_parts}
use Rattle.core_tables.proofs.PutIn.{put_in}
use Rattle.core_tables.proofs.ReadyLemmas.{ready_put_in}
use Rattle.core_tables.proofs.Unready.{IsUnready, unready_changed, other_exec}
use Rattle.core_tables.proofs.Sets.{removed_none}
use Rattle.core_tables.proofs.KnownOrder.{not_itself}

-- a task that waits for something is not ready
pub waits_unready : (s : Standing) (x : ℕ) → has s.inputs x ≡ true → is_ready s ≡ false
waits_unready s x waits = by s.held s.inputs waits
  where
    by : (h : Bool) (xs : List ℕ) → has xs x ≡ true → (not h && eqb (length xs) 0) ≡ false
    by h [] none = cc
    by true (y ∷ ys) some = refl
    by false (y ∷ ys) some = grind arith

-- the standing that is found there
found_unready : (s : Standing) (x : ℕ) → has s.inputs x ≡ true → IsUnready (Some s)
found_unready s x waits r is =
    let P : Standing → Type 0 = λ t. is_ready t ≡ false in
    subst P (ap (λ o. option_map_or (λ t. t) o s) is) (waits_unready s x waits)

-- a kind is told of what is ready alone
pub told_ready : (t : Standing) (kind : PartKind) → kind_if_ready t ≡ Some kind → (is_ready t ≡ true) × (t.kind ≡ kind)
told_ready t kind is = by (is_ready t) refl
  where
    by : (b : Bool) → is_ready t ≡ b → (is_ready t ≡ true) × (t.kind ≡ kind)
    by true ready = (ready, ap (λ o. option_map_or (λ k. k) o kind) (rw ready at is))
    by false not = let clash : None ≡ Some kind = rw not at is in cc

-- and nothing of what is not
pub told_unready : (t : Standing) → kind_if_ready t ≡ None → is_ready t ≡ false
told_unready t is = by (is_ready t) refl
  where
    by : (b : Bool) → is_ready t ≡ b → is_ready t ≡ false
    by true ready = let clash : Some t.kind ≡ None = rw ready at is in cc
    by false not = not

-- it was not ready, and is
pub met_some : (all : Standings) (parts : List Part) (w x at : ℕ) (kind : PartKind)
    → released x (all w) ≡ Some kind → IsPlaceFor all (priority_of all w) w parts at → AreReady all parts
    → AreReady (with_standing all w (option_map (without x) (all w))) (put_in parts at (record { exec = w; kind = kind }))
met_some all parts w x at kind is place r = go (all w) refl is
  where
    go : (o : Option Standing) → all w ≡ o → released x o ≡ Some kind
        → AreReady (with_standing all w (option_map (without x) (all w))) (put_in parts at (record { exec = w; kind = kind }))
    go None e is = cc
    go (Some s) e is = by (has s.inputs x) refl
      where
        by : (b : Bool) → has s.inputs x ≡ b
            → AreReady (with_standing all w (option_map (without x) (all w))) (put_in parts at (record { exec = w; kind = kind }))
        by false not = let clash : None ≡ Some kind = rw not at is in cc
        by true waits =
            let told = told_ready (without x s) kind (rw waits at is) in
            let P : Option Standing → Type 0 = λ o. IsUnready o in
            let Q : Option Standing → Type 0 = λ o. IsPlaceFor all (option_map_or (λ t. t.priority) o priority.Fork) w parts at in
            let R : Option Standing → Type 0 = λ o. AreReady (with_standing all w (option_map (without x) o)) (put_in parts at (record { exec = w; kind = kind })) in
            let S : PartKind → Type 0 = λ k. AreReady (with_standing all w (Some (without x s))) (put_in parts at (record { exec = w; kind = k })) in
            subst R (sym e) (subst S told.1 (ready_put_in all parts w (without x s) at
            (subst P (sym e) (found_unready s x waits)) told.0 (subst Q e place) r))

-- it is not ready now
pub met_none : (all : Standings) (parts : List Part) (w x : ℕ) → released x (all w) ≡ None → AreReady all parts
    → AreReady (with_standing all w (option_map (without x) (all w))) parts
met_none all parts w x is r = go (all w) refl is
  where
    same : option_map (without x) (all w) ≡ all w → AreReady (with_standing all w (option_map (without x) (all w))) parts
    same e = ready_alike all (with_standing all w (option_map (without x) (all w))) parts (λ f. stays f (eqb w f) refl) r
      where
        stays : (f : ℕ) (b : Bool) → eqb w f ≡ b → with_standing all w (option_map (without x) (all w)) f ≡ all f
        stays f true is = let w_is : w ≡ f = grind arith in rw is (e ∙ ap all w_is)
        stays f false is = rw is refl

    go : (o : Option Standing) → all w ≡ o → released x o ≡ None
        → AreReady (with_standing all w (option_map (without x) (all w))) parts
    go None e is = same (rw e refl)
    go (Some s) e is = by (has s.inputs x) refl
      where
        by : (b : Bool) → has s.inputs x ≡ b → AreReady (with_standing all w (option_map (without x) (all w))) parts
        by false not =
            let kept : without x s ≡ s = λ i. record s { inputs = removed_none s.inputs x not i } in
            same (rw e (ap Some kept))
        by true waits =
            let P : Option Standing → Type 0 = λ o. IsUnready o in
            let not : is_ready (without x s) ≡ false = told_unready (without x s) (rw waits at is) in
            let new : IsUnready (Some (without x s)) = λ t one. (let Q : Standing → Type 0 = λ u. is_ready u ≡ false in
            subst Q (ap (λ o. option_map_or (λ u. u) o (without x s)) one) not) in
            let R : Option Standing → Type 0 = λ o. AreReady (with_standing all w (option_map (without x) o)) parts in
            subst R (sym e) (unready_changed all parts w (Some (without x s)) (subst P (sym e) (found_unready s x waits)) new r)

-- there is one more task than ready parts
pub one_more : {X : Type 0} (all : Standings) (parts : List Part) (xs : List (ℕ × X)) (w x : ℕ) (kind : PartKind)
    → ((e : ℕ) → IsSome (all e) → IsSome (lookup (eqb e) xs))
    → released x (all w) ≡ Some kind → AreReady all parts → length parts + 1 ≤ length xs
one_more all parts xs w x kind found is r =
    let few = few_parts (record { exec = w; kind = kind } ∷ parts) xs apart each in omega (arith, few)
  where
    waits : (o : Option Standing) → released x o ≡ Some kind → IsUnready o × IsSome o
    waits None is = cc
    waits (Some s) is = by (has s.inputs x) refl
      where
        by : (b : Bool) → has s.inputs x ≡ b → IsUnready (Some s) × IsSome (Some s)
        by true yes' = (found_unready s x yes', refl)
        by false not = let clash : None ≡ Some kind = rw not at is in cc

    others : (k : ℕ) (d : Part) → k < length parts → (get_or parts k d).exec ≢ w
    others k d low = other_exec all w (get_or parts k d) (waits (all w) is).0 (r.sound k d low)

    apart : AllPairs (λ p q. p.exec ≢ q.exec) (record { exec = w; kind = kind } ∷ parts)
    apart zero zero d low high _ = absurd (omega (arith, low))
    apart zero (suc j) d low high same = others j d (omega (arith, high)) (sym same)
    apart (suc i) zero d low high _ = absurd (omega (arith, low))
    apart (suc i) (suc j) d low high same =
        let first : comes_first all (get_or parts j d).exec (get_or parts i d).exec ≡ true = r.order i j d (omega (arith, low)) (omega (arith, high)) in
        let itself : comes_first all (get_or parts j d).exec (get_or parts j d).exec ≡ true = rw same at first in
        let clash : true ≡ false = sym itself ∙ not_itself (priority_of all (get_or parts j d).exec) (get_or parts j d).exec in cc

    each : All (λ p. IsSome (lookup (eqb p.exec) xs)) (record { exec = w; kind = kind } ∷ parts)
    each zero d low = found w (waits (all w) is).1
    each (suc k) d low = let s = r.sound k d (omega (arith, low)) in found (get_or parts k d).exec (rw s.1 refl)

-- From place to place in a stream.
use Rattle.std.proofs.Common.{◌≡◌, ℕ, ◌+◌, ◌^◌, ◌<◌, ◌≤◌, List, [], ◌∷◌, ◌++◌, length, refl, ap, sym, ◌∙◌, arith, append_assoc, subst, take, drop}
use Rattle.std.proofs.lemmas.List.{length-append, append-nil, length-take-le, take-append-drop}
use Rattle.byte_message.specs.Stream.{IsSpelling, AreSpelled, told_place}
use Rattle.byte_message.specs.Kept.{Reached}
use Rattle.byte_message.proofs.KnownSpelled.{spelled-append}

pub reached-same : (ms : List (List (List ℕ))) (at : ℕ) (bytes : List ℕ) → at < 2 ^ 64 → Reached ms at bytes ms at bytes
reached-same ms at bytes h = record { front = []; more = []; whole = refl; spelled = refl; made = sym (append-nil ms); place = omega arith }

pub reached-one : (ms : List (List (List ℕ))) (at : ℕ) (front rest : List ℕ) (m : List (List ℕ)) → IsSpelling front m → Reached ms at (front ++ rest) (ms ++ m ∷ []) (told_place (at + length front)) rest
reached-one ms at front rest m one = record { front = front; more = m ∷ []; whole = refl; spelled = (front, [], sym (append-nil front), one, refl); made = refl; place = refl }

pub reached-then : {ms ns os : List (List (List ℕ))} {at to on : ℕ} {a b c : List ℕ} → Reached ms at a ns to b → Reached ns to b os on c → Reached ms at a os on c
reached-then {ms} {at = at} {to = to} {on = on} {c = c} f g =
    let l = length-append f.front g.front in
    let e = f.place in
    let d = g.place in
    record {
      front = f.front ++ g.front;
      more = f.more ++ g.more;
      whole = f.whole ∙ ap (λ x. f.front ++ x) g.whole ∙ sym (append_assoc f.front g.front c);
      spelled = spelled-append f.front g.front f.more g.more f.spelled g.spelled;
      made = g.made ∙ ap (λ x. x ++ g.more) f.made ∙ append_assoc ms f.more g.more;
      place = omega arith;
    }

-- more bytes follow
pub reached-longer : {ms ns : List (List (List ℕ))} {at to : ℕ} {a b : List ℕ} (x : List ℕ) → Reached ms at a ns to b → Reached ms at (a ++ x) ns to (b ++ x)
reached-longer {b = b} x f = record { front = f.front; more = f.more; whole = ap (λ y. y ++ x) f.whole ∙ append_assoc f.front b x; spelled = f.spelled; made = f.made; place = f.place }

-- more messages lie before
pub reached-after : {ms ns : List (List (List ℕ))} {at to : ℕ} {a b : List ℕ} (os : List (List (List ℕ))) → Reached ms at a ns to b → Reached (os ++ ms) at a (os ++ ns) to b
reached-after {ms} os f = record { front = f.front; more = f.more; whole = f.whole; spelled = f.spelled; made = ap (λ x. os ++ x) f.made ∙ sym (append_assoc os ms f.more); place = f.place }

-- one message more
pub reached-step : {ms ns os : List (List (List ℕ))} {at to on : ℕ} {a r : List ℕ} (m : List (List ℕ)) (used : ℕ)
    → Reached ms at a ns to r → used ≤ length r → IsSpelling (take used r) m → os ≡ ns ++ m ∷ [] → on ≡ told_place (to + used) → Reached ms at a os on (drop used r)
reached-step {ms} {ns} {os} {at} {to} {on} {a} {r} m used before within one made place =
    let t = length-take-le used r within in
    let w = take-append-drop used r in
    let step = reached-one ns to (take used r) (drop used r) m one in
    let from : Reached ns to r (ns ++ m ∷ []) (told_place (to + length (take used r)))
    (drop used r) = rw w at step in
    let named : Reached ns to r os (told_place (to + length (take used r))) (drop used r) = rw
    (← made) at from in
    let placed : told_place (to + length (take used r)) ≡ on = omega arith in
    reached-then before (rw placed at named)

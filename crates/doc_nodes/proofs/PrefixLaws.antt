-- The wanted prefix in the subject's words.
use Rattle.std.proofs.Common.{◌≡◌, ℕ, zero, suc, ◌+◌, ◌<◌, ◌≤◌, Bool, true, false, List, [], ◌∷◌, length, Some, refl, ap, arith}
use Rattle.std.proofs.lemmas.Bool.{false≢true}
use Rattle.doc_nodes.specs.declared.node.Entry.{Entry}
use Rattle.doc_nodes.specs.Prefix.{up_to, wanted_prefix, IsVisible, IsWantedPrefix}

up_within : (v : Bool) (n m : ℕ) → n ≤ m → up_to v n ≤ m + 1
up_within true zero m le = omega arith
up_within false zero m le = omega arith
up_within v (suc n) m le = omega arith

first_within : (v : Bool) (n : ℕ) → v ≡ true → 0 < up_to v n
first_within true zero e = omega arith
first_within false zero e = absurd (false≢true e)
first_within v (suc n) e = omega arith

later_within : (v : Bool) (n j : ℕ) → j < n → suc j < up_to v n
later_within v zero j lt = absurd (omega arith)
later_within v (suc n) j lt = omega arith

first_last : (v : Bool) (n : ℕ) → up_to v n ≡ 1 → v ≡ true
first_last true n e = refl
first_last false zero e = absurd (omega arith)
first_last false (suc n) e = absurd (omega arith)

later_last : (v : Bool) (n j : ℕ) → up_to v n ≡ suc j + 1 → n ≡ j + 1
later_last true zero j e = absurd (omega arith)
later_last false zero j e = absurd (omega arith)
later_last v (suc n) j e = omega arith

all_cons : (e : Entry) (es : List Entry) → IsWantedPrefix es (wanted_prefix es) → (k : ℕ) → IsVisible (e ∷ es) k → k < wanted_prefix (e ∷ es)
all_cons e es p zero seen = let visible : e.visible ≡ true = cc in first_within e.visible (wanted_prefix es) visible
all_cons e es p (suc j) seen = later_within e.visible (wanted_prefix es) j (p.all j seen)

last_cons : (e : Entry) (es : List Entry) → IsWantedPrefix es (wanted_prefix es) → (k : ℕ) → wanted_prefix (e ∷ es) ≡ k + 1 → IsVisible (e ∷ es) k
last_cons e es p zero is = ap (λ v. Some v) (first_last e.visible (wanted_prefix es) is)
last_cons e es p (suc j) is = p.last j (later_last e.visible (wanted_prefix es) j is)

-- the function's value is one
pub prefix_is : (es : List Entry) → IsWantedPrefix es (wanted_prefix es)
prefix_is [] = record { within = omega arith; all = λ k v. absurd (cc); last = λ k e. absurd (omega arith) }
prefix_is (e ∷ es) =
    let p = prefix_is es in
    record {
      within = omega (arith, up_within e.visible (wanted_prefix es) (length es) p.within);
      all = all_cons e es p;
      last = last_cons e es p;
    }

ends_no_earlier : (es : List Entry) (m n : ℕ) → IsWantedPrefix es m → IsWantedPrefix es n → n ≤ m
ends_no_earlier es m zero a b = omega arith
ends_no_earlier es m (suc k) a b = let next : suc k ≡ k + 1 = omega arith in omega (arith, a.all k (b.last k next))

-- and it is the only one
pub prefix_only : (es : List Entry) (m n : ℕ) → IsWantedPrefix es m → IsWantedPrefix es n → m ≡ n
prefix_only es m n a b = omega (arith, ends_no_earlier es m n a b, ends_no_earlier es n m b a)

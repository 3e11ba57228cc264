-- Steps that found something.
use Rattle.std.proofs.Common.{◌≡◌, Bool, true, false, if◌then◌else◌, List, [], ◌∷◌, map, Option, Some, None, refl, ap, ◌∙◌}
use Rattle.message_values.specs.Each.{◌>>=◌, each}

-- two steps found something, so each did
pub stepped : {A B : Type 0} (o : Option A) (f : A → Option B) (y : B) → (o >>= f) ≡ Some y → (x : A) × (o ≡ Some x) × (f x ≡ Some y)
stepped None f y e = absurd (cc)
stepped (Some x) f y e = (x, refl, e)

-- a test was passed, and what stands behind it is what was found
pub tested : {A : Type 0} (b : Bool) (o : Option A) (y : A) → (if b then o else None) ≡ Some y → (b ≡ true) × (o ≡ Some y)
tested true o y e = (refl, e)
tested false o y e = absurd (cc)

-- what stands behind a test that is passed
pub passed : {A : Type 0} (b : Bool) (one other : A) → b ≡ true → (if b then one else other) ≡ one
passed true one other e = refl
passed false one other e = absurd (cc)

-- what stands behind one that isn't
pub failed : {A : Type 0} (b : Bool) (one other : A) → b ≡ false → (if b then one else other) ≡ other
failed true one other e = absurd (cc)
failed false one other e = refl

-- where each value found is excluded, none is found
pub none_found : {A : Type 0} (o : Option A) → ((x : A) → o ≡ Some x → ⊥) → o ≡ None
none_found None never = refl
none_found (Some x) never = absurd (never x refl)

-- something was found for each, so each came from its own
pub each_sound : {A B : Type 0} (f : A → Option B) (g : B → A) → ((x : A) (y : B) → f x ≡ Some y → x ≡ g y)
    → (xs : List A) (ys : List B) → each f xs ≡ Some ys → xs ≡ map g ys
each_sound f g sound [] ys e = let h : [] ≡ ys = cc in ap (map g) h
each_sound f g sound (x ∷ xs) ys e =
    let one = stepped (f x) _ ys e in
    let more = stepped (each f xs) _ ys one.2 in
    let h : one.0 ∷ more.0 ≡ ys = cc in
    let first = sound x one.0 one.1 in
    let others = each_sound f g sound xs more.0 more.1 in
    ap (λ z. z ∷ xs) first ∙ ap (λ zs. g one.0 ∷ zs) others ∙ ap (map g) h

-- and the other way
pub each_complete : {A B : Type 0} (f : A → Option B) (g : B → A) → ((y : B) → f (g y) ≡ Some y)
    → (ys : List B) → each f (map g ys) ≡ Some ys
each_complete f g complete [] = refl
each_complete f g complete (y ∷ ys) =
    ap (λ o. o >>= λ z. each f (map g ys) >>= λ zs. Some (z ∷ zs)) (complete y)
    ∙ ap (λ o. o >>= λ zs. Some (y ∷ zs)) (each_complete f g complete ys)

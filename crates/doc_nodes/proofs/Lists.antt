-- Lists by place.
use Rattle.std.proofs.Common.{◌≡◌, ℕ, zero, suc, ◌+◌, ◌<◌, Bool, true, false, cond, List, [], ◌∷◌, ◌++◌, length, filter, take, drop, Option, Some, None, refl, sym, ap, ◌∙◌, arith, append-nil, append_assoc}
use Rattle.std.specs.Prelude.{slice_get, get_or}
use Rattle.std.specs.List.{zip, filter_map, cons_option, flat_map, range_with_len}
use Rattle.std.proofs.lemmas.List.{take_more}
use Rattle.std.proofs.lemmas.List.Concat.{flat_map-append}
use Rattle.std.proofs.lemmas.List.Elements.{filter-append, filter_map-append}
use Rattle.doc_nodes.proofs.KnownFiltered.{range_next}

drop_next : {X : Type 0} (xs : List X) (k : ℕ) (x : X) → slice_get xs k ≡ Some x → drop k xs ≡ x ∷ drop (suc k) xs
drop_next [] k x e = absurd (cc)
drop_next (y ∷ xs) zero x e = let same : y ≡ x = cc in ap (λ z. z ∷ xs) same
drop_next (y ∷ xs) (suc k) x e = drop_next xs k x e

drop_past : {X : Type 0} (xs : List X) (k : ℕ) → slice_get xs k ≡ None → drop (suc k) xs ≡ drop k xs
drop_past [] zero e = refl
drop_past [] (suc k) e = refl
drop_past (y ∷ xs) zero e = absurd (cc)
drop_past (y ∷ xs) (suc k) e = drop_past xs k e

-- a list from a place on, where there is an item, and where there is none
pub drop_some : {X : Type 0} (xs : List X) (k : ℕ) (x : X) → slice_get xs k ≡ Some x → drop k xs ≡ x ∷ drop (k + 1) xs
drop_some xs k x e = let next : suc k ≡ k + 1 = omega arith in drop_next xs k x e ∙ ap (λ n. x ∷ drop n xs) next

pub drop_none : {X : Type 0} (xs : List X) (k : ℕ) → slice_get xs k ≡ None → drop (k + 1) xs ≡ drop k xs
drop_none xs k e = let next : k + 1 ≡ suc k = omega arith in ap (λ n. drop n xs) next ∙ drop_past xs k e

pub zip-append : {A B : Type 0} (ks : List A) (vs : List B) (a : A) (b : B) → length ks ≡ length vs → zip (ks ++ a ∷ []) (vs ++ b ∷ []) ≡ zip ks vs ++ (a, b) ∷ []
zip-append [] [] a b e = refl
zip-append [] (y ∷ vs) a b e = absurd (omega arith)
zip-append (x ∷ ks) [] a b e = absurd (omega arith)
zip-append (x ∷ ks) (y ∷ vs) a b e = ap (λ ps. (x, y) ∷ ps) (zip-append ks vs a b (omega arith))

pub zip-some : {A B : Type 0} (ks : List A) (vs : List B) (k : ℕ) (a : A) (b : B) → Some a ≡ slice_get ks k → Some b ≡ slice_get vs k → Some (a, b) ≡ slice_get (zip ks vs) k
zip-some [] vs k a b ea eb = absurd (cc)
zip-some (x ∷ ks) [] k a b ea eb = absurd (cc)
zip-some (x ∷ ks) (y ∷ vs) zero a b ea eb = let first : a ≡ x = cc in let second : b ≡ y = cc in cc
zip-some (x ∷ ks) (y ∷ vs) (suc k) a b ea eb = zip-some ks vs k a b ea eb

pub zip-none_first : {A B : Type 0} (ks : List A) (vs : List B) (k : ℕ) → None ≡ slice_get ks k → None ≡ slice_get (zip ks vs) k
zip-none_first [] vs k e = refl
zip-none_first (x ∷ ks) [] k e = refl
zip-none_first (x ∷ ks) (y ∷ vs) zero e = absurd (cc)
zip-none_first (x ∷ ks) (y ∷ vs) (suc k) e = zip-none_first ks vs k e

pub zip-none_second : {A B : Type 0} (ks : List A) (vs : List B) (k : ℕ) → None ≡ slice_get vs k → None ≡ slice_get (zip ks vs) k
zip-none_second [] vs k e = refl
zip-none_second (x ∷ ks) [] k e = refl
zip-none_second (x ∷ ks) (y ∷ vs) zero e = absurd (cc)
zip-none_second (x ∷ ks) (y ∷ vs) (suc k) e = zip-none_second ks vs k e

pub range_more : (n : ℕ) → range_with_len 0 (n + 1) ≡ range_with_len 0 n ++ n ∷ []
range_more n =
    let next : n + 1 ≡ suc n = omega arith in
    let same : 0 + n ≡ n = omega arith in
    ap (range_with_len 0) next ∙ range_next 0 n ∙ ap (λ b. range_with_len 0 n ++ b ∷ []) same

pub filter_range_more : (f : ℕ → Bool) (n : ℕ) → filter f (range_with_len 0 (n + 1)) ≡ filter f (range_with_len 0 n) ++ cond (f n) (n ∷ []) []
filter_range_more f n = ap (filter f) (range_more n) ∙ filter-append f (range_with_len 0 n) (n ∷ [])

pub filter_map_more : {X Y : Type 0} (f : X → Option Y) (xs : List X) (i : ℕ) (d : X) → i < length xs
    → filter_map f (take (i + 1) xs) ≡ filter_map f (take i xs) ++ cons_option (f (get_or xs i d)) []
filter_map_more f xs i d lt = ap (filter_map f) (take_more xs i d lt) ∙ filter_map-append f (take i xs) (get_or xs i d ∷ [])

pub zip-pushed : {A B : Type 0} (ks more_ks : List A) (vs more_vs : List B) (k a : A) (v b : B) → length ks ≡ length vs
    → more_ks ≡ ks ++ k ∷ [] → more_vs ≡ vs ++ v ∷ [] → k ≡ a → v ≡ b → zip more_ks more_vs ≡ zip ks vs ++ (a, b) ∷ []
zip-pushed ks more_ks vs more_vs k a v b e ek ev ea eb = let whole = zip-append ks vs k v e in cc

pub flat_map_more : {X Y : Type 0} (f : X → List Y) (xs : List X) (i : ℕ) (d : X) → i < length xs
    → flat_map f (take (i + 1) xs) ≡ flat_map f (take i xs) ++ f (get_or xs i d)
flat_map_more f xs i d lt = ap (flat_map f) (take_more xs i d lt) ∙ flat_map-append f (take i xs) (get_or xs i d ∷ []) ∙ ap (λ ys. flat_map f (take i xs) ++ ys) (append-nil (f (get_or xs i d)))

-- one place more of a filter of places, by what the test says there
pub filter_kept : (f : ℕ → Bool) (n : ℕ) (front order order_more : List ℕ) → f n ≡ true → order ≡ front ++ filter f (range_with_len 0 n)
    → order_more ≡ order ++ n ∷ [] → order_more ≡ front ++ filter f (range_with_len 0 (n + 1))
filter_kept f n front order order_more e before pushed =
    pushed
    ∙ ap (λ xs. xs ++ n ∷ []) before
    ∙ append_assoc front (filter f (range_with_len 0 n)) (n ∷ [])
    ∙ ap (λ xs. front ++ xs) (sym (filter_range_more f n ∙ ap (λ b. filter f (range_with_len 0 n) ++ cond b (n ∷ []) []) e))

pub filter_left : (f : ℕ → Bool) (n : ℕ) (front order : List ℕ) → f n ≡ false → order ≡ front ++ filter f (range_with_len 0 n)
    → order ≡ front ++ filter f (range_with_len 0 (n + 1))
filter_left f n front order e before =
    before
    ∙ ap (λ xs. front ++ xs) (sym (filter_range_more f n ∙ ap (λ b. filter f (range_with_len 0 n) ++ cond b (n ∷ []) []) e ∙ append-nil (filter f (range_with_len 0 n))))

-- one item more of a list, kept where it gives something
pub filter_map_some : {X Y : Type 0} (f : X → Option Y) (xs : List X) (i : ℕ) (d : X) (y : Y) (front more : List Y) → i < length xs
    → f (get_or xs i d) ≡ Some y → front ≡ filter_map f (take i xs) → more ≡ front ++ y ∷ [] → more ≡ filter_map f (take (i + 1) xs)
filter_map_some f xs i d y front more lt gives before pushed =
    pushed ∙ ap (λ ys. ys ++ y ∷ []) before ∙ ap (λ o. filter_map f (take i xs) ++ cons_option o []) (sym gives) ∙ sym (filter_map_more f xs i d lt)

pub filter_map_none : {X Y : Type 0} (f : X → Option Y) (xs : List X) (i : ℕ) (d : X) (front : List Y) → i < length xs
    → f (get_or xs i d) ≡ None → front ≡ filter_map f (take i xs) → front ≡ filter_map f (take (i + 1) xs)
filter_map_none f xs i d front lt gives before =
    before ∙ sym (append-nil (filter_map f (take i xs))) ∙ ap (λ o. filter_map f (take i xs) ++ cons_option o []) (sym gives) ∙ sym (filter_map_more f xs i d lt)

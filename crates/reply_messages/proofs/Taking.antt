-- What is taken from the front of a text, step by step.
use Rattle.std.proofs.Common.{◌≡◌, ℕ, ◌+◌, ◌-◌, ◌<◌, ◌≤◌, List, [], ◌∷◌, ◌++◌, length, drop, refl, sym, ap, ◌∙◌, append_assoc, length-append, length-drop, arith}
use Rattle.std.specs.List.{AllByRecursion, flat_map}
use Rattle.std.proofs.lemmas.Grind.{flat_map-append}
use Rattle.std.proofs.lemmas.List.{append_cancel_left, append-nil, drop-drop, drop_at, drop_all}
use Rattle.yxml.specs.Normal.{Lacks}
use Rattle.reply_messages.specs.declared.taken.Taken.{Taken}
use Rattle.reply_messages.specs.Found.{Fronts, FrontsAll}
use Rattle.reply_messages.specs.Laws.{AreElements}
use Rattle.reply_messages.specs.Marks.{Begins, element_bytes, node_bytes, pair_bytes}
use Rattle.reply_messages.proofs.Cuts.{one_cut, one_node, element_split}
use Rattle.reply_messages.proofs.Elements.{one_list, pair_split}

-- what stands behind a tag
pub behind_tag : (text inner tag rest tag' inside' rest' : List ℕ) → text ≡ 5 ∷ 6 ∷ inner → inner ≡ tag ++ rest → Lacks 5 tag → Begins 5 rest
    → Lacks 5 tag' → text ≡ element_bytes tag' inside' ++ rest' → rest ≡ 5 ∷ (inside' ++ 5 ∷ 6 ∷ 5 ∷ rest')
behind_tag text inner tag rest tag' inside' rest' told whole lacks begins lacks' e =
    let inners : inner ≡ tag' ++ 5 ∷ (inside' ++ 5 ∷ 6 ∷ 5 ∷ rest') = append_cancel_left (5 ∷ 6 ∷ []) _ _ (sym told ∙ e ∙ element_split tag' inside' rest') in
    (one_cut 5 tag tag' rest (5 ∷ (inside' ++ 5 ∷ 6 ∷ 5 ∷ rest')) lacks lacks' begins refl (sym whole ∙ inners)).1

-- what stands behind a text in an element
pub behind_text : (rest inside text end inside' rest' : List ℕ) → rest ≡ 5 ∷ inside → inside ≡ text ++ end → Lacks 5 text → Begins 5 end
    → Lacks 5 inside' → rest ≡ 5 ∷ (inside' ++ 5 ∷ 6 ∷ 5 ∷ rest') → end ≡ 5 ∷ 6 ∷ 5 ∷ rest'
behind_text rest inside text end inside' rest' told whole lacks begins lacks' e =
    (one_cut 5 text inside' end (5 ∷ 6 ∷ 5 ∷ rest') lacks lacks' begins refl (sym whole ∙ append_cancel_left (5 ∷ []) _ _ (sym told ∙ e))).1

-- the pieces of an element
pub element_told : (text inner tag rest inside words end more : List ℕ) → text ≡ 5 ∷ 6 ∷ inner → inner ≡ tag ++ rest → rest ≡ 5 ∷ inside
    → inside ≡ words ++ end → end ≡ 5 ∷ 6 ∷ 5 ∷ more → text ≡ element_bytes tag words ++ more
element_told text inner tag rest inside words end more a b c d e =
    a ∙ ap (λ s. 5 ∷ 6 ∷ s) (b ∙ ap (λ s. tag ++ s) (c ∙ ap (λ s. 5 ∷ s) (d ∙ ap (λ s. words ++ s) e))) ∙ sym (element_split tag words more)

-- the place behind a front
pub behind : (text front rest : List ℕ) → text ≡ front ++ rest → drop (length text - length rest) text ≡ rest
behind text front rest e =
    let size : length text ≡ length front + length rest = ap length e ∙ length-append front rest in
    let place : length text - length rest ≡ length front = omega (arith, size) in
    ap (λ n. drop n text) place ∙ ap (λ t. drop (length front) t) e ∙ drop_at front rest (length front) refl

-- a value that was taken, by what follows it
pub fronts : {A : Type 0} (spelling : A → List ℕ) (Fits : A → Type 0) (text rest : List ℕ) (value : A) → Fits value → 0 < length (spelling value)
    → text ≡ spelling value ++ rest → Fronts spelling Fits text (record { value = value; length = length text - length rest })
fronts spelling Fits text rest value fits some e =
    let size : length text ≡ length (spelling value) + length rest = ap length e ∙ length-append (spelling value) rest in
    record {
      fits = fits;
      some = omega (arith, size, some);
      within = omega arith;
      told = e ∙ ap (λ s. spelling value ++ s) (sym (behind text (spelling value) rest e));
    }

-- one more
pub one_more : {A : Type 0} (spelling : A → List ℕ) (text : List ℕ) (xs : List A) (x : A) (n m : ℕ) → text ≡ flat_map spelling xs ++ drop n text
    → drop n text ≡ spelling x ++ drop m (drop n text) → text ≡ flat_map spelling (xs ++ x ∷ []) ++ drop (n + m) text
one_more spelling text xs x n m told e =
    told ∙ ap (λ s. flat_map spelling xs ++ s) (e ∙ ap (λ s. spelling x ++ s) (drop-drop m n text))
    ∙ sym (append_assoc (flat_map spelling xs) (spelling x) (drop (n + m) text))
    ∙ ap (λ s. s ++ drop (n + m) text) (ap (λ s. flat_map spelling xs ++ s) (sym (append-nil (spelling x))) ∙ sym (flat_map-append spelling xs (x ∷ [])))

-- all of a text
pub whole_told : {A : Type 0} (spelling : A → List ℕ) (Fits : A → Type 0) (text : List ℕ) (taken : Taken (List A)) → FrontsAll spelling Fits text taken
    → length text ≤ taken.length → flat_map spelling taken.value ≡ text
whole_told spelling Fits text taken all end =
    sym (all.told ∙ ap (λ s. flat_map spelling taken.value ++ s) (drop_all taken.length text end) ∙ append-nil (flat_map spelling taken.value))

-- what is left behind all, where a list is a text
pub nothing_left : {A : Type 0} (spelling : A → List ℕ) (Fits : A → Type 0) → AreElements spelling Fits → (text : List ℕ) (taken : Taken (List A))
    → FrontsAll spelling Fits text taken → (ys : List A) → AllByRecursion Fits ys → flat_map spelling ys ≡ text → length text ≤ taken.length
nothing_left spelling Fits elements text taken all ys fits e =
    let none = (one_list spelling Fits elements taken.value ys (drop taken.length text) [] all.fits fits all.last tt (sym all.told ∙ sym e ∙ sym (append-nil (flat_map spelling ys)))).1 in
    let size : length text - taken.length ≡ 0 = sym (length-drop taken.length text) ∙ ap length none in
    omega (arith, size)

-- what stands behind the first of a pair
pub behind_first : (text inner word rest word' second' rest' : List ℕ) → text ≡ 5 ∷ 6 ∷ 58 ∷ 5 ∷ inner → inner ≡ node_bytes word ++ rest → Lacks 5 word → Lacks 5 word'
    → text ≡ pair_bytes word' second' ++ rest' → (word ≡ word') × (rest ≡ 5 ∷ 6 ∷ 58 ∷ 5 ∷ (second' ++ 5 ∷ 6 ∷ 5 ∷ 5 ∷ 6 ∷ 5 ∷ rest'))
behind_first text inner word rest word' second' rest' told whole lacks lacks' e =
    one_node word rest word' _ lacks lacks' (sym whole ∙ append_cancel_left (5 ∷ 6 ∷ 58 ∷ 5 ∷ []) _ _ (sym told ∙ e ∙ pair_split word' second' rest'))

-- what stands behind the second
pub behind_second : {P : Type 0} (spelling : P → List ℕ) (Fits : P → Type 0) → AreElements spelling Fits → (rest inner : List ℕ) (items : Taken (List P)) (items' : List P) (rest' : List ℕ)
    → rest ≡ 5 ∷ 6 ∷ 58 ∷ 5 ∷ inner → FrontsAll spelling Fits inner items → AllByRecursion Fits items'
    → rest ≡ 5 ∷ 6 ∷ 58 ∷ 5 ∷ (flat_map spelling items' ++ 5 ∷ 6 ∷ 5 ∷ 5 ∷ 6 ∷ 5 ∷ rest') → drop items.length inner ≡ 5 ∷ 6 ∷ 5 ∷ 5 ∷ 6 ∷ 5 ∷ rest'
behind_second spelling Fits elements rest inner items items' rest' told all fits e =
    (one_list spelling Fits elements items.value items' (drop items.length inner) (5 ∷ 6 ∷ 5 ∷ 5 ∷ 6 ∷ 5 ∷ rest') all.fits fits all.last refl
    (sym all.told ∙ append_cancel_left (5 ∷ 6 ∷ 58 ∷ 5 ∷ []) _ _ (sym told ∙ e))).1

-- the pieces of a pair
pub pair_told : (text inner word rest inner' second end end' more : List ℕ) → text ≡ 5 ∷ 6 ∷ 58 ∷ 5 ∷ inner → inner ≡ node_bytes word ++ rest → rest ≡ 5 ∷ 6 ∷ 58 ∷ 5 ∷ inner'
    → inner' ≡ second ++ end → end ≡ 5 ∷ 6 ∷ 5 ∷ end' → end' ≡ 5 ∷ 6 ∷ 5 ∷ more → text ≡ pair_bytes word second ++ more
pair_told text inner word rest inner' second end end' more a b c d e f =
    a ∙ ap (λ s. 5 ∷ 6 ∷ 58 ∷ 5 ∷ s) (b ∙ ap (λ s. node_bytes word ++ s) (c ∙ ap (λ s. 5 ∷ 6 ∷ 58 ∷ 5 ∷ s) (d ∙ ap (λ s. second ++ s) (e ∙ ap (λ s. 5 ∷ 6 ∷ 5 ∷ s) f))))
    ∙ sym (pair_split word second more)

-- What the chunks of a spelling say.
use Rattle.std.proofs.Common.{◌≡◌, ◌≢◌, ℕ, ◌<◌, ◌+◌, List, [], ◌∷◌, ◌++◌, length, map, cond, not, take, drop, Bool, true, false, ◌&&◌, Option, Some, None, Ok, refl, sym, ap, ◌∙◌, nat_lt, arith}
use Rattle.std.specs.Bool.{if◌then◌else◌}
use Rattle.std.specs.List.{AllByRecursion, slice_split, onto_first, flat_map, position_or_len}
use Rattle.std.proofs.Math.ListN.{length-append}
use Rattle.std.proofs.Math.Seq.{take-append_seam, drop-append-add}
use Rattle.std.proofs.lemmas.Bool.{lt-ltb}
use Rattle.std.proofs.lemmas.List.{append-nil}
use Rattle.std.proofs.lemmas.List.Splits.{slice_split-cons_no}
use Rattle.yxml.specs.declared.tree.Attribute.{Attribute}
use Rattle.yxml.specs.Marks.{opening, words}
use Rattle.yxml.specs.Normal.{Lacks, IsFilled, IsAttribute}
use Rattle.yxml.specs.Reading.{said, start_said, attribute_of, attributes_of, with_attribute, is_y, is_equals}
use Rattle.yxml.specs.Spelling.{attribute_spelling}
use Rattle.text_words.proofs.KnownLists.{each-both}

-- what lacks the separator joins the first piece of what follows
pub text-split : (p : ℕ → Bool) (t s : List ℕ) (more : List (List ℕ)) → AllByRecursion (λ b. p b ≡ false) t
    → slice_split p s ≡ [] ∷ more → slice_split p (t ++ s) ≡ t ∷ more
text-split p [] s more h e = e
text-split p (b ∷ bs) s more h e = slice_split-cons_no p b (bs ++ s) h.0 ∙ ap (onto_first b) (text-split p bs s more h.1 e)

-- what stands behind the Y of an attribute
abbrev attribute_text : Attribute → List ℕ
attribute_text a = a.key ++ 61 ∷ a.value

position : (key value : List ℕ) → Lacks 61 key → position_or_len is_equals (key ++ 61 ∷ value) ≡ length key
position [] value h = refl
position (b ∷ bs) value h =
    ap (λ t. cond (not t) (1 + position_or_len is_equals (bs ++ 61 ∷ value)) 0) h.0 ∙ ap (λ n. 1 + n) (position bs value h.1) ∙ omega arith

attribute-read : (a : Attribute) → IsAttribute a → attribute_of (attribute_text a) ≡ Some a
attribute-read a h =
    let n = length a.key in
    let all = attribute_text a in
    let sizes : length all ≡ n + length (61 ∷ a.value) = length-append a.key (61 ∷ a.value) in
    let some : nat_lt 0 n ≡ true = lt-ltb 0 n (filled-length a.key h.0.0) in
    let inside : nat_lt n (length all) ≡ true = lt-ltb n (length all) (omega (arith, sizes)) in
    let P : ℕ → Option Attribute = λ k. if nat_lt 0 k && nat_lt k (length all) then Some (record { key = take k all; value = drop (k + 1) all }) else None in
    ap P (position a.key a.value h.1)
    ∙ ap (λ t. if t && nat_lt n (length all) then Some (record { key = take n all; value = drop (n + 1) all }) else None) some
    ∙ ap (λ t. if t then Some (record { key = take n all; value = drop (n + 1) all }) else None) inside
    ∙ ap (λ k. Some (record { key = k; value = drop (n + 1) all })) (take-append_seam a.key (61 ∷ a.value))
    ∙ ap (λ v. Some (record { key = a.key; value = v })) (drop-append-add a.key (61 ∷ a.value) 1) where
      filled-length : (bs : List ℕ) → bs ≢ [] → 0 < length bs
      filled-length [] some = absurd (some refl)
      filled-length (b ∷ bs) some = omega arith

attributes-read : (list : List Attribute) → AllByRecursion IsAttribute list → attributes_of (map attribute_text list) ≡ Some list
attributes-read [] h = refl
attributes-read (a ∷ list) h = ap (λ o. with_attribute o (attributes_of (map attribute_text list))) (attribute-read a h.0)
    ∙ ap (with_attribute (Some a)) (attributes-read list h.1)

attribute-lacks : (c : ℕ) (a : Attribute) → Lacks c a.key → Lacks c a.value → (AllByRecursion (λ b. (Rattle.std.specs.Bool.◌==◌ b c) ≡ false) (61 ∷ [])) → Lacks c (attribute_text a)
attribute-lacks c a k v e = each-both _ a.key (61 ∷ a.value) k (e.0, v)

attributes-split : (list : List Attribute) → AllByRecursion IsAttribute list
    → slice_split is_y (flat_map attribute_spelling list) ≡ [] ∷ map attribute_text list
attributes-split [] h = refl
attributes-split (a ∷ list) h =
    ap (λ ps. [] ∷ ps) (text-split is_y (attribute_text a) (flat_map attribute_spelling list) (map attribute_text list)
    (attribute-lacks 6 a h.0.0.1.1 h.0.2.1 (refl, tt)) (attributes-split list h.1))

-- the chunk of a start tag
abbrev pub tag_chunk : List ℕ → List Attribute → List ℕ
tag_chunk name list = 6 ∷ (name ++ flat_map attribute_spelling list)

named : (at : ℕ) (name : List ℕ) (pieces : List (List ℕ)) → name ≢ [] → said at ([] ∷ name ∷ pieces) ≡ start_said at name (attributes_of pieces)
named at [] pieces some = absurd (some refl)
named at (b ∷ bs) pieces some = refl

pub opening-said : (at : ℕ) (name : List ℕ) (list : List Attribute) → IsFilled name → AllByRecursion IsAttribute list
    → said at (slice_split is_y (tag_chunk name list)) ≡ Ok (opening name list ∷ [])
opening-said at name list filled fit =
    ap (λ ps. said at ([] ∷ ps)) (text-split is_y name (flat_map attribute_spelling list) (map attribute_text list) filled.1.1 (attributes-split list fit))
    ∙ named at name (map attribute_text list) filled.0 ∙ ap (start_said at name) (attributes-read list fit)

attributes-lack : (list : List Attribute) → AllByRecursion IsAttribute list → Lacks 5 (flat_map attribute_spelling list)
attributes-lack [] h = tt
attributes-lack (a ∷ list) h = each-both _ (attribute_spelling a) _ (refl, attribute-lacks 5 a h.0.0.1.0 h.0.2.0 (refl, tt)) (attributes-lack list h.1)

-- it lacks X
pub tag_chunk-lacks : (name : List ℕ) (list : List Attribute) → IsFilled name → AllByRecursion IsAttribute list → Lacks 5 (tag_chunk name list)
tag_chunk-lacks name list filled fit = (refl, each-both _ name _ filled.1.0 (attributes-lack list fit))

text-said-by : (at : ℕ) (text : List ℕ) → text ≢ [] → said at (text ∷ []) ≡ Ok (words text ∷ [])
text-said-by at [] some = absurd (some refl)
text-said-by at (b ∷ bs) some = refl

pub text-said : (at : ℕ) (text : List ℕ) → IsFilled text → said at (slice_split is_y text) ≡ Ok (words text ∷ [])
text-said at text filled = ap (λ t. said at (slice_split is_y t)) (sym (append-nil text))
    ∙ ap (said at) (text-split is_y text [] [] filled.1.1 refl) ∙ text-said-by at text filled.0

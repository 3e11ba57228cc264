-- The parts of items, put together.
use Rattle.std.proofs.Common.{◌≡◌, ℕ, zero, suc, ◌+◌, ◌≤◌, Bool, true, false, List, [], ◌∷◌, ◌++◌, decimal, map, filter, refl, ap, sym, ◌∙◌, arith, cond, Option, Some, None, append_assoc}
use Rattle.std.proofs.lemmas.List.{append-nil}
use Rattle.std.proofs.lemmas.List.Concat.{flat_map-append}
use Rattle.std.specs.Prelude.{flat_map}
use Rattle.std.specs.List.{range_with_len}
use Rattle.yxml.specs.declared.tree.Tree.{Tree}
use Rattle.xml_codec.specs.Data.{bool_body, list_body, option_body, pair_body, string_body, variant_body}
use Rattle.message_values.specs.Bodies.{item_body}
use Rattle.made_document.specs.Texts.{most_nodes, name, text, inserted, insert_place, lemma_line}
use Rattle.made_document.specs.Messages.{first_item, second_item, is_third}
use Rattle.made_document.proofs.Printable.{as_bytes, inserted_printable, text_printable}

-- a change of a node by one edit
abbrev pub edited : ℕ → List Tree → Option (List Tree) → List Tree
edited n edit perspective = pair_body (string_body (name n)) (variant_body 0 [] (pair_body (list_body (edit ∷ [])) (option_body perspective)))

pub first_body : (n : ℕ) (edit perspective : List Tree) (bytes : List ℕ) → n ≤ most_nodes → bytes ≡ text n
    → edit ≡ variant_body 0 (decimal 0 ∷ []) (string_body bytes) → perspective ≡ pair_body (bool_body true) (list_body [])
    → edited n edit (Some perspective) ≡ item_body (first_item n)
first_body n edit perspective bytes le is edit_is perspective_is =
    ap (λ p. edited n edit (Some p)) perspective_is
    ∙ ap (λ e. edited n e (Some (pair_body (bool_body true) (list_body [])))) (edit_is
    ∙ ap (λ b. variant_body 0 (decimal 0 ∷ []) (string_body b)) (is ∙ sym (as_bytes (text n) (text_printable n (omega (arith, le))))))

pub second_body : (n : ℕ) (edit : List Tree) → edit ≡ variant_body 0 (decimal (insert_place n) ∷ []) (string_body inserted)
    → edited n edit None ≡ item_body (second_item n)
second_body n edit edit_is = ap (λ e. edited n e None) (edit_is
    ∙ ap (λ b. variant_body 0 (decimal (insert_place n) ∷ []) (string_body b)) (sym (as_bytes inserted inserted_printable)))

-- a range that is one longer
counting_more : (a n j : ℕ) → a + n ≡ j → range_with_len a (n + 1) ≡ range_with_len a n ++ j ∷ []
counting_more a n j is = let long : n + 1 ≡ suc n = omega arith in ap (range_with_len a) long ∙ last a n j is
  where
    last : (a n j : ℕ) → a + n ≡ j → range_with_len a (suc n) ≡ range_with_len a n ++ j ∷ []
    last a zero j is = let same : a ≡ j = omega (arith, is) in ap (λ x. x ∷ []) same
    last a (suc n) j is = ap (λ xs. a ∷ xs) (last (a + 1) n j (omega (arith, is)))

-- one lemma more
pub lines_more : (old so now : List ℕ) (before : ℕ) → so ≡ old ++ flat_map lemma_line (range_with_len 1 before) → now ≡ so ++ lemma_line (before + 1)
    → now ≡ old ++ flat_map lemma_line (range_with_len 1 (before + 1))
lines_more old so now before so_is now_is =
    now_is ∙ ap (λ xs. xs ++ lemma_line (before + 1)) so_is
    ∙ append_assoc old (flat_map lemma_line (range_with_len 1 before)) (lemma_line (before + 1))
    ∙ ap (λ xs. old ++ xs) (ap (λ ys. flat_map lemma_line (range_with_len 1 before) ++ ys) (sym (append-nil (lemma_line (before + 1))))
    ∙ sym (flat_map-append lemma_line (range_with_len 1 before) ((before + 1) ∷ []))
    ∙ ap (flat_map lemma_line) (sym (counting_more 1 before (before + 1) (omega arith))))

map_push : {A B : Type 0} (f : A → B) (xs : List A) (x : A) → map f xs ++ f x ∷ [] ≡ map f (xs ++ x ∷ [])
map_push f [] x = refl
map_push f (y ∷ ys) x = ap (λ zs. f y ∷ zs) (map_push f ys x)

-- one item more
pub first_more : (items now : List (List Tree)) (before : ℕ) → items ≡ map item_body (map first_item (range_with_len 1 before))
    → now ≡ items ++ item_body (first_item (before + 1)) ∷ []
    → now ≡ map item_body (map first_item (range_with_len 1 (before + 1)))
first_more items now before items_are now_is =
    now_is ∙ ap (λ xs. xs ++ item_body (first_item (before + 1)) ∷ []) items_are
    ∙ map_push item_body (map first_item (range_with_len 1 before)) (first_item (before + 1))
    ∙ ap (map item_body) (map_push first_item (range_with_len 1 before) (before + 1)
    ∙ ap (map first_item) (sym (counting_more 1 before (before + 1) (omega arith))))

filter_push : (xs : List ℕ) (x : ℕ) → filter is_third (xs ++ x ∷ []) ≡ filter is_third xs ++ cond (is_third x) (x ∷ []) []
filter_push [] x = refl
filter_push (y ∷ ys) x = go (is_third y) (filter_push ys x)
  where
    go : (b : Bool) → filter is_third (ys ++ x ∷ []) ≡ filter is_third ys ++ cond (is_third x) (x ∷ []) []
        → cond b (y ∷ filter is_third (ys ++ x ∷ [])) (filter is_third (ys ++ x ∷ []))
        ≡ cond b (y ∷ filter is_third ys) (filter is_third ys) ++ cond (is_third x) (x ∷ []) []
    go true rest = ap (λ zs. y ∷ zs) rest
    go false rest = rest

thirds_more : (before : ℕ) → filter is_third (range_with_len 1 (before + 1))
    ≡ filter is_third (range_with_len 1 before) ++ cond (is_third (before + 1)) ((before + 1) ∷ []) []
thirds_more before = ap (filter is_third) (counting_more 1 before (before + 1) (omega arith)) ∙ filter_push (range_with_len 1 before) (before + 1)

pub second_more : (items now : List (List Tree)) (before : ℕ) → is_third (before + 1) ≡ true
    → items ≡ map item_body (map second_item (filter is_third (range_with_len 1 before)))
    → now ≡ items ++ item_body (second_item (before + 1)) ∷ []
    → now ≡ map item_body (map second_item (filter is_third (range_with_len 1 (before + 1))))
second_more items now before third items_are now_is =
    now_is ∙ ap (λ xs. xs ++ item_body (second_item (before + 1)) ∷ []) items_are
    ∙ map_push item_body (map second_item (filter is_third (range_with_len 1 before))) (second_item (before + 1))
    ∙ ap (map item_body) (map_push second_item (filter is_third (range_with_len 1 before)) (before + 1)
    ∙ ap (map second_item) (ap (λ b. filter is_third (range_with_len 1 before) ++ cond b ((before + 1) ∷ []) []) (sym third) ∙ sym (thirds_more before)))

pub second_same : (items : List (List Tree)) (before : ℕ) → is_third (before + 1) ≡ false
    → items ≡ map item_body (map second_item (filter is_third (range_with_len 1 before)))
    → items ≡ map item_body (map second_item (filter is_third (range_with_len 1 (before + 1))))
second_same items before not_third items_are =
    items_are ∙ ap (λ xs. map item_body (map second_item xs)) (sym (append-nil (filter is_third (range_with_len 1 before)))
    ∙ ap (λ b. filter is_third (range_with_len 1 before) ++ cond b ((before + 1) ∷ []) []) (sym not_third) ∙ sym (thirds_more before))

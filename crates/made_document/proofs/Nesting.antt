-- The bodies of items are normal, and leave room.
use Rattle.std.proofs.Common.{◌≡◌, ℕ, ◌+◌, ◌^◌, ◌<◌, ◌≤◌, Bool, true, List, [], ◌∷◌, length, map, decimal, max, sym, subst, arith, lit<, Some}
use Rattle.std.specs.List.{AllByRecursion}
use Rattle.text_edits.specs.declared.edit.Edit.TheVariants.{Insert}
use Rattle.yxml.specs.declared.tree.Tree.{Tree}
use Rattle.yxml.specs.Normal.{IsNormal, IsPlain, height}
use Rattle.xml_codec.specs.Data.{bool_body, list_body, option_body, pair_body, string_body, variant_body}
use Rattle.xml_codec.specs.Nested.{IsNestable}
use Rattle.message_values.specs.ShapeBodies.{edit_body}
use Rattle.message_values.specs.declared.item.Item.{Item}
use Rattle.message_values.specs.Bodies.{item_body}
use Rattle.made_document.specs.Texts.{most_nodes, name, text, inserted, insert_place}
use Rattle.made_document.specs.Messages.{first_item, first_items, second_item, second_items}
use Rattle.made_document.proofs.Decimals.{decimal_printable}
use Rattle.made_document.proofs.Fitting.{each_first, each_second, short_text}
use Rattle.made_document.proofs.Printable.{as_bytes, inserted_printable, name_printable, plain, text_printable}

-- what is known of bodies
pub record BodyLaws : Type 0 where
  pub bool : (b : Bool) → IsNormal (bool_body b)
  pub string : (text : List ℕ) → IsPlain text → IsNormal (string_body text)
  pub pair : (first second : List Tree) → IsNestable first → IsNestable second → IsNormal (pair_body first second)
  pub list : (items : List (List Tree)) → AllByRecursion IsNestable items → IsNormal (list_body items)
  pub option : (item : List Tree) → IsNestable item → IsNormal (option_body (Some item))
  pub variant : (index : ℕ) (values : List (List ℕ)) (argument : List Tree) → index + length values < 2 ^ 64 → AllByRecursion IsPlain values
      → IsNestable argument → IsNormal (variant_body index values argument)
  pub bool_high : (b : Bool) → height (bool_body b) ≡ 0
  pub string_high : (text : List ℕ) → height (string_body text) ≡ 0
  pub pair_high : (first second : List Tree) → height (pair_body first second) ≡ 1 + max (height first) (height second)
  pub list_high : (items : List (List Tree)) (n : ℕ) → AllByRecursion (λ item. height item ≤ n) items → height (list_body items) ≤ 1 + n
  pub option_high : (item : List Tree) → height (option_body (Some item)) ≡ 1 + height item
  pub variant_high : (index : ℕ) (values : List (List ℕ)) (argument : List Tree) → height (variant_body index values argument) ≡ 1 + height argument

-- a normal body of at most so many nested elements
pub record Nests (most : ℕ) (body : List Tree) : Type 0 where
  pub normal : IsNormal body
  pub high : height body ≤ most

nestable : (most : ℕ) (body : List Tree) → most < 200 → Nests most body → IsNestable body
nestable most body lt is = record { normal = is.normal; room = omega (arith, lt, is.high) }

module _ (laws : BodyLaws) where
  string_nests : (bytes : List ℕ) → IsPlain bytes → Nests 0 (string_body bytes)
  string_nests bytes is = record { normal = laws.string bytes is; high = omega (arith, laws.string_high bytes) }

  pair_nests : (most : ℕ) (first second : List Tree) → most < 200 → Nests most first → Nests most second → Nests (1 + most) (pair_body first second)
  pair_nests most first second lt a b = record {
    normal = laws.pair first second (nestable most first lt a) (nestable most second lt b);
    high = omega (arith, laws.pair_high first second, a.high, b.high);
  }

  list_nests : (most : ℕ) (items : List (List Tree)) → most < 200 → AllByRecursion (Nests most) items → Nests (1 + most) (list_body items)
  list_nests most items lt all = record { normal = laws.list items (rooms items all); high = laws.list_high items most (lows items all) }
    where
      rooms : (xs : List (List Tree)) → AllByRecursion (Nests most) xs → AllByRecursion IsNestable xs
      rooms [] all = tt
      rooms (x ∷ xs) all = (nestable most x lt all.0, rooms xs all.1)

      lows : (xs : List (List Tree)) → AllByRecursion (Nests most) xs → AllByRecursion (λ x. height x ≤ most) xs
      lows [] all = tt
      lows (x ∷ xs) all = (all.0.high, lows xs all.1)

  option_nests : (most : ℕ) (item : List Tree) → most < 200 → Nests most item → Nests (1 + most) (option_body (Some item))
  option_nests most item lt is = record { normal = laws.option item (nestable most item lt is); high = omega (arith, laws.option_high item, is.high) }

  variant_nests : (most : ℕ) (values : List (List ℕ)) (argument : List Tree) → most < 200 → length values < 2 → AllByRecursion IsPlain values → Nests most argument
      → Nests (1 + most) (variant_body 0 values argument)
  variant_nests most values argument lt few plain_values is = record {
    normal = laws.variant 0 values argument (omega (arith, few)) plain_values (nestable most argument lt is);
    high = omega (arith, laws.variant_high 0 values argument, is.high);
  }

  more : (most other : ℕ) (body : List Tree) → most ≤ other → Nests most body → Nests other body
  more most other body le is = record { normal = is.normal; high = omega (arith, le, is.high) }

  empty_nests : Nests 1 []
  empty_nests = list_nests 0 [] (lit< tt) tt

  insert_nests : (place : ℕ) (bytes : List ℕ) → place < 2 ^ 64 → IsPlain bytes → Nests 1 (variant_body 0 (decimal place ∷ []) (string_body bytes))
  insert_nests place bytes lt is = variant_nests 0 (decimal place ∷ []) (string_body bytes) (lit< tt) (lit< tt)
      (plain (decimal place) (decimal_printable place lt), tt) (string_nests bytes is)

  edited_nests : (node : List ℕ) (edit perspective : List Tree) → IsPlain node → Nests 1 edit → Nests 3 perspective
      → Nests 6 (pair_body (string_body node) (variant_body 0 [] (pair_body (list_body (edit ∷ [])) perspective)))
  edited_nests node edit perspective is a b = pair_nests 5 (string_body node) _ (lit< tt) (more 0 5 _ (omega arith) (string_nests node is))
      (variant_nests 4 [] _ (lit< tt) (lit< tt) tt (pair_nests 3 (list_body (edit ∷ [])) perspective (lit< tt)
      (more 2 3 _ (omega arith) (list_nests 1 (edit ∷ []) (lit< tt) (a, tt))) b))

  required_nests : Nests 3 (option_body (Some (pair_body (bool_body true) (list_body []))))
  required_nests = option_nests 2 _ (lit< tt) (pair_nests 1 (bool_body true) (list_body []) (lit< tt)
      (record { normal = laws.bool true; high = omega (arith, laws.bool_high true) }) empty_nests)

  first_nests : (n : ℕ) → n ≤ most_nodes → Nests 6 (item_body (first_item n))
  first_nests n le =
      let lt : n < 2 ^ 64 = omega (arith, le) in
      edited_nests (name n) (edit_body (Insert 0 (text n))) _ (plain (name n) (name_printable n lt))
      (subst (λ bytes. Nests 1 (variant_body 0 (decimal 0 ∷ []) (string_body bytes))) (sym (as_bytes (text n) (text_printable n lt)))
      (insert_nests 0 (text n) (lit< tt) (plain (text n) (text_printable n lt)))) required_nests

  second_nests : (n : ℕ) → n ≤ most_nodes → Nests 6 (item_body (second_item n))
  second_nests n le =
      let lt : n < 2 ^ 64 = omega (arith, le) in
      edited_nests (name n) (edit_body (Insert (insert_place n) inserted)) _ (plain (name n) (name_printable n lt))
      (subst (λ bytes. Nests 1 (variant_body 0 (decimal (insert_place n) ∷ []) (string_body bytes))) (sym (as_bytes inserted inserted_printable))
      (insert_nests (insert_place n) inserted (omega (arith, short_text n le)) (plain inserted inserted_printable)))
      (more 1 3 [] (omega arith) empty_nests)

  bodies_nest : (items : List Item) → AllByRecursion (λ item. Nests 6 (item_body item)) items → AllByRecursion (Nests 6) (map item_body items)
  bodies_nest [] all = tt
  bodies_nest (item ∷ items) all = (all.0, bodies_nest items all.1)

  -- so those of both updates are normal
  pub first_normal : (count : ℕ) → count ≤ most_nodes → IsNormal (list_body (map item_body (first_items count)))
  first_normal count le = (list_nests 6 (map item_body (first_items count)) (lit< tt)
      (bodies_nest (first_items count) (each_first (λ item. Nests 6 (item_body item)) first_nests 1 count (omega (arith, le))))).normal

  pub second_normal : (count : ℕ) → count ≤ most_nodes → IsNormal (list_body (map item_body (second_items count)))
  second_normal count le = (list_nests 6 (map item_body (second_items count)) (lit< tt)
      (bodies_nest (second_items count) (each_second (λ item. Nests 6 (item_body item)) second_nests 1 count (omega (arith, le))))).normal

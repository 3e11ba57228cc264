-- The chunks of the updates are short.
use Rattle.std.proofs.Common.{◌≡◌, ℕ, zero, suc, ◌+◌, ◌*◌, ◌^◌, ◌<◌, ◌≤◌, Bool, true, false, List, [], ◌∷◌, ◌++◌, length, map, filter, decimal, refl, ap, ◌∙◌, arith, lit<, Some, cond}
use Rattle.std.specs.Prelude.{flat_map}
use Rattle.std.proofs.lemmas.Fmt.{length-decimal-le}
use Rattle.std.proofs.lemmas.Grind.{flat_map-append}
use Rattle.std.proofs.lemmas.List.{length-append}
use Rattle.std.specs.List.{range_with_len}
use Rattle.std.specs.Str.{encode_utf8_all}
use Rattle.byte_message.specs.Limits.{longest_chunk}
use Rattle.text_edits.specs.declared.edit.Edit.TheVariants.{Insert}
use Rattle.yxml.specs.declared.tree.Attribute.{Attribute}
use Rattle.yxml.specs.declared.tree.Tree.{Tree}
use Rattle.yxml.specs.declared.tree.Tree.TheVariants.{Elem}
use Rattle.yxml.specs.Marks.{closing, marks, opening}
use Rattle.yxml.proofs.KnownMarks.{tree_marks-Elem}
use Rattle.yxml.specs.Normal.{equals_sign, x_byte, y_byte}
use Rattle.yxml.specs.Spelling.{attribute_spelling, mark_spelling, spellings, yxml}
use Rattle.xml_codec.specs.Data.{bool_body, list_body, node, numbered_from, option_body, pair_body, string_body, variant_body}
use Rattle.message_values.specs.ShapeBodies.{edit_body}
use Rattle.message_values.specs.Bodies.{item_body}
use Rattle.reply_messages.proofs.KnownNodes.{begin, end, node_yxml, string_yxml}
use Rattle.made_document.specs.Texts.{most_nodes, name, text, inserted, insert_place}
use Rattle.made_document.specs.Messages.{first_item, first_items, is_third, second_item, second_items}
use Rattle.made_document.proofs.Fitting.{short_name, short_text}
use Rattle.made_document.proofs.Printable.{as_bytes, inserted_printable, text_printable}

-- how many bytes a body is written with
abbrev size : List Tree → ℕ
size body = length (yxml body)

node_size : (body rest : List Tree) → size (node body ∷ rest) ≡ size body + size rest + 7
node_size body rest = ap length (node_yxml body rest) ∙ omega (
  arith,
  length-append begin (yxml body ++ (end ++ yxml rest)),
  length-append (yxml body) (end ++ yxml rest),
  length-append end (yxml rest),
)

pair_size : (first second : List Tree) → size (pair_body first second) ≡ size first + size second + 14
pair_size first second = node_size first (node second ∷ []) ∙ omega (arith, node_size second [])

string_size : (bytes : List ℕ) → size (string_body bytes) ≡ length bytes
string_size bytes = ap length (string_yxml bytes)

-- a variant by its start tag
tag_size : (attributes : List Attribute) (body : List Tree)
    → size (Elem (decimal 0) attributes body ∷ []) ≡ length
    (mark_spelling (opening (decimal 0) attributes)) + size body + 3
tag_size attributes body =
    ap (λ ms. length (spellings (ms ++ []))) (tree_marks-Elem (decimal 0) attributes body) ∙ omega (
      arith,
      ap length (flat_map-append mark_spelling (marks body ++ closing ∷ []) []),
      ap length (flat_map-append mark_spelling (marks body) (closing ∷ [])),
      length-append (mark_spelling (opening (decimal 0) attributes))
          (spellings ((marks body ++ closing ∷ []) ++ [])),
      length-append (spellings (marks body ++ closing ∷ [])) [],
      length-append (spellings (marks body)) (mark_spelling closing ++ []),
    )

number_short : length (decimal 0) ≤ 1
number_short = length-decimal-le 1 0 (lit< tt) (lit< tt) (lit< tt)

tag_length : (tag : List ℕ) (attributes : List Attribute)
    → length (mark_spelling (opening tag attributes)) ≡ length tag + length
    (flat_map attribute_spelling attributes) + 3
tag_length tag attributes = omega (
  arith,
  length-append (tag ++ flat_map attribute_spelling attributes) (x_byte ∷ []),
  length-append tag (flat_map attribute_spelling attributes),
)

attribute_length : (key value : List ℕ) → length (flat_map attribute_spelling (record { key = key; value = value } ∷ [])) ≡ length key + length value + 2
attribute_length key value = omega (
  arith,
  length-append (y_byte ∷ (key ++ equals_sign ∷ value)) [],
  length-append key (equals_sign ∷ value),
)

bare_tag : length (mark_spelling (opening (decimal 0) [])) ≤ 4
bare_tag = omega (arith, number_short, tag_length (decimal 0) [])

place_tag : (place : ℕ) → place < 10 ^ 10 → length (mark_spelling (opening (decimal 0) (numbered_from 0 (decimal place ∷ [])))) ≤ 20
place_tag place lt = omega (
  arith,
  number_short,
  length-decimal-le 10 place (lit< tt) lt (omega (arith, lt)),
  tag_length (decimal 0) (numbered_from 0 (decimal place ∷ [])),
  attribute_length (decimal 0) (decimal place),
)

-- an edit, and an item with one
insert_size : (place : ℕ) (bytes : List ℕ) → place < 10 ^ 10 → size (variant_body 0 (decimal place ∷ []) (string_body bytes)) ≤ length bytes + 23
insert_size place bytes lt = omega (
  arith,
  tag_size (numbered_from 0 (decimal place ∷ [])) (string_body bytes),
  place_tag place lt,
  string_size bytes,
)

none_size : size [] ≡ 0
none_size = refl

edited_size : (bytes : List ℕ) (edit perspective : List Tree) → length bytes ≤ 5 → size edit ≤ 650 → size perspective ≤ 40
    → size (pair_body (string_body bytes) (variant_body 0 [] (pair_body (list_body (edit ∷ [])) perspective))) ≤ 800
edited_size bytes edit perspective few short low = omega (
  arith,
  few,
  short,
  low,
  pair_size (string_body bytes) (variant_body 0 [] (pair_body (list_body (edit ∷ [])) perspective)),
  string_size bytes,
  tag_size [] (pair_body (list_body (edit ∷ [])) perspective),
  bare_tag,
  pair_size (list_body (edit ∷ [])) perspective,
  node_size edit [],
  none_size,
)

required_size : size (option_body (Some (pair_body (bool_body true) (list_body [])))) ≤ 40
required_size = omega (
  arith,
  node_size (pair_body (bool_body true) (list_body [])) [],
  pair_size (bool_body true) (list_body []),
  string_size (49 ∷ []),
  none_size,
)

first_size : (n : ℕ) → n ≤ most_nodes → size (item_body (first_item n)) ≤ 800
first_size n le = edited_size (name n) (edit_body (Insert 0 (text n))) _ (short_name n le)
    (omega (arith, insert_size 0 (encode_utf8_all (text n)) (lit< tt), ap length (as_bytes (text n) (text_printable n (omega (arith, le)))), short_text n le)) required_size

second_size : (n : ℕ) → n ≤ most_nodes → size (item_body (second_item n)) ≤ 800
second_size n le = edited_size (name n) (edit_body (Insert (insert_place n) inserted)) [] (short_name n le)
    (omega (arith, insert_size (insert_place n) (encode_utf8_all inserted) (omega (arith, short_text n le)), ap length (as_bytes inserted inserted_printable))) (omega (arith, none_size))

-- so all items
first_list : (a n : ℕ) → a + n ≤ suc most_nodes → size (list_body (map item_body (map first_item (range_with_len a n)))) ≤ 807 * n
first_list a zero le = omega (arith, none_size)
first_list a (suc n) le = omega (
  arith,
  node_size (item_body (first_item a)) (list_body (map item_body (map first_item (range_with_len (a + 1) n)))),
  first_size a (omega (arith, le)),
  first_list (a + 1) n (omega (arith, le)),
)

second_list : (a n : ℕ) → a + n ≤ suc most_nodes → size (list_body (map item_body (map second_item (filter is_third (range_with_len a n))))) ≤ 807 * n
second_list a zero le = omega (arith, none_size)
second_list a (suc n) le = go (is_third a) (second_list (a + 1) n (omega (arith, le)))
  where
    go : (b : Bool) → size (list_body (map item_body (map second_item (filter is_third (range_with_len (a + 1) n))))) ≤ 807 * n
        → size (list_body (map item_body (map second_item (cond b (a ∷ filter is_third (range_with_len (a + 1) n)) (filter is_third (range_with_len (a + 1) n)))))) ≤ 807 * suc n
    go true rest = omega (
      arith,
      rest,
      node_size (item_body (second_item a)) (list_body (map item_body (map second_item (filter is_third (range_with_len (a + 1) n))))),
      second_size a (omega (arith, le)),
    )
    go false rest = omega (arith, rest)

pub first_short : (count : ℕ) → count ≤ most_nodes → length (yxml (list_body (map item_body (first_items count)))) ≤ longest_chunk
first_short count le = omega (arith, le, first_list 1 count (omega (arith, le)))

pub second_short : (count : ℕ) → count ≤ most_nodes → length (yxml (list_body (map item_body (second_items count)))) ≤ longest_chunk
second_short count le = omega (arith, le, second_list 1 count (omega (arith, le)))

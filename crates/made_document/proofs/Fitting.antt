-- The messages have values that messages can have.
use Rattle.std.proofs.Common.{ℕ, zero, suc, ◌+◌, ◌*◌, ◌/◌, ◌≤◌, Bool, true, false, [], ◌∷◌, ◌++◌, length, map, filter, decimal, codes, arith, cond, lit<}
use Rattle.std.proofs.lemmas.Fmt.{length-decimal-le}
use Rattle.std.proofs.lemmas.List.{length-append}
use Rattle.std.specs.Prelude.{◌==◌, if◌then◌else◌, flat_map}
use Rattle.std.specs.List.{range_with_len, AllByRecursion}
use Rattle.message_values.specs.declared.item.Item.{Item}
use Rattle.message_values.specs.Fits.{FitsItem}
use Rattle.made_document.specs.Texts.{most_nodes, name, import_of, header, lemma_line, lemma_count, lemmas, ending, text, inserted}
use Rattle.made_document.specs.Messages.{first_item, first_items, second_item, second_items, is_third}
use Rattle.made_document.proofs.Printable.{as_scalars, inserted_printable, name_fits, text_printable}

-- texts are short
short_number : (n : ℕ) → n ≤ most_nodes → length (decimal n) ≤ 4
short_number n le = length-decimal-le 4 n (lit< tt) (omega (arith, le)) (omega (arith, le))

pub short_name : (n : ℕ) → n ≤ most_nodes → length (name n) ≤ 5
short_name n le = omega (arith, short_number n le)

short_import : (n : ℕ) → n ≤ most_nodes → (b : Bool) → length (if b then [] else codes " imports " ++ name (n / 2)) ≤ 14
short_import n le true = omega arith
short_import n le false = omega (arith, short_name (n / 2) (omega (arith, le)), length-append (codes " imports ") (name (n / 2)))

short_header : (n : ℕ) → n ≤ most_nodes → length (header n) ≤ 40
short_header n le = omega (
  arith,
  short_name n le,
  short_import n le (n == 1),
  length-append (codes "theory ") (name n ++ (import_of n ++ codes " begin\n")),
  length-append (name n) (import_of n ++ codes " begin\n"),
  length-append (import_of n) (codes " begin\n"),
)

short_line : (k : ℕ) → k ≤ most_nodes → length (lemma_line k) ≤ 60
short_line k le = omega (
  arith,
  short_number k le,
  length-append (codes "lemma l") (decimal k ++ codes ": \"P --> P\" by (impI h h)\n"),
  length-append (decimal k) (codes ": \"P --> P\" by (impI h h)\n"),
)

short_lines : (a n : ℕ) → a + n ≤ most_nodes → length (flat_map lemma_line (range_with_len a n)) ≤ 60 * n
short_lines a zero le = omega arith
short_lines a (suc n) le = omega (
  arith,
  short_line a (omega (arith, le)),
  short_lines (a + 1) n (omega (arith, le)),
  length-append (lemma_line a) (flat_map lemma_line (range_with_len (a + 1) n)),
)

pub short_text : (n : ℕ) → n ≤ most_nodes → length (text n) ≤ 600
short_text n le = omega (
  arith,
  short_header n le,
  short_lines 1 lemma_count (omega arith),
  length-append (header n) (lemmas ++ ending),
  length-append lemmas ending,
)

pub first_fits : (n : ℕ) → n ≤ most_nodes → FitsItem (first_item n)
first_fits n le = record {
  node = name_fits n (omega (arith, le));
  change = (((lit< tt, as_scalars (text n) (text_printable n (omega (arith, le)))), tt), tt);
}

pub second_fits : (n : ℕ) → n ≤ most_nodes → FitsItem (second_item n)
second_fits n le = record {
  node = name_fits n (omega (arith, le));
  change = (((omega (arith, short_text n le), as_scalars inserted inserted_printable), tt), tt);
}

-- so all items have
pub each_first : (P : Item → Type 0) → ((n : ℕ) → n ≤ most_nodes → P (first_item n)) → (a n : ℕ) → a + n ≤ suc most_nodes
    → AllByRecursion P (map first_item (range_with_len a n))
each_first P each a zero le = tt
each_first P each a (suc n) le = (each a (omega (arith, le)), each_first P each (a + 1) n (omega (arith, le)))

pub each_second : (P : Item → Type 0) → ((n : ℕ) → n ≤ most_nodes → P (second_item n)) → (a n : ℕ) → a + n ≤ suc most_nodes
    → AllByRecursion P (map second_item (filter is_third (range_with_len a n)))
each_second P each a zero le = tt
each_second P each a (suc n) le = go (is_third a) (each_second P each (a + 1) n (omega (arith, le)))
  where
    go : (b : Bool) → AllByRecursion P (map second_item (filter is_third (range_with_len (a + 1) n)))
        → AllByRecursion P (map second_item (cond b (a ∷ filter is_third (range_with_len (a + 1) n)) (filter is_third (range_with_len (a + 1) n))))
    go true rest = (each a (omega (arith, le)), rest)
    go false rest = rest

pub first_all_fit : (count : ℕ) → count ≤ most_nodes → AllByRecursion FitsItem (first_items count)
first_all_fit count le = each_first FitsItem first_fits 1 count (omega (arith, le))

pub second_all_fit : (count : ℕ) → count ≤ most_nodes → AllByRecursion FitsItem (second_items count)
second_all_fit count le = each_second FitsItem second_fits 1 count (omega (arith, le))

-- Edits that a text spells tell no more than the text has.
use Rattle.std.proofs.Common.{◌≡◌, ℕ, ◌+◌, ◌≤◌, Bool, true, false, cond, List, [], ◌∷◌, ◌++◌, length, map, Option, Some, None, refl, ap, sym, ◌∙◌, arith, decimal}
use Rattle.std.proofs.lemmas.List.{length-append}
use Rattle.std.proofs.lemmas.Str.{length-le-encodes}
use Rattle.std.specs.List.{slice_split, onto_first}
use Rattle.std.specs.Str.{encode_utf8_all}
use Rattle.text_edits.specs.declared.edit.Edit.{Edit}
use Rattle.text_edits.specs.declared.edit.Edit.TheVariants.{Insert, Remove}
use Rattle.yxml.specs.declared.tree.Attribute.{Attribute}
use Rattle.yxml.specs.declared.tree.Tree.{Tree}
use Rattle.yxml.specs.declared.tree.Tree.TheVariants.{Elem}
use Rattle.yxml.specs.Marks.{Mark, opening, closing, words, marks}
use Rattle.yxml.proofs.KnownMarks.{tree_marks-Elem, tree_marks-Text}
use Rattle.xml_codec.specs.Data.{list_body, numbered_from, string_body}
use Rattle.yxml.specs.Reading.{is_x, is_y, marks_from, marks_in, marks_said, said, start_said, tag_said, attributes_of}
use Rattle.yxml.specs.Spelling.{Spells, merged_texts, onto}
use Rattle.message_values.specs.ShapeBodies.{edit_body, text_body}
use Rattle.editor_laws.proofs.EditSizes.{size, sizes}

-- how many bytes stand between tags
abbrev weight : List Mark → ℕ
weight [] = 0
weight (opening name attributes ∷ ms) = weight ms
weight (closing ∷ ms) = weight ms
weight (words text ∷ ms) = length text + weight ms

weight_both : (xs ys : List Mark) → weight (xs ++ ys) ≡ weight xs + weight ys
weight_both [] ys = omega arith
weight_both (opening name attributes ∷ xs) ys = weight_both xs ys
weight_both (closing ∷ xs) ys = weight_both xs ys
weight_both (words text ∷ xs) ys = let rest = weight_both xs ys in omega (arith, rest)

weight_onto : (text : List ℕ) (ms : List Mark) → weight (onto (words text) ms)
    ≡ length text + weight ms
weight_onto text [] = refl
weight_onto text (opening name attributes ∷ ms) = refl
weight_onto text (closing ∷ ms) = refl
weight_onto text (words next ∷ ms) = let both = length-append text next in omega (arith, both)

weight_merged : (ms : List Mark) → weight (merged_texts ms) ≡ weight ms
weight_merged [] = refl
weight_merged (opening name attributes ∷ ms) = weight_merged ms
weight_merged (closing ∷ ms) = weight_merged ms
weight_merged (words text ∷ ms) = let one = weight_onto text (merged_texts ms) in let rest =
    weight_merged ms in omega (arith, one, rest)

-- the bytes of all pieces
abbrev piece_bytes : List (List ℕ) → ℕ
piece_bytes [] = 0
piece_bytes (x ∷ xs) = length x + piece_bytes xs

onto_bytes : (b : ℕ) (xs : List (List ℕ)) → piece_bytes (onto_first b xs) ≤ 1 + piece_bytes xs
onto_bytes b [] = omega arith
onto_bytes b (x ∷ xs) = omega arith

pieces_most : (p : ℕ → Bool) (text : List ℕ) → piece_bytes (slice_split p text) ≤ length text
pieces_most p [] = omega arith
pieces_most p (b ∷ bs) = go (p b) (pieces_most p bs)
  where
    go : (t : Bool) → piece_bytes (slice_split p bs) ≤ length bs
        → piece_bytes (cond t ([] ∷ slice_split p bs) (onto_first b (slice_split p bs))) ≤ length
        (b ∷ bs)
    go true rest = omega (arith, rest)
    go false rest = let one = onto_bytes b (slice_split p bs) in omega (arith, one, rest)

tag_weight : (at : ℕ) (pieces : List (List ℕ)) → weight (marks_said (tag_said at pieces)) ≡ 0
tag_weight at [] = refl
tag_weight at ([] ∷ []) = refl
tag_weight at ([] ∷ piece ∷ pieces) = refl
tag_weight at ((b ∷ bs) ∷ attributes) = go (attributes_of attributes)
  where
    go : (o : Option (List Attribute)) → weight (marks_said (start_said at (b ∷ bs) o)) ≡ 0
    go (Some found) = refl
    go None = refl

said_most : (at : ℕ) (pieces : List (List ℕ)) → weight (marks_said
    (said at pieces)) ≤ piece_bytes pieces
said_most at [] = omega arith
said_most at ([] ∷ []) = omega arith
said_most at ((b ∷ bs) ∷ []) = omega arith
said_most at ([] ∷ piece ∷ pieces) = let none = tag_weight at (piece ∷ pieces) in
    omega (arith, none)
said_most at ((b ∷ bs) ∷ piece ∷ pieces) = omega arith

chunks_most : (at : ℕ) (chunks : List (List ℕ)) → weight (marks_from at chunks) ≤ piece_bytes chunks
chunks_most at [] = omega arith
chunks_most at (chunk ∷ chunks) =
    let both = weight_both (marks_said (said at (slice_split is_y chunk)))
    (marks_from (at + length chunk + 1) chunks) in
    let one = said_most at (slice_split is_y chunk) in
    let cut = pieces_most is_y chunk in
    let rest = chunks_most (at + length chunk + 1) chunks in omega (arith, both, one, cut, rest)

text_most : (text : List ℕ) → weight (marks_in text) ≤ length text
text_most text = let chunks = chunks_most 0 (slice_split is_x text) in let cut =
    pieces_most is_x text in omega (arith, chunks, cut)

-- what stands in an element
elem_weight : (name : List ℕ) (attributes : List Attribute) (body rest : List Tree)
    → weight (marks (Elem name attributes body ∷ rest)) ≡ weight (marks body) + weight (marks rest)
elem_weight name attributes body rest =
    ap (λ ms. weight (ms ++ marks rest)) (tree_marks-Elem name attributes body)
    ∙ weight_both (marks body ++ closing ∷ []) (marks rest)
    ∙ ap (λ n. n + weight (marks rest)) (weight_both (marks body) (closing ∷ []) ∙ omega arith)

string_weight : (bytes : List ℕ) → weight (marks (string_body bytes)) ≡ length bytes
string_weight [] = refl
string_weight (b ∷ bs) = ap (λ ms. weight (ms ++ [])) (tree_marks-Text (b ∷ bs)) ∙ omega arith

edit_weight : (e : Edit) → size e ≤ weight (marks (edit_body e))
edit_weight (Insert start text) =
    let inside = elem_weight (decimal 0) (numbered_from 0 (decimal start ∷ []))
    (text_body text) [] in
    let bytes = string_weight (encode_utf8_all text) in
    let long = length-le-encodes text in omega (arith, inside, bytes, long)
edit_weight (Remove start text) =
    let inside = elem_weight (decimal 1) (numbered_from 0 (decimal start ∷ []))
    (text_body text) [] in
    let bytes = string_weight (encode_utf8_all text) in
    let long = length-le-encodes text in omega (arith, inside, bytes, long)

edits_weight : (es : List Edit) → sizes es ≤ weight (marks (list_body (map edit_body es)))
edits_weight [] = omega arith
edits_weight (e ∷ es) =
    let one = elem_weight (58 ∷ []) [] (edit_body e) (list_body (map edit_body es)) in
    let first = edit_weight e in
    let rest = edits_weight es in omega (arith, one, first, rest)

pub spelled_sizes : (text : List ℕ) (es : List Edit) → Spells text (list_body (map edit_body es))
    → sizes es ≤ length text
spelled_sizes text es spells =
    let same : weight (marks_in text) ≡ weight (marks (list_body (map edit_body es))) =
    sym (weight_merged (marks_in text)) ∙ ap weight spells.same in
    let most = text_most text in
    let least = edits_weight es in omega (arith, same, most, least)

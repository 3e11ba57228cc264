-- Nodes, pairs and lists in YXML.
use Rattle.std.proofs.Common.{◌≡◌, ℕ, List, [], ◌∷◌, ◌++◌, decimal, refl, sym, ap, ◌∙◌, append_assoc}
use Rattle.std.specs.Prelude.{pos}
use Rattle.std.specs.Fmt.{signed_decimal}
use Rattle.std.proofs.lemmas.Grind.{flat_map-append}
use Rattle.std.proofs.lemmas.List.{append-nil}
use Rattle.yxml.specs.declared.tree.Tree.{Tree}
use Rattle.yxml.specs.Marks.{closing, marks}
use Rattle.yxml.proofs.KnownMarks.{tree_marks-Elem, tree_marks-Text}
use Rattle.yxml.specs.Spelling.{yxml, mark_spelling, spellings}
use Rattle.xml_codec.specs.Data.{node, string_body, pair_body, list_body}
use Rattle.message_values.specs.ShapeBodies.{number_body}

-- the bytes before what stands in a node
abbrev pub begin : List ℕ
begin = 5 ∷ 6 ∷ 58 ∷ 5 ∷ []

-- the bytes after it
abbrev pub end : List ℕ
end = 5 ∷ 6 ∷ 5 ∷ []

pub node_yxml : (body rest : List Tree) → yxml (node body ∷ rest) ≡ begin ++ (yxml body ++ (end ++ yxml rest))
node_yxml body rest =
    ap (λ ms. spellings (ms ++ marks rest)) (tree_marks-Elem (58 ∷ []) [] body)
    ∙ ap (λ bs. begin ++ bs)
    (flat_map-append mark_spelling (marks body ++ closing ∷ []) (marks rest)
    ∙ ap (λ bs. bs ++ spellings (marks rest))
    (flat_map-append mark_spelling (marks body) (closing ∷ []))
    ∙ append_assoc (yxml body) end (yxml rest))

-- a list of one
pub one_yxml : (body : List Tree) → yxml (list_body (body ∷ [])) ≡ begin ++ (yxml body ++ end)
one_yxml body = node_yxml body []

pub pair_yxml : (first second : List Tree) → yxml (pair_body first second) ≡ begin ++ (yxml first ++ (end ++ (begin ++ (yxml second ++ end))))
pair_yxml first second = node_yxml first (node second ∷ []) ∙ ap (λ bs. begin ++ (yxml first ++ (end ++ bs))) (node_yxml second [])

pub number_yxml : (n : ℕ) → yxml (number_body n) ≡ decimal n
number_yxml n = ap (λ ms. spellings (ms ++ [])) (tree_marks-Text (signed_decimal (pos n))) ∙ append-nil (decimal n)

pub string_yxml : (text : List ℕ) → yxml (string_body text) ≡ text
string_yxml [] = refl
string_yxml (b ∷ bs) = ap (λ ms. spellings (ms ++ [])) (tree_marks-Text (b ∷ bs)) ∙ append-nil (b ∷ bs)

-- the pieces of a number in a node
pub numbered_pieces : (old : List ℕ) (n : ℕ) → ((old ++ begin) ++ decimal n) ++ end ≡ old ++ yxml (list_body (number_body n ∷ []))
numbered_pieces old n =
    append_assoc (old ++ begin) (decimal n) end ∙ append_assoc old begin (decimal n ++ end)
    ∙ ap (λ bs. old ++ bs) (ap (λ ds. begin ++ (ds ++ end)) (sym (number_yxml n)) ∙ sym (one_yxml (number_body n)))

regroup : (old a n z e : List ℕ) → (((((old ++ a) ++ (a ++ (n ++ z))) ++ a) ++ e) ++ z) ++ z ≡ old ++ (a ++ ((a ++ (n ++ (z ++ (a ++ (e ++ z))))) ++ z))
regroup old a n z e = simp append_assoc

regroup_named : (old a n z e : List ℕ) → (((((((old ++ a) ++ a) ++ n) ++ z) ++ a) ++ e) ++ z) ++ z ≡ old ++ (a ++ ((a ++ (n ++ (z ++ (a ++ (e ++ z))))) ++ z))
regroup_named old a n z e = simp append_assoc

pair_node : (first second : List Tree) → yxml (list_body (pair_body first second ∷ []))
    ≡ begin ++ ((begin ++ (yxml first ++ (end ++ (begin ++ (yxml second ++ end))))) ++ end)
pair_node first second = one_yxml (pair_body first second) ∙ ap (λ bs. begin ++ (bs ++ end)) (pair_yxml first second)

-- the pieces of a pair in a node, the first part in a node of its own
pub row_pieces : (old : List ℕ) (first second : List Tree)
    → (((((old ++ begin) ++ yxml (list_body (first ∷ []))) ++ begin) ++ yxml second) ++ end) ++ end ≡ old ++ yxml (list_body (pair_body first second ∷ []))
row_pieces old first second =
    ap (λ bs. (((((old ++ begin) ++ bs) ++ begin) ++ yxml second) ++ end) ++ end) (one_yxml first)
    ∙ regroup old begin (yxml first) end (yxml second) ∙ ap (λ bs. old ++ bs) (sym (pair_node first second))

-- the pieces of a pair of a text and something else, in a node
pub named_pieces : (old name : List ℕ) (second : List Tree)
    → (((((((old ++ begin) ++ begin) ++ name) ++ end) ++ begin) ++ yxml second) ++ end) ++ end ≡ old ++ yxml (list_body (pair_body (string_body name) second ∷ []))
named_pieces old name second =
    regroup_named old begin name end (yxml second)
    ∙ ap (λ n. old ++ (begin ++ ((begin ++ (n ++ (end ++ (begin ++ (yxml second ++ end))))) ++ end))) (sym (string_yxml name))
    ∙ ap (λ bs. old ++ bs) (sym (pair_node (string_body name) second))

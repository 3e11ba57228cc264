-- The YXML of lists, ids, rows and nodes, as bytes.
use Rattle.std.proofs.Common.{◌≡◌, ℕ, List, [], ◌∷◌, ◌++◌, map, decimal, refl, sym, ap, ◌∙◌, append_assoc}
use Rattle.std.specs.List.{flat_map}
use Rattle.std.proofs.lemmas.Grind.{flat_map-append}
use Rattle.std.proofs.lemmas.List.{append-nil}
use Rattle.yxml.specs.declared.tree.Tree.{Tree}
use Rattle.yxml.specs.Marks.{marks, tree_marks}
use Rattle.yxml.specs.Spelling.{yxml, mark_spelling, spellings}
use Rattle.xml_codec.specs.Data.{node, list_body}
use Rattle.pide_base.specs.Ids.{IsId}
use Rattle.message_values.specs.ShapeBodies.{number_body}
use Rattle.reply_messages.specs.Bodies.{row_body, node_body}
use Rattle.reply_messages.specs.declared.told.CommandRow.{CommandRow}
use Rattle.reply_messages.specs.declared.told.NodeRows.{NodeRows}
use Rattle.reply_messages.proofs.KnownNodes.{one_yxml, pair_yxml, number_yxml, string_yxml}
use Rattle.reply_messages.specs.Fits.{FitsRow, FitsNode, IsName}
use Rattle.reply_messages.specs.Laws.{AreElements}
use Rattle.reply_messages.specs.Marks.{node_bytes, pair_bytes}
use Rattle.reply_messages.proofs.Elements.{alike, nodes_are_elements, pairs_are_elements}
use Rattle.reply_messages.proofs.ReadNumbers.{ids_are_words}
use Rattle.reply_messages.proofs.Names.{names_are_words}

-- the first tree, and the others
yxml_first : (tree : Tree) (others : List Tree) → yxml (tree ∷ others) ≡ yxml (tree ∷ []) ++ yxml others
yxml_first tree others =
    flat_map-append mark_spelling (tree_marks tree) (marks others)
    ∙ ap (λ ms. spellings ms ++ yxml others) (sym (append-nil (tree_marks tree)))

-- trees, one after the other
pub trees_yxml : {A : Type 0} (tree : A → Tree) (xs : List A) → yxml (map tree xs) ≡ flat_map (λ x. yxml (tree x ∷ [])) xs
trees_yxml tree [] = refl
trees_yxml tree (x ∷ xs) = yxml_first (tree x) (map tree xs) ∙ ap (λ s. yxml (tree x ∷ []) ++ s) (trees_yxml tree xs)

-- items of a list, one after the other
pub list_yxml : {A : Type 0} (body : A → List Tree) (xs : List A) → yxml (list_body (map body xs)) ≡ flat_map (λ x. yxml (list_body (body x ∷ []))) xs
list_yxml body [] = refl
list_yxml body (x ∷ xs) = yxml_first (node (body x)) (list_body (map body xs)) ∙ ap (λ s. yxml (list_body (body x ∷ [])) ++ s) (list_yxml body xs)

-- an id
abbrev pub id_bytes : ℕ → List ℕ
id_bytes n = yxml (list_body (number_body n ∷ []))

-- a row
abbrev pub row_bytes : CommandRow → List ℕ
row_bytes r = yxml (list_body (row_body r ∷ []))

-- a node with its rows
abbrev pub rows_bytes : NodeRows → List ℕ
rows_bytes n = yxml (list_body (node_body n ∷ []))

pub id_is : (n : ℕ) → id_bytes n ≡ node_bytes (decimal n)
id_is n = one_yxml (number_body n) ∙ ap node_bytes (number_yxml n)

pair_is : (first second : List Tree) (one other : List ℕ) → yxml first ≡ one → yxml second ≡ other
    → yxml (list_body ((node first ∷ node second ∷ []) ∷ [])) ≡ pair_bytes one other
pair_is first second one other e f =
    one_yxml (node first ∷ node second ∷ []) ∙ ap node_bytes
    (pair_yxml first second ∙ ap (λ s. (5 ∷ 6 ∷ 58 ∷ 5 ∷ []) ++ (s ++ ((5 ∷ 6 ∷ 5 ∷ []) ++ node_bytes (yxml second)))) e
    ∙ ap (λ s. (5 ∷ 6 ∷ 58 ∷ 5 ∷ []) ++ (one ++ ((5 ∷ 6 ∷ 5 ∷ []) ++ node_bytes s))) f
    ∙ ap (λ s. 5 ∷ 6 ∷ 58 ∷ 5 ∷ s) (sym (append_assoc one (5 ∷ 6 ∷ 5 ∷ []) (node_bytes other))))

pub row_is : (r : CommandRow) → row_bytes r ≡ pair_bytes (decimal r.command) (flat_map id_bytes r.executions)
row_is r = pair_is (number_body r.command) (list_body (map number_body r.executions)) _ _ (number_yxml r.command) (list_yxml number_body r.executions)

pub rows_are : (n : NodeRows) → rows_bytes n ≡ pair_bytes n.node (flat_map row_bytes n.rows)
rows_are n = pair_is _ (list_body (map row_body n.rows)) _ _ (string_yxml n.node) (list_yxml row_body n.rows)

pub ids_are_elements : AreElements id_bytes IsId
ids_are_elements = alike (λ n. node_bytes (decimal n)) id_bytes IsId id_is (nodes_are_elements decimal IsId ids_are_words)

same_row : (x y : CommandRow) → x.command ≡ y.command → x.executions ≡ y.executions → x ≡ y
same_row x y e f = ap (λ (c : ℕ). let r : CommandRow = record { command = c; executions = x.executions } in r) e
    ∙ ap (λ (es : List ℕ). let r : CommandRow = record { command = y.command; executions = es } in r) f

same_node : (x y : NodeRows) → x.node ≡ y.node → x.rows ≡ y.rows → x ≡ y
same_node x y e f = ap (λ (n : List ℕ). let r : NodeRows = record { node = n; rows = x.rows } in r) e
    ∙ ap (λ (rs : List CommandRow). let r : NodeRows = record { node = y.node; rows = rs } in r) f

pub rows_are_elements : AreElements row_bytes FitsRow
rows_are_elements = alike _ row_bytes FitsRow row_is
    (pairs_are_elements (λ (r : CommandRow). r.command) (λ (r : CommandRow). r.executions) decimal IsId id_bytes IsId same_row ids_are_words ids_are_elements)

pub nodes_with_rows_are_elements : AreElements rows_bytes FitsNode
nodes_with_rows_are_elements = alike _ rows_bytes FitsNode rows_are
    (pairs_are_elements (λ (n : NodeRows). n.node) (λ (n : NodeRows). n.rows) (λ name. name) IsName row_bytes FitsRow same_node names_are_words rows_are_elements)

-- Each command of a version is in one node.
use Rattle.std.proofs.Common.{◌≡◌, ◌⊎◌, ℕ, Bool, true, false, cond, List, [], ◌∷◌, map, Some, refl, sym, subst, ap, ◌∙◌, ⊎_elim}
use Rattle.std.proofs.lemmas.Bool.{false≢true}
use Rattle.std.specs.Option.{option_map, option_map_or}
use Rattle.std.specs.Prelude.{find}
use Rattle.std.specs.Ordering.{is_eq}
use Rattle.std.specs.declared.cmp.Ordering.TheVariants.{Less}
use Rattle.text_words.specs.Members.{has}
use Rattle.text_words.proofs.KnownMembers.{has_left, has_right}
use Rattle.shared_map.specs.Pairs.{has_key, Each}
use Rattle.doc_nodes.specs.declared.node.Entry.{Entry}
use Rattle.doc_nodes.specs.declared.node.Node.{Node}
use Rattle.doc_nodes.specs.Names.{in_order, equal}
use Rattle.doc_nodes.specs.Imports.{NodeList}
use Rattle.doc_nodes.proofs.KnownNames.{name_is}
use Rattle.core_rules.specs.Assigned.{command_ids}
use Rattle.core_rules.specs.Updates.{AllDiffer}
use Rattle.core_rules.proofs.KnownCommands.{differ_front, differ_back}
use Rattle.buffer_rules.specs.Cuts.{source, commands_of}
use Rattle.buffer_rules.specs.Numbers.{Command}
use Rattle.buffer_rules.specs.Nodes.{before_in}
use Rattle.buffer_rules.specs.Sheets.{SheetList}
use Rattle.buffer_laws.proofs.Members.{AreApart, apart_of}

-- the ids that the node of a name had
abbrev pub ids_before : NodeList → List ℕ → List ℕ
ids_before tip name = map (λ (c : Command). c.0) (before_in tip name)

ids_so : (text : List ℕ) (es : List Entry) → map (λ (c : Command). c.0) (map (λ (e : Entry). (e.command, source text e.range)) es) ≡ map (λ e. e.command) es
ids_so text [] = refl
ids_so text (e ∷ es) = ap (λ xs. e.command ∷ xs) (ids_so text es)

pub ids_of_node : (node : Node) → map (λ (c : Command). c.0) (commands_of node) ≡ map (λ e. e.command) node.entries
ids_of_node node = ids_so node.text node.entries

-- the ids of the name's node, where the first node has the name or hasn't
abbrev ids_by : Bool → Node → List ℕ → List ℕ
ids_by here node rest = cond here (map (λ (c : Command). c.0) (commands_of node)) rest

cut_at : (q name : List ℕ) (node : Node) (tip : NodeList) → ids_before ((q, node) ∷ tip) name ≡ ids_by (is_eq (in_order q name)) node (ids_before tip name)
cut_at q name node tip = go (is_eq (in_order q name))
  where
    go : (b : Bool) → map (λ (c : Command). c.0) (option_map_or commands_of (option_map (λ (pair : List ℕ × Node). pair.1) (cond b (Some (q, node)) (find (has_key in_order name) tip))) [])
        ≡ cond b (map (λ (c : Command). c.0) (commands_of node)) (map (λ (c : Command). c.0) (option_map_or commands_of (option_map (λ (pair : List ℕ × Node). pair.1) (find (has_key in_order name) tip)) []))
    go true = refl
    go false = refl

-- no id of a node comes twice
pub own_differ : (tip : NodeList) (name : List ℕ) → AllDiffer (command_ids tip) → AllDiffer (ids_before tip name)
own_differ [] name all = tt
own_differ ((q, node) ∷ tip) name all =
    subst AllDiffer (sym (cut_at q name node tip)) (go (is_eq (in_order q name)) (own_differ tip name (differ_back (map (λ e. e.command) node.entries) (command_ids tip) all)))
  where
    go : (b : Bool) → AllDiffer (ids_before tip name) → AllDiffer (ids_by b node (ids_before tip name))
    go true rest = subst AllDiffer (sym (ids_of_node node)) (differ_front (map (λ e. e.command) node.entries) (command_ids tip) all)
    go false rest = rest

-- what the node of a name had is among all
pub among : (tip : NodeList) (name : List ℕ) (z : ℕ) → has (ids_before tip name) z ≡ true → has (command_ids tip) z ≡ true
among [] name z h = absurd (false≢true h)
among ((q, node) ∷ tip) name z h =
    go (is_eq (in_order q name)) (sym (ap (λ xs. has xs z) (cut_at q name node tip)) ∙ h) (λ later. among tip name z later)
  where
    go : (b : Bool) → has (ids_by b node (ids_before tip name)) z ≡ true → (has (ids_before tip name) z ≡ true → has (command_ids tip) z ≡ true)
        → has (command_ids ((q, node) ∷ tip)) z ≡ true
    go true h rest = has_left (map (λ e. e.command) node.entries) (command_ids tip) z (ap (λ xs. has xs z) (sym (ids_of_node node)) ∙ h)
    go false h rest = has_right (map (λ e. e.command) node.entries) (command_ids tip) z (rest h)

-- nodes of two names have no command in common
pub one_owner : (tip : NodeList) (m n : List ℕ) → AllDiffer (command_ids tip) → equal m n ≡ false → AreApart (ids_before tip m) (ids_before tip n)
one_owner [] m n all other z h k = false≢true h
one_owner ((q, node) ∷ tip) m n all other z h k =
    go (is_eq (in_order q m)) (is_eq (in_order q n)) refl refl
    (sym (ap (λ xs. has xs z) (cut_at q m node tip)) ∙ h) (sym (ap (λ xs. has xs z) (cut_at q n node tip)) ∙ k)
    (one_owner tip m n (differ_back (map (λ e. e.command) node.entries) (command_ids tip) all) other z)
  where
    apart : AreApart (map (λ e. e.command) node.entries) (command_ids tip)
    apart = apart_of (map (λ e. e.command) node.entries) (command_ids tip) all

    own : has (map (λ (c : Command). c.0) (commands_of node)) z ≡ true → has (map (λ e. e.command) node.entries) z ≡ true
    own x = ap (λ xs. has xs z) (sym (ids_of_node node)) ∙ x

    go : (a b : Bool) → is_eq (in_order q m) ≡ a → is_eq (in_order q n) ≡ b → has (ids_by a node (ids_before tip m)) z ≡ true
        → has (ids_by b node (ids_before tip n)) z ≡ true
        → (has (ids_before tip m) z ≡ true → has (ids_before tip n) z ≡ true → ⊥) → ⊥
    go true true ea eb x y rest = false≢true (sym other ∙ ap (λ r. equal r n) (sym (name_is q m ea)) ∙ eb)
    go true false ea eb x y rest = apart z (own x) (among tip n z y)
    go false true ea eb x y rest = apart z (own y) (among tip m z x)
    go false false ea eb x y rest = rest x y

-- the node of one of these names had the command
abbrev pub Owns : NodeList → SheetList → ℕ → Type 0
Owns tip [] z = ⊥
Owns tip (pair ∷ pairs) z = (has (ids_before tip pair.0) z ≡ true) ⊎ Owns tip pairs z

-- so it is none of a smaller name's
pub smaller_apart : (tip : NodeList) (name : List ℕ) (pairs : SheetList) (z : ℕ) → AllDiffer (command_ids tip)
    → Each (λ other. in_order name other.0 ≡ Less) pairs → has (ids_before tip name) z ≡ true → Owns tip pairs z → ⊥
smaller_apart tip name [] z all less h owns = owns
smaller_apart tip name (pair ∷ pairs) z all less h owns =
    ⊎_elim (λ here. one_owner tip name pair.0 all (ap is_eq less.0) z h here)
    (λ later. smaller_apart tip name pairs z all less.1 h later) owns

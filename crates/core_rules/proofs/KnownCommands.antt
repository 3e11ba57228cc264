-- A command that was there has the source that it had.
use Rattle.std.proofs.Common.{◌≡◌, ℕ, zero, suc, ◌≤◌, inl, inr, true, false, ◌||◌, List, [], ◌∷◌, ◌++◌, map, Some, refl, ap, sym, subst, ◌∙◌, arith}
use Rattle.text_words.proofs.KnownLists.{differ_turned, each-part}
use Rattle.std.proofs.lemmas.Bool.{eq-eqb, false≢true, or_parts}
use Rattle.std.specs.Prelude.{◌==◌, slice_get}
use Rattle.std.specs.List.{AllByRecursion}
use Rattle.std.proofs.Math.Bool.{or-true}
use Rattle.text_words.specs.Members.{has}
use Rattle.doc_nodes.specs.declared.node.Entry.{Entry}
use Rattle.doc_nodes.specs.declared.node.Node.{Node}
use Rattle.doc_nodes.specs.Imports.{NodeList}
use Rattle.exec_rules.specs.Kept.{Times}
use Rattle.core_rules.specs.Assigned.{command_ids}
use Rattle.core_rules.specs.Doc.{Doc}
use Rattle.core_rules.specs.Updates.{AllDiffer, source_in, Stood, IsOld, IsKnown, node_in}
use Rattle.core_rules.proofs.Tables.{AtMost}
use Rattle.text_words.proofs.KnownMembers.{apart, has_both, has_left, has_right}
use Rattle.core_rules.proofs.SameCommands.{SameSources}

-- the ids of commands
abbrev pub ids : List Entry → List ℕ
ids es = map (λ e. e.command) es

has_there : (es : List Entry) (i : ℕ) (e : Entry) (c : ℕ) → slice_get es i ≡ Some e → c ≡ e.command → has (ids es) c ≡ true
has_there [] i e c at same = absurd (cc)
has_there (x ∷ es) zero e c at same =
    let one : x ≡ e = cc in
    ap (λ b. b || has (ids es) c) (eq-eqb c x.command (same ∙ sym (ap (λ (y : Entry). y.command) one)))
has_there (x ∷ es) (suc i) e c at same =
    ap (λ b. (c == x.command) || b) (has_there es i e c at same) ∙ or-true (c == x.command)

-- the id of a command that is there
pub id_there : (es : List Entry) (i : ℕ) (e : Entry) → slice_get es i ≡ Some e → has (ids es) e.command ≡ true
id_there es i e at = has_there es i e e.command at refl

pub command_there : (nodes : NodeList) (q i : ℕ) (pair : List ℕ × Node) (e : Entry) → slice_get nodes q ≡ Some pair
    → slice_get pair.1.entries i ≡ Some e → has (command_ids nodes) e.command ≡ true
command_there [] q i pair e at there = absurd (cc)
command_there (n ∷ ns) zero i pair e at there =
    let same : n ≡ pair = cc in
    has_left (ids n.1.entries) (command_ids ns) e.command
    (subst (λ (x : List ℕ × Node). has (ids x.1.entries) e.command ≡ true) (sym same) (id_there pair.1.entries i e there))
command_there (n ∷ ns) (suc q) i pair e at there =
    has_right (ids n.1.entries) (command_ids ns) e.command (command_there ns q i pair e at there)

-- commands with the same id are the same
pub same_id : (es : List Entry) (i j : ℕ) (a b : Entry) → AllDiffer (ids es) → slice_get es i ≡ Some a
    → slice_get es j ≡ Some b → a.command ≡ b.command → a ≡ b
same_id [] i j a b differ at bt same = absurd (cc)
same_id (x ∷ es) zero zero a b differ at bt same = cc
same_id (x ∷ es) zero (suc j) a b differ at bt same =
    let one : x ≡ a = cc in
    absurd (false≢true (sym differ.0 ∙ has_there es j b x.command bt (ap (λ (y : Entry). y.command) one ∙ same)))
same_id (x ∷ es) (suc i) zero a b differ at bt same =
    let one : x ≡ b = cc in
    absurd (false≢true (sym differ.0 ∙ has_there es i a x.command at (ap (λ (y : Entry). y.command) one ∙ sym same)))
same_id (x ∷ es) (suc i) (suc j) a b differ at bt same = same_id es i j a b differ.1 at bt same

pub differ_front : (xs ys : List ℕ) → AllDiffer (xs ++ ys) → AllDiffer xs
differ_front [] ys all = tt
differ_front (x ∷ xs) ys all =
    ((or_parts (has xs x) (has ys x) (sym (has_both xs ys x) ∙ all.0)).0, differ_front xs ys all.1)

pub differ_back : (xs ys : List ℕ) → AllDiffer (xs ++ ys) → AllDiffer ys
differ_back [] ys all = all
differ_back (x ∷ xs) ys all = differ_back xs ys all.1

-- an id that is in one list is not in another, where all differ
pub differ_apart : (xs ys : List ℕ) (c : ℕ) → AllDiffer (xs ++ ys) → has ys c ≡ true → has xs c ≡ false
differ_apart [] ys c differ is = refl
differ_apart (x ∷ xs) ys c differ is =
    let out = (or_parts (has xs x) (has ys x) (sym (has_both xs ys x) ∙ differ.0)).1 in
    ap (λ b. b || has xs c) (differ_turned x c (apart ys x c out is)) ∙ differ_apart xs ys c differ.1 is

-- the commands of one node differ, where those of all do
pub differ_at : (nodes : NodeList) (p : ℕ) (pair : List ℕ × Node) → AllDiffer (command_ids nodes)
    → slice_get nodes p ≡ Some pair → AllDiffer (ids pair.1.entries)
differ_at [] p pair all at = absurd (cc)
differ_at (n ∷ ns) zero pair all at =
    let same : n ≡ pair = cc in
    subst (λ (x : List ℕ × Node). AllDiffer (ids x.1.entries)) same (differ_front (ids n.1.entries) (command_ids ns) all)
differ_at (n ∷ ns) (suc p) pair all at = differ_at ns p pair (differ_back (ids n.1.entries) (command_ids ns) all) at

most_id : (m : ℕ) (es : List Entry) (i : ℕ) (e : Entry) → AtMost m (ids es) → slice_get es i ≡ Some e → e.command ≤ m
most_id m [] i e all at = absurd (cc)
most_id m (x ∷ es) zero e all at = let same : x ≡ e = cc in subst (λ (y : Entry). y.command ≤ m) same all.0
most_id m (x ∷ es) (suc i) e all at = most_id m es i e all.1 at

pub most_at : (m : ℕ) (nodes : NodeList) (p : ℕ) (pair : List ℕ × Node) → AtMost m (command_ids nodes)
    → slice_get nodes p ≡ Some pair → AtMost m (ids pair.1.entries)
most_at m [] p pair all at = absurd (cc)
most_at m (n ∷ ns) zero pair all at =
    let same : n ≡ pair = cc in
    subst (λ (x : List ℕ × Node). AtMost m (ids x.1.entries)) same (each-part (λ x. x ≤ m) (ids n.1.entries) (command_ids ns) all).0
most_at m (n ∷ ns) (suc p) pair all at = most_at m ns p pair (each-part (λ x. x ≤ m) (ids n.1.entries) (command_ids ns) all).1 at

module _ (d : Doc) (pair : List ℕ × Node) (old : Node) (times : Times) (is_old : node_in d.tip pair.0 ≡ Some old)
    (differ : AllDiffer (ids old.entries)) (most : AtMost d.commands (ids old.entries)) where
  one_source : (e b : Entry) (i : ℕ) → IsKnown d pair e → slice_get old.entries i ≡ Some b → e.command ≡ b.command
      → source_in pair.1 e ≡ source_in old b
  one_source e b i (inl new) at same =
      let le = most_id d.commands old.entries i b most at in absurd (omega (arith, same, le, new))
  one_source e b i (inr was) at same =
      let stood : Stood old pair.1 e = subst (λ o. IsOld o pair.1 e) is_old was in
      stood.source ∙ ap (source_in old) (same_id old.entries stood.place i stood.before b differ stood.stood at
      (sym stood.command ∙ same))

  pub same_sources : (es bs : List Entry) → AllByRecursion (IsKnown d pair) es
      → ((i : ℕ) (b : Entry) → slice_get bs i ≡ Some b → (k : ℕ) × (slice_get old.entries k ≡ Some b))
      → SameSources pair.1 old times es bs
  same_sources [] bs known within = tt
  same_sources (e ∷ es) [] known within = tt
  same_sources (e ∷ es) (b ∷ bs) known within = (
    λ same. one_source e b (within zero b refl).0 known.0 (within zero b refl).1 same,
    same_sources es bs known.1 (λ i c at. within (suc i) c at),
  )

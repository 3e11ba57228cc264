-- Headers of nodes that are put and that go.
use Rattle.std.proofs.Common.{◌≡◌, ◌≢◌, ◌↔◌, ℕ, Bool, true, false, cond, IsTrue, List, [], ◌∷◌, ◌++◌, Option, Some, None, refl, sym, ap, subst, ◌∙◌}
use Rattle.std.specs.Prelude.{find}
use Rattle.std.specs.Option.{option_map, is_some}
use Rattle.std.specs.Ordering.{is_eq}
use Rattle.std.specs.List.{AllZip}
use Rattle.std.specs.Cmp.Lexicographic.{nat_list_cmp_total}
use Rattle.std.proofs.lemmas.Bool.{false≢true}
use Rattle.std.proofs.lemmas.Cmp.{tied_itself}
use Rattle.shared_map.specs.Pairs.{IsSorted, has_key, found}
use Rattle.shared_map.specs.Changes.{put, without}
use Rattle.shared_map.proofs.KnownFound.{found_put, found_without}
use Rattle.doc_nodes.specs.declared.node.Node.{Node}
use Rattle.doc_nodes.specs.Names.{in_order, equal}
use Rattle.doc_nodes.specs.Imports.{NodeList}
use Rattle.doc_nodes.proofs.KnownNames.{name_is}
use Rattle.editor_buffer.specs.OpenSheet.{OpenSheet}
use Rattle.editor_buffer.specs.Standing.{OpenList, Drafted}
use Rattle.doc_nodes.specs.Heads.{head, heads}
use Rattle.editor_buffer.proofs.KeyLists.{found-over}
use Rattle.editor_buffer.proofs.PairLists.{put_at}

itself : (name : List ℕ) → is_eq (in_order name name) ≡ true
itself name = ap is_eq (tied_itself nat_list_cmp_total name)

-- the pair of a name, between those before and behind it
found_split : (name : List ℕ) (xs : NodeList) (v : Node) → found in_order name xs ≡ Some v → (l : NodeList) × (r : NodeList) × (xs ≡ l ++ (name, v) ∷ r)
found_split name [] v e = absurd (cc (e))
found_split name (x ∷ xs) v e = go (equal x.0 name) refl (found_split name xs v) e where
  go : (b : Bool) → equal x.0 name ≡ b → (found in_order name xs ≡ Some v → (l : NodeList) × (r : NodeList) × (xs ≡ l ++ (name, v) ∷ r))
      → option_map (λ (p : List ℕ × Node). p.1) (cond b (Some x) (find (has_key in_order name) xs)) ≡ Some v
      → (l : NodeList) × (r : NodeList) × ((x ∷ xs) ≡ l ++ (name, v) ∷ r)
  go true same rest f =
      let value : x.1 ≡ v = cc (f) in
      let one : x ≡ (name, v) =
      ap (λ k. let p : List ℕ × Node = (k, x.1) in p) (name_is x.0 name same) ∙ ap (λ n. let p : List ℕ × Node = (name, n) in p) value in
      ([], xs, ap (λ p. p ∷ xs) one)
  go false same rest f =
      let split = rest f in
      (x ∷ split.0, split.1, ap (λ ps. x ∷ ps) split.2)

heads_along : (l r : NodeList) (name : List ℕ) (node other : Node) → head node ≡ head other → heads (l ++ (name, node) ∷ r) ≡ heads (l ++ (name, other) ∷ r)
heads_along [] r name node other e = ap (λ h. let p : List ℕ × Node = (name, h) in p ∷ heads r) e
heads_along (x ∷ l) r name node other e = ap (λ ps. (x.0, head x.1) ∷ ps) (heads_along l r name node other e)

-- a node with the header of the one of its name leaves all headers as they are
put_keeps : (nodes : NodeList) (name : List ℕ) (old made : Node) → IsSorted in_order nodes → found in_order name nodes ≡ Some old → head old ≡ head made
    → heads (put in_order (name, made) nodes) ≡ heads nodes
put_keeps nodes name old made sorted there same =
    let split = found_split name nodes old there in
    let at : nodes ≡ split.0 ++ (name, old) ∷ split.1 = split.2 in
    ap (λ ns. heads (put in_order (name, made) ns)) at
    ∙ ap heads (put_at nat_list_cmp_total split.0 (name, old) made split.1 (subst (IsSorted in_order) at sorted))
    ∙ heads_along split.0 split.1 name made old (sym same)
    ∙ ap heads (sym at)

-- and another doesn't
kept_put : (nodes : NodeList) (name : List ℕ) (made : Node) → heads (put in_order (name, made) nodes) ≡ heads nodes
    → option_map head (found in_order name nodes) ≡ Some (head made)
kept_put nodes name made same =
    sym (found-over head in_order name nodes)
    ∙ ap (found in_order name) (sym same)
    ∙ found-over head in_order name (put in_order (name, made) nodes)
    ∙ ap (option_map head)
    (found_put nat_list_cmp_total (name, made) nodes name ∙ ap (λ b. cond b (Some made) (found in_order name nodes)) (itself name))

pub keeps_some : (b : Bool) (nodes : NodeList) (name : List ℕ) (old made : Node) → IsSorted in_order nodes → Some old ≡ found in_order name nodes
    → IsTrue b ↔ (head old ≡ head made) → IsTrue b ↔ (heads (put in_order (name, made) nodes) ≡ heads nodes)
keeps_some b nodes name old made sorted there is = (
  λ yes. put_keeps nodes name old made sorted (sym there) (is.0 yes),
  λ same.
      let told : Some (head old) ≡ Some (head made) = ap (option_map head) there ∙ kept_put nodes name made same in
      is.1 (cc (told)),
)

pub keeps_none : (nodes : NodeList) (name : List ℕ) (made : Node) → None ≡ found in_order name nodes
    → IsTrue false ↔ (heads (put in_order (name, made) nodes) ≡ heads nodes)
keeps_none nodes name made none = (
  λ yes. absurd (false≢true yes),
  λ same.
      let told : None ≡ Some (head made) = ap (option_map head) none ∙ kept_put nodes name made same in
      absurd (cc (told)),
)

-- an open node is a node of the version
same_there : (tip : NodeList) (os : OpenList) (ns : NodeList) (name : List ℕ) → AllZip (Drafted tip) os ns
    → is_some (found in_order name os) ≡ is_some (found in_order name ns)
same_there tip [] [] name all = refl
same_there tip [] (n ∷ ns) name all = absurd all
same_there tip (o ∷ os) [] name all = absurd all
same_there tip (o ∷ os) (n ∷ ns) name all = go (equal o.0 name) (equal n.0 name) (ap (λ k. equal k name) all.0.0) (same_there tip os ns name all.1) where
  go : (b c : Bool) → b ≡ c → is_some (found in_order name os) ≡ is_some (found in_order name ns)
      → is_some (option_map (λ (p : List ℕ × OpenSheet). p.1) (cond b (Some o) (find (has_key in_order name) os)))
      ≡ is_some (option_map (λ (p : List ℕ × Node). p.1) (cond c (Some n) (find (has_key in_order name) ns)))
  go true true e rest = refl
  go true false e rest = absurd (false≢true (sym e))
  go false true e rest = absurd (false≢true e)
  go false false e rest = rest

some_head : (o : Option Node) → is_some (option_map head o) ≡ is_some o
some_head None = refl
some_head (Some n) = refl

-- headers change where a node goes
pub gone_changes : (tip : NodeList) (opened : OpenList) (nodes new : NodeList) (name : List ℕ) → AllZip (Drafted tip) opened nodes
    → is_some (found in_order name opened) ≡ true → new ≡ without in_order name nodes → heads new ≢ heads nodes
gone_changes tip opened nodes new name all there gone same =
    let none : found in_order name new ≡ None =
    ap (found in_order name) gone ∙ found_without nat_list_cmp_total name nodes name ∙ ap (λ b. cond b None (found in_order name nodes)) (itself name) in
    let headed : (ns : NodeList) → is_some (found in_order name (heads ns)) ≡ is_some (found in_order name ns) =
    λ ns. ap (λ (o : Option Node). is_some o) (found-over head in_order name ns) ∙ some_head (found in_order name ns) in
    false≢true
    (sym (headed new ∙ ap (λ (o : Option Node). is_some o) none)
    ∙ ap (λ ns. is_some (found in_order name ns)) same ∙ headed nodes ∙ sym (same_there tip opened nodes name all) ∙ there)

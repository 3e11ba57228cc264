-- What is found is what the body encodes.
use Rattle.std.proofs.Common.{◌≡◌, ℕ, ◌<◌, ◌^◌, ◌+◌, arith, Bool, true, false, if◌then◌else◌, bytes_eq, codes, List, [], ◌∷◌, Option, Some, None, decimal, refl, ap, ◌∙◌}
use Rattle.yxml.specs.declared.tree.Attribute.{Attribute}
use Rattle.yxml.specs.declared.tree.Tree.{Tree}
use Rattle.yxml.specs.declared.tree.Tree.TheOpen.{Tree-F}
use Rattle.yxml.specs.declared.tree.Tree.TheVariants.{Elem}
use Rattle.yxml.specs.declared.tree.Tree.TheViews.{out-Tree}
use Rattle.xml_codec.specs.Data.{node, string_body, bool_body, pair_body, list_body, option_body, numbered_from, variant_body}
use Rattle.message_values.specs.declared.variant.Variant.{Variant}
use Rattle.message_values.specs.Each.{◌>>=◌}
use Rattle.message_values.specs.Shapes.{node_layer, inner_body, list_in, both, pair_in, at_most_one, option_in, text_layer, string_in, truth_of, bool_in, values_from, index_of, variant_layer, variant_in}
use Rattle.message_values.proofs.KnownNumbers.{index_sound}
use Rattle.message_values.proofs.KnownSteps.{stepped, tested, each_sound}
use Rattle.message_values.proofs.KnownTrees.{tree_elem, tree_text, same_bytes}

pub node_sound : (t : Tree) (body : List Tree) → inner_body t ≡ Some body → t ≡ node body
node_sound t body e = go (out-Tree t) refl e where
  go : (x : Tree-F Tree) → out-Tree t ≡ x → node_layer x ≡ Some body → t ≡ node body
  go (Tree-F.Elem name [] inside) o h =
      let p = tested (bytes_eq name (codes ":")) (Some inside) body h in
      let same : inside ≡ body = cc in
      tree_elem t name [] inside o ∙ ap (λ n. Elem n [] inside) (same_bytes name (codes ":") p.0) ∙ ap node same
  go (Tree-F.Elem name (a ∷ more) inside) o h = absurd (cc)
  go (Tree-F.Text text) o h = absurd (cc)

pub list_sound : (body : List Tree) (items : List (List Tree)) → list_in body ≡ Some items → body ≡ list_body items
list_sound = each_sound inner_body node node_sound

abbrev parts : Option (List Tree × List Tree) → List (List Tree)
parts None = []
parts (Some p) = p.0 ∷ p.1 ∷ []

pub pair_sound : (body first second : List Tree) → pair_in body ≡ Some (first, second) → body ≡ pair_body first second
pair_sound body first second e = let s = stepped (list_in body) both (first, second) e in go s.0 s.1 s.2 where
  go : (items : List (List Tree)) → list_in body ≡ Some items → both items ≡ Some (first, second) → body ≡ pair_body first second
  go [] l h = absurd (cc)
  go (x ∷ []) l h = absurd (cc)
  go (x ∷ y ∷ []) l h = list_sound body _ l ∙ ap (λ o. list_body (parts o)) h
  go (x ∷ y ∷ z ∷ more) l h = absurd (cc)

pub option_sound : (body : List Tree) (item : Option (List Tree)) → option_in body ≡ Some item → body ≡ option_body item
option_sound body item e = let s = stepped (list_in body) at_most_one item e in go s.0 s.1 s.2 where
  go : (items : List (List Tree)) → list_in body ≡ Some items → at_most_one items ≡ Some item → body ≡ option_body item
  go [] l h = let same : None ≡ item = cc in list_sound body _ l ∙ ap option_body same
  go (x ∷ []) l h = let same : Some x ≡ item = cc in list_sound body _ l ∙ ap option_body same
  go (x ∷ y ∷ more) l h = absurd (cc)

pub string_sound : (body : List Tree) (text : List ℕ) → string_in body ≡ Some text → body ≡ string_body text
string_sound [] text e = let same : [] ≡ text = cc in ap string_body same
string_sound (t ∷ []) text e = go (out-Tree t) refl e where
  go : (x : Tree-F Tree) → out-Tree t ≡ x → text_layer x ≡ Some text → t ∷ [] ≡ string_body text
  go (Tree-F.Elem name attributes body) o h = absurd (cc)
  go (Tree-F.Text []) o h = absurd (cc)
  go (Tree-F.Text (b ∷ bs)) o h = let same : b ∷ bs ≡ text = cc in ap (λ u. u ∷ []) (tree_text t (b ∷ bs) o) ∙ ap string_body same
string_sound (t ∷ u ∷ more) text e = absurd (cc)

truth_sound : (text : List ℕ) (b : Bool) → truth_of text ≡ Some b → string_body text ≡ bool_body b
truth_sound text b e = go (bytes_eq text (codes "1")) (bytes_eq text (codes "0")) refl refl e where
  go : (one zero : Bool) → bytes_eq text (codes "1") ≡ one → bytes_eq text (codes "0") ≡ zero
      → (if one then Some true else if zero then Some false else None) ≡ Some b → string_body text ≡ bool_body b
  go true zero o z h = let same : true ≡ b = cc in ap string_body (same_bytes text (codes "1") o) ∙ ap bool_body same
  go false true o z h = let same : false ≡ b = cc in ap string_body (same_bytes text (codes "0") z) ∙ ap bool_body same
  go false false o z h = absurd (cc)

pub bool_sound : (body : List Tree) (b : Bool) → bool_in body ≡ Some b → body ≡ bool_body b
bool_sound body b e = let s = stepped (string_in body) truth_of b e in string_sound body s.0 s.1 ∙ truth_sound s.0 b s.2

values_sound : (n : ℕ) (attributes : List Attribute) (values : List (List ℕ)) → values_from n attributes ≡ Some values → attributes ≡ numbered_from n values
values_sound n [] values e = let same : [] ≡ values = cc in ap (numbered_from n) same
values_sound n (a ∷ more) values e =
    let t = tested (bytes_eq a.key (decimal n)) (values_from (n + 1) more >>= λ others. Some (a.value ∷ others)) values e in
    let s = stepped (values_from (n + 1) more) (λ others. Some (a.value ∷ others)) values t.1 in
    let same : a.value ∷ s.0 ≡ values = cc in
    let first : a ≡ record { key = decimal n; value = a.value } = ap (λ (k : List ℕ). let b : Attribute = record { key = k; value = a.value } in b) (same_bytes a.key (decimal n) t.0) in
    ap (λ (b : Attribute). b ∷ more) first ∙ ap (λ bs. record { key = decimal n; value = a.value } ∷ bs) (values_sound (n + 1) more s.0 s.1) ∙ ap (numbered_from n) same

-- the variant is what the body encodes
pub record IsVariant (body : List Tree) (v : Variant) : Type 0 where
  pub small : v.index < 2 ^ 64
  pub same : body ≡ variant_body v.index v.values v.argument

pub variant_sound : (body : List Tree) (v : Variant) → variant_in body ≡ Some v → IsVariant body v
variant_sound [] v e = absurd (cc)
variant_sound (t ∷ u ∷ more) v e = absurd (cc)
variant_sound (t ∷ []) v e = go (out-Tree t) refl e where
  go : (x : Tree-F Tree) → out-Tree t ≡ x → variant_layer x ≡ Some v → IsVariant (t ∷ []) v
  go (Tree-F.Text text) o h = absurd (cc)
  go (Tree-F.Elem name attributes argument) o h =
      let i = stepped (index_of name) _ v h in
      let a = stepped (values_from 0 attributes) _ v i.2 in
      let is : Some (record { index = i.0; values = a.0; argument = argument }) ≡ Some v = a.2 in
      let index : i.0 ≡ v.index = ap (λ (o : Option Variant). index_or o) is in
      let named = index_sound name i.0 i.1 in
      record {
        small = omega (arith, named.0, index);
        same = ap (λ u. u ∷ []) (tree_elem t name attributes argument o)
            ∙ ap (λ n. Elem n attributes argument ∷ []) named.1
            ∙ ap (λ as'. Elem (decimal i.0) as' argument ∷ []) (values_sound 0 attributes a.0 a.1)
            ∙ ap (λ (o : Option Variant). body_or o) is;
      } where
        index_or : Option Variant → ℕ
        index_or None = 0
        index_or (Some w) = w.index

        body_or : Option Variant → List Tree
        body_or None = []
        body_or (Some w) = variant_body w.index w.values w.argument

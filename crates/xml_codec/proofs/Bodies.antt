-- The bodies of values are normal, and how many elements they nest.
use Rattle.std.proofs.Common.{◌≡◌, ℕ, ◌<◌, ◌≤◌, ◌+◌, ◌^◌, max, Bool, true, false, List, [], ◌∷◌, length, Some, suc, refl, arith, decimal}
use Rattle.std.specs.Prelude.{ℤ, pos, negsuc}
use Rattle.std.specs.Fmt.{signed_decimal}
use Rattle.std.specs.List.{AllByRecursion}
use Rattle.std.proofs.lemmas.Int.{ints}
use Rattle.yxml.specs.declared.tree.Tree.{Tree}
use Rattle.yxml.specs.Marks.{marks, tree_marks}
use Rattle.yxml.specs.Normal.{IsPlain, IsFilled, IsAttribute, IsNormal, height, tree_height, most_nested}
use Rattle.yxml.proofs.KnownMarks.{tree_height-Elem}
use Rattle.xml_codec.specs.Data.{IsShort, node, int_body, bool_body, string_body, pair_body, list_body, option_body, numbered_from, variant_body}
use Rattle.xml_codec.specs.Nested.{IsNestable}
use Rattle.xml_codec.proofs.Graphic.{graphic-decimal, filled-graphic}
use Rattle.xml_codec.proofs.Parts.{IsPart, part-none, part-both, part-element, normal, text-height, text-normal}

int-filled : (n : ℤ) → IsShort n → IsFilled (signed_decimal n)
int-filled (pos n) short = filled-graphic (decimal n) (graphic-decimal n (omega (arith, ints, short.1)))
int-filled (negsuc n) short =
    let g = graphic-decimal (suc n) (omega (arith, ints, short.0)) in
    ((λ e. absurd (cc)), ((refl, g.no_five), (refl, g.no_six)))

pub int_normal : (n : ℤ) → IsShort n → IsNormal (int_body n)
int_normal n short = text-normal (signed_decimal n) (int-filled n short)

pub bool_normal : (b : Bool) → IsNormal (bool_body b)
bool_normal true = text-normal (49 ∷ []) ((λ e. absurd (cc)), ((refl, tt), (refl, tt)))
bool_normal false = text-normal (48 ∷ []) ((λ e. absurd (cc)), ((refl, tt), (refl, tt)))

pub string_normal : (text : List ℕ) → IsPlain text → IsNormal (string_body text)
string_normal [] plain = normal [] part-none (omega arith)
string_normal (b ∷ bs) plain = text-normal (b ∷ bs) ((λ e. absurd (cc)), plain)

-- ---- nodes

node-part : (body : List Tree) → IsNestable body → IsPart (tree_marks (node body))
node-part body n = part-element (58 ∷ []) [] body ((λ e. absurd (cc)), ((refl, tt), (refl, tt))) tt n.normal

pub node_height : (body : List Tree) → tree_height (node body) ≡ 1 + height body
node_height body = tree_height-Elem (58 ∷ []) [] body

list-part : (items : List (List Tree)) → AllByRecursion IsNestable items → IsPart (marks (list_body items))
list-part [] h = part-none
list-part (item ∷ items) h = part-both _ _ (node-part item h.0) (list-part items h.1)

list-low : (items : List (List Tree)) → AllByRecursion IsNestable items → height (list_body items) ≤ most_nested
list-low [] h = omega arith
list-low (item ∷ items) h = omega (arith, node_height item, h.0.room, list-low items h.1)

pub list_normal : (items : List (List Tree)) → AllByRecursion IsNestable items → IsNormal (list_body items)
list_normal items h = normal (list_body items) (list-part items h) (list-low items h)

pub list_height : (items : List (List Tree)) (n : ℕ) → AllByRecursion (λ item. height item ≤ n) items → height (list_body items) ≤ 1 + n
list_height [] n h = omega arith
list_height (item ∷ items) n h = omega (arith, node_height item, h.0, list_height items n h.1)

pub pair_height : (first second : List Tree) → height (pair_body first second) ≡ 1 + max (height first) (height second)
pair_height first second = omega (arith, node_height first, node_height second)

pub option_height : (item : List Tree) → height (option_body (Some item)) ≡ 1 + height item
option_height item = omega (arith, node_height item)

-- ---- variants

numbered-fit : (n : ℕ) (values : List (List ℕ)) → n + length values < 2 ^ 64 → AllByRecursion IsPlain values → AllByRecursion IsAttribute (numbered_from n values)
numbered-fit n [] small h = tt
numbered-fit n (value ∷ values) small h =
    let g = graphic-decimal n (omega (arith, small)) in
    ((filled-graphic (decimal n) g, g.no_equals, h.0), numbered-fit (n + 1) values (omega (arith, small)) h.1)

pub variant_height : (index : ℕ) (values : List (List ℕ)) (argument : List Tree) → height (variant_body index values argument) ≡ 1 + height argument
variant_height index values argument = omega (arith, tree_height-Elem (decimal index) (numbered_from 0 values) argument)

pub variant_normal : (index : ℕ) (values : List (List ℕ)) (argument : List Tree) → index + length values < 2 ^ 64 → AllByRecursion IsPlain values → IsNestable argument
    → IsNormal (variant_body index values argument)
variant_normal index values argument small plain n =
    normal _ (part-both _ [] (part-element (decimal index) (numbered_from 0 values) argument (filled-graphic (decimal index) (graphic-decimal index (omega (arith, small))))
    (numbered-fit 0 values (omega (arith, small)) plain) n.normal) part-none)
    (omega (arith, variant_height index values argument, n.room))

pub int_height : (n : ℤ) → height (int_body n) ≡ 0
int_height n = text-height (signed_decimal n)

pub bool_height : (b : Bool) → height (bool_body b) ≡ 0
bool_height true = text-height (49 ∷ [])
bool_height false = text-height (48 ∷ [])

pub string_height : (text : List ℕ) → height (string_body text) ≡ 0
string_height [] = refl
string_height (b ∷ bs) = text-height (b ∷ bs)

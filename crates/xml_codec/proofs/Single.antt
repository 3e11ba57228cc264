-- A body encodes at most one value.
use Rattle.std.proofs.Common.{◌≡◌, ◌≢◌, ℕ, ◌<◌, ◌+◌, ◌^◌, Bool, true, false, List, [], ◌∷◌, ◌++◌, length, Option, Some, None, MatchBool, refl, sym, ap, ◌∙◌, decimal}
use Rattle.std.specs.Prelude.{ℤ}
use Rattle.std.proofs.lemmas.Fmt.{signed_decimal_injective, decimal_injective}
use Rattle.std.proofs.lemmas.List.{length-map, append_cancel_right}
use Rattle.yxml.specs.declared.tree.Attribute.{Attribute}
use Rattle.yxml.specs.declared.tree.Tree.{Tree}
use Rattle.yxml.specs.declared.tree.Tree.TheVariants.{Elem, Text}
use Rattle.yxml.specs.Marks.{opening, closing, marks, tree_marks}
use Rattle.yxml.proofs.KnownMarks.{tree_marks-Elem}
use Rattle.yxml.proofs.KnownRebuilt.{same_from_marks}
use Rattle.xml_codec.specs.declared.fault.DataFault.{DataFault}
use Rattle.xml_codec.specs.declared.fault.DataFault.TheVariants.{Wrong, NoMemory}
use Rattle.xml_codec.specs.Data.{IsShort, node, int_body, pair_body, list_body, option_body, numbered_from, variant_body}
use Rattle.xml_codec.specs.Faults.{IsFirstOther, IsNodesFault, two, at_most_one}
use Rattle.xml_codec.proofs.Numbers.{short_small}

text_same : (s t : List ℕ) → Text s ∷ [] ≡ Text t ∷ [] → s ≡ t
text_same s t e = cc

-- an element's body is told by its marks
inside_same : (one other : List ℕ) (some more : List Attribute) (a b : List Tree) → Elem one some a ≡ Elem other more b → a ≡ b
inside_same one other some more a b e =
    let alike : opening one some ∷ (marks a ++ closing ∷ []) ≡ opening other more ∷ (marks b ++ closing ∷ []) =
    sym (tree_marks-Elem one some a) ∙ ap tree_marks e ∙ tree_marks-Elem other more b in
    let tails : marks a ++ closing ∷ [] ≡ marks b ++ closing ∷ [] = cc in
    same_from_marks a b (append_cancel_right (marks a) (marks b) (closing ∷ []) tails)

node_same : (a b : List Tree) → node a ≡ node b → a ≡ b
node_same a b e = inside_same _ _ _ _ a b e

pub int_one : (m n : ℤ) → IsShort m → IsShort n → int_body m ≡ int_body n → m ≡ n
int_one m n p q e = signed_decimal_injective m n (short_small m p) (short_small n q) (text_same _ _ e)

pub list_one : (a b : List (List Tree)) → list_body a ≡ list_body b → a ≡ b
list_one [] [] e = refl
list_one [] (y ∷ ys) e = absurd (cc)
list_one (x ∷ xs) [] e = absurd (cc)
list_one (x ∷ xs) (y ∷ ys) e =
    let first : node x ≡ node y = cc in
    let others : list_body xs ≡ list_body ys = cc in
    let h = node_same x y first in let k = list_one xs ys others in cc

pub pair_one : (a b c d : List Tree) → pair_body a b ≡ pair_body c d → (a ≡ c) × (b ≡ d)
pair_one a b c d e = let h = list_one (a ∷ b ∷ []) (c ∷ d ∷ []) e in (cc, cc)

pub option_one : (a b : Option (List Tree)) → option_body a ≡ option_body b → a ≡ b
option_one None None e = refl
option_one None (Some y) e = absurd (cc)
option_one (Some x) None e = absurd (cc)
option_one (Some x) (Some y) e = let h = list_one (x ∷ []) (y ∷ []) e in cc

-- the attribute with this number
abbrev numbered : ℕ → List ℕ → Attribute
numbered n value = record { key = decimal n; value = value }

numbered_one : (n : ℕ) (s t : List (List ℕ)) → numbered_from n s ≡ numbered_from n t → s ≡ t
numbered_one n [] [] e = refl
numbered_one n [] (y ∷ ys) e = absurd (cc)
numbered_one n (x ∷ xs) [] e = absurd (cc)
numbered_one n (x ∷ xs) (y ∷ ys) e =
    let first : numbered n x ≡ numbered n y = cc in
    let others : numbered_from (n + 1) xs ≡ numbered_from (n + 1) ys = cc in
    let value : x ≡ y = ap (λ (a : Attribute). a.value) first in
    let k = numbered_one (n + 1) xs ys others in cc

pub variant_one : (i j : ℕ) (s t : List (List ℕ)) (a b : List Tree) → i < 2 ^ 64 → j < 2 ^ 64
    → variant_body i s a ≡ variant_body j t b → (i ≡ j) × (s ≡ t) × (a ≡ b)
variant_one i j s t a b p q e =
    let whole : Elem (decimal i) (numbered_from 0 s) a ≡ Elem (decimal j) (numbered_from 0 t) b = cc in
    let names : decimal i ≡ decimal j = cc in
    let attributes : numbered_from 0 s ≡ numbered_from 0 t = cc in
    (decimal_injective i j p q names, numbered_one 0 s t attributes, inside_same _ _ _ _ a b whole)

other_none : (before : List (List Tree)) (child : Tree) (behind : List Tree) → ((inside : List Tree) → child ≢ node inside)
    → (items : List (List Tree)) → list_body before ++ child ∷ behind ≢ list_body items
other_none [] child behind other [] e = absurd (cc)
other_none [] child behind other (item ∷ items) e = other item cc
other_none (b ∷ before) child behind other [] e = absurd (cc)
other_none (b ∷ before) child behind other (item ∷ items) e =
    let others : list_body before ++ child ∷ behind ≡ list_body items = cc in other_none before child behind other items others

-- a body at fault is no body of so many nodes as there may be
pub faulty_none : (may : ℕ → Bool) (body : List Tree) (f : DataFault) → f ≢ NoMemory → IsNodesFault may body f
    → (items : List (List Tree)) → may (length items) ≡ true → body ≢ list_body items
faulty_none may body NoMemory some fault items allowed e = absurd (some refl)
faulty_none may body (Wrong path) some fault items allowed e = go (may (length body)) refl fault where
  go : (b : Bool) → may (length body) ≡ b → MatchBool b ((place : ℕ) × IsFirstOther body place × (path ≡ place ∷ [])) (path ≡ []) → ⊥
  go true m h = other_none h.1.before h.1.child h.1.behind h.1.other items (sym h.1.whole ∙ e)
  go false m h =
      let same : length body ≡ length items = ap length e ∙ length-map items node in
      let no : may (length items) ≡ false = ap may (sym same) ∙ m in cc

pub pair_none : (body : List Tree) (f : DataFault) → f ≢ NoMemory → IsNodesFault two body f → (first second : List Tree) → body ≢ pair_body first second
pair_none body f some fault first second = faulty_none two body f some fault (first ∷ second ∷ []) refl

pub option_none : (body : List Tree) (f : DataFault) → f ≢ NoMemory → IsNodesFault at_most_one body f → (item : Option (List Tree)) → body ≢ option_body item
option_none body f some fault None = faulty_none at_most_one body f some fault [] refl
option_none body f some fault (Some item) = faulty_none at_most_one body f some fault (item ∷ []) refl

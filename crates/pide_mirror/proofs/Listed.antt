-- What is listed is gone through from the back, so that the first list of a node stays.
use Rattle.std.proofs.Common.{◌≡◌, ℕ, zero, suc, ◌≤◌, ◌+◌, ◌-◌, Bool, true, false, cond, List, [], ◌∷◌, ◌++◌, length, take, Option, Some, None, refl, ap, sym, ◌∙◌, arith, get_or}
use Rattle.std.specs.Prelude.{find, slice_get, not, ◌==◌, ◌||◌, if◌then◌else◌}
use Rattle.std.specs.List.{list_any}
use Rattle.std.specs.Borrow.{Bor}
use Rattle.std.specs.Option.{option_and_then, option_copied, option_map, option_map_or}
use Rattle.std.proofs.lemmas.Bool.{or_left, or_right}
use Rattle.std.proofs.lemmas.List.Folds.{list_any-append}
use Rattle.text_words.proofs.KnownLists.{position_found}
use Rattle.shared_map.specs.Pairs.{found}
use Rattle.doc_nodes.specs.declared.node.Node.{Node}
use Rattle.doc_nodes.specs.Names.{in_order, equal}
use Rattle.doc_nodes.specs.Imports.{NodeList, place_of}
use Rattle.reply_messages.specs.declared.told.NodeRows.{NodeRows}
use Rattle.mirror_rules.specs.Rows.{has_command, is_unknown}
use Rattle.pide_mirror.specs.Listing.{is_of}

-- a node without a place is unknown
none_unknown : (nodes : NodeList) (one : NodeRows) → place_of nodes one.node ≡ None → is_unknown nodes one ≡ true
none_unknown nodes one none = go (found in_order one.node nodes) (ap (option_map (λ (pair : List ℕ × Node). pair.1))
    (sym (position_found (λ (pair : List ℕ × Node). equal pair.0 one.node) nodes) ∙ ap (option_and_then (slice_get nodes)) none))
  where
    go : (o : Option Node) → o ≡ None → option_map_or (λ node. list_any (λ r. not (has_command node r.command)) one.rows) o true ≡ true
    go None is = refl
    go (Some node) is = absurd (cc)

-- where it is known what a list is of, it is of this place, and where it isn't, it is unknown
pub known_at : (nodes : NodeList) (one : NodeRows) (place : ℕ) → Some place ≡ (if is_unknown nodes one then None else place_of nodes one.node)
    → (is_unknown nodes one ≡ false) × (place_of nodes one.node ≡ Some place)
known_at nodes one place is = go (is_unknown nodes one) is
  where
    go : (b : Bool) → Some place ≡ (if b then None else place_of nodes one.node) → (b ≡ false) × (place_of nodes one.node ≡ Some place)
    go true at = absurd (cc)
    go false at = (refl, sym at)

pub unknown_at : (nodes : NodeList) (one : NodeRows) → None ≡ (if is_unknown nodes one then None else place_of nodes one.node) → is_unknown nodes one ≡ true
unknown_at nodes one is = go (is_unknown nodes one) refl is
  where
    go : (b : Bool) → is_unknown nodes one ≡ b → None ≡ (if b then None else place_of nodes one.node) → b ≡ true
    go true of at = refl
    go false of at = let out = none_unknown nodes one (sym at) in sym of ∙ out

-- one list more
pub listed_more : (nodes : NodeList) (behind : List NodeRows) (one : NodeRows) (place : ℕ) (table after : ℕ → Option NodeRows)
    → is_unknown nodes one ≡ false → place_of nodes one.node ≡ Some place → list_any (is_unknown nodes) behind ≡ false
    → ((p : ℕ) → table p ≡ find (is_of nodes p) behind) → ((p : ℕ) → after p ≡ cond (place == p) (Some one) (table p))
    → (list_any (is_unknown nodes) (one ∷ behind) ≡ false) × ((p : ℕ) → after p ≡ find (is_of nodes p) (one ∷ behind))
listed_more nodes behind one place table after known at all is so = (
  ap (λ b. b || list_any (is_unknown nodes) behind) known ∙ all,
  λ p. so p ∙ ap (λ o. cond (place == p) (Some one) o) (is p)
      ∙ sym (ap (λ o. cond (option_map_or (λ q. q == p) o false) (Some one) (find (is_of nodes p) behind)) at),
)

-- the last of a list
last_at : {A : Type 0} (xs : List A) (n : ℕ) (x : A) → length xs ≡ n + 1 → x ≡ get_or xs n x → xs ≡ take n xs ++ x ∷ []
last_at [] n x long is = absurd (omega (arith, long))
last_at (y ∷ []) zero x long is = ap (λ z. z ∷ []) (sym is)
last_at (y ∷ z ∷ xs) zero x long is = absurd (omega (arith, long))
last_at (y ∷ xs) (suc n) x long is = ap (λ all. y ∷ all) (last_at xs n x (omega (arith, long)) is)

pub last_and_front : {A : Type 0} (xs : List A) (x : A) → 1 ≤ length xs → x ≡ get_or xs (length xs - 1) x → xs ≡ take (length xs - 1) xs ++ x ∷ []
last_and_front xs x some is = last_at xs (length xs - 1) x (omega (arith, some)) is

-- an unknown list is among all
pub any_listed : {A : Type 0} (p : A → Bool) (all rest behind : List A) (one : A) → all ≡ rest ++ behind → rest ≡ take (length rest - 1) rest ++ one ∷ []
    → p one ≡ true → list_any p all ≡ true
any_listed p all rest behind one whole split is =
    ap (list_any p) whole ∙ list_any-append p rest behind
    ∙ or_left (list_any p rest) (list_any p behind)
    (ap (list_any p) split ∙ list_any-append p (take (length rest - 1) rest) (one ∷ []) ∙ or_right (list_any p (take (length rest - 1) rest)) (list_any p (one ∷ [])) (or_left (p one) false is))

-- what is lent and put in is had as it is
pub gives_lent : {A : Type 0} (b : Bool) (x : A) (lent : Bor A) (o : Option (Bor A)) → lent.now ≡ x → option_copied (cond b (Some lent) o) ≡ cond b (Some x) (option_copied o)
gives_lent true x lent o is = ap (λ y. Some y) is
gives_lent false x lent o is = refl

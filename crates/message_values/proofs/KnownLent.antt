-- What is found in a body whose first tree is told.
use Rattle.std.proofs.Common.{◌≡◌, ◌≢◌, ◌↔◌, ℕ, Bool, false, IsTrue, MatchOption, List, [], ◌∷◌, ◌++◌, Option, Some, None, refl, sym, ap, ◌∙◌, append_assoc, append-nil}
use Rattle.std.proofs.lemmas.Bool.{both_ways}
use Rattle.yxml.specs.declared.tree.Tree.{Tree}
use Rattle.xml_codec.specs.Data.{node, list_body, option_body, string_body}
use Rattle.message_values.specs.Each.{◌>>=◌, each}
use Rattle.message_values.specs.Shapes.{list_in, items_in, pair_in, option_in, string_in}
use Rattle.message_values.proofs.KnownFinds.{node_complete, pair_complete, option_complete, string_complete}
use Rattle.message_values.proofs.KnownFound.{list_sound, pair_sound, option_sound, string_sound}
use Rattle.message_values.proofs.KnownSteps.{none_found}

-- a test that says no
pub says_no : {P : Type 0} (b : Bool) → IsTrue b ↔ P → b ≡ false → P → ⊥
says_no b both denied p = both_ways b denied (both.1 p)

-- no node stands first in the body
abbrev pub HasNoNode : List Tree → Type 0
HasNoNode body = (inside more : List Tree) → body ≢ node inside ∷ more

pub behind_first : {A : Type 0} (x y : A) (xs ys : List A) → x ∷ xs ≡ y ∷ ys → xs ≡ ys
behind_first x y xs ys e = cc

pub pair_without_first : (body : List Tree) → HasNoNode body → pair_in body ≡ None
pair_without_first body never = none_found (pair_in body) (λ p e. never p.0 (node p.1 ∷ []) (pair_sound body p.0 p.1 e))

pub pair_without_second : (body first rest : List Tree) → body ≡ node first ∷ rest → HasNoNode rest → pair_in body ≡ None
pair_without_second body first rest is never = none_found (pair_in body)
    (λ p e. never p.1 [] (behind_first (node first) (node p.0) rest (node p.1 ∷ []) (sym is ∙ pair_sound body p.0 p.1 e)))

pub pair_with_more : (body first rest second more : List Tree) → body ≡ node first ∷ rest → rest ≡ node second ∷ more → more ≢ [] → pair_in body ≡ None
pair_with_more body first rest second more is then some = none_found (pair_in body)
    (λ p e. some (behind_first (node second) (node p.1) more []
    (sym then ∙ behind_first (node first) (node p.0) rest (node p.1 ∷ []) (sym is ∙ pair_sound body p.0 p.1 e))))

pub pair_there : (body first rest second more : List Tree) → body ≡ node first ∷ rest → rest ≡ node second ∷ more → more ≡ [] → pair_in body ≡ Some (first, second)
pair_there body first rest second more is then none =
    ap pair_in (is ∙ ap (λ ts. node first ∷ ts) (then ∙ ap (λ ts. node second ∷ ts) none)) ∙ pair_complete first second

pub option_none : (body : List Tree) → body ≡ [] → option_in body ≡ Some None
option_none body none = ap option_in none

option_some : (body : List Tree) (item : Option (List Tree)) → body ≡ option_body item → body ≢ [] → (inside : List Tree) × (body ≡ node inside ∷ [])
option_some body None e some = absurd (some e)
option_some body (Some inside) e some = (inside, e)

pub option_without : (body : List Tree) → body ≢ [] → HasNoNode body → option_in body ≡ None
option_without body some never = none_found (option_in body)
    (λ item e. let s = option_some body item (option_sound body item e) some in never s.0 [] s.1)

pub option_with_more : (body first rest : List Tree) → body ≡ node first ∷ rest → rest ≢ [] → option_in body ≡ None
option_with_more body first rest is some = none_found (option_in body)
    (λ item e. let s = option_some body item (option_sound body item e) (λ none. absurd (let h = sym is ∙ none in cc)) in
    some (behind_first (node first) (node s.0) rest [] (sym is ∙ s.1)))

pub option_there : (body first rest : List Tree) → body ≡ node first ∷ rest → rest ≡ [] → option_in body ≡ Some (Some first)
option_there body first rest is none = ap option_in (is ∙ ap (λ ts. node first ∷ ts) none) ∙ option_complete (Some first)

string_without : (body : List Tree) → ((text : List ℕ) → body ≢ string_body text) → string_in body ≡ None
string_without body never = none_found (string_in body) (λ text e. never text (string_sound body text e))

-- what is told of a body that may be a text
pub string_told : (body : List Tree) (found : Option (List ℕ))
    → MatchOption found ((text : List ℕ) → body ≢ string_body text) (λ text. body ≡ string_body text) → found ≡ string_in body
string_told body None never = sym (string_without body never)
string_told body (Some text) is = sym (ap string_in is ∙ string_complete text)

-- with what has been read before
abbrev pub behind : {A : Type 0} → List A → Option (List A) → Option (List A)
behind read o = o >>= λ rest. Some (read ++ rest)

-- a list and then each of its items
list_then_each : {A : Type 0} (shape : List Tree → Option A) (inside : List Tree) (items : Option (List (List Tree)))
    → ((items >>= λ ys. Some (inside ∷ ys)) >>= each shape) ≡ (shape inside >>= λ y. (items >>= each shape) >>= λ ys. Some (y ∷ ys))
list_then_each shape inside None = sym (nothing (shape inside)) where
  nothing : {A : Type 0} (o : Option A) → (o >>= λ y. (let n : Option (List A) = None in n) >>= λ ys. Some (y ∷ ys)) ≡ None
  nothing None = refl
  nothing (Some y) = refl
list_then_each shape inside (Some ys) = refl

module _ {A : Type 0} (shape : List Tree → Option A) where
  items_first : (inside more : List Tree) → items_in shape (node inside ∷ more) ≡ (shape inside >>= λ y. items_in shape more >>= λ ys. Some (y ∷ ys))
  items_first inside more =
      ap (λ o. (o >>= λ y. list_in more >>= λ ys. Some (y ∷ ys)) >>= each shape) (node_complete inside) ∙ list_then_each shape inside (list_in more)

  -- no item stands first
  pub items_without : (body : List Tree) → body ≢ [] → HasNoNode body → items_in shape body ≡ None
  items_without body some never = ap (λ o. o >>= each shape) (none_found (list_in body) (λ items e. none_there items (list_sound body items e))) where
    none_there : (items : List (List Tree)) → body ≡ list_body items → ⊥
    none_there [] e = some e
    none_there (inside ∷ items) e = never inside (list_body items) e

  with_first : (y : A) (o : Option (List A)) (read : List A) → behind read (o >>= λ ys. Some (y ∷ ys)) ≡ behind (read ++ y ∷ []) o
  with_first y None read = refl
  with_first y (Some ys) read = ap Some (sym (append_assoc read (y ∷ []) ys))

  -- one item more is read
  pub items_next : (whole : Option (List A)) (read : List A) (body inside more : List Tree) (y : A) → whole ≡ behind read (items_in shape body)
      → body ≡ node inside ∷ more → shape inside ≡ Some y → whole ≡ behind (read ++ y ∷ []) (items_in shape more)
  items_next whole read body inside more y e is found =
      e ∙ ap (λ b. behind read (items_in shape b)) is ∙ ap (behind read) (items_first inside more ∙ ap (λ o. o >>= λ z. items_in shape more >>= λ ys. Some (z ∷ ys)) found)
      ∙ with_first y (items_in shape more) read

  -- the next item has another shape
  pub items_other : (whole : Option (List A)) (read : List A) (body inside more : List Tree) → whole ≡ behind read (items_in shape body)
      → body ≡ node inside ∷ more → shape inside ≡ None → whole ≡ None
  items_other whole read body inside more e is none =
      e ∙ ap (λ b. behind read (items_in shape b)) is ∙ ap (behind read) (items_first inside more ∙ ap (λ o. o >>= λ z. items_in shape more >>= λ ys. Some (z ∷ ys)) none)

  -- no item is next, though something is
  pub items_broken : (whole : Option (List A)) (read : List A) (body : List Tree) → whole ≡ behind read (items_in shape body)
      → body ≢ [] → HasNoNode body → whole ≡ None
  items_broken whole read body e some never = e ∙ ap (behind read) (items_without body some never)

  -- nothing is left
  pub items_all : (whole : Option (List A)) (read : List A) (body : List Tree) → whole ≡ behind read (items_in shape body) → body ≡ [] → whole ≡ Some read
  items_all whole read body e none = e ∙ ap (λ b. behind read (items_in shape b)) none ∙ ap Some (append-nil read)

  pub items_started : (body : List Tree) → items_in shape body ≡ behind [] (items_in shape body)
  items_started body = go (items_in shape body) where
    go : (o : Option (List A)) → o ≡ behind [] o
    go None = refl
    go (Some ys) = refl

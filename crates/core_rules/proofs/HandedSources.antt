-- What nodes hand on is older, and evaluated.
use Rattle.std.proofs.Common.{◌≡◌, ℕ, zero, suc, ◌<◌, ◌≤◌, Bool, true, false, not, cond, List, [], ◌∷◌, length, map, find, Option, Some, None, refl, ap, sym, subst, ◌∙◌, arith}
use Rattle.std.proofs.lemmas.Bool.{eqb-true, or_parts}
use Rattle.text_words.proofs.KnownLists.{each-so}
use Rattle.std.specs.Prelude.{◌==◌, slice_get}
use Rattle.std.specs.List.{AllByRecursion, list_any}
use Rattle.std.specs.Option.{option_map_or}
use Rattle.doc_nodes.specs.declared.node.Node.{Node}
use Rattle.doc_nodes.specs.Imports.{place_of, is_bad}
use Rattle.exec_rules.specs.declared.key.Last.{Last}
use Rattle.exec_rules.specs.declared.key.Last.TheVariants.{Empty, Open, Made}
use Rattle.exec_rules.specs.declared.row.Row.{Row}
use Rattle.exec_rules.specs.declared.home.Head.{Head}
use Rattle.exec_rules.specs.declared.home.Home.{Home}
use Rattle.exec_rules.specs.declared.home.Input.TheVariants as input
use Rattle.exec_rules.specs.declared.version.Version.{Version}
use Rattle.exec_rules.specs.Keys.{key_by}
use Rattle.doc_nodes.specs.Rounds.{is_known}
use Rattle.doc_nodes.specs.Imports.{ordered_places}
use Rattle.core_rules.specs.Numbered.{numbered}
use Rattle.core_rules.specs.Parts.{sources_of}
use Rattle.core_rules.specs.FromScratch.{assigned_to, last_by, key_from, is_open_last, has_open, head_in, input_at}
use Rattle.core_rules.specs.Sources.{is_evaluation, HandsOn, AllHandOn, HandOnBy, BeginsFrom}
use Rattle.core_rules.proofs.Tables.{AreOlder}

-- an execution takes up what is older than itself
pub older_than : (hs : List Home) (e : ℕ) (h : Home) → AreOlder hs → numbered hs e ≡ Some h
    → AllByRecursion (λ f. f < e) (sources_of h.input)
older_than [] e h older at = absurd (cc)
older_than (x ∷ hs) e h older at = go (e == suc (length hs)) refl at (older_than hs e h older.1)
  where
    go : (b : Bool) → (e == suc (length hs)) ≡ b → cond b (Some x) (numbered hs e) ≡ Some h
        → (numbered hs e ≡ Some h → AllByRecursion (λ f. f < e) (sources_of h.input))
        → AllByRecursion (λ f. f < e) (sources_of h.input)
    go true is at rest =
        let same : x ≡ h = cc in
        let last = eqb-true e (suc (length hs)) is in
        subst (λ (y : Home). AllByRecursion (λ f. f < e) (sources_of y.input)) same
        (each-so (λ f. f ≤ length hs) (λ f. f < e) (λ f le. omega (arith, le, last)) (sources_of x.input) older.0)
    go false is at rest = rest at

-- an import that is not bad is a node
known_place : (front : List ℕ) (o : Option ℕ) → is_known front o ≡ true → (q : ℕ) × (o ≡ Some q)
known_place front None is = absurd (cc)
known_place front (Some q) is = (q, refl)

module _ (v : Version) where
  hands : (name : List ℕ) → is_bad v.nodes name ≡ false → (last : Last) → is_open_last last ≡ false → HandsOn v.nodes name last
  hands name good Empty is = known_place (ordered_places v.nodes) (place_of v.nodes name) (not_false (is_known (ordered_places v.nodes) (place_of v.nodes name)) good)
    where
      not_false : (b : Bool) → not b ≡ false → b ≡ true
      not_false true x = refl
      not_false false x = absurd (cc)
  hands name good Open is = absurd (cc)
  hands name good (Made e) is = tt

  all_hand : (names : List (List ℕ)) → find (is_bad v.nodes) names ≡ None
      → list_any is_open_last (map (last_by v.nodes (assigned_to v)) names) ≡ false
      → AllHandOn v.nodes names (map (last_by v.nodes (assigned_to v)) names)
  all_hand [] good closed = tt
  all_hand (name ∷ names) good closed = go (is_bad v.nodes name) refl good (all_hand names)
    where
      go : (b : Bool) → is_bad v.nodes name ≡ b → cond b (Some name) (find (is_bad v.nodes) names) ≡ None
          → (find (is_bad v.nodes) names ≡ None → list_any is_open_last (map (last_by v.nodes (assigned_to v)) names) ≡ false
          → AllHandOn v.nodes names (map (last_by v.nodes (assigned_to v)) names))
          → AllHandOn v.nodes (name ∷ names) (map (last_by v.nodes (assigned_to v)) (name ∷ names))
      go true is none rest = absurd (cc)
      go false is none rest =
          let parts = or_parts (is_open_last (last_by v.nodes (assigned_to v) name)) _ closed in
          (hands name is (last_by v.nodes (assigned_to v) name) parts.0, rest none parts.1)

  key_hands : (node : Node) → has_open (key_from v.nodes (assigned_to v) node) ≡ false
      → HandOnBy v.nodes node.imports (key_from v.nodes (assigned_to v) node)
  key_hands node closed = go (find (is_bad v.nodes) node.imports) refl closed
    where
      go : (o : Option (List ℕ)) → find (is_bad v.nodes) node.imports ≡ o
          → has_open (key_by o (map (last_by v.nodes (assigned_to v)) node.imports)) ≡ false
          → HandOnBy v.nodes node.imports (key_by o (map (last_by v.nodes (assigned_to v)) node.imports))
      go None is closed = all_hand node.imports is closed
      go (Some name) is closed = tt

  pub begins_from : (p i : ℕ) (pair : List ℕ × Node) → (assigned_to v p).key ≡ key_from v.nodes (assigned_to v) pair.1
      → has_open (assigned_to v p).key ≡ false
      → BeginsFrom v.nodes (input_at (head_in v.nodes p pair (assigned_to v p).key) (assigned_to v p).rows i)
  begins_from p zero pair key closed =
      subst (HandOnBy v.nodes pair.1.imports) (sym key) (key_hands pair.1 (ap has_open (sym key) ∙ closed))
  begins_from p (suc i) pair key closed = go (slice_get (assigned_to v p).rows i)
    where
      go : (o : Option Row) → BeginsFrom v.nodes (option_map_or (λ (r : Row). input.Next r.evaluation) o
          (input.First (head_in v.nodes p pair (assigned_to v p).key)))
      go None = subst (HandOnBy v.nodes pair.1.imports) (sym key) (key_hands pair.1 (ap has_open (sym key) ∙ closed))
      go (Some r) = tt

pub input_evaluates : (head : Head) (rows : List Row) (i : ℕ) → is_evaluation (input_at head rows i) ≡ true
input_evaluates head rows zero = refl
input_evaluates head rows (suc i) = go (slice_get rows i)
  where
    go : (o : Option Row) → is_evaluation (option_map_or (λ (r : Row). input.Next r.evaluation) o (input.First head)) ≡ true
    go None = refl
    go (Some r) = refl

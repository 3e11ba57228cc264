-- A node of a new version beside the node of its name in the tip.
use Rattle.std.proofs.Common.{◌≡◌, ℕ, ◌<◌, ◌≤◌, true, false, cond, List, [], ◌∷◌, length, find, Option, Some, None, refl, ap, subst, ◌∙◌, arith}
use Rattle.std.specs.Prelude.{slice_get}
use Rattle.std.specs.List.{AllByRecursion}
use Rattle.std.specs.Option.{option_map, option_map_or, option_and_then}
use Rattle.doc_nodes.specs.declared.node.Entry.{Entry}
use Rattle.doc_nodes.specs.declared.node.Node.{Node}
use Rattle.doc_nodes.specs.Imports.{NodeList, place_of, is_bad}
use Rattle.exec_rules.specs.declared.key.Key.{Key}
use Rattle.exec_rules.specs.declared.row.Assigned.{Assigned}
use Rattle.exec_rules.specs.declared.home.Home.{Home}
use Rattle.exec_rules.specs.declared.home.Input.{Input}
use Rattle.exec_rules.specs.declared.home.Input.TheVariants as input
use Rattle.exec_rules.specs.declared.version.Version.{Version}
use Rattle.exec_rules.specs.Keys.{nothing_assigned, same_key}
use Rattle.exec_rules.specs.Kept.{BlobList, kept_count}
use Rattle.exec_rules.specs.Assigning.{Update, times, entries_at, entries_in, assigned_in, head_at}
use Rattle.core_rules.specs.Numbered.{numbered}
use Rattle.core_rules.specs.Doc.{Doc, update_of}
use Rattle.core_rules.specs.FromScratch.{assigned_to, key_from, has_open, head_in}
use Rattle.core_rules.specs.Updates.{node_in, KeepsHeader, FitsNode}
use Rattle.core_rules.proofs.KnownNumbers.{numbered_within}
use Rattle.core_rules.proofs.Tables.{AtMost, AreOlder}
use Rattle.core_rules.proofs.HomedRows.{EvalsHomed, Extends}
use Rattle.core_rules.proofs.KeptRows.{SameFront}
use Rattle.core_rules.proofs.SameCommands.{same_front}
use Rattle.exec_rules.proofs.KnownKept.{kept_rows}
use Rattle.core_rules.proofs.KnownCommands.{same_sources, differ_at, most_at}
use Rattle.core_rules.proofs.Facts.{Facts}
use Rattle.core_rules.proofs.KnownPlaces.{FoundAt, place_found}
use Rattle.core_rules.proofs.ImportAliases.{ImportStands}
use Rattle.core_rules.proofs.AliasesByKey.{entries_found}
use Rattle.core_rules.proofs.Sound.{IsSoundAt, IsSoundTip, sound_on}
use Rattle.core_rules.proofs.BeforeNode.{same_header, same_head}

-- what a version assigns to a name is what it assigns to the place of the name, or nothing
module _ (v : Version) (name : List ℕ) (P : Option Assigned → Type 0) (none : P None)
    (some : (q : ℕ) → place_of v.nodes name ≡ Some q → P (Some (assigned_to v q))) where
  at_place : (q : ℕ) → place_of v.nodes name ≡ Some q → (a : Option Assigned) → slice_get v.assigned q ≡ a → P a
  at_place q e None is = none
  at_place q e (Some a) is =
      subst (λ x. P (Some x)) (ap (λ o. option_map_or (λ (b : Assigned). b) o nothing_assigned)
      is) (some q e)

  by_place : (o : Option ℕ) → place_of v.nodes name ≡ o → P (option_and_then (slice_get v.assigned) o)
  by_place None e = none
  by_place (Some q) e = at_place q e (slice_get v.assigned q) refl

  pub assigned_cases : P (assigned_in v name)
  assigned_cases = by_place (place_of v.nodes name) refl

pub evals_within : (homes : List Home) (node : Node) (blobs : BlobList) (m : ℕ) (es : List Entry) (vs : List ℕ) (i : Input)
    → length homes ≤ m → EvalsHomed (numbered homes) node blobs es vs i → AtMost m vs
evals_within homes node blobs m es [] i le all = tt
evals_within homes node blobs m [] (v ∷ vs) i le all = absurd all
evals_within homes node blobs m (e ∷ es) (v ∷ vs) i le all = (
  let within = numbered_within homes v _ all.0 in omega arith,
  evals_within homes node blobs m es vs (input.Next v) le all.1,
)

-- a node of an update to a version that is sound, where the nodes before it are assigned
pub record AfterTip (d : Doc) (homes : List Home) (nodes : NodeList) (blobs : BlobList) (assigned : ℕ → Assigned) (p : ℕ)
    (pair : List ℕ × Node) (key : Key) (m : ℕ) : Type 0 where
  pub facts : Facts
  pub tip : IsSoundTip d
  pub older : AreOlder homes
  pub more : Extends (numbered d.homes) (numbered homes)
  pub at : slice_get nodes p ≡ Some pair
  pub fits : FitsNode d pair
  pub is_key : key ≡ key_from nodes assigned pair.1
  pub stand : find (is_bad nodes) pair.1.imports ≡ None → AllByRecursion (ImportStands homes nodes blobs assigned) pair.1.imports
  pub count : length d.homes ≤ m

module _ {d : Doc} {homes : List Home} {nodes : NodeList} {blobs : BlobList} {assigned : ℕ → Assigned} {p : ℕ} {pair : List ℕ × Node}
    {key : Key} {m : ℕ} (new : AfterTip d homes nodes blobs assigned p pair key m) where
  abbrev pub u : Update
  u = update_of d nodes blobs

  -- how many are kept of what was assigned
  abbrev pub count_kept : Option Assigned → ℕ
  count_kept o = option_map_or
      (λ old. cond (same_key key old.key)
      (kept_count (times u) pair.1.entries (entries_in u.tip pair.0) old.rows) 0) o 0

  module _ (q : ℕ) (place : place_of d.tip.nodes pair.0 ≡ Some q) where
    pub found : FoundAt d.tip.nodes pair.0 q
    found = place_found d.tip.nodes pair.0 q place

    pub sound_here : IsSoundAt d.homes d.tip.nodes d.tip.blobs (assigned_to d.tip) q found.pair
    sound_here = new.tip.tip.each q found.pair found.stands

    pub was_entries : entries_in d.tip pair.0 ≡ found.pair.1.entries
    was_entries = ap (λ o. option_map_or (entries_at d.tip.nodes) o []) place ∙ entries_found d.tip.nodes q found.pair found.stands

    was_node : node_in d.tip pair.0 ≡ Some found.pair.1
    was_node = ap (λ o. option_map (λ (x : List ℕ × Node). x.1) (option_and_then (slice_get d.tip.nodes) o)) place
        ∙ ap (option_map (λ (x : List ℕ × Node). x.1)) found.stands

    abbrev pub kept_here : ℕ
    kept_here = kept_count (times u) pair.1.entries found.pair.1.entries (assigned_to d.tip q).rows

    pub front : SameFront pair.1 found.pair.1 blobs d.tip.blobs kept_here pair.1.entries found.pair.1.entries
    front = same_front pair.1 found.pair.1 (times u) pair.1.entries found.pair.1.entries (assigned_to d.tip q).rows
        (same_sources d pair found.pair.1 (times u) was_node
        (differ_at d.tip.nodes q found.pair new.tip.differ found.stands)
        (most_at d.commands d.tip.nodes q found.pair new.tip.most found.stands)
        pair.1.entries found.pair.1.entries new.fits.known (λ i b is. (i, is)))

    pub shut_here : 0 < kept_here → has_open (assigned_to d.tip q).key ≡ false
    shut_here lt = sound_here.closed (omega (
      arith,
      lt,
      kept_rows (times u) pair.1.entries found.pair.1.entries (assigned_to d.tip q).rows,
    ))

    pub begins_so : same_key key (assigned_to d.tip q).key ≡ true → 0 < kept_here
        → input.First (head_in d.tip.nodes q found.pair (assigned_to d.tip q).key) ≡ input.First (head_at u p pair key)
    begins_so same lt =
        let header = same_header (times u) pair.1 found.pair.1 (assigned_to d.tip q).rows
        (subst (KeepsHeader pair.1) was_node new.fits.header) lt in
        ap input.First (same_head homes new.older nodes (new.facts.nodes nodes) blobs assigned p pair new.at key new.is_key new.stand d.tip
        (new.facts.nodes d.tip.nodes) (sound_on d.homes homes new.more d.tip new.tip.tip) q found.pair found.stands (shut_here lt)
        found.named header.0 header.1 ((new.facts.keys key (assigned_to d.tip q).key).0 same))

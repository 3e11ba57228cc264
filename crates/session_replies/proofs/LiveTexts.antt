-- In each live version texts are short, and commands stand in them one behind the other.
use Rattle.std.proofs.Common.{◌≡◌, ℕ, zero, suc, ◌≤◌, Bool, true, false, cond, List, [], ◌∷◌, length, find, Option, Some, None, refl, subst}
use Rattle.std.specs.Prelude.{◌==◌, slice_get}
use Rattle.std.specs.Option.{option_map, option_and_then}
use Rattle.std.specs.List.{AllByRecursion}
use Rattle.text_words.proofs.KnownLists.{each-both, each-so, each-passing}
use Rattle.pide_base.specs.Limits.{most_scalars}
use Rattle.doc_nodes.specs.declared.node.Node.{Node}
use Rattle.doc_nodes.specs.Imports.{NodeList, place_of}
use Rattle.core_tables.specs.declared.versions.Live.{Live}
use Rattle.core_tables.specs.Live.{version_of}
use Rattle.exec_rules.specs.declared.version.Version.{Version}
use Rattle.exec_rules.proofs.KnownThere.{all_at}
use Rattle.language.specs.Lang.{Lang}
use Rattle.core_rules.specs.declared.event.Event.{Event}
use Rattle.core_rules.specs.declared.event.Event.TheVariants as event
use Rattle.core_rules.specs.Doc.{Doc, doc}
use Rattle.core_rules.specs.Legal.{IsLegal}
use Rattle.core_rules.specs.Updates.{node_in, AreRising, FitsNode}

-- a node's text is short, and its commands stand in it
pub record IsLaid (node : Node) : Type 0 where
  pub short : length node.text ≤ most_scalars
  pub rising : AreRising 0 (length node.text) node.entries

abbrev AreLaid : NodeList → Type 0
AreLaid nodes = AllByRecursion (λ pair. IsLaid pair.1) nodes

abbrev AllLaid : List (Live Version) → Type 0
AllLaid live = AllByRecursion (λ one. AreLaid one.version.nodes) live

laid_of : (d : Doc) (pair : List ℕ × Node) → FitsNode d pair → IsLaid pair.1
laid_of d pair fits = record { short = fits.text; rising = fits.commands }

module _ {S : Type 0} (l : Lang S) where
  all_laid : (h : List Event) → IsLegal l h → AllLaid (doc l h).live
  all_laid [] legal = tt
  all_laid (event.Update id nodes blobs ∷ h) legal =
      each-both (λ one. AreLaid one.version.nodes) (doc l h).live _ (all_laid h legal.0)
      (each-so (FitsNode (doc l h)) (λ pair. IsLaid pair.1) (laid_of (doc l h)) nodes legal.1.1.nodes_fit, tt)
  all_laid (event.Cancel e ∷ h) legal = all_laid h legal.0
  all_laid (event.Remove ids ∷ h) legal = each-passing (λ one. AreLaid one.version.nodes) _ (doc l h).live (all_laid h legal.0)
  all_laid (event.Claimed who p ∷ h) legal = all_laid h legal.0
  all_laid (event.Finished who p ∷ h) legal = all_laid h legal.0
  all_laid (event.Dropped who p ∷ h) legal = all_laid h legal.0
  all_laid (event.Ended ∷ h) legal = all_laid h legal.0

-- a live version that is found stands at a place
pub record IsAt (live : List (Live Version)) (version : Version) : Type 0 where
  pub place : ℕ
  pub one : Live Version
  pub stands : slice_get live place ≡ Some one
  pub version_is : one.version ≡ version

pub found_at : (live : List (Live Version)) (id : ℕ) (version : Version) → version_of live id ≡ Some version → IsAt live version
found_at [] id version at = absurd (cc)
found_at (one ∷ more) id version at = go (one.id == id) at (found_at more id version)
  where
    go : (b : Bool) → option_map (λ x. x.version) (cond b (Some one) (find (λ x. x.id == id) more)) ≡ Some version
        → (version_of more id ≡ Some version → IsAt more version) → IsAt (one ∷ more) version
    go true at rest = record { place = zero; one = one; stands = refl; version_is = let e : one.version ≡ version = cc in e }
    go false at rest = let there = rest at in
        record { place = suc there.place; one = there.one; stands = there.stands; version_is = there.version_is }

-- a version's node stands at the place of its name
pub record NodeAt (version : Version) (name : List ℕ) (node : Node) : Type 0 where
  pub place : ℕ
  pub pair : List ℕ × Node
  pub found : place_of version.nodes name ≡ Some place
  pub stands : slice_get version.nodes place ≡ Some pair
  pub node_is : pair.1 ≡ node

pub node_at : (version : Version) (name : List ℕ) (node : Node) → node_in version name ≡ Some node → NodeAt version name node
node_at version name node at = go (place_of version.nodes name) refl at
  where
    by : (p : ℕ) (o : Option (List ℕ × Node)) → place_of version.nodes name ≡ Some p → slice_get version.nodes p ≡ o
        → option_map (λ (pair : List ℕ × Node). pair.1) o ≡ Some node → NodeAt version name node
    by p None e s at = absurd (cc)
    by p (Some pair) e s at = record { place = p; pair = pair; found = e; stands = s; node_is = let n : pair.1 ≡ node = cc in n }

    go : (o : Option ℕ) → place_of version.nodes name ≡ o
        → option_map (λ (pair : List ℕ × Node). pair.1) (option_and_then (slice_get version.nodes) o) ≡ Some node → NodeAt version name node
    go None e at = absurd (cc)
    go (Some p) e at = by p (slice_get version.nodes p) e refl at

module _ {S : Type 0} (l : Lang S) where
  pub live_laid : (h : List Event) (id : ℕ) (version : Version) (name : List ℕ) (node : Node) → IsLegal l h
      → version_of (doc l h).live id ≡ Some version → node_in version name ≡ Some node → IsLaid node
  live_laid h id version name node legal live at =
      let one = found_at (doc l h).live id version live in
      let there = node_at version name node at in
      let all : AreLaid one.one.version.nodes = all_at (λ x. AreLaid x.version.nodes) (doc l h).live one.place one.one (all_laid l h legal) one.stands in
      let laid : AreLaid version.nodes = subst (λ (v : Version). AreLaid v.nodes) one.version_is all in
      subst IsLaid there.node_is (all_at (λ pair. IsLaid pair.1) version.nodes there.place there.pair laid there.stands)

-- What an editor's document tells of an update is what a plan asks for.
use Rattle.std.proofs.Common.{◌≡◌, ℕ, zero, suc, ◌≤◌, Bool, true, false, not, List, [], ◌∷◌, Option, Some, None, refl, sym, ap, subst, ◌∙◌}
use Rattle.std.proofs.lemmas.Bool.{false≢true}
use Rattle.std.specs.Prelude.{slice_get, find, is_some, ◌↔◌}
use Rattle.std.specs.Option.{option_map, option_and_then, option_map_or}
use Rattle.text_words.proofs.KnownLists.{position_found}
use Rattle.doc_nodes.specs.Looks.{marked}
use Rattle.shared_map.specs.Pairs.{found, has_key}
use Rattle.doc_nodes.specs.declared.node.Entry.{Entry}
use Rattle.doc_nodes.specs.declared.node.Node.{Node}
use Rattle.doc_nodes.specs.Names.{in_order, equal}
use Rattle.doc_nodes.specs.Imports.{NodeList, place_of}
use Rattle.doc_nodes.proofs.KnownNames.{name_itself}
use Rattle.exec_rules.specs.declared.version.Version.{Version}
use Rattle.exec_rules.specs.Kept.{BlobList, agree}
use Rattle.exec_rules.specs.Assigning.{entries_at, entries_in}
use Rattle.exec_rules.proofs.KnownKept.{agree_is}
use Rattle.pide_base.specs.Ids.{id_end}
use Rattle.core_rules.specs.declared.event.Event.{Event}
use Rattle.core_rules.specs.declared.event.Event.TheVariants as event
use Rattle.core_rules.specs.Doc.{Doc, assignment_of}
use Rattle.core_rules.specs.Updates.{FitsUpdate}
use Rattle.exec_assign.specs.Untouched.{AreChanged}
use Rattle.update_plans.specs.Alive.{HaveCommands}

agree_itself : (a : Option (List ℕ)) → agree a a ≡ true
agree_itself None = refl
agree_itself (Some x) = name_itself x

other_by : (n : Bool) (a b : Option (List ℕ)) → ((n ≡ false) ↔ (a ≡ b)) → agree a b ≡ not n
other_by false a b iff = subst (λ x. agree a x ≡ true) (iff.0 refl) (agree_itself a)
other_by true a b iff = go (agree a b) refl
  where
    go : (c : Bool) → agree a b ≡ c → c ≡ false
    go false e = refl
    go true e = absurd (false≢true (sym (iff.1 (agree_is a b e))))

-- blobs that differ are changed: the set has the names of just these
pub changed : (set : List (List ℕ × Unit {0})) (before tip now : BlobList) → tip ≡ before
    → ((name : List ℕ) → (is_some (found in_order name set) ≡ false) ↔ (found in_order name now ≡ found in_order name before))
    → AreChanged set tip now
changed set before tip now same others name =
    subst (λ (t : BlobList). agree (found in_order name now) (found in_order name t) ≡ not (is_some (found in_order name set))) (sym same)
    (other_by (is_some (found in_order name set)) (found in_order name now) (found in_order name before) (others name))

-- the commands of what was found
abbrev entries_of : Option (List ℕ × Node) → List Entry
entries_of o = option_map_or (λ pair. pair.1.entries) o []

by_place : (nodes : NodeList) (o : Option ℕ) → option_map_or (entries_at nodes) o [] ≡ entries_of (option_and_then (slice_get nodes) o)
by_place nodes None = refl
by_place nodes (Some p) = refl

of_found : (o : Option (List ℕ × Node)) (node : Node) → option_map (λ (pair : List ℕ × Node). pair.1) o ≡ Some node → entries_of o ≡ node.entries
of_found None node e = absurd (cc)
of_found (Some pair) node e = let same : pair.1 ≡ node = cc in ap (λ (n : Node). n.entries) same

entries_found : (version : Version) (tip : NodeList) (name : List ℕ) (node : Node) → version.nodes ≡ tip → found in_order name tip ≡ Some node
    → entries_in version name ≡ node.entries
entries_found version tip name node same at =
    ap (λ (ns : NodeList). option_map_or (entries_at ns) (place_of ns name) []) same ∙ by_place tip (place_of tip name)
    ∙ ap entries_of (position_found (λ (pair : List ℕ × Node). equal pair.0 name) tip) ∙ of_found (find (has_key in_order name) tip) node at

marked_at : (marks : List Bool) (p : ℕ) → marked marks p ≡ true → slice_get marks p ≡ Some true
marked_at [] p is = absurd (cc)
marked_at (m ∷ ms) zero is = ap (λ b. Some b) is
marked_at (m ∷ ms) (suc p) is = marked_at ms p is

-- nodes that stayed, by marks, have the commands that they had
pub commands : (version : Version) (tip nodes : NodeList) (marks : List Bool) → version.nodes ≡ tip
    → ((p : ℕ) (pair : List ℕ × Node) → slice_get marks p ≡ Some true → slice_get nodes p ≡ Some pair → found in_order pair.0 tip ≡ Some pair.1)
    → HaveCommands version nodes marks
commands version tip nodes marks same kept p pair mark at =
    entries_found version tip pair.0 pair.1 same (kept p pair (marked_at marks p mark) at)

-- an update that fits, in other words
pub fits : (d : Doc) (id : ℕ) (now nodes : NodeList) (then blobs : BlobList) → now ≡ nodes → then ≡ blobs
    → ((assignment_of d nodes blobs).next ≤ id_end → FitsUpdate d id nodes blobs)
    → (assignment_of d now then).next ≤ id_end → FitsUpdate d id now then
fits d id now nodes then blobs same others all =
    subst (λ (ns : NodeList). (assignment_of d ns then).next ≤ id_end → FitsUpdate d id ns then) (sym same)
    (subst (λ (bs : BlobList). (assignment_of d nodes bs).next ≤ id_end → FitsUpdate d id nodes bs) (sym others) all)

-- two events that make the same version
pub same_update : (i j : ℕ) (ns ms : NodeList) (bs cs : BlobList) (h k : List Event) → i ≡ j → ns ≡ ms → bs ≡ cs → h ≡ k
    → event.Update i ns bs ∷ h ≡ event.Update j ms cs ∷ k
same_update i j ns ms bs cs h k ids nodes blobs pasts =
    ap (λ x. event.Update x ns bs ∷ h) ids ∙ ap (λ x. event.Update j x bs ∷ h) nodes
    ∙ ap (λ x. event.Update j ms x ∷ h) blobs ∙ ap (λ x. event.Update j ms cs ∷ x) pasts

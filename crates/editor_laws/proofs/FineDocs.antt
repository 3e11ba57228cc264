-- What the versions and executions of a legal history are.
use Rattle.std.proofs.Common.{◌≡◌, ℕ, ◌+◌, ◌<◌, ◌≤◌, List, [], ◌∷◌, length, Some, refl, arith}
use Rattle.std.proofs.lemmas.List.FromFn.{length-map-range_with_len}
use Rattle.std.specs.List.{AllByRecursion}
use Rattle.text_words.proofs.KnownLists.{each-both, each-so, each-passing}
use Rattle.shared_map.specs.Pairs.{IsSorted}
use Rattle.pide_base.specs.Ids.{IsId, id_end}
use Rattle.pide_base.specs.Limits.{most_scalars}
use Rattle.doc_nodes.specs.Imports.{NodeList}
use Rattle.doc_nodes.specs.Names.{in_order}
use Rattle.core_tables.specs.declared.versions.Live.{Live}
use Rattle.exec_rules.specs.declared.home.Home.{Home}
use Rattle.exec_rules.specs.declared.version.Version.{Version}
use Rattle.exec_rules.specs.Assigning.{Update, assignment}
use Rattle.exec_rules.specs.Kept.{BlobList}
use Rattle.language.specs.Lang.{Lang}
use Rattle.core_rules.specs.declared.event.Event.{Event}
use Rattle.core_rules.specs.declared.event.Event.TheVariants as event
use Rattle.core_rules.specs.Doc.{Doc, assignment_of, doc, update_of}
use Rattle.core_rules.specs.Legal.{IsLegal}
use Rattle.core_rules.specs.Numbered.{next_number, numbered}
use Rattle.core_rules.specs.Updates.{FitsNode, FitsUpdate}
use Rattle.core_rules.proofs.KnownNumbers.{length_grown, numbered_positive, numbered_within}
use Rattle.editor_laws.specs.Headed.{AreHeaded}
use Rattle.editor_laws.proofs.CommandNumbers.{ArePositive, nodes_positive, rising_begin}
use Rattle.editor_laws.proofs.FineEvents.{IsFine}
use Rattle.editor_laws.proofs.NamedSheets.{AllNamed}
use Rattle.editor_laws.proofs.RisingLists.{Rises, rises_filter, rises_last}
use Rattle.editor_laws.proofs.ScratchSizes.{AreShort}
use Rattle.editor_laws.proofs.ShownParts.{BeginBy}

-- a version whose nodes have names, headers of identifiers, and texts that aren't too long
pub record FineVersion (v : Version) : Type 0 where
  pub named : AllNamed v.nodes
  pub headed : AreHeaded v.nodes
  pub short : AreShort most_scalars v.nodes
  pub begin : AllByRecursion (λ pair. BeginBy most_scalars pair.1.entries) v.nodes
  pub sorted : IsSorted in_order v.nodes
  pub long : length v.assigned ≡ length v.nodes

-- a live version has an id, and is such
abbrev pub FineLive : Live Version → Type 0
FineLive one = IsId one.id × FineVersion one.version

-- so are all; their ids rise; and there are ids for all executions
pub record FineDoc (d : Doc) : Type 0 where
  pub live : AllByRecursion FineLive d.live
  pub tip : FineVersion d.tip
  pub few : length d.homes < id_end
  pub below : AllByRecursion (λ one. one.id ≤ d.last) d.live
  pub rising : Rises (λ (one : Live Version). one.id) 0 d.live
  pub positive : ArePositive d.tip.nodes

-- an execution that was made has an id
pub made_id : (d : Doc) (e : ℕ) (x : Home) → FineDoc d → numbered d.homes e ≡ Some x → IsId e
made_id d e x fine at =
    let least = numbered_positive d.homes e x at in
    let most = numbered_within d.homes e x at in
    let few = fine.few in (least, omega (arith, most, few))

-- an assignment has as many new numbers as homes
abbrev pub NumbersLaw : Type 0
NumbersLaw = (u : Update) (next : ℕ) → (assignment u next).next
    ≡ next + length (assignment u next).homes

module _ {S : Type 0} (l : Lang S) (law : NumbersLaw) where
  update_fine : (h : List Event) (id : ℕ) (nodes : NodeList) (blobs : BlobList) → FineDoc (doc l h)
      → FitsUpdate (doc l h) id nodes blobs
      → IsFine (event.Update id nodes blobs) → FineDoc (doc l (event.Update id nodes blobs ∷ h))
  update_fine h id nodes blobs fine fits is = record {
    live = each-both FineLive d.live (record {
      id = id;
      version =
          (doc l (event.Update id nodes blobs ∷ h)).tip;
    } ∷ []) fine.live ((is.0, new), tt);
    tip = new;
    few = let counted = law (update_of d nodes blobs) (next_number d.homes) in
        let grown = length_grown d.homes (assignment_of d nodes blobs).homes in
        let numbers = fits.numbers in omega (arith, counted, grown, numbers);
    below = each-both (λ (one : Live Version). one.id ≤ id) d.live
        (record { id = id; version = (doc l (event.Update id nodes blobs ∷ h)).tip } ∷ [])
        (each-so (λ (one : Live Version). one.id ≤ d.last) (λ one. one.id ≤ id)
        (λ one le. let newer = fits.newer in omega (arith, le, newer)) d.live fine.below)
        (omega arith, tt);
    rising = rises_last (λ (one : Live Version). one.id) 0 d.last d.live
        (record { id = id; version = (doc l (event.Update id nodes blobs ∷ h)).tip })
        (omega arith) fine.below fits.newer fine.rising;
    positive = nodes_positive d nodes fine.positive fits.nodes_fit;
  }
    where
      d : Doc
      d = doc l h

      new : FineVersion (doc l (event.Update id nodes blobs ∷ h)).tip
      new = record {
        named = is.1;
        headed = is.2;
        short = each-so (FitsNode d) (λ pair. length pair.1.text ≤ most_scalars)
            (λ pair f. f.text) nodes fits.nodes_fit;
        begin = each-so (FitsNode d) (λ pair. BeginBy most_scalars pair.1.entries)
            (λ pair f. rising_begin 0 (length pair.1.text) most_scalars pair.1.entries f.text
            f.commands) nodes fits.nodes_fit;
        sorted = fits.names;
        long = length-map-range_with_len _ 0 (length nodes);
      }

  pub doc_fine : (h : List Event) → IsLegal l h → AllByRecursion IsFine h → FineDoc (doc l h)
  doc_fine [] legal all = record {
    live = tt;
    tip = record { named = tt; headed = tt; short = tt; begin = tt; sorted = tt; long = refl };
    few = omega arith;
    below = tt;
    rising = tt;
    positive = tt;
  }
  doc_fine (event.Update id nodes blobs ∷ h) legal all =
      update_fine h id nodes blobs (doc_fine h legal.0 all.1) legal.1.1 all.0
  doc_fine (event.Cancel e ∷ h) legal all = let fine = doc_fine h legal.0 all.1 in
      record {
        live = fine.live;
        tip = fine.tip;
        few = fine.few;
        below = fine.below;
        rising =
            fine.rising;
        positive = fine.positive;
      }
  doc_fine (event.Remove ids ∷ h) legal all = let fine = doc_fine h legal.0 all.1 in record {
    live = each-passing FineLive _ (doc l h).live fine.live;
    tip = fine.tip;
    few = fine.few;
    below = each-passing (λ (one : Live Version). one.id ≤ (doc l h).last) _
        (doc l h).live fine.below;
    rising = rises_filter (λ (one : Live Version). one.id) _ 0 (doc l h).live fine.rising;
    positive = fine.positive;
  }
  doc_fine (event.Claimed who q ∷ h) legal all = doc_fine h legal.0 all.1
  doc_fine (event.Finished who q ∷ h) legal all = doc_fine h legal.0 all.1
  doc_fine (event.Dropped who q ∷ h) legal all = doc_fine h legal.0 all.1
  doc_fine (event.Ended ∷ h) legal all = doc_fine h legal.0 all.1

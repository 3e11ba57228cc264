-- The version that an update makes is sound.
use Rattle.std.proofs.Common.{◌≡◌, ℕ, ◌+◌, ◌<◌, ◌≤◌, true, false, List, [], ◌∷◌, ◌++◌, length, map, Some, refl, ap, sym, subst, ◌∙◌, arith, append_assoc, append-nil}
use Rattle.std.proofs.lemmas.Bool.{or_right}
use Rattle.std.proofs.lemmas.List.{length-map}
use Rattle.std.proofs.lemmas.List.FromFn.{length-range_with_len}
use Rattle.std.proofs.lemmas.Option.{slice_get_within}
use Rattle.std.specs.Prelude.{slice_get}
use Rattle.std.specs.List.{range_with_len, AllByRecursion}
use Rattle.std.specs.Option.{option_map_or}
use Rattle.text_words.specs.Members.{has}
use Rattle.doc_nodes.specs.declared.node.Node.{Node}
use Rattle.doc_nodes.specs.Imports.{NodeList, order}
use Rattle.doc_nodes.specs.Wanted.{wanted_at}
use Rattle.exec_rules.specs.declared.row.Assigned.{Assigned}
use Rattle.exec_rules.specs.declared.version.Version.{Version}
use Rattle.exec_rules.specs.Kept.{BlobList}
use Rattle.exec_rules.specs.Keys.{nothing_assigned, assigned_at, key_of}
use Rattle.exec_rules.specs.Assigning.{Work, extended_work, given, assign_one, assign_all, assigned_all}
use Rattle.exec_rules.proofs.KnownThere.{get_there, all_at}
use Rattle.core_rules.specs.Numbered.{grown, next_number}
use Rattle.core_rules.specs.Doc.{Doc, update_of, assignment_of, assigned_version}
use Rattle.core_rules.specs.FromScratch.{assigned_to, has_open}
use Rattle.core_rules.specs.Updates.{FitsNode}
use Rattle.core_rules.proofs.Facts.{Facts}
use Rattle.text_words.proofs.KnownMembers.{has_both, has_itself}
use Rattle.core_rules.proofs.ImportAliases.{Stands}
use Rattle.core_rules.proofs.Sound.{IsSoundAt, IsSound, IsSoundTip}
use Rattle.core_rules.proofs.KnownKeys.{key_rests, listed}
use Rattle.core_rules.proofs.Progress.{Progress}
use Rattle.core_rules.proofs.Step.{step}

module _ (facts : Facts) (d : Doc) (tip : IsSoundTip d) (nodes : NodeList) (blobs : BlobList)
    (fits : AllByRecursion (FitsNode d) nodes) where
  one : (w : Work) (front rest : List ℕ) (p : ℕ) → order nodes ≡ front ++ p ∷ rest → Progress d.homes nodes blobs w front
      → Progress d.homes nodes blobs (assign_one (update_of d nodes blobs) w p) (front ++ p ∷ [])
  one w front rest p split so =
      let there : has (order nodes) p ≡ true =
      ap (λ ps. has ps p) split ∙ has_both front (p ∷ rest) p ∙ or_right (has front p) (has (p ∷ rest) p) (has_itself rest p) in
      let found = get_there nodes p (((facts.nodes nodes).every p).0 there) in
      let pair : List ℕ × Node = found.0 in
      subst (λ x. Progress d.homes nodes blobs x (front ++ p ∷ []))
      (sym (ap (λ o. option_map_or
      (λ (pair : List ℕ × Node). extended_work w p (given (update_of d nodes blobs) p pair (key_of nodes w.done pair.1) w.next)) o w) found.1))
      (step facts d tip nodes blobs w front rest p pair found.1 (all_at (FitsNode d) nodes p pair fits found.1) split so)

  all : (ps front : List ℕ) (w : Work) → order nodes ≡ front ++ ps → Progress d.homes nodes blobs w front
      → Progress d.homes nodes blobs (assign_all (update_of d nodes blobs) ps w) (order nodes)
  all [] front w split so = subst (Progress d.homes nodes blobs w) (sym (split ∙ append-nil front)) so
  all (p ∷ ps) front w split so = all ps (front ++ p ∷ []) (assign_one (update_of d nodes blobs) w p)
      (split ∙ sym (append_assoc front (p ∷ []) ps)) (one w front ps p split so)

  abbrev pub work : Work
  work = assigned_all (update_of d nodes blobs) (next_number d.homes)

  begun : Progress d.homes nodes blobs (record { done = []; homes = []; next = next_number d.homes }) []
  begun = record { next = refl; older = tip.older; each = λ p pair is there. absurd (cc) }

  -- all nodes are done
  pub all_done : Progress d.homes nodes blobs work (order nodes)
  all_done = all (order nodes) [] (record { done = []; homes = []; next = next_number d.homes }) refl begun

  abbrev pub new : Version
  new = assigned_version nodes blobs (assignment_of d nodes blobs)

  -- what is assigned is listed by place
  pub listed_at : (p : ℕ) → p < length nodes → assigned_to new p ≡ assigned_at work.done p
  listed_at p lt =
      let e : 0 + p ≡ p = omega arith in
      ap (λ o. option_map_or (λ (a : Assigned). a) o nothing_assigned)
      (listed work.done 0 (length nodes) p lt)
      ∙ ap (assigned_at work.done) e

  same_assigned : (q : ℕ) → has (order nodes) q ≡ true → assigned_at work.done q ≡ assigned_to new q
  same_assigned q is = sym (listed_at q (((facts.nodes nodes).every q).0 is))

  listed_long : length (map (assigned_at work.done) (range_with_len 0 (length nodes))) ≡ length nodes
  listed_long = length-map (range_with_len 0 (length nodes)) (assigned_at work.done) ∙ length-range_with_len 0 (length nodes)

  -- the new version is sound
  pub new_sound : IsSound (grown d.homes (assignment_of d nodes blobs).homes) new
  new_sound = record { long = listed_long; each = sound_at }
    where
      sound_at : (p : ℕ) (pair : List ℕ × Node) → slice_get nodes p ≡ Some pair
          → IsSoundAt (grown d.homes (assignment_of d nodes blobs).homes) nodes blobs (assigned_to new) p pair
      sound_at p pair at =
          let lt = slice_get_within nodes p pair at in
          let is = ((facts.nodes nodes).every p).1 lt in
          let done = all_done.each p pair is at in
          record {
            bare = done.sound.bare;
            stands = subst (Stands (grown d.homes work.homes) nodes blobs p pair) (same_assigned p is) done.sound.stands;
            key = ap (λ (a : Assigned). a.key) (listed_at p lt) ∙ done.sound.key
                ∙ key_rests nodes (order nodes) (assigned_at work.done) (assigned_to new) same_assigned pair.1 done.inside;
            closed = subst (λ (a : Assigned). 0 < length a.rows → has_open a.key ≡ false)
                (same_assigned p is) done.sound.closed;
          }

  -- each command that is wanted has an evaluation
  pub new_covers : (p : ℕ) (pair : List ℕ × Node) → slice_get nodes p ≡ Some pair
      → wanted_at nodes p ≤ length (assigned_to new p).rows
  new_covers p pair at =
      let is = ((facts.nodes nodes).every p).1 (slice_get_within nodes p pair at) in
      subst (λ (a : Assigned). wanted_at nodes p ≤ length a.rows) (same_assigned p is) (all_done.each p pair is at).covers

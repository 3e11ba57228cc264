-- One node more in an update: what is needed of the nodes before it.
use Rattle.std.proofs.Common.{◌≡◌, ℕ, zero, suc, ◌<◌, ◌≤◌, Bool, true, false, cond, List, [], ◌∷◌, ◌++◌, length, map, find, Option, Some, None, refl, ap, sym, subst, ◌∙◌, arith}
use Rattle.std.proofs.lemmas.Bool.{and_parts}
use Rattle.std.specs.Prelude.{slice_get, nat_lt}
use Rattle.std.specs.List.{list_all, AllByRecursion}
use Rattle.std.specs.Option.{option_map_or}
use Rattle.text_words.specs.Members.{has}
use Rattle.doc_nodes.specs.Rounds.{is_known}
use Rattle.doc_nodes.specs.declared.node.Node.{Node}
use Rattle.doc_nodes.specs.Imports.{NodeList, place_of, is_bad, order}
use Rattle.doc_nodes.specs.Prefix.{wanted_prefix, own_wanted}
use Rattle.doc_nodes.specs.Wanted.{is_reached, wanted_at}
use Rattle.exec_rules.specs.declared.key.Key.{Key}
use Rattle.exec_rules.specs.declared.home.Home.{Home}
use Rattle.exec_rules.specs.Kept.{BlobList}
use Rattle.exec_rules.specs.Keys.{assigned_at, key_by, key_of}
use Rattle.exec_rules.specs.Assigning.{Update, Work, greater, rows_in, kept_of, head_at}
use Rattle.exec_rules.proofs.KnownCounts.{greater_by, all_or}
use Rattle.core_rules.specs.Numbered.{numbered, grown}
use Rattle.core_rules.specs.Doc.{Doc, update_of}
use Rattle.core_rules.specs.FromScratch.{last_by, has_open}
use Rattle.core_rules.specs.Updates.{FitsNode}
use Rattle.core_rules.proofs.KnownNumbers.{length_grown}
use Rattle.core_rules.proofs.NodeMade.{Before}
use Rattle.core_rules.proofs.Facts.{Facts}
use Rattle.core_rules.proofs.KnownPlaces.{place_found}
use Rattle.core_rules.proofs.ImportAliases.{ImportStands}
use Rattle.core_rules.proofs.Sound.{IsSoundTip, extends_grown}
use Rattle.core_rules.proofs.KnownKeys.{AreInside, key_is}
use Rattle.core_rules.proofs.TipNode.{AfterTip}
use Rattle.core_rules.proofs.TipKept.{before_node, kept_shut}
use Rattle.core_rules.proofs.WantedImports.{all_shut}
use Rattle.core_rules.proofs.Progress.{Progress}
use Rattle.core_rules.proofs.GivenNode.{front_within}

-- where the greater of two is positive, one of them is
pub positive_by : (k n : ℕ) → 0 < greater k n → k ≡ 0 → 0 < n
positive_by k n lt e = go (nat_lt k n) lt
  where
    go : (b : Bool) → 0 < cond b n k → 0 < n
    go true lt = lt
    go false lt = absurd (omega (arith, e, lt))

module _ (facts : Facts) (d : Doc) (tip : IsSoundTip d) (nodes : NodeList) (blobs : BlobList) (w : Work)
    (front rest : List ℕ) (p : ℕ) (pair : List ℕ × Node) (at : slice_get nodes p ≡ Some pair) (fits : FitsNode d pair)
    (split : order nodes ≡ front ++ p ∷ rest) (so : Progress d.homes nodes blobs w front) where
  abbrev pub homes : List Home
  homes = grown d.homes w.homes

  abbrev pub update : Update
  update = update_of d nodes blobs

  abbrev pub key : Key
  key = key_of nodes w.done pair.1

  abbrev pub kept : ℕ
  kept = kept_of update pair key

  pub inside : find (is_bad nodes) pair.1.imports ≡ None → AreInside nodes front pair.1.imports
  inside good =
      (facts.nodes nodes).behind front rest p pair split at (((facts.nodes nodes).ordered p pair at).1 good)

  stand_all : (names : List (List ℕ)) → AreInside nodes front names
      → AllByRecursion (ImportStands homes nodes blobs (assigned_at w.done)) names
  stand_all [] known = tt
  stand_all (name ∷ names) known =
      let parts = and_parts (is_known front (place_of nodes name)) (list_all (λ x. is_known front (place_of nodes x)) names) known in (
        λ q other e there.
            let done = so.each q other (ap (is_known front) (sym e) ∙ parts.0) there in
            (done.sound.bare, done.sound.stands),
        stand_all names parts.1,
      )

  pub stand : find (is_bad nodes) pair.1.imports ≡ None
      → AllByRecursion (ImportStands homes nodes blobs (assigned_at w.done)) pair.1.imports
  stand good = stand_all pair.1.imports (inside good)

  count : length d.homes ≤ length homes
  count = omega (arith, length_grown d.homes w.homes)

  after_tip : AfterTip d homes nodes blobs (assigned_at w.done) p pair key (length homes)
  after_tip = record {
    facts = facts;
    tip = tip;
    older = so.older;
    more = extends_grown d.homes w.homes;
    at = at;
    fits = fits;
    is_key = key_is nodes w.done pair.1;
    stand = stand;
    count = count;
  }

  pub before : Before (numbered homes) update pair (head_at update p pair key) (rows_in d.tip pair.0) kept (length homes)
  before = before_node after_tip

  shut_kept : 0 < kept → has_open key ≡ false
  shut_kept lt = kept_shut after_tip lt

  pub wanted_within : wanted_at nodes p ≤ length pair.1.entries
  wanted_within = subst
      (λ o. option_map_or (λ (x : List ℕ × Node). cond (is_reached nodes p) (length x.1.entries) (own_wanted x.1)) o 0
      ≤ length pair.1.entries) (sym at)
      (all_or (is_reached nodes p) (own_wanted pair.1) (length pair.1.entries)
      (all_or pair.1.required (wanted_prefix pair.1.entries) (length pair.1.entries) (facts.prefix pair.1.entries)))

  pub count_within : greater kept (wanted_at nodes p) ≤ length pair.1.entries
  count_within = greater_by (nat_lt kept (wanted_at nodes p)) kept (wanted_at nodes p) (length pair.1.entries)
      (front_within pair.1 before.old blobs d.tip.blobs kept pair.1.entries before.old.entries before.same)
      wanted_within

  known_at : (names : List (List ℕ)) (i : ℕ) (name : List ℕ) (q : ℕ) → AreInside nodes front names → slice_get names i ≡ Some name
      → place_of nodes name ≡ Some q → has front q ≡ true
  known_at [] i name q known is place = absurd (cc)
  known_at (x ∷ names) zero name q known is place =
      let same : x ≡ name = cc in
      let parts = and_parts (is_known front (place_of nodes x)) (list_all (λ x. is_known front (place_of nodes x)) names) known in
      ap (is_known front) (sym (ap (place_of nodes) same ∙ place)) ∙ parts.0
  known_at (x ∷ names) (suc i) name q known is place =
      let parts = and_parts (is_known front (place_of nodes x)) (list_all (λ x. is_known front (place_of nodes x)) names) known in
      known_at names i name q parts.1 is place

  shut_wanted : (o : Option (List ℕ)) → find (is_bad nodes) pair.1.imports ≡ o → 0 < wanted_at nodes p
      → has_open (key_by o (map (last_by nodes (assigned_at w.done)) pair.1.imports)) ≡ false
  shut_wanted (Some name) e lt = refl
  shut_wanted None e lt = all_shut nodes (facts.nodes nodes) p pair at (((facts.nodes nodes).ordered p pair at).1 e) lt
      (assigned_at w.done) covered pair.1.imports (λ i name is. (i, is))
    where
      covered : (name : List ℕ) (i q : ℕ) → slice_get pair.1.imports i ≡ Some name → place_of nodes name ≡ Some q
          → wanted_at nodes q ≤ length (assigned_at w.done q).rows
      covered name i q is place =
          let found = place_found nodes name q place in
          (so.each q found.pair (known_at pair.1.imports i name q (inside e) is place) found.stands).covers

  -- where a command is assigned, all commands of the imports are
  pub shut : 0 < greater kept (wanted_at nodes p) → has_open key ≡ false
  shut lt = by kept refl
    where
      by : (k : ℕ) → kept ≡ k → has_open key ≡ false
      by zero e = ap has_open (key_is nodes w.done pair.1)
          ∙ shut_wanted (find (is_bad nodes) pair.1.imports) refl (positive_by kept (wanted_at nodes p) lt e)
      by (suc k) e = shut_kept (omega (arith, e))

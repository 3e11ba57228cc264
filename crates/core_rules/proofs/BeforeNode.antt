-- What a node had in the tip, where it keeps evaluations: it begins in the same way.
use Rattle.std.proofs.Common.{◌≡◌, ℕ, zero, suc, ◌<◌, Bool, true, false, cond, List, [], ◌∷◌, ◌++◌, map, find, Some, None, refl, ap, sym, ◌∙◌, arith}
use Rattle.std.proofs.lemmas.Bool.{eqb-true, and_parts}
use Rattle.std.specs.Prelude.{◌==◌, ◌&&◌, not, slice_get}
use Rattle.std.specs.List.{AllByRecursion}
use Rattle.text_words.specs.Members.{has}
use Rattle.doc_nodes.specs.declared.node.Entry.{Entry}
use Rattle.doc_nodes.specs.declared.node.Node.{Node}
use Rattle.doc_nodes.specs.Imports.{NodeList, is_bad}
use Rattle.doc_nodes.specs.Aliases.{no_aliases, folded, own_pairs, aliases_at}
use Rattle.exec_rules.specs.declared.key.Key.{Key}
use Rattle.exec_rules.specs.declared.row.Row.{Row}
use Rattle.exec_rules.specs.declared.row.Assigned.{Assigned}
use Rattle.exec_rules.specs.declared.home.Home.{Home}
use Rattle.exec_rules.specs.declared.version.Version.{Version}
use Rattle.exec_rules.specs.Kept.{BlobList, Times, keeps, same_blob, kept_count}
use Rattle.core_rules.specs.FromScratch.{assigned_to, key_from, has_open, head_in}
use Rattle.core_rules.specs.Updates.{HaveHeader}
use Rattle.core_rules.proofs.Tables.{AreOlder}
use Rattle.core_rules.proofs.Facts.{NodeFacts}
use Rattle.core_rules.proofs.ImportAliases.{ImportStands, handed_by}
use Rattle.core_rules.proofs.AliasesByKey.{aliases_by_key}
use Rattle.core_rules.proofs.Sound.{IsSound, imports_stand}

-- where some evaluation is kept, both nodes begin with the same command
first_by : (t : Times) (e b : Entry) (es bs : List Entry) (r : Row) (rs : List Row) (k : Bool) → keeps t e b r ≡ k
    → 0 < cond k (suc (kept_count t es bs rs)) 0 → e.command ≡ b.command
first_by t e b es bs r rs false same lt = absurd (omega arith)
first_by t e b es bs r rs true same lt = eqb-true e.command b.command
    (and_parts (e.command == b.command) (not (has t.cancelled r.evaluation) && same_blob t e.needs b.needs) same).0

pub same_header : (t : Times) (node old : Node) (rs : List Row) → HaveHeader node old
    → 0 < kept_count t node.entries old.entries rs
    → (node.imports ≡ old.imports) × (node.keywords ≡ old.keywords)
same_header t node old rs header lt = go node.entries old.entries rs refl refl lt
  where
    go : (es bs : List Entry) (rs : List Row) → node.entries ≡ es → old.entries ≡ bs
        → 0 < kept_count t es bs rs
        → (node.imports ≡ old.imports) × (node.keywords ≡ old.keywords)
    go [] bs rs p q lt = absurd (omega arith)
    go (e ∷ es) [] rs p q lt = absurd (omega arith)
    go (e ∷ es) (b ∷ bs) [] p q lt = absurd (omega arith)
    go (e ∷ es) (b ∷ bs) (r ∷ rs) p q lt = header e b (ap (λ xs. slice_get xs zero) p) (ap (λ xs. slice_get xs zero) q)
        (first_by t e b es bs r rs (keeps t e b r) refl lt)

-- two nodes with the same name, header and key begin in the same way
module _ (homes : List Home) (older : AreOlder homes) (nodes : NodeList) (facts : NodeFacts nodes) (blobs : BlobList)
    (assigned : ℕ → Assigned) (p : ℕ) (pair : List ℕ × Node) (at : slice_get nodes p ≡ Some pair) (key : Key)
    (is_key : key ≡ key_from nodes assigned pair.1)
    (stand : find (is_bad nodes) pair.1.imports ≡ None → AllByRecursion (ImportStands homes nodes blobs assigned) pair.1.imports)
    (tip : Version) (old_facts : NodeFacts tip.nodes) (sound : IsSound homes tip) (q : ℕ) (old : List ℕ × Node)
    (was : slice_get tip.nodes q ≡ Some old) (old_shut : has_open (assigned_to tip q).key ≡ false) where
  pub same_head : old.0 ≡ pair.0 → pair.1.imports ≡ old.1.imports → pair.1.keywords ≡ old.1.keywords
      → key ≡ (assigned_to tip q).key
      → head_in tip.nodes q old (assigned_to tip q).key ≡ head_in nodes p pair key
  same_head name imports keywords same =
      let new = aliases_by_key nodes facts homes older blobs assigned p pair at key is_key (ap has_open same ∙ old_shut) stand in
      let before = aliases_by_key tip.nodes old_facts homes older tip.blobs (assigned_to tip) q old was (assigned_to tip q).key
      (sound.each q old was).key old_shut (λ good. imports_stand homes tip sound old.1.imports) in
      let aliases : aliases_at tip.nodes q ≡ aliases_at nodes p =
      before ∙ ap (λ k. folded no_aliases (handed_by homes k ++ own_pairs old.1)) (sym same)
      ∙ ap (λ ks. folded no_aliases (handed_by homes key ++ map (λ pair. (pair.name, pair.target)) ks)) (sym keywords)
      ∙ sym new in
      ap (λ x. record { node = x; imports = old.1.imports; aliases = aliases_at tip.nodes q; key = (assigned_to tip q).key }) name
      ∙ ap (λ x. record { node = pair.0; imports = x; aliases = aliases_at tip.nodes q; key = (assigned_to tip q).key }) (sym imports)
      ∙ ap (λ x. record { node = pair.0; imports = pair.1.imports; aliases = x; key = (assigned_to tip q).key }) aliases
      ∙ ap (λ x. record { node = pair.0; imports = pair.1.imports; aliases = aliases_at nodes p; key = x }) (sym same)

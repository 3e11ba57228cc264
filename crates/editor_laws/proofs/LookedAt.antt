-- What a snapshot looks at.
use Rattle.std.proofs.Common.{◌≡◌, ℕ, ◌≤◌, List, length, Option, Some, None, Result, Ok, Err, refl, subst}
use Rattle.std.specs.Prelude.{slice_get}
use Rattle.std.specs.Option.{option_map, option_and_then}
use Rattle.pide_base.specs.Limits.{most_scalars}
use Rattle.text_edits.specs.declared.edit.Edit.{Edit}
use Rattle.doc_nodes.specs.declared.node.Node.{Node}
use Rattle.doc_nodes.specs.Imports.{place_of}
use Rattle.core_tables.specs.Live.{version_of}
use Rattle.exec_rules.specs.declared.version.Version.{Version}
use Rattle.exec_rules.proofs.KnownThere.{all_at}
use Rattle.language.specs.Lang.{Lang}
use Rattle.message_values.specs.declared.refusal.Refusal.{Refusal}
use Rattle.message_values.specs.declared.refusal.Refusal.TheVariants.{UnknownVersion, UnknownNode}
use Rattle.message_values.specs.Asked.{or_refused}
use Rattle.buffer_rules.specs.Trying.{◌>>=◌}
use Rattle.buffer_rules.specs.Texts.{edit_all}
use Rattle.core_rules.specs.Updates.{node_in}
use Rattle.session_rules.specs.Looking.{Looked, looked_at}
use Rattle.session_rules.specs.Session.{Session, document}
use Rattle.editor_laws.proofs.FineDocs.{FineVersion}

module _ {S : Type 0} (l : Lang S) (s : Session) where
  -- the version that a snapshot is of, the node and its text
  pub record LooksAt (id : ℕ) (name : List ℕ) (edits : List Edit) (looked : Looked) : Type 0 where
    pub version : version_of (document l s).live id ≡ Some looked.version
    pub node : Node
    pub named : node_in looked.version name ≡ Some node
    pub text : edit_all edits node.text ≡ Ok looked.text

  pub looks_at : (id : ℕ) (name : List ℕ) (edits : List Edit) (looked : Looked)
      → looked_at l s id name edits ≡ Ok looked → LooksAt id name edits looked
  looks_at id name edits looked e = versions (version_of (document l s).live id) refl e
    where
      texts : (v : Version) → version_of (document l s).live id ≡ Some v → (node : Node)
          → node_in v name ≡ Some node
          → (r : Result (List ℕ) Refusal) → edit_all edits node.text ≡ r
          → (r >>= λ text. Ok (record { version = v; text = text })) ≡ Ok looked
          → LooksAt id name edits looked
      texts v live node named (Err reason) is e = absurd (cc)
      texts v live node named (Ok text) is e =
          let same : ◌≡◌ {A = Looked} (record { version = v; text = text }) looked = cc in
          subst (LooksAt id name edits) same (record {
            version = live;
            node = node;
            named =
                named;
            text = is;
          })

      nodes : (v : Version) → version_of (document l s).live id ≡ Some v → (o : Option Node)
          → node_in v name ≡ o
          → (or_refused UnknownNode o >>= λ node. edit_all edits node.text >>= λ text. Ok
          (record { version = v; text = text })) ≡ Ok looked
          → LooksAt id name edits looked
      nodes v live None named e = absurd (cc)
      nodes v live (Some node) named e = texts v live node named (edit_all edits node.text) refl e

      versions : (o : Option Version) → version_of (document l s).live id ≡ o
          → (or_refused UnknownVersion o >>= λ v. or_refused UnknownNode
          (node_in v name) >>= λ node.
          edit_all edits node.text >>= λ text. Ok (record { version = v; text = text })) ≡ Ok looked
          → LooksAt id name edits looked
      versions None live e = absurd (cc)
      versions (Some v) live e = nodes v live (node_in v name) refl e

-- whose text isn't too long
pub node_short : (v : Version) (name : List ℕ) (node : Node) → FineVersion v
    → node_in v name ≡ Some node → length node.text ≤ most_scalars
node_short v name node fine is = go (place_of v.nodes name) is
  where
    at : (p : ℕ) (o : Option (List ℕ × Node)) → slice_get v.nodes p ≡ o
        → option_map (λ (pair : List ℕ × Node). pair.1) o ≡ Some node
        → length node.text ≤ most_scalars
    at p None there is = absurd (cc)
    at p (Some pair) there is =
        let same : pair.1 ≡ node = cc in
        subst (λ (n : Node). length n.text ≤ most_scalars) same
        (all_at (λ (x : List ℕ × Node). length x.1.text ≤ most_scalars) v.nodes p pair fine.short
        there)

    go : (o : Option ℕ) → option_map (λ (pair : List ℕ × Node). pair.1)
        (option_and_then (slice_get v.nodes) o) ≡ Some node → length node.text ≤ most_scalars
    go None is = absurd (cc)
    go (Some p) is = at p (slice_get v.nodes p) refl is

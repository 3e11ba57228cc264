-- Names in scalars and in bytes.
use Rattle.std.proofs.Common.{◌≡◌, ℕ, Bool, true, false, List, sym, refl, ap, ◌∙◌, Some, None}
use Rattle.std.specs.Str.{IsAscii, encode_utf8_all}
use Rattle.std.proofs.lemmas.Bool.{both_ways, cond-true, cond-false, and_parts}
use Rattle.std.proofs.lemmas.Str.{encodes-IsAscii, chars-IsAscii, chars_from_encodes, IsUtf8-from_ascii}
use Rattle.text_words.proofs.KnownIdentifiers.{identifier_ascii}
use Rattle.text_edits.specs.pide_base_below.NodeName.{is_node_name}
use Rattle.doc_nodes.specs.Needs.{named_by}

-- a node's name is
node_name_ascii : (s : List ℕ) → is_node_name s ≡ true → IsAscii s
node_name_ascii s named = identifier_ascii s (and_parts _ _ named).0

-- scalars whose bytes are a name are just these
bytes_are : (s : List ℕ) → is_node_name (encode_utf8_all s) ≡ true → s ≡ encode_utf8_all s
bytes_are s named =
    let ascii : IsAscii (encode_utf8_all s) = node_name_ascii (encode_utf8_all s) named in
    chars_from_encodes s (encode_utf8_all s) (IsUtf8-from_ascii (encode_utf8_all s) ascii) refl
    ∙ chars-IsAscii (encode_utf8_all s) ascii

-- the name that is found
pub named_so : (s bytes : List ℕ) → bytes ≡ encode_utf8_all s → is_node_name bytes ≡ true
    → Some bytes ≡ named_by s
named_so s bytes are named =
    let there : is_node_name (encode_utf8_all s) ≡ true = ap is_node_name (sym are) ∙ named in
    let same = bytes_are s there in
    ap Some (are ∙ sym same)
    ∙ sym (cond-true (is_node_name s) (Some s) None (ap is_node_name same ∙ there))

-- a test that doesn't say yes says no
no_yes : (b : Bool) → (b ≡ true → false ≡ true) → b ≡ false
no_yes false never = refl
no_yes true never = sym (never refl)

-- none is found
pub unnamed_so : (s bytes : List ℕ) → bytes ≡ encode_utf8_all s
    → (is_node_name bytes ≡ true → false ≡ true) → None ≡ named_by s
unnamed_so s bytes are never = go (is_node_name s) refl where
  go : (b : Bool) → is_node_name s ≡ b → None ≡ named_by s
  go false here = sym (cond-false (is_node_name s) (Some s) None here)
  go true here = absurd (both_ways (is_node_name bytes) (no_yes (is_node_name bytes) never)
      (ap is_node_name (are ∙ encodes-IsAscii s (node_name_ascii s here)) ∙ here))

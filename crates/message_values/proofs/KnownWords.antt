-- Numbers, ids, names, texts, ranges and edits: found where they are encoded.
use Rattle.std.proofs.Common.{◌≡◌, ℕ, ◌<◌, ◌≤◌, true, nat_le, List, [], ◌∷◌, length, Option, Some, None, decimal, refl, sym, ap, subst, ◌∙◌, arith}
use Rattle.std.specs.Str.{is_utf8, chars, encode_utf8_all}
use Rattle.std.proofs.lemmas.Bool.{leb-true, le-leb}
use Rattle.std.proofs.lemmas.Fmt.{decimal_nonempty}
use Rattle.std.proofs.lemmas.Str.{IsUtf8-from_is_utf8, is_utf8-from_IsUtf8, encodes-chars, chars-encodes, scalars-chars}
use Rattle.yxml.specs.declared.tree.Tree.{Tree}
use Rattle.yxml.specs.declared.tree.Tree.TheVariants.{Text}
use Rattle.xml_codec.specs.Data.{int_end, string_body, pair_body}
use Rattle.pide_base.specs.Ids.{IsId}
use Rattle.pide_base.specs.NodeName.{is_node_name}
use Rattle.pide_base.specs.declared.range.Range.{Range}
use Rattle.message_values.specs.ShapeBodies.{number_body, text_body, range_body}
use Rattle.message_values.specs.Each.{◌>>=◌}
use Rattle.message_values.specs.FitsShapes.{IsText, FitsRange}
use Rattle.message_values.specs.Numbers.{number_of}
use Rattle.message_values.specs.Shapes.{string_in, number_in, pair_in}
use Rattle.message_values.specs.Texts.{scalars_of}
use Rattle.message_values.specs.Words.{id_of, id_in, name_of, name_in, text_in, range_in}
use Rattle.message_values.proofs.KnownFinds.{string_complete, pair_complete}
use Rattle.message_values.proofs.KnownFound.{string_sound, pair_sound}
use Rattle.message_values.proofs.KnownNumbers.{number_sound, number_complete}
use Rattle.message_values.proofs.KnownSteps.{stepped, tested, passed}

-- a number's body is its decimal as a text
number_string : (n : ℕ) → n < int_end → string_body (decimal n) ≡ number_body n
number_string n low = go (decimal n) (decimal_nonempty n (omega (arith, low))) where
  go : (ds : List ℕ) → 0 < length ds → string_body ds ≡ Text ds ∷ []
  go [] h = absurd (omega (arith, h))
  go (d ∷ ds) h = refl

pub number_found : (body : List Tree) (n : ℕ) → number_in body ≡ Some n → (n < int_end) × (body ≡ number_body n)
number_found body n e =
    let s = stepped (string_in body) number_of n e in
    let h = number_sound s.0 n s.2 in
    (h.0, string_sound body s.0 s.1 ∙ ap string_body h.1 ∙ number_string n h.0)

pub number_finds : (n : ℕ) → n < int_end → number_in (number_body n) ≡ Some n
number_finds n low =
    ap number_in (sym (number_string n low)) ∙ ap (λ o. o >>= number_of) (string_complete (decimal n)) ∙ number_complete n low

pub id_sound : (n i : ℕ) → id_of n ≡ Some i → (1 ≤ i) × (n ≡ i)
id_sound n i e = let t = tested (nat_le 1 n) (Some n) i e in let same : n ≡ i = cc in (subst (λ k. 1 ≤ k) same (leb-true 1 n t.0), same)

pub id_complete : (n : ℕ) → 1 ≤ n → id_of n ≡ Some n
id_complete n low = passed (nat_le 1 n) (Some n) None (le-leb 1 n low)

pub id_found : (body : List Tree) (n : ℕ) → id_in body ≡ Some n → IsId n × (body ≡ number_body n)
id_found body n e =
    let s = stepped (number_in body) id_of n e in
    let i = id_sound s.0 n s.2 in
    let h = number_found body s.0 s.1 in
    ((i.0, subst (λ k. k < int_end) i.1 h.0), h.1 ∙ ap number_body i.1)

pub id_finds : (n : ℕ) → IsId n → id_in (number_body n) ≡ Some n
id_finds n is = ap (λ o. o >>= id_of) (number_finds n is.1) ∙ id_complete n is.0

pub name_sound : (text name : List ℕ) → name_of text ≡ Some name → (is_node_name name ≡ true) × (text ≡ name)
name_sound text name e = let t = tested (is_node_name text) (Some text) name e in let same : text ≡ name = cc in (subst (λ x. is_node_name x ≡ true) same t.0, same)

pub name_complete : (name : List ℕ) → is_node_name name ≡ true → name_of name ≡ Some name
name_complete name is = passed (is_node_name name) (Some name) None is

pub name_found : (body : List Tree) (name : List ℕ) → name_in body ≡ Some name → (is_node_name name ≡ true) × (body ≡ string_body name)
name_found body name e =
    let s = stepped (string_in body) name_of name e in
    let h = name_sound s.0 name s.2 in (h.0, string_sound body s.0 s.1 ∙ ap string_body h.1)

pub name_finds : (name : List ℕ) → is_node_name name ≡ true → name_in (string_body name) ≡ Some name
name_finds name is = ap (λ o. o >>= name_of) (string_complete name) ∙ name_complete name is

pub scalars_sound : (bytes scalars : List ℕ) → scalars_of bytes ≡ Some scalars → IsText scalars × (bytes ≡ encode_utf8_all scalars)
scalars_sound bytes scalars e =
    let t = tested (is_utf8 bytes) (Some (chars bytes)) scalars e in
    let utf8 = IsUtf8-from_is_utf8 bytes t.0 in
    let same : chars bytes ≡ scalars = cc in
    (subst IsText same (scalars-chars bytes utf8), sym (encodes-chars bytes utf8) ∙ ap encode_utf8_all same)

pub scalars_complete : (scalars : List ℕ) → IsText scalars → scalars_of (encode_utf8_all scalars) ≡ Some scalars
scalars_complete scalars is =
    passed (is_utf8 (encode_utf8_all scalars)) (Some (chars (encode_utf8_all scalars))) None (is_utf8-from_IsUtf8 _ (scalars, (is, refl)))
    ∙ ap (λ s. Some s) (chars-encodes scalars is)

pub text_found_in : (body : List Tree) (scalars : List ℕ) → text_in body ≡ Some scalars → IsText scalars × (body ≡ text_body scalars)
text_found_in body scalars e =
    let s = stepped (string_in body) scalars_of scalars e in
    let h = scalars_sound s.0 scalars s.2 in (h.0, string_sound body s.0 s.1 ∙ ap string_body h.1)

pub text_finds : (scalars : List ℕ) → IsText scalars → text_in (text_body scalars) ≡ Some scalars
text_finds scalars is = ap (λ o. o >>= scalars_of) (string_complete (encode_utf8_all scalars)) ∙ scalars_complete scalars is

pub range_found : (body : List Tree) (r : Range) → range_in body ≡ Some r → FitsRange r × (body ≡ range_body r)
range_found body r e =
    let p = stepped (pair_in body) _ r e in
    let a = stepped (number_in p.0.0) _ r p.2 in
    let b = stepped (number_in p.0.1) _ r a.2 in
    let start = number_found p.0.0 a.0 a.1 in
    let stop = number_found p.0.1 b.0 b.1 in
    let made : Range = record { start = a.0; stop = b.0 } in
    let is : Some made ≡ Some r = b.2 in
    let same : made ≡ r = cc in
    let fits : FitsRange made = record { start = start.0; stop = stop.0 } in
    (subst FitsRange same fits, pair_sound body p.0.0 p.0.1 p.1 ∙ ap (λ x. pair_body x p.0.1) start.1 ∙ ap (pair_body (number_body a.0)) stop.1 ∙ ap range_body same)

abbrev made : ℕ → ℕ → Range
made start stop = record { start = start; stop = stop }

pub range_finds : (r : Range) → FitsRange r → range_in (range_body r) ≡ Some r
range_finds r fits =
    ap (λ (o : Option (List Tree × List Tree)). o >>= λ ends. number_in ends.0 >>= λ start. number_in ends.1 >>= λ stop. Some (made start stop)) (pair_complete (number_body r.start) (number_body r.stop))
    ∙ ap (λ o. o >>= λ start. number_in (number_body r.stop) >>= λ stop. Some (made start stop)) (number_finds r.start fits.start)
    ∙ ap (λ o. o >>= λ stop. Some (made r.start stop)) (number_finds r.stop fits.stop)

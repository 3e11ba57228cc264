-- Tags of reports tell a kind, a range and properties.
use Rattle.std.proofs.Common.{◌≡◌, ℕ, List, [], ◌∷◌, ◌++◌, codes, decimal, refl, ap, ◌∙◌, arith}
use Rattle.std.specs.List.{AllByRecursion}
use Rattle.std.proofs.ByRecursion.{All-append}
use Rattle.std.proofs.lemmas.List.{append_cancel_left}
use Rattle.std.proofs.lemmas.Fmt.{decimal_injective}
use Rattle.yxml.specs.Normal.{Lacks, IsPlain}
use Rattle.pide_base.specs.declared.range.Range.{Range}
use Rattle.report_markup.specs.declared.kind.ReportKind.{ReportKind}
use Rattle.report_markup.specs.declared.property.Property.{Property}
use Rattle.report_markup.specs.declared.property.PropertyKey.{PropertyKey}
use Rattle.report_markup.specs.declared.property.PropertyKey.TheVariants as key
use Rattle.report_markup.specs.Words.{kind_word, key_word}
use Rattle.report_markup.proofs.KnownKinds.{kind_told}
use Rattle.reply_messages.specs.declared.tag.Tag.{Tag}
use Rattle.reply_messages.specs.Fits.{IsWide, FitsProperty}
use Rattle.reply_messages.specs.Marks.{Begins}
use Rattle.reply_messages.specs.Tags.{property_bytes, properties_bytes, tag_bytes, FitsTag}
use Rattle.reply_messages.proofs.Cuts.{differ, one_cut}
use Rattle.reply_messages.proofs.KindWords.{plain, no_x_in, kind_is_plain}
use Rattle.reply_messages.proofs.ReadNumbers.{decimal_lacks}

key_is_plain : (k : PropertyKey) → IsPlain (key_word k)
key_is_plain key.Theory = plain (key_word key.Theory) refl
key_is_plain key.Name = plain (key_word key.Name) refl

pub property_is_plain : (p : Property) → FitsProperty p → IsPlain (property_bytes p)
property_is_plain p fits =
    let word = key_is_plain p.key in
    (All-append _ (key_word p.key) _ word.0 (refl, fits.plain.0), All-append _ (key_word p.key) _ word.1 (refl, fits.plain.1))

one_keyed : (k j : PropertyKey) (v w : List ℕ) → key_word k ++ 61 ∷ v ≡ key_word j ++ 61 ∷ w → (k ≡ j) × (v ≡ w)
one_keyed key.Theory key.Theory v w e = (refl, append_cancel_left (codes "theory=") v w e)
one_keyed key.Theory key.Name v w e = absurd (differ _ _ refl e)
one_keyed key.Name key.Theory v w e = absurd (differ _ _ refl e)
one_keyed key.Name key.Name v w e = (refl, append_cancel_left (codes "name=") v w e)

pub one_property : (p q : Property) → property_bytes p ≡ property_bytes q → p ≡ q
one_property p q e =
    let same = one_keyed p.key q.key p.value q.value e in
    ap (λ (k : PropertyKey). let r : Property = record { key = k; value = p.value } in r) same.0
    ∙ ap (λ (v : List ℕ). let r : Property = record { key = q.key; value = v } in r) same.1

pub properties_begin : (ps : List Property) → Begins 6 (properties_bytes ps)
properties_begin [] = tt
properties_begin (p ∷ ps) = refl

-- the first property, and the others
pub first_property : (p : Property) (ps : List Property) (piece more : List ℕ) → FitsProperty p → Lacks 6 piece → Begins 6 more
    → properties_bytes (p ∷ ps) ≡ 6 ∷ (piece ++ more) → (property_bytes p ≡ piece) × (properties_bytes ps ≡ more)
first_property p ps piece more fits lacks begins e =
    one_cut 6 (property_bytes p) piece (properties_bytes ps) more (property_is_plain p fits).1 lacks (properties_begin ps) begins
    (append_cancel_left (6 ∷ []) _ _ e)

pub one_properties : (ps qs : List Property) → AllByRecursion FitsProperty ps → AllByRecursion FitsProperty qs → properties_bytes ps ≡ properties_bytes qs → ps ≡ qs
one_properties [] [] fp fq e = refl
one_properties [] (q ∷ qs) fp fq e = absurd (cc)
one_properties (p ∷ ps) [] fp fq e = absurd (cc)
one_properties (p ∷ ps) (q ∷ qs) fp fq e =
    let same = first_property p ps (property_bytes q) (properties_bytes qs) fp.0 (property_is_plain q fq.0).1 (properties_begin qs) e in
    ap (λ r. r ∷ ps) (one_property p q same.0) ∙ ap (λ rs. q ∷ rs) (one_properties ps qs fp.1 fq.1 same.1)

-- what a number behind a key tells
pub one_offset : (k : List ℕ) (a b : ℕ) (u v : List ℕ) → IsWide a → IsWide b → Begins 6 u → Begins 6 v
    → k ++ (decimal a ++ u) ≡ k ++ (decimal b ++ v) → (a ≡ b) × (u ≡ v)
one_offset k a b u v wa wb bu bv e =
    let same = one_cut 6 (decimal a) (decimal b) u v (decimal_lacks 6 a (omega arith) wa) (decimal_lacks 6 b (omega arith) wb) bu bv (append_cancel_left k _ _ e) in
    (decimal_injective a b wa wb same.0, same.1)

-- a tag of these parts
pub same_tag : (t u : Tag) → t.kind ≡ u.kind → t.range.start ≡ u.range.start → t.range.stop ≡ u.range.stop → t.properties ≡ u.properties → t ≡ u
same_tag t u k a b p =
    ap (λ (kind : ReportKind). let r : Tag = record { kind = kind; range = t.range; properties = t.properties } in r) k
    ∙ ap (λ (start : ℕ). let r : Range = record { start = start; stop = t.range.stop } in let s : Tag = record { kind = u.kind; range = r; properties = t.properties } in s) a
    ∙ ap (λ (stop : ℕ). let r : Range = record { start = u.range.start; stop = stop } in let s : Tag = record { kind = u.kind; range = r; properties = t.properties } in s) b
    ∙ ap (λ (properties : List Property). let r : Tag = record { kind = u.kind; range = u.range; properties = properties } in r) p

pub one_tag : (t u : Tag) → FitsTag t → FitsTag u → tag_bytes t ≡ tag_bytes u → t ≡ u
one_tag t u ft fu e =
    let first = one_cut 6 (kind_word t.kind) (kind_word u.kind) _ _ (kind_is_plain t.kind).1 (kind_is_plain u.kind).1 refl refl e in
    let second = one_offset (6 ∷ codes "offset=") t.range.start u.range.start _ _ ft.0.0 fu.0.0 refl refl first.1 in
    let third = one_offset (6 ∷ codes "end_offset=") t.range.stop u.range.stop _ _ ft.0.1 fu.0.1 (properties_begin t.properties) (properties_begin u.properties) second.1 in
    same_tag t u (kind_told t.kind u.kind first.0) second.0 third.0 (one_properties t.properties u.properties ft.1 fu.1 third.1)

properties_lack : (ps : List Property) → AllByRecursion FitsProperty ps → Lacks 5 (properties_bytes ps)
properties_lack [] fits = tt
properties_lack (p ∷ ps) fits = (refl, All-append _ (property_bytes p) _ (property_is_plain p fits.0).0 (properties_lack ps fits.1))

pub tag_lacks : (t : Tag) → FitsTag t → Lacks 5 (tag_bytes t)
tag_lacks t fits =
    All-append _ (kind_word t.kind) _ (kind_is_plain t.kind).0
    (All-append _ (6 ∷ codes "offset=") _ (no_x_in (6 ∷ codes "offset=") refl)
    (All-append _ (decimal t.range.start) _ (decimal_lacks 5 t.range.start (omega arith) fits.0.0)
    (All-append _ (6 ∷ codes "end_offset=") _ (no_x_in (6 ∷ codes "end_offset=") refl)
    (All-append _ (decimal t.range.stop) _ (decimal_lacks 5 t.range.stop (omega arith) fits.0.1) (properties_lack t.properties fits.1)))))

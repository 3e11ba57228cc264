-- What is left of a tag, step by step.
use Rattle.std.proofs.Common.{◌≡◌, ◌≢◌, ℕ, bytes_eq, List, [], ◌∷◌, ◌++◌, codes, decimal, Some, refl, ap, ◌∙◌, append_assoc}
use Rattle.std.specs.List.{AllByRecursion}
use Rattle.text_words.proofs.KnownLists.{found_passes}
use Rattle.yxml.specs.Normal.{Lacks}
use Rattle.message_values.proofs.KnownTrees.{same_bytes}
use Rattle.report_markup.specs.declared.kind.ReportKind.{ReportKind}
use Rattle.report_markup.specs.declared.property.Property.{Property}
use Rattle.report_markup.specs.Words.{kind_word}
use Rattle.reply_messages.specs.declared.tag.Tag.{Tag}
use Rattle.reply_messages.specs.Fits.{IsWide, FitsProperty}
use Rattle.reply_messages.specs.Marks.{Begins}
use Rattle.reply_messages.specs.Tags.{report_kinds, report_kind_named, property_bytes, properties_bytes, tag_bytes, FitsTag}
use Rattle.reply_messages.proofs.Cuts.{one_cut}
use Rattle.reply_messages.proofs.KindWords.{kind_is_plain}
use Rattle.reply_messages.proofs.Tags.{property_is_plain, properties_begin, first_property, one_offset}

pub kind_word_of : (name : List ℕ) (kind : ReportKind) → report_kind_named name ≡ Some kind → kind_word kind ≡ name
kind_word_of name kind e = same_bytes (kind_word kind) name (found_passes (λ k. bytes_eq (kind_word k) name) report_kinds kind e)

-- what stands behind the second key
abbrev pub behind_start : Tag → List ℕ
behind_start t = (6 ∷ codes "end_offset=") ++ (decimal t.range.stop ++ properties_bytes t.properties)

-- what stands behind the kind's word
abbrev pub behind_word : Tag → List ℕ
behind_word t = (6 ∷ codes "offset=") ++ (decimal t.range.start ++ behind_start t)

-- the first is a kind's word
pub after_word : (t : Tag) (tag word rest : List ℕ) → tag ≡ word ++ rest → Lacks 6 word → Begins 6 rest → tag_bytes t ≡ tag
    → (kind_word t.kind ≡ word) × (behind_word t ≡ rest)
after_word t tag word rest whole lacks begins e =
    one_cut 6 (kind_word t.kind) word (behind_word t) rest (kind_is_plain t.kind).1 lacks refl begins (e ∙ whole)

-- then comes the start
pub after_start : (t : Tag) → FitsTag t → (n : ℕ) (rest more : List ℕ) → IsWide n → Begins 6 more → rest ≡ (6 ∷ codes "offset=") ++ (decimal n ++ more)
    → behind_word t ≡ rest → behind_start t ≡ more
after_start t fits n rest more wide begins told e =
    (one_offset (6 ∷ codes "offset=") t.range.start n (behind_start t) more fits.0.0 wide refl begins (e ∙ told)).1

-- then the stop
pub after_stop : (t : Tag) → FitsTag t → (n : ℕ) (rest more : List ℕ) → IsWide n → Begins 6 more → rest ≡ (6 ∷ codes "end_offset=") ++ (decimal n ++ more)
    → behind_start t ≡ rest → properties_bytes t.properties ≡ more
after_stop t fits n rest more wide begins told e =
    (one_offset (6 ∷ codes "end_offset=") t.range.stop n (properties_bytes t.properties) more fits.0.1 wide (properties_begin t.properties) begins (e ∙ told)).1

begins_join : (ps : List Property) (rest : List ℕ) → Begins 6 rest → Begins 6 (properties_bytes ps ++ rest)
begins_join [] rest h = h
begins_join (p ∷ ps) rest h = refl

-- the properties behind those that were found
pub left_over : (found ps : List Property) (rest : List ℕ) → AllByRecursion FitsProperty found → AllByRecursion FitsProperty ps → Begins 6 rest
    → properties_bytes ps ≡ properties_bytes found ++ rest → (more : List Property) × AllByRecursion FitsProperty more × (properties_bytes more ≡ rest)
left_over [] ps rest ff fp begins e = (ps, fp, e)
left_over (q ∷ qs) [] rest ff fp begins e = absurd (cc)
left_over (q ∷ qs) (p ∷ ps) rest ff fp begins e =
    let same = first_property p ps (property_bytes q) (properties_bytes qs ++ rest) fp.0 (property_is_plain q ff.0).1 (begins_join qs rest begins)
    (e ∙ ap (λ s. 6 ∷ s) (append_assoc (property_bytes q) (properties_bytes qs) rest)) in
    left_over qs ps rest ff.1 fp.1 begins same.1

-- where a piece is no property, the text is no list of them
pub no_property : (found ps : List Property) (text rest behind piece more : List ℕ) → AllByRecursion FitsProperty found → text ≡ properties_bytes found ++ rest → Begins 6 rest
    → rest ≡ 6 ∷ behind → behind ≡ piece ++ more → Lacks 6 piece → Begins 6 more → ((p : Property) → FitsProperty p → property_bytes p ≢ piece)
    → AllByRecursion FitsProperty ps → properties_bytes ps ≢ text
no_property found ps text rest behind piece more ff told begins next cut lacks ends none fp e =
    let left = left_over found ps rest ff fp begins (e ∙ told) in
    go left.0 left.1 (left.2 ∙ next ∙ ap (λ s. 6 ∷ s) cut) where
      go : (qs : List Property) → AllByRecursion FitsProperty qs → properties_bytes qs ≡ 6 ∷ (piece ++ more) → ⊥
      go [] fits f = absurd (cc)
      go (q ∷ qs) fits f = none q fits.0 (first_property q qs piece more fits.0 lacks ends f).0

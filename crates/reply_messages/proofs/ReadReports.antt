-- Reports are elements.
use Rattle.std.proofs.Common.{◌≡◌, ℕ, List, [], ◌∷◌, ◌++◌, map, codes, decimal, refl, sym, ap, ◌∙◌, append_assoc}
use Rattle.std.proofs.lemmas.List.Folds.{flat_map-map}
use Rattle.yxml.specs.Marks.{opening, closing, marks}
use Rattle.yxml.proofs.KnownMarks.{tree_marks-Elem, tree_marks-Text}
use Rattle.yxml.specs.Spelling.{yxml, mark_spelling, spellings, attribute_spelling}
use Rattle.pide_base.specs.declared.range.Range.{Range}
use Rattle.report_markup.specs.declared.report.Report.{Report}
use Rattle.report_markup.specs.Words.{kind_word}
use Rattle.report_markup.specs.Element.{element, text_body, with_offsets, property_attribute}
use Rattle.reply_messages.specs.declared.tag.Tag.{Tag}
use Rattle.reply_messages.specs.Fits.{FitsReport}
use Rattle.reply_messages.specs.Laws.{AreElements}
use Rattle.reply_messages.specs.Marks.{IsStop, element_bytes}
use Rattle.reply_messages.specs.Tags.{properties_bytes, tag_bytes}
use Rattle.reply_messages.proofs.Cuts.{element_split, one_element}
use Rattle.reply_messages.proofs.KindWords.{kind_begins}
use Rattle.reply_messages.proofs.Tags.{one_tag, tag_lacks}

-- what stands in a report's tag
abbrev pub tag_of : Report → Tag
tag_of r = record { kind = r.kind; range = r.range; properties = r.properties }

-- a report's element
abbrev pub report_bytes : Report → List ℕ
report_bytes r = yxml (element r ∷ [])

-- offsets before properties
abbrev offsets : Range → List ℕ → List ℕ
offsets range ps = (6 ∷ codes "offset=") ++ (decimal range.start ++ ((6 ∷ codes "end_offset=") ++ (decimal range.stop ++ ps)))

text_is : (text : List ℕ) → spellings ((marks (text_body text) ++ closing ∷ []) ++ []) ≡ text ++ 5 ∷ 6 ∷ 5 ∷ []
text_is [] = refl
text_is (b ∷ bs) = ap (λ ms. spellings (((ms ++ []) ++ closing ∷ []) ++ [])) (tree_marks-Text (b ∷ bs))

pub report_is : (r : Report) → report_bytes r ≡ element_bytes (tag_bytes (tag_of r)) r.text
report_is r =
    let attributes = with_offsets r.range (map property_attribute r.properties) in
    let tag = opening (kind_word r.kind) attributes in
    ap (λ ms. spellings (ms ++ [])) (tree_marks-Elem (kind_word r.kind) attributes (text_body r.text))
    ∙ ap (λ s. mark_spelling tag ++ s) (text_is r.text)
    ∙ ap (λ ps. (5 ∷ 6 ∷ ((kind_word r.kind ++ offsets r.range ps) ++ 5 ∷ [])) ++ (r.text ++ 5 ∷ 6 ∷ 5 ∷ [])) (flat_map-map attribute_spelling property_attribute r.properties)
    ∙ ap (λ s. 5 ∷ 6 ∷ s) (append_assoc (tag_bytes (tag_of r)) (5 ∷ []) (r.text ++ 5 ∷ 6 ∷ 5 ∷ []))

same_report : (x y : Report) → tag_of x ≡ tag_of y → x.text ≡ y.text → x ≡ y
same_report x y e f =
    ap (λ (t : Tag). let r : Report = record { range = t.range; kind = t.kind; properties = t.properties; text = x.text } in r) e
    ∙ ap (λ (text : List ℕ). let r : Report = record { range = y.range; kind = y.kind; properties = y.properties; text = text } in r) f

one_report : (x y : Report) (u v : List ℕ) → FitsReport x → FitsReport y → report_bytes x ++ u ≡ report_bytes y ++ v → (x ≡ y) × (u ≡ v)
one_report x y u v fx fy e =
    let same = one_element (tag_bytes (tag_of x)) x.text u (tag_bytes (tag_of y)) y.text v
    (tag_lacks (tag_of x) (fx.range, fx.properties)) fx.text.plain.0 (tag_lacks (tag_of y) (fy.range, fy.properties)) fy.text.plain.0
    (sym (ap (λ s. s ++ u) (report_is x)) ∙ e ∙ ap (λ s. s ++ v) (report_is y)) in
    (same_report x y (one_tag (tag_of x) (tag_of y) (fx.range, fx.properties) (fy.range, fy.properties) same.0) same.1, same.2)

begins : (x : Report) (u v : List ℕ) → FitsReport x → IsStop v → report_bytes x ++ u ≡ v → ⊥
begins x u v fits stop e = kind_begins x.kind _ v stop
    (ap (λ s. 5 ∷ 6 ∷ s) (sym (append_assoc (kind_word x.kind) (offsets x.range (properties_bytes x.properties)) (5 ∷ (x.text ++ 5 ∷ 6 ∷ 5 ∷ u))))
    ∙ sym (ap (λ s. s ++ u) (report_is x) ∙ element_split (tag_bytes (tag_of x)) x.text u) ∙ e)

pub reports_are_elements : AreElements report_bytes FitsReport
reports_are_elements = record { one = one_report; begins = begins }

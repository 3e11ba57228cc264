-- What is written of a report is its element's YXML, and the element is a normal body.
use Rattle.std.proofs.Common.{◌≡◌, ℕ, ◌+◌, List, [], ◌∷◌, ◌++◌, map, refl, sym, subst, ap, ◌∙◌, append_assoc, arith, codes, decimal}
use Rattle.std.specs.List.{flat_map, AllByRecursion}
use Rattle.std.proofs.lemmas.List.{append-nil}
use Rattle.yxml.specs.declared.tree.Tree.TheVariants.{Text, rolls-Elem, rolls-Text}
use Rattle.yxml.specs.declared.tree.Tree.TheOpen.{Tree-F}
use Rattle.yxml.specs.declared.tree.Tree.TheFolds.{fold-roll-Tree}
use Rattle.yxml.specs.Marks.{Mark, opening, closing, words, marks, mark_step, tree_marks}
use Rattle.yxml.specs.Normal.{IsNormal, IsFit, IsPlain, IsAttribute, AreApart, height, height_step, tree_height}
use Rattle.yxml.specs.Spelling.{yxml, spellings, mark_spelling, attribute_spelling}
use Rattle.report_markup.specs.declared.report.Report.{Report}
use Rattle.report_markup.specs.Words.{kind_word}
use Rattle.report_markup.specs.Element.{element, text_body, with_offsets, property_attribute}
use Rattle.report_markup.proofs.Words.{kind_filled}

text_marks : List ℕ → List Mark
text_marks [] = []
text_marks (b ∷ bs) = words (b ∷ bs) ∷ []

text_body-marks : (text : List ℕ) → marks (text_body text) ≡ text_marks text
unfolding text_marks
text_body-marks [] = refl
text_body-marks (b ∷ bs) = append-nil _ ∙ ap tree_marks (sym (rolls-Text (b ∷ bs))) ∙ fold-roll-Tree (List Mark) mark_step (Tree-F.Text (b ∷ bs))

element-marks : (r : Report) → marks (element r ∷ [])
    ≡ opening (kind_word r.kind) (with_offsets r.range (map property_attribute r.properties)) ∷ (text_marks r.text ++ closing ∷ [])
element-marks r =
    let word = kind_word r.kind in
    let attributes = with_offsets r.range (map property_attribute r.properties) in
    append-nil (tree_marks (element r))
    ∙ ap tree_marks (sym (rolls-Elem word attributes (text_body r.text)))
    ∙ fold-roll-Tree (List Mark) mark_step (Tree-F.Elem word attributes (text_body r.text))
    ∙ ap (λ ms. opening word attributes ∷ (ms ++ closing ∷ [])) (text_body-marks r.text)

spell-text : (text : List ℕ) (rest : List Mark) → spellings (text_marks text ++ rest) ≡ text ++ spellings rest
unfolding text_marks
spell-text [] rest = refl
spell-text (b ∷ bs) rest = refl

regroup : (old a w y o q d e f ps x t z : List ℕ)
    → (((((((((old ++ a) ++ w) ++ (y ++ (o ++ q))) ++ d) ++ (y ++ (e ++ q))) ++ f) ++ ps) ++ x) ++ t) ++ z
    ≡ old ++ ((a ++ ((w ++ ((y ++ (o ++ (q ++ d))) ++ ((y ++ (e ++ (q ++ f))) ++ ps))) ++ x)) ++ (t ++ z))
regroup old a w y o q d e f ps x t z = simp append_assoc

-- the pieces of a report, as the writer adds them
pub pieces : (r : Report) (old : List ℕ)
    → (((((((((old ++ 5 ∷ 6 ∷ []) ++ kind_word r.kind) ++ 6 ∷ codes "offset=") ++ decimal r.range.start) ++ 6 ∷ codes "end_offset=")
    ++ decimal r.range.stop) ++ flat_map attribute_spelling (map property_attribute r.properties)) ++ 5 ∷ []) ++ r.text) ++ 5 ∷ 6 ∷ 5 ∷ []
    ≡ old ++ yxml (element r ∷ [])
pieces r old =
    let tag = opening (kind_word r.kind) (with_offsets r.range (map property_attribute r.properties)) in
    let told : yxml (element r ∷ []) ≡ mark_spelling tag ++ (r.text ++ 5 ∷ 6 ∷ 5 ∷ []) =
    ap spellings (element-marks r) ∙ ap (λ bs. mark_spelling tag ++ bs)
    (spell-text r.text (closing ∷ [])) in
    regroup old (5 ∷ 6 ∷ []) (kind_word r.kind) (6 ∷ []) (codes "offset") (61 ∷ []) (decimal r.range.start) (codes "end_offset") (decimal r.range.stop)
    (flat_map attribute_spelling (map property_attribute r.properties)) (5 ∷ []) r.text (5 ∷ 6 ∷ 5 ∷ [])
    ∙ ap (λ bs. old ++ bs) (sym told)

apart : (text : List ℕ) → AreApart (text_marks text ++ closing ∷ [])
unfolding text_marks
apart [] = (tt, tt)
apart (b ∷ bs) = (tt, (tt, tt))

text-fit : (text : List ℕ) → IsPlain text → AllByRecursion IsFit (text_marks text ++ closing ∷ [])
unfolding text_marks
text-fit [] plain = (tt, tt)
text-fit (b ∷ bs) plain = (((λ e. cc), plain), (tt, tt))

height-text : (text : List ℕ) → height (text_body text) ≡ 0
height-text [] = refl
height-text (b ∷ bs) =
    let one : tree_height (Text (b ∷ bs)) ≡ 0 =
    ap tree_height (sym (rolls-Text (b ∷ bs))) ∙ fold-roll-Tree ℕ height_step (Tree-F.Text (b ∷ bs)) in
    omega arith

element-height : (r : Report) → height (element r ∷ []) ≡ 1
element-height r =
    let word = kind_word r.kind in
    let attributes = with_offsets r.range (map property_attribute r.properties) in
    let one : tree_height (element r) ≡ 1 + height (text_body r.text) =
    ap tree_height (sym (rolls-Elem word attributes (text_body r.text)))
    ∙ fold-roll-Tree ℕ height_step (Tree-F.Elem word attributes (text_body r.text)) in
    omega (arith, height-text r.text)

pub normal : (r : Report) → IsPlain r.text → AllByRecursion IsAttribute (with_offsets r.range (map property_attribute r.properties))
    → IsNormal (element r ∷ [])
normal r plain fit =
    let P : List Mark → Type 0 = λ ms. AllByRecursion IsFit ms in
    let Q : List Mark → Type 0 = λ ms. AreApart ms in
    record {
      fit = subst P (sym (element-marks r)) ((kind_filled r.kind, fit), text-fit r.text plain);
      apart = subst Q (sym (element-marks r)) (tt, apart r.text);
      nested = omega (arith, element-height r);
    }

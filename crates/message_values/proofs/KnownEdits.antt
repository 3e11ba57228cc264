-- Edits: found where they are encoded.
use Rattle.std.proofs.Common.{◌≡◌, ℕ, ◌<◌, ◌^◌, Bool, true, false, ◌==◌, if◌then◌else◌, List, [], ◌∷◌, Option, Some, None, decimal, refl, ap, subst, ◌∙◌, lit<}
use Rattle.std.proofs.lemmas.Bool.{eqb-true}
use Rattle.yxml.specs.declared.tree.Tree.{Tree}
use Rattle.xml_codec.specs.Data.{int_end, variant_body}
use Rattle.text_edits.specs.declared.edit.Edit.{Edit}
use Rattle.text_edits.specs.declared.edit.Edit.TheVariants.{Insert, Remove}
use Rattle.message_values.specs.declared.variant.Variant.{Variant}
use Rattle.message_values.specs.ShapeBodies.{text_body, edit_body}
use Rattle.message_values.specs.Each.{◌>>=◌}
use Rattle.message_values.specs.FitsShapes.{IsText, FitsEdit}
use Rattle.message_values.specs.Shapes.{variant_in}
use Rattle.message_values.specs.Words.{text_in, edit_of, start_of, edit_in}
use Rattle.message_values.proofs.KnownFinds.{variant_complete}
use Rattle.message_values.proofs.KnownFound.{variant_sound}
use Rattle.message_values.proofs.KnownNumbers.{number_sound, number_complete}
use Rattle.message_values.proofs.KnownSteps.{stepped}
use Rattle.message_values.proofs.KnownWords.{text_found_in, text_finds}

start_sound : (values : List (List ℕ)) (n : ℕ) → start_of values ≡ Some n → (n < int_end) × (values ≡ decimal n ∷ [])
start_sound [] n e = absurd (cc)
start_sound (v ∷ []) n e = let h = number_sound v n e in (h.0, ap (λ x. x ∷ []) h.1)
start_sound (v ∷ w ∷ more) n e = absurd (cc)

kind_sound : (kind start : ℕ) (text : List ℕ) (e : Edit) → start < int_end → IsText text → edit_of kind start text ≡ Some e
    → FitsEdit e × (variant_body kind (decimal start ∷ []) (text_body text) ≡ edit_body e)
kind_sound kind start text e low is h = go (kind == 0) (kind == 1) refl refl h where
  go : (zero one : Bool) → (kind == 0) ≡ zero → (kind == 1) ≡ one
      → (if zero then Some (Insert start text) else if one then Some (Remove start text) else None) ≡ Some e
      → FitsEdit e × (variant_body kind (decimal start ∷ []) (text_body text) ≡ edit_body e)
  go true one z o k = let same : Insert start text ≡ e = cc in
      subst (λ f. FitsEdit f × (variant_body kind (decimal start ∷ []) (text_body text) ≡ edit_body f)) same
      ((low, is), ap (λ i. variant_body i (decimal start ∷ []) (text_body text)) (eqb-true kind 0 z))
  go false true z o k = let same : Remove start text ≡ e = cc in
      subst (λ f. FitsEdit f × (variant_body kind (decimal start ∷ []) (text_body text) ≡ edit_body f)) same
      ((low, is), ap (λ i. variant_body i (decimal start ∷ []) (text_body text)) (eqb-true kind 1 o))
  go false false z o k = absurd (cc)

pub edit_found : (body : List Tree) (e : Edit) → edit_in body ≡ Some e → FitsEdit e × (body ≡ edit_body e)
edit_found body e h =
    let v = stepped (variant_in body) _ e h in
    let s = stepped (start_of v.0.values) _ e v.2 in
    let t = stepped (text_in v.0.argument) _ e s.2 in
    let is = variant_sound body v.0 v.1 in
    let start = start_sound v.0.values s.0 s.1 in
    let text = text_found_in v.0.argument t.0 t.1 in
    let kind = kind_sound v.0.index s.0 t.0 e start.0 text.0 t.2 in
    (kind.0, is.same ∙ ap (λ vs. variant_body v.0.index vs v.0.argument) start.1 ∙ ap (variant_body v.0.index (decimal s.0 ∷ [])) text.1 ∙ kind.1)

edit_finds_kind : (kind start : ℕ) (text : List ℕ) → kind < 2 ^ 64 → start < int_end → IsText text
    → edit_in (variant_body kind (decimal start ∷ []) (text_body text)) ≡ edit_of kind start text
edit_finds_kind kind start text small low is =
    ap (λ (o : Option Variant). o >>= λ v. start_of v.values >>= λ s. text_in v.argument >>= λ t. edit_of v.index s t)
    (variant_complete (record { index = kind; values = decimal start ∷ []; argument = text_body text }) small)
    ∙ ap (λ o. o >>= λ s. text_in (text_body text) >>= λ t. edit_of kind s t) (number_complete start low)
    ∙ ap (λ o. o >>= λ t. edit_of kind start t) (text_finds text is)

pub edit_finds : (e : Edit) → FitsEdit e → edit_in (edit_body e) ≡ Some e
edit_finds (Insert start text) fits = edit_finds_kind 0 start text (lit< tt) fits.0 fits.1
edit_finds (Remove start text) fits = edit_finds_kind 1 start text (lit< tt) fits.0 fits.1

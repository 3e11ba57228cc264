-- Reports that compare as equal are the same.
use Rattle.std.proofs.Common.{◌≡◌, ℕ, List, [], ◌∷◌, refl, sym, ap, ◌∙◌, codes, bytes_eq, if◌then◌else◌}
use Rattle.std.specs.declared.cmp.Ordering.{Ordering}
use Rattle.std.specs.declared.cmp.Ordering.TheVariants.{Less, Equal, Greater}
use Rattle.std.specs.Cmp.Lexicographic.{slice_cmp}
use Rattle.std.specs.Ordering.{ordering_then}
use Rattle.std.proofs.lemmas.Map.Lookups.{CmpEqualImpliesEq, exact_unsigned, exact_bytes}
use Rattle.report_markup.specs.declared.kind.ReportKind.{ReportKind}
use Rattle.report_markup.specs.declared.property.PropertyKey.{PropertyKey}
use Rattle.report_markup.specs.declared.property.PropertyKey.TheVariants.{Theory as TheoryKey, Name}
use Rattle.report_markup.specs.declared.property.Property.{Property}
use Rattle.report_markup.specs.declared.report.Report.{Report}
use Rattle.report_markup.specs.Words.{key_word}
use Rattle.report_markup.specs.PropertyOrder.{property_cmp}
use Rattle.report_markup.specs.Order.{report_cmp}
use Rattle.report_markup.proofs.KnownKinds.{kind_told}

key_of : List ℕ → PropertyKey
key_of w = if bytes_eq w (codes "name") then Name else TheoryKey

key_of-word : (k : PropertyKey) → key_of (key_word k) ≡ k
unfolding key_of
key_of-word TheoryKey = refl
key_of-word Name = refl

key_told : (j k : PropertyKey) → key_word j ≡ key_word k → j ≡ k
key_told j k e = sym (key_of-word j) ∙ ap key_of e ∙ key_of-word k

then_equal : (a b : Ordering) → ordering_then a b ≡ Equal → (a ≡ Equal) × (b ≡ Equal)
then_equal Less b h = absurd (cc)
then_equal Equal b h = (refl, h)
then_equal Greater b h = absurd (cc)

property_exact : (p q : Property) → property_cmp p q ≡ Equal → p ≡ q
property_exact p q h =
    let both = then_equal (slice_cmp _ (key_word p.key) (key_word q.key)) (slice_cmp _ p.value q.value) h in
    let key : p.key ≡ q.key = key_told p.key q.key (exact_bytes (key_word p.key) (key_word q.key) both.0) in
    let value : p.value ≡ q.value = exact_bytes p.value q.value both.1 in
    let make : PropertyKey → List ℕ → Property = λ k v. record { key = k; value = v } in
    ap (λ k. make k p.value) key ∙ ap (make q.key) value

list_exact : {X : Type 0} (R : X → X → Ordering) → CmpEqualImpliesEq R → (xs ys : List X) → slice_cmp R xs ys ≡ Equal → xs ≡ ys
list_exact R exact [] [] h = refl
list_exact R exact [] (y ∷ ys) h = absurd (cc)
list_exact R exact (x ∷ xs) [] h = absurd (cc)
list_exact R exact (x ∷ xs) (y ∷ ys) h =
    let both = then_equal (R x y) (slice_cmp R xs ys) h in
    let head : x ≡ y = exact x y both.0 in
    let tail : xs ≡ ys = list_exact R exact xs ys both.1 in
    cc

pub report_exact : (a b : Report) → report_cmp a b ≡ Equal → a ≡ b
report_exact a b h =
    let s = then_equal _ _ h in
    let t = then_equal _ _ s.1 in
    let k = then_equal _ _ t.1 in
    let p = then_equal _ _ k.1 in
    let start : a.range.start ≡ b.range.start = exact_unsigned _ _ s.0 in
    let stop : a.range.stop ≡ b.range.stop = sym (exact_unsigned _ _ t.0) in
    let kind : a.kind ≡ b.kind = kind_told a.kind b.kind (exact_bytes _ _ k.0) in
    let properties : a.properties ≡ b.properties = list_exact property_cmp property_exact _ _ p.0 in
    let text : a.text ≡ b.text = exact_bytes _ _ p.1 in
    let make : ℕ → ℕ → ReportKind → List Property → List ℕ → Report
    = λ i j w ps x. record { range = record { start = i; stop = j }; kind = w; properties = ps; text = x } in
    ap (λ i. make i a.range.stop a.kind a.properties a.text) start
    ∙ ap (λ j. make b.range.start j a.kind a.properties a.text) stop
    ∙ ap (λ w. make b.range.start b.range.stop w a.properties a.text) kind
    ∙ ap (λ ps. make b.range.start b.range.stop b.kind ps a.text) properties
    ∙ ap (λ x. make b.range.start b.range.stop b.kind b.properties x) text

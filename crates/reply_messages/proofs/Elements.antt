-- Elements, lists of them and pairs tell one value.
use Rattle.std.proofs.Common.{◌≡◌, ◌≢◌, ℕ, List, [], ◌∷◌, ◌++◌, refl, sym, ap, subst, ◌∙◌, append_assoc, arith}
use Rattle.std.specs.List.{AllByRecursion, flat_map}
use Rattle.std.proofs.lemmas.List.{append_cancel_left}
use Rattle.reply_messages.specs.Found.{HasNone}
use Rattle.reply_messages.specs.Laws.{AreWords, AreElements}
use Rattle.reply_messages.specs.Marks.{IsStop, node_bytes, pair_bytes}
use Rattle.reply_messages.proofs.Cuts.{one_node}

-- a stop is no element
pub stopped : (c : ℕ) (more v : List ℕ) → c ≢ 5 → IsStop v → 5 ∷ 6 ∷ c ∷ more ≢ v
stopped c more v other stop e = other (subst IsStop (sym e) stop)

-- words in nodes are elements
pub nodes_are_elements : {A : Type 0} (word : A → List ℕ) (Fits : A → Type 0) → AreWords word Fits → AreElements (λ x. node_bytes (word x)) Fits
nodes_are_elements word Fits words = record {
  one = λ x y u v fx fy e. let same = one_node (word x) u (word y) v (words.unmarked x fx) (words.unmarked y fy) e in (words.one x y fx fy same.0, same.1);
  begins = λ x u v fx stop. stopped 58 _ v (λ h. absurd (omega (arith, h))) stop;
}

-- elements that are spelled alike are elements
pub alike : {A : Type 0} (spelling other : A → List ℕ) (Fits : A → Type 0) → ((x : A) → other x ≡ spelling x) → AreElements spelling Fits → AreElements other Fits
alike spelling other Fits same elements = record {
  one = λ x y u v fx fy e. elements.one x y u v fx fy (sym (ap (λ s. s ++ u) (same x)) ∙ e ∙ ap (λ s. s ++ v) (same y));
  begins = λ x u v fx stop e. elements.begins x u v fx stop (sym (ap (λ s. s ++ u) (same x)) ∙ e);
}

module _ {A : Type 0} (spelling : A → List ℕ) (Fits : A → Type 0) (elements : AreElements spelling Fits) where
  -- no element stands at a stop
  pub none_at_stop : (v : List ℕ) → IsStop v → HasNone spelling Fits v
  none_at_stop v stop = λ x rest fits e. elements.begins x rest v fits stop (sym e)

  -- a list and what follows it
  pub one_list : (xs ys : List A) (u v : List ℕ) → AllByRecursion Fits xs → AllByRecursion Fits ys → HasNone spelling Fits u → IsStop v
      → flat_map spelling xs ++ u ≡ flat_map spelling ys ++ v → (xs ≡ ys) × (u ≡ v)
  one_list [] [] u v fx fy none stop e = (refl, e)
  one_list [] (y ∷ ys) u v fx fy none stop e = absurd (none y (flat_map spelling ys ++ v) fy.0 (e ∙ append_assoc (spelling y) (flat_map spelling ys) v))
  one_list (x ∷ xs) [] u v fx fy none stop e = absurd (elements.begins x (flat_map spelling xs ++ u) v fx.0 stop (sym (append_assoc (spelling x) (flat_map spelling xs) u) ∙ e))
  one_list (x ∷ xs) (y ∷ ys) u v fx fy none stop e =
      let first = elements.one x y (flat_map spelling xs ++ u) (flat_map spelling ys ++ v) fx.0 fy.0
      (sym (append_assoc (spelling x) (flat_map spelling xs) u) ∙ e ∙ append_assoc (spelling y) (flat_map spelling ys) v) in
      let rest = one_list xs ys u v fx.1 fy.1 none stop first.1 in
      (ap (λ z. z ∷ xs) first.0 ∙ ap (λ zs. y ∷ zs) rest.0, rest.1)

  -- a list that is a whole text
  pub one_whole : (xs ys : List A) → AllByRecursion Fits xs → AllByRecursion Fits ys → flat_map spelling xs ≡ flat_map spelling ys → xs ≡ ys
  one_whole xs ys fx fy e = (one_list xs ys [] [] fx fy (none_at_stop [] tt) tt (ap (λ s. s ++ []) e)).0

-- a pair and what follows it, piece by piece
pub pair_split : (first second rest : List ℕ) → pair_bytes first second ++ rest
    ≡ (5 ∷ 6 ∷ 58 ∷ 5 ∷ []) ++ (node_bytes first ++ ((5 ∷ 6 ∷ 58 ∷ 5 ∷ []) ++ (second ++ ((5 ∷ 6 ∷ 5 ∷ []) ++ ((5 ∷ 6 ∷ 5 ∷ []) ++ rest)))))
pair_split first second rest = ap (λ z. 5 ∷ 6 ∷ 58 ∷ 5 ∷ z)
    (append_assoc (node_bytes first ++ node_bytes second) (5 ∷ 6 ∷ 5 ∷ []) rest
    ∙ append_assoc (node_bytes first) (node_bytes second) (5 ∷ 6 ∷ 5 ∷ rest)
    ∙ ap (λ z. node_bytes first ++ 5 ∷ 6 ∷ 58 ∷ 5 ∷ z) (append_assoc second (5 ∷ 6 ∷ 5 ∷ []) (5 ∷ 6 ∷ 5 ∷ rest)))

-- pairs of a word and a list are elements
pub pairs_are_elements : {A W P : Type 0} (of : A → W) (items : A → List P) (word : W → List ℕ) (FitsWord : W → Type 0) (spelling : P → List ℕ) (Fits : P → Type 0)
    → ((x y : A) → of x ≡ of y → items x ≡ items y → x ≡ y) → AreWords word FitsWord → AreElements spelling Fits
    → AreElements (λ x. pair_bytes (word (of x)) (flat_map spelling (items x))) (λ x. FitsWord (of x) × AllByRecursion Fits (items x))
pairs_are_elements {A = A} of items word FitsWord spelling Fits same words elements = record {
  one = both;
  begins = λ x u v fx stop. stopped 58 _ v (λ h. absurd (omega (arith, h))) stop;
} where
  both : (x y : A) (u v : List ℕ) → FitsWord (of x) × AllByRecursion Fits (items x) → FitsWord (of y) × AllByRecursion Fits (items y)
      → pair_bytes (word (of x)) (flat_map spelling (items x)) ++ u ≡ pair_bytes (word (of y)) (flat_map spelling (items y)) ++ v → (x ≡ y) × (u ≡ v)
  both x y u v fx fy e =
      let inner = append_cancel_left (5 ∷ 6 ∷ 58 ∷ 5 ∷ []) _ _
      (sym (pair_split (word (of x)) (flat_map spelling (items x)) u) ∙ e ∙ pair_split (word (of y)) (flat_map spelling (items y)) v) in
      let first = one_node (word (of x)) _ (word (of y)) _ (words.unmarked (of x) fx.0) (words.unmarked (of y) fy.0) inner in
      let list = append_cancel_left (5 ∷ 6 ∷ 58 ∷ 5 ∷ []) _ _ first.1 in
      let second = one_list spelling Fits elements (items x) (items y) (5 ∷ 6 ∷ 5 ∷ 5 ∷ 6 ∷ 5 ∷ u) (5 ∷ 6 ∷ 5 ∷ 5 ∷ 6 ∷ 5 ∷ v) fx.1 fy.1
      (none_at_stop spelling Fits elements (5 ∷ 6 ∷ 5 ∷ 5 ∷ 6 ∷ 5 ∷ u) refl) refl list in
      (same x y (words.one (of x) (of y) fx.0 fy.0 first.0) second.0, append_cancel_left (5 ∷ 6 ∷ 5 ∷ 5 ∷ 6 ∷ 5 ∷ []) u v second.1)

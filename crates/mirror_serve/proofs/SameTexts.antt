-- Two that see the same behind each list of edits have the same text.
use Rattle.std.proofs.Common.{◌≡◌, ℕ, ◌+◌, ◌≤◌, Bool, true, false, List, [], ◌∷◌, length, take, drop, Option, Some, None, Result, Ok, Err, refl, sym, ap, ◌∙◌, arith}
use Rattle.std.specs.Prelude.{nat_lt, not, if◌then◌else◌}
use Rattle.std.proofs.lemmas.List.{take_all}
use Rattle.text_edits.specs.declared.edit.Edit.{Edit}
use Rattle.text_edits.specs.declared.edit.Edit.TheVariants.{Remove}
use Rattle.doc_nodes.specs.Names.{equal}
use Rattle.doc_nodes.proofs.KnownNames.{name_is, name_itself}
use Rattle.message_values.specs.Asked.{or_refused}
use Rattle.message_values.specs.declared.refusal.Refusal.{Refusal}
use Rattle.message_values.specs.declared.refusal.Refusal.TheVariants.{EditOutOfRange, RemoveDiffers}
use Rattle.buffer_rules.specs.Trying.{◌>>=◌}
use Rattle.buffer_rules.specs.Texts.{edit_all, edit_once, edited}

-- the text x at the beginning is removed
abbrev removing : List ℕ → List Edit
removing x = Remove 0 x ∷ []

removed : (a b : Bool) (x t made : List ℕ) → (if a then Err EditOutOfRange else if b then Err RemoveDiffers else Ok made) ≡ Ok t → (a ≡ false) × (b ≡ false)
removed true b x t made e = let no : ⊥ = cc in absurd no
removed false true x t made e = let no : ⊥ = cc in absurd no
removed false false x t made e = (refl, refl)

only_step : (x text t : List ℕ) → edit_all (removing x) text ≡ Ok t → edit_once (Remove 0 x) text ≡ Ok t
only_step x text t e = go (edit_once (Remove 0 x) text) e
  where
    go : (r : Result (List ℕ) Refusal) → (r >>= λ after. Ok after) ≡ Ok t → r ≡ Ok t
    go (Ok after) is = is
    go (Err reason) is = is

not_true : (b : Bool) → not b ≡ false → b ≡ true
not_true true e = refl
not_true false e = let no : ⊥ = cc in absurd no

-- it can be removed from a text that begins with it
begins : (x text t : List ℕ) → edit_all (removing x) text ≡ Ok t → (length x ≤ length text) × (x ≡ take (length x) text)
begins x text t e =
    let p = removed (nat_lt (length text) (0 + length x)) (not (equal x (take (length x) (drop 0 text)))) x t (edited (Remove 0 x) text) (only_step x text t e) in
    let long : length x ≤ length text = grind (arith, p.0) in
    (long, name_is x (take (length x) text) (not_true (equal x (take (length x) text)) p.1))

itself : (x : List ℕ) → (t : List ℕ) × (edit_all (removing x) x ≡ Ok t)
itself x =
    let fits : nat_lt (length x) (0 + length x) ≡ false = grind arith in
    let whole : take (length x) x ≡ x = take_all (length x) x (omega arith) in
    let same : equal x (take (length x) x) ≡ true = rw whole (name_itself x) in
    (edited (Remove 0 x) x, rw (fits, same) refl)

one_text : (x y : List ℕ) → ((t : List ℕ) × (edit_all (removing x) y ≡ Ok t)) → ((t : List ℕ) × (edit_all (removing y) x ≡ Ok t)) → x ≡ y
one_text x y a b =
    let p = begins x y a.0 a.1 in
    let q = begins y x b.0 b.1 in
    let longer = p.0 in
    let shorter = q.0 in
    p.1 ∙ take_all (length x) y (omega (arith, longer, shorter))

-- the ones see a text `tm` of what they have, and the others `tn` of theirs
module _ {A B C D V Y : Type 0} (none gone : Refusal) (at : A → Option B) (tm : A → B → List ℕ) (seen : A → B → List Edit → List ℕ → V)
    (of : C → Option D) (tn : C → D → List ℕ) (made : C → List ℕ → Y) (shown : List Edit → Y → V) (text : Y → List ℕ)
    (text_is : (c : C) (t : List ℕ) → text (made c t) ≡ t) where
  abbrev pub mine : Option A → List Edit → Result V Refusal
  mine o edits = or_refused none o >>= λ a. or_refused gone (at a) >>= λ b. edit_all edits (tm a b) >>= λ t. Ok (seen a b edits t)

  abbrev pub mine_text : Option A → List Edit → Result (List ℕ) Refusal
  mine_text o edits = or_refused none o >>= λ a. or_refused gone (at a) >>= λ b. edit_all edits (tm a b)

  abbrev pub found : Option C → List Edit → Result Y Refusal
  found o edits = or_refused none o >>= λ c. or_refused gone (of c) >>= λ d. edit_all edits (tn c d) >>= λ t. Ok (made c t)

  over : (x : Result (List ℕ) Refusal) (c : C) → ((x >>= λ t. Ok (made c t)) >>= λ y. Ok (text y)) ≡ x
  over (Ok t) c = ap Ok (text_is c t)
  over (Err reason) c = refl

  okay : {U : Type 0} (r : Result (List ℕ) Refusal) (f : List ℕ → U) (u : U) → (r >>= λ t. Ok (f t)) ≡ Ok u → (t : List ℕ) × (r ≡ Ok t)
  okay (Ok t) f u e = (t, refl)
  okay (Err reason) f u e = let no : ⊥ = cc in absurd no

  both : (a : A) (b : B) (c : C) (d : D)
      → ((edits : List Edit) → (edit_all edits (tm a b) >>= λ t. Ok (seen a b edits t)) ≡ ((edit_all edits (tn c d) >>= λ t. Ok (made c t)) >>= λ y. Ok (shown edits y)))
      → tm a b ≡ tn c d
  both a b c d same = one_text (tm a b) (tn c d) (theirs (itself (tm a b))) (ours (itself (tn c d)))
    where
      theirs : ((t : List ℕ) × (edit_all (removing (tm a b)) (tm a b) ≡ Ok t)) → (t : List ℕ) × (edit_all (removing (tm a b)) (tn c d) ≡ Ok t)
      theirs (t, is) = through (edit_all (removing (tm a b)) (tn c d))
          (sym (same (removing (tm a b))) ∙ ap (λ r. r >>= λ u. Ok (seen a b (removing (tm a b)) u)) is)
        where
          through : (r : Result (List ℕ) Refusal) → ((r >>= λ u. Ok (made c u)) >>= λ y. Ok (shown (removing (tm a b)) y)) ≡ Ok (seen a b (removing (tm a b)) t)
              → (u : List ℕ) × (r ≡ Ok u)
          through (Ok u) e = (u, refl)
          through (Err reason) e = let no : ⊥ = cc in absurd no

      ours : ((t : List ℕ) × (edit_all (removing (tn c d)) (tn c d) ≡ Ok t)) → (t : List ℕ) × (edit_all (removing (tn c d)) (tm a b) ≡ Ok t)
      ours (t, is) = okay (edit_all (removing (tn c d)) (tm a b)) (seen a b (removing (tn c d))) (shown (removing (tn c d)) (made c t))
          (same (removing (tn c d)) ∙ ap (λ r. (r >>= λ u. Ok (made c u)) >>= λ y. Ok (shown (removing (tn c d)) y)) is)

  nodes : (a : A) (c : C) (b : Option B) (d : Option D)
      → ((edits : List Edit) → (or_refused gone b >>= λ k. edit_all edits (tm a k) >>= λ t. Ok (seen a k edits t))
      ≡ ((or_refused gone d >>= λ k. edit_all edits (tn c k) >>= λ t. Ok (made c t)) >>= λ y. Ok (shown edits y)))
      → (edits : List Edit) → (or_refused gone b >>= λ k. edit_all edits (tm a k))
      ≡ ((or_refused gone d >>= λ k. edit_all edits (tn c k) >>= λ t. Ok (made c t)) >>= λ y. Ok (text y))
  nodes a c None None same edits = refl
  nodes a c None (Some d) same edits = let no : Err gone ≡ Ok (shown [] (made c (tn c d))) = same [] in let never : ⊥ = cc in absurd never
  nodes a c (Some b) None same edits = let no : Ok (seen a b [] (tm a b)) ≡ Err gone = same [] in let never : ⊥ = cc in absurd never
  nodes a c (Some b) (Some d) same edits = ap (edit_all edits) (both a b c d same) ∙ sym (over (edit_all edits (tn c d)) c)

  pub same_texts : (om : Option A) (on : Option C) → ((edits : List Edit) → mine om edits ≡ (found on edits >>= λ y. Ok (shown edits y)))
      → (edits : List Edit) → mine_text om edits ≡ (found on edits >>= λ y. Ok (text y))
  same_texts None None same edits = refl
  same_texts (Some a) (Some c) same edits = nodes a c (at a) (of c) same edits
  same_texts None (Some c) same edits = by (of c) (same [])
    where
      by : (d : Option D) → Err none ≡ ((or_refused gone d >>= λ k. edit_all [] (tn c k) >>= λ t. Ok (made c t)) >>= λ y. Ok (shown [] y))
          → Err none ≡ ((or_refused gone d >>= λ k. edit_all edits (tn c k) >>= λ t. Ok (made c t)) >>= λ y. Ok (text y))
      by None e = ap (λ r. Err r) (let is : none ≡ gone = cc in is)
      by (Some d) e = let never : ⊥ = cc in absurd never
  same_texts (Some a) None same edits = by (at a) (same [])
    where
      by : (b : Option B) → (or_refused gone b >>= λ k. edit_all [] (tm a k) >>= λ t. Ok (seen a k [] t)) ≡ Err none
          → (or_refused gone b >>= λ k. edit_all edits (tm a k)) ≡ Err none
      by None e = ap (λ r. Err r) (let is : gone ≡ none = cc in is)
      by (Some b) e = let never : ⊥ = cc in absurd never

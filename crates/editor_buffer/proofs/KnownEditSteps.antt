-- One edit, as the rules tell it and as the law of edits does.
use Rattle.std.proofs.Common.{◌≡◌, ◌↔◌, ℕ, ◌+◌, Bool, true, false, not, cond, List, [], ◌∷◌, length, take, drop, Result, Ok, Err, refl, sym, ap, subst, ◌∙◌, arith, get_or}
use Rattle.std.specs.Prelude.{nat_lt}
use Rattle.std.proofs.lemmas.Bool.{cond-true, cond-false}
use Rattle.std.proofs.lemmas.Bool.Decides.{nat_tests}
use Rattle.text_edits.specs.declared.edit.Edit.{Edit}
use Rattle.text_edits.specs.declared.edit.Edit.TheVariants.{Insert, Remove}
use Rattle.text_edits.specs.Edits.{Applies, AppliesList}
use Rattle.text_edits.specs.Faults.{IsOutOfRange, DiffersAt}
use Rattle.doc_nodes.specs.Names.{equal}
use Rattle.doc_nodes.proofs.KnownNames.{name_is}
use Rattle.message_values.specs.declared.refusal.Refusal.{Refusal}
use Rattle.message_values.specs.declared.refusal.Refusal.TheVariants.{EditOutOfRange, RemoveDiffers}
use Rattle.buffer_rules.specs.Trying.{◌>>=◌}
use Rattle.buffer_rules.specs.Texts.{differs, edited, edit_once, edit_all}

-- the law of edits, as it is called
abbrev pub EditsLaw : Type 0
EditsLaw = (edits : List Edit) (text after : List ℕ) → (edit_all edits text ≡ Ok after) ↔ AppliesList edits text after

one_step : (r : Result (List ℕ) Refusal) (after : List ℕ) → (r >>= λ text. Ok text) ≡ Ok after → r ≡ Ok after
one_step (Ok text) after e = e
one_step (Err refusal) after e = e

-- an edit that says what it makes is made
pub makes : EditsLaw → (edit : Edit) (text after : List ℕ) → Applies edit text after → edit_once edit text ≡ Ok after
makes law edit text after so = one_step (edit_once edit text) after ((law (edit ∷ []) text after).1 (after, so, refl))

-- and the other way round
pub made : EditsLaw → (edit : Edit) (text after : List ℕ) → edit_once edit text ≡ Ok after → Applies edit text after
made law edit text after e =
    let all : edit_all (edit ∷ []) text ≡ Ok after = ap (λ r. r >>= λ t. Ok t) e in
    let so = (law (edit ∷ []) text after).0 all in
    subst_after so
  where
    subst_after : (between : List ℕ) × Applies edit text between × (after ≡ between) → Applies edit text after
    subst_after (between, here, same) = let P : List ℕ → Type 0 = λ t. Applies edit text t in subst P (sym same) here

-- an edit that is out of range is refused
pub out_of_range : (edit : Edit) (text : List ℕ) (start len : ℕ) → IsOutOfRange edit text start len → edit_once edit text ≡ Err EditOutOfRange
out_of_range (Insert place x) text start len (above, a, b) =
    let out : nat_lt (length text) place ≡ true = grind (arith, nat_tests) in
    cond-true (nat_lt (length text) place) (Err EditOutOfRange)
    (cond (differs (Insert place x) text) (Err RemoveDiffers) (Ok (edited (Insert place x) text))) out
out_of_range (Remove place x) text start len (above, a, b) =
    let out : nat_lt (length text) (place + length x) ≡ true = grind (arith, nat_tests) in
    cond-true (nat_lt (length text) (place + length x)) (Err EditOutOfRange)
    (cond (differs (Remove place x) text) (Err RemoveDiffers) (Ok (edited (Remove place x) text))) out

other : (xs ys : List ℕ) (k : ℕ) → (get_or ys k 0 ≡ get_or xs k 0 → ⊥) → (b : Bool) → equal xs ys ≡ b → not b ≡ true
other xs ys k differ true e = absurd (differ (ap (λ zs. get_or zs k 0) (sym (name_is xs ys e))))
other xs ys k differ false e = refl

-- a remove of another text is refused
pub another : (edit : Edit) (text : List ℕ) (at : ℕ) → DiffersAt edit text at → edit_once edit text ≡ Err RemoveDiffers
another (Insert start x) text at h = absurd h
another (Remove start x) text at (within, k, place, first) =
    let inside : nat_lt (length text) (start + length x) ≡ false = grind (arith, nat_tests) in
    let unlike : differs (Remove start x) text ≡ true =
    other x (take (length x) (drop start text)) k first.differ (equal x (take (length x) (drop start text))) refl in
    cond-false (nat_lt (length text) (start + length x)) (Err EditOutOfRange)
    (cond (differs (Remove start x) text) (Err RemoveDiffers) (Ok (edited (Remove start x) text))) inside
    ∙ cond-true (differs (Remove start x) text) (Err RemoveDiffers) (Ok (edited (Remove start x) text)) unlike

-- an edit that is made, or refused
pub ruleset edit_steps = (makes, out_of_range, another)

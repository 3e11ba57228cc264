-- What is found by one spelling is found by another that is the same.
use Rattle.std.proofs.Common.{◌≡◌, ℕ, List, ◌++◌, drop, Option, Some, None, Result, Ok, Err, IfOk, sym, ap, ◌∙◌}
use Rattle.reply_messages.specs.declared.taken.Taken.{Taken}
use Rattle.reply_messages.specs.Found.{Finds, FindsFront}

-- in a text
pub found_alike : {A B : Type 0} (spelling other : A → B) (Fits : A → Type 0) → ((x : A) → other x ≡ spelling x) → (text : B) (found : Option A)
    → Finds spelling Fits text found → Finds other Fits text found
found_alike spelling other Fits same text (Some x) h = (h.0, same x ∙ h.1)
found_alike spelling other Fits same text None none = λ x fits e. none x fits (sym (same x) ∙ e)

-- at the front of a text, under another type
pub front_alike : {A B : Type 0} (spelling : A → List ℕ) (Fits : A → Type 0) (other : B → List ℕ) (FitsOther : B → Type 0) (back : B → A)
    → ((y : B) → other y ≡ spelling (back y)) → ((y : B) → FitsOther y → Fits (back y)) → (text : List ℕ)
    → FindsFront spelling Fits text None → FindsFront other FitsOther text None
front_alike spelling Fits other FitsOther back same fit text none = λ y rest fits e. none (back y) rest (fit y fits) (e ∙ ap (λ s. s ++ rest) (same y))

-- the same of one type
pub same_front : {A : Type 0} (spelling other : A → List ℕ) (Fits : A → Type 0) → ((x : A) → other x ≡ spelling x) → (text : List ℕ) (found : Option (Taken A))
    → FindsFront spelling Fits text found → FindsFront other Fits text found
same_front spelling other Fits same text (Some taken) h = record {
  fits = h.fits;
  some = h.some;
  within = h.within;
  told = h.told ∙ ap (λ s. s ++ drop taken.length text) (sym (same taken.value));
}
same_front spelling other Fits same text None none = λ x rest fits e. none x rest fits (e ∙ ap (λ s. s ++ rest) (same x))

-- where no memory was wanted
pub if_ok : {A : Type 0} {E : Type 0} (P Q : A → Type 0) (r : Result A E) → ((x : A) → P x → Q x) → IfOk r P → IfOk r Q
if_ok P Q (Ok x) f h = f x h
if_ok P Q (Err e) f h = tt

-- An opening and what it encloses, and what is only opened.
use Rattle.std.proofs.Common.{◌≡◌, ℕ, ◌+◌, ◌-◌, ◌≤◌, List, ◌++◌, length, take, drop, sym, ap, ◌∙◌, subst, arith, length-take-le, length-append, append_assoc}
use Rattle.std.proofs.lemmas.List.{append_cancel_left, take-append-drop, take_all}
use Rattle.std.proofs.Math.Seq.{take-append-add}
use Rattle.text_words.specs.Longest.{IsLongest, HasNoFront}
use Rattle.outer_syntax.specs.Brackets.{opening, ClosesText, IsEnclosed}
use Rattle.outer_syntax.specs.Forms.{IsOpened}
use Rattle.outer_syntax.specs.declared.bracket.Bracket.{Bracket}

-- a front that begins with the opening goes on with a front of the inside
opened-front : (o inside : List ℕ) (k : ℕ) (front : List ℕ) → k ≤ length (o ++ inside) → take k (o ++ inside) ≡ o ++ front → (length o ≤ k) × (take (k - length o) inside ≡ front)
opened-front o inside k front within e =
    let lengths : k ≡ length o + length front = sym (length-take-le k (o ++ inside) within) ∙ ap length e ∙ length-append o front in
    let whole : k ≡ length o + (k - length o) = omega arith in
    (omega arith, append_cancel_left o (take (k - length o) inside) front (sym (take-append-add o inside (k - length o)) ∙ ap (λ n. take n (o ++ inside)) (sym whole) ∙ e))

pub enclosed-some : (b : Bracket) (inside : List ℕ) (n : ℕ) → IsLongest (ClosesText b 1) inside n → IsLongest (IsEnclosed b) (opening b ++ inside) (length (opening b) + n)
enclosed-some b inside n closes = record {
  within = omega (arith, length-append (opening b) inside, closes.within);
  fits = (take n inside, take-append-add (opening b) inside n, closes.fits);
  longest = λ k within enclosed.
      let front = opened-front (opening b) inside k enclosed.0 within enclosed.1 in
      omega (arith, front.0, closes.longest (k - length (opening b)) (omega (arith, front.0, length-append (opening b) inside)) (subst (ClosesText b 1) (sym front.1) enclosed.2));
}

pub enclosed-none : (b : Bracket) (inside : List ℕ) → HasNoFront (ClosesText b 1) inside → HasNoFront (IsEnclosed b) (opening b ++ inside)
enclosed-none b inside none k within enclosed =
    let front = opened-front (opening b) inside k enclosed.0 within enclosed.1 in
    none (k - length (opening b)) (omega (arith, front.0, length-append (opening b) inside)) (subst (ClosesText b 1) (sym front.1) enclosed.2)

-- a text with a front that begins so begins so
pub opens-whole : (o text : List ℕ) (k : ℕ) (front : List ℕ) → take k text ≡ o ++ front → text ≡ o ++ (front ++ drop k text)
opens-whole o text k front e = sym (take-append-drop k text) ∙ ap (λ s. s ++ drop k text) e ∙ append_assoc o front (drop k text)

pub enclosed-unopened : (b : Bracket) (text : List ℕ) → ((inside : List ℕ) → text ≡ opening b ++ inside → ⊥) → HasNoFront (IsEnclosed b) text
enclosed-unopened b text unopened k within enclosed = unopened _ (opens-whole (opening b) text k enclosed.0 enclosed.1)

pub opened-some : (b : Bracket) (text inside : List ℕ) → text ≡ opening b ++ inside → IsLongest IsOpened text (length text)
opened-some b text inside e = record {
  within = omega arith;
  fits = (b, inside, take_all (length text) text (omega arith) ∙ e);
  longest = λ k within fits. within;
}

pub opened-none : (text : List ℕ) → ((b : Bracket) (inside : List ℕ) → text ≡ opening b ++ inside → ⊥) → HasNoFront IsOpened text
opened-none text unopened k within opened = unopened opened.0 _ (opens-whole (opening opened.0) text k opened.1 opened.2)

-- What each step of a builder does to the marks that it has read.
use Rattle.std.proofs.Common.{◌≡◌, ◌≢◌, ℕ, ◌+◌, List, [], ◌∷◌, ◌++◌, length, refl, sym, ap, subst, ◌∙◌, append_assoc, arith}
use Rattle.std.specs.List.{flat_map}
use Rattle.std.proofs.Math.ListN.{length-append}
use Rattle.std.proofs.lemmas.List.{append-nil}
use Rattle.yxml.specs.declared.tree.Tree.{Tree}
use Rattle.yxml.specs.declared.tree.Tree.TheVariants.{Elem, Text}
use Rattle.yxml.specs.Marks.{Mark, opening, closing, words, marks, open_after}
use Rattle.yxml.proofs.KnownMarks.{marks-append, tree_marks-Text, tree_marks-Elem}
use Rattle.yxml.specs.declared.builder.Frame.{Frame}
use Rattle.yxml.specs.declared.builder.Builder.{Builder}
use Rattle.yxml.specs.Spelling.{merged_texts}
use Rattle.yxml.specs.Builder.{frame_marks, text_marks, with_text, base, flat, IsSettled, HasRead}
use Rattle.yxml.proofs.Settled.{merged-words, settled-append, settled-opening, settled-closing}

pub marks-with_text : (body : List Tree) (text : List ℕ) → marks (with_text body text) ≡ marks body ++ text_marks text
marks-with_text body [] = sym (append-nil (marks body))
marks-with_text body (b ∷ bs) = marks-append body (Text (b ∷ bs) ∷ []) ∙ ap (λ ms. marks body ++ (ms ++ [])) (tree_marks-Text (b ∷ bs))

-- a builder that has read one mark more, and no text after it
takes-mark : (old new : Builder) (m : Mark) → base new ≡ flat old ++ m ∷ [] → new.text ≡ []
    → IsSettled (text_marks old.text ++ m ∷ []) → length new.stack ≡ open_after (length old.stack) (m ∷ []) → HasRead old new (m ∷ [])
takes-mark old new m is none settled depth =
    let whole : flat new ≡ flat old ++ m ∷ [] = ap (λ t. base new ++ text_marks t) none ∙ append-nil (base new) ∙ is in
    record {
      reads = λ rest. ap (λ ms. merged_texts (ms ++ rest)) whole ∙ ap merged_texts
          (append_assoc (flat old) (m ∷ []) rest);
      settled = λ p. subst IsSettled (sym (is ∙ append_assoc (base old) (text_marks old.text) (m ∷ []))) (settled-append _ _ p settled);
      depth = depth;
    }

-- a frame around the body and the text
frames-opened : (stack : List Frame) (f : Frame) → flat_map frame_marks (stack ++ f ∷ []) ≡ flat_map frame_marks stack ++ (marks f.before ++ opening f.name f.attributes ∷ [])
frames-opened [] f = append-nil _
frames-opened (g ∷ stack) f = ap (λ ms. frame_marks g ++ ms) (frames-opened stack f) ∙ sym (append_assoc (frame_marks g) (flat_map frame_marks stack) (frame_marks f))

pub takes-text : (old : Builder) (text : List ℕ) → text ≢ [] → HasRead old (record old { text = old.text ++ text }) (words text ∷ [])
takes-text old text some = record { reads = λ rest. reads old.text text some rest; settled = λ p. p; depth = refl } where
  reads : (before after : List ℕ) → after ≢ [] → (rest : List Mark)
      → merged_texts ((base old ++ text_marks (before ++ after)) ++ rest) ≡ merged_texts ((base old ++ text_marks before) ++ (words after ∷ rest))
  reads before [] some rest = absurd (some refl)
  reads [] (b ∷ bs) some rest = ap merged_texts (append_assoc (base old) (words (b ∷ bs) ∷ []) rest ∙ ap (λ ms. ms ++ words (b ∷ bs) ∷ rest) (sym (append-nil (base old))))
  reads (a ∷ before) (b ∷ bs) some rest = ap merged_texts
      (append_assoc (base old) (words (a ∷ before ++ b ∷ bs) ∷ []) rest)
      ∙ merged-words (base old) (a ∷ before) (b ∷ bs) rest ∙ ap merged_texts (sym (append_assoc (base old) (words (a ∷ before) ∷ []) (words (b ∷ bs) ∷ rest)))

-- the text has ended
abbrev pub ended : Builder → Builder
ended b = record b { body = with_text b.body b.text; text = [] }

module _ {A : Type 0} where
  regroup-opening : (a b t m : List A) → (a ++ ((b ++ t) ++ m)) ++ [] ≡ ((a ++ b) ++ t) ++ m
  regroup-opening a b t m = simp (append_assoc, append-nil)

  regroup-closing : (a b : List A) (o : A) (c t m : List A) → a ++ (b ++ ((o ∷ ((c ++ t) ++ m)) ++ [])) ≡ (((a ++ (b ++ o ∷ [])) ++ c) ++ t) ++ m
  regroup-closing a b o c t m = simp (append_assoc, append-nil)

pub takes-opening : (old mid new : Builder) (f : Frame) → mid ≡ ended old → f.before ≡ mid.body → new.stack ≡ mid.stack ++ f ∷ []
    → new.body ≡ [] → new.text ≡ mid.text → HasRead old new (opening f.name f.attributes ∷ [])
takes-opening old mid new f is before stack body text =
    let opened = opening f.name f.attributes in
    let held : marks f.before ≡ marks old.body ++ text_marks old.text = ap marks (before ∙ ap (λ (b : Builder). b.body) is) ∙ marks-with_text old.body old.text in
    let stack' : new.stack ≡ old.stack ++ f ∷ [] = stack ∙ ap (λ (b : Builder). b.stack ++ f ∷ []) is in
    let open_base : base new ≡ flat old ++ opened ∷ [] =
    ap (λ fs. flat_map frame_marks fs ++ marks new.body) stack' ∙ ap (λ b. flat_map frame_marks (old.stack ++ f ∷ []) ++ marks b) body
    ∙ ap (λ ms. ms ++ []) (frames-opened old.stack f ∙ ap (λ ms. flat_map frame_marks old.stack ++ (ms ++ opened ∷ [])) held)
    ∙ regroup-opening (flat_map frame_marks old.stack) (marks old.body) (text_marks old.text) (opened ∷ []) in
    takes-mark old new opened open_base (text ∙ ap (λ (b : Builder). b.text) is) (settled-opening _ _ _)
    (ap length stack' ∙ length-append old.stack (f ∷ []))

pub takes-closing : (old mid new : Builder) (f : Frame) (inner outer : List Tree) → mid ≡ ended old → mid.stack ≡ new.stack ++ f ∷ []
    → inner ≡ mid.body → outer ≡ f.before → new.body ≡ outer ++ Elem f.name f.attributes inner ∷ [] → new.text ≡ mid.text → HasRead old new (closing ∷ [])
takes-closing old mid new f inner outer is stack held put body text =
    let stack' : old.stack ≡ new.stack ++ f ∷ [] = ap (λ (b : Builder). b.stack) (sym is) ∙ stack in
    let inside : marks inner ≡ marks old.body ++ text_marks old.text = ap marks (held ∙ ap (λ (b : Builder). b.body) is) ∙ marks-with_text old.body old.text in
    let outside : marks new.body ≡ marks f.before ++ ((opening f.name f.attributes ∷ ((marks old.body ++ text_marks old.text) ++ closing ∷ [])) ++ []) =
    ap marks (body ∙ ap (λ ts. ts ++ Elem f.name f.attributes inner ∷ []) put) ∙ marks-append f.before _ ∙ ap (λ ms. marks f.before ++ (ms ++ [])) (tree_marks-Elem f.name f.attributes inner)
    ∙ ap (λ ms. marks f.before ++ ((opening f.name f.attributes ∷ (ms ++ closing ∷ [])) ++ [])) inside in
    let closed_base : base new ≡ flat old ++ closing ∷ [] =
    ap (λ ms. flat_map frame_marks new.stack ++ ms) outside
    ∙ regroup-closing (flat_map frame_marks new.stack) (marks f.before) (opening f.name f.attributes) (marks old.body) (text_marks old.text) (closing ∷ [])
    ∙ ap (λ ms. ((ms ++ marks old.body) ++ text_marks old.text) ++ closing ∷ []) (sym (ap (flat_map frame_marks) stack' ∙ frames-opened new.stack f)) in
    let sizes : length old.stack ≡ length new.stack + 1 = ap length stack' ∙ length-append new.stack (f ∷ []) in
    takes-mark old new closing closed_base (text ∙ ap (λ (b : Builder). b.text) is) (settled-closing _) (omega (arith, sizes))

pub all-marks : (old mid : Builder) → mid ≡ ended old → length old.stack ≡ 0 → marks mid.body ≡ flat old
all-marks old mid is none = ap (λ (b : Builder). marks b.body) is ∙ marks-with_text old.body old.text
    ∙ ap (λ ms. (ms ++ marks old.body) ++ text_marks old.text) (sym (frames-none old.stack none)) where
      frames-none : (fs : List Frame) → length fs ≡ 0 → flat_map frame_marks fs ≡ []
      frames-none [] e = refl
      frames-none (f ∷ fs) e = absurd (omega (arith, e))

-- The text that is written for a normal body spells it.
use Rattle.std.proofs.Common.{◌≡◌, ℕ, ◌<◌, ◌+◌, ◌≤◌, List, [], ◌∷◌, ◌++◌, length, true, false, Option, Some, None, Ok, refl, sym, subst, ap, ◌∙◌, append_assoc, nat_lt, arith}
use Rattle.std.specs.Bool.{if◌then◌else◌, ◌==◌}
use Rattle.std.specs.List.{AllByRecursion, slice_split}
use Rattle.std.proofs.lemmas.Bool.{lt-ltb, ne_eqb}
use Rattle.std.proofs.lemmas.List.{append-nil}
use Rattle.yxml.specs.declared.tree.Tree.{Tree}
use Rattle.yxml.specs.Marks.{Mark, opening, closing, words, marks, open_after}
use Rattle.yxml.specs.Normal.{IsNormal, IsFit, IsApart, AreApart, most_nested}
use Rattle.yxml.proofs.KnownNesting.{IsWithin, Nests-trees}
use Rattle.yxml.specs.declared.fault.YxmlFault.{YxmlFault}
use Rattle.yxml.specs.declared.fault.YxmlFault.TheVariants.{Unbalanced, TooDeep}
use Rattle.yxml.specs.Reading.{said, is_x, is_y, nesting_fault, or_later, marks_said, marks_from, first_fault}
use Rattle.yxml.specs.Spelling.{onto, merged_texts, spellings, yxml, Spells}
use Rattle.yxml.proofs.Spelt.{text-split, tag_chunk, tag_chunk-lacks, opening-said, text-said}

-- the chunks say just these marks, and have no fault where the marks nest
pub record SayBack (ms : List Mark) (chunks : List (List ℕ)) : Type 0 where
  pub marks : (at : ℕ) → marks_from at chunks ≡ ms
  pub fine : (d at end : ℕ) → IsWithin d ms → open_after d ms ≡ 0 → first_fault d at chunks end ≡ None

say_nothing : SayBack [] []
say_nothing = record {
  marks = λ at. refl;
  fine = λ d at end w none. ap (λ n. first_fault n at [] end) none;
}

say_skip : (ms : List Mark) (chunks : List (List ℕ)) → SayBack ms chunks → SayBack ms ([] ∷ chunks)
say_skip ms chunks p = record {
  marks = λ at. p.marks (at + 0 + 1);
  fine = λ d at end w none. p.fine d (at + 0 + 1) end w none;
}

fine_mark : (d at : ℕ) (m : Mark) (ms : List Mark) → IsWithin d (m ∷ ms)
    → (nesting_fault d at (Ok (m ∷ [])) ≡ None) × IsWithin (open_after d (m ∷ [])) ms
fine_mark d at (opening name attributes) ms w =
    let e : nat_lt d most_nested ≡ true = lt-ltb d most_nested w.0 in
    (ap (λ t. let o : Option YxmlFault = if t then None else Some (TooDeep at) in o) e, w.1)
fine_mark d at closing ms w =
    let some : 0 < d = w.0 in
    let e : (d == 0) ≡ false = ne_eqb d 0 (λ z. absurd (omega (arith, z, some))) in
    (ap (λ t. let o : Option YxmlFault = if t then Some (Unbalanced at) else None in o) e, w.1)
fine_mark d at (words text) ms w = (refl, w)

open_after-cons : (d : ℕ) (m : Mark) (ms : List Mark) → open_after d (m ∷ ms) ≡ open_after (open_after d (m ∷ [])) ms
open_after-cons d (opening name attributes) ms = refl
open_after-cons d closing ms = refl
open_after-cons d (words text) ms = refl

say_mark : (m : Mark) (ms : List Mark) (chunk : List ℕ) (chunks : List (List ℕ)) → ((at : ℕ) → said at (slice_split is_y chunk) ≡ Ok (m ∷ []))
    → SayBack ms chunks → SayBack (m ∷ ms) (chunk ∷ chunks)
say_mark m ms chunk chunks says p = record {
  marks = λ at. ap (λ r. marks_said r ++ marks_from (at + length chunk + 1) chunks) (says at) ∙ ap (λ ns. m ∷ ns) (p.marks (at + length chunk + 1));
  fine = λ d at end w none.
      let rest = at + length chunk + 1 in
      let here = fine_mark d at m ms w in
      ap (λ r. or_later (nesting_fault d at r) (first_fault (open_after d (marks_said r)) rest chunks end)) (says at)
      ∙ ap (λ o. or_later o (first_fault (open_after d (m ∷ [])) rest chunks end)) here.0
      ∙ p.fine (open_after d (m ∷ [])) rest end here.1 (sym (open_after-cons d m ms) ∙ none);
}

-- the text with which the marks begin, and what stands behind it
abbrev first_text : List Mark → List ℕ
first_text (words text ∷ ms) = text
first_text ms = []

abbrev behind_text : List Mark → List Mark
behind_text (words text ∷ ms) = ms
behind_text ms = ms

record Chunked (ms : List Mark) : Type 0 where
  more : List (List ℕ)
  split : slice_split is_x (spellings ms) ≡ first_text ms ∷ more
  says : SayBack (behind_text ms) more

say_all : (ms : List Mark) → AllByRecursion IsFit ms → (c : Chunked ms) → SayBack ms (first_text ms ∷ c.more)
say_all [] fit c = say_skip [] c.more c.says
say_all (opening name attributes ∷ ms) fit c = say_skip _ c.more c.says
say_all (closing ∷ ms) fit c = say_skip _ c.more c.says
say_all (words text ∷ ms) fit c = say_mark (words text) ms text c.more (λ at. text-said at text fit.0) c.says

chunked-opening : (name : List ℕ) (attributes : List _) (ms : List Mark) → AllByRecursion IsFit (opening name attributes ∷ ms) → Chunked ms → Chunked (opening name attributes ∷ ms)
chunked-opening name attributes ms fit c = record {
  more = tag_chunk name attributes ∷ first_text ms ∷ c.more;
  split = ap (λ bs. [] ∷ slice_split is_x bs) (append_assoc (tag_chunk name attributes) (5 ∷ []) (spellings ms))
      ∙ ap (λ ps. [] ∷ ps) (text-split is_x (tag_chunk name attributes) (5 ∷ spellings ms) (first_text ms ∷ c.more)
      (tag_chunk-lacks name attributes fit.0.0 fit.0.1) (ap (λ ps. [] ∷ ps) c.split));
  says = say_mark (opening name attributes) ms (tag_chunk name attributes) (first_text ms ∷ c.more)
      (λ at. opening-said at name attributes fit.0.0 fit.0.1) (say_all ms fit.1 c);
}

chunked-closing : (ms : List Mark) → AllByRecursion IsFit ms → Chunked ms → Chunked (closing ∷ ms)
chunked-closing ms fit c = record {
  more = (6 ∷ []) ∷ first_text ms ∷ c.more;
  split = ap (λ ps. [] ∷ ps) (text-split is_x (6 ∷ []) (5 ∷ spellings ms) (first_text ms ∷ c.more) (refl, tt) (ap (λ ps. [] ∷ ps) c.split));
  says = say_mark closing ms (6 ∷ []) (first_text ms ∷ c.more) (λ at. refl) (say_all ms fit c);
}

apart-none : (text : List ℕ) (ms : List Mark) → IsApart (words text) ms → (first_text ms ≡ []) × (behind_text ms ≡ ms)
apart-none text [] h = (refl, refl)
apart-none text (words next ∷ ms) h = absurd h
apart-none text (opening name attributes ∷ ms) h = (refl, refl)
apart-none text (closing ∷ ms) h = (refl, refl)

chunked-text : (text : List ℕ) (ms : List Mark) → AllByRecursion IsFit (words text ∷ ms) → IsApart (words text) ms → Chunked ms → Chunked (words text ∷ ms)
chunked-text text ms fit apart c =
    let none = apart-none text ms apart in
    record {
      more = c.more;
      split = text-split is_x text (spellings ms) c.more fit.0.1.0 (c.split ∙ ap (λ t. t ∷ c.more) none.0);
      says = subst (λ ns. SayBack ns c.more) none.1 c.says;
    }

chunked : (ms : List Mark) → AllByRecursion IsFit ms → AreApart ms → Chunked ms
chunked [] fit apart = record { more = []; split = refl; says = say_nothing }
chunked (opening name attributes ∷ ms) fit apart = chunked-opening name attributes ms fit (chunked ms fit.1 apart.1)
chunked (closing ∷ ms) fit apart = chunked-closing ms fit.1 (chunked ms fit.1 apart.1)
chunked (words text ∷ ms) fit apart = chunked-text text ms fit apart.0 (chunked ms fit.1 apart.1)

onto-apart : (m : Mark) (ms : List Mark) → IsApart m ms → onto m ms ≡ m ∷ ms
onto-apart (opening name attributes) ms h = refl
onto-apart closing ms h = refl
onto-apart (words text) [] h = refl
onto-apart (words text) (words next ∷ ms) h = absurd h
onto-apart (words text) (opening name attributes ∷ ms) h = refl
onto-apart (words text) (closing ∷ ms) h = refl

merged-is : (ms : List Mark) → AreApart ms → merged_texts ms ≡ ms
merged-is [] h = refl
merged-is (m ∷ ms) h = ap (onto m) (merged-is ms h.1) ∙ onto-apart m ms h.0

pub written : (body : List Tree) → IsNormal body → Spells (yxml body) body
written body n =
    let ms = marks body in
    let c = chunked ms n.fit n.apart in
    let says = say_all ms n.fit c in
    let small : 0 + _ ≤ most_nested = omega (arith, n.nested) in
    let within : IsWithin 0 ms = subst (IsWithin 0) (append-nil ms) ((Nests-trees body).within 0 [] small tt) in
    let balanced : open_after 0 ms ≡ 0 = ap (open_after 0) (sym (append-nil ms)) ∙ (Nests-trees body).balanced 0 [] in
    record {
      faultless = ap (λ ps. first_fault 0 0 ps (length (yxml body))) c.split ∙ says.fine 0 0 (length (yxml body)) within balanced;
      same = ap (λ ps. merged_texts (marks_from 0 ps)) c.split ∙ ap merged_texts (says.marks 0) ∙
          merged-is ms n.apart;
    }

-- Marks that are a part of a normal body's, and a body that is one text.
use Rattle.std.proofs.Common.{◌≡◌, ℕ, ◌≤◌, List, [], ◌∷◌, ◌++◌, sym, ap, subst, append_assoc, arith}
use Rattle.std.specs.List.{AllByRecursion}
use Rattle.std.proofs.lemmas.List.{append-nil}
use Rattle.yxml.specs.declared.tree.Attribute.{Attribute}
use Rattle.yxml.specs.declared.tree.Tree.{Tree}
use Rattle.yxml.specs.declared.tree.Tree.TheVariants.{Elem, Text}
use Rattle.yxml.specs.Marks.{Mark, opening, closing, words, marks, tree_marks}
use Rattle.yxml.specs.Normal.{IsFilled, IsAttribute, IsFit, IsApart, AreApart, IsNormal, height, most_nested}
use Rattle.yxml.proofs.KnownMarks.{tree_marks-Elem, tree_marks-Text, tree_height-Text}
use Rattle.text_words.proofs.KnownLists.{each-both}

-- marks that are fit, and of which no text touches what follows
pub record IsPart (ms : List Mark) : Type 0 where
  pub fit : AllByRecursion IsFit ms
  pub apart : (rest : List Mark) → AreApart rest → AreApart (ms ++ rest)

pub part-none : IsPart []
part-none = record { fit = tt; apart = λ rest r. r }

pub part-both : (xs ys : List Mark) → IsPart xs → IsPart ys → IsPart (xs ++ ys)
part-both xs ys p q = record {
  fit = each-both IsFit xs ys p.fit q.fit;
  apart = λ rest r. subst AreApart (sym (append_assoc xs ys rest)) (p.apart (ys ++ rest) (q.apart rest r));
}

apart-closed : (m : Mark) (rest : List Mark) → IsApart m (closing ∷ rest)
apart-closed (opening name attributes) rest = tt
apart-closed closing rest = tt
apart-closed (words text) rest = tt

apart-longer : (m n : Mark) (ms ns : List Mark) → IsApart m (n ∷ ms) → IsApart m (n ∷ ns)
apart-longer (opening name attributes) n ms ns h = tt
apart-longer closing n ms ns h = tt
apart-longer (words text) (opening name attributes) ms ns h = tt
apart-longer (words text) closing ms ns h = tt
apart-longer (words text) (words next) ms ns h = h

closed-apart : (ms rest : List Mark) → AreApart ms → AreApart rest → AreApart (ms ++ closing ∷ rest)
closed-apart [] rest h r = (tt, r)
closed-apart (m ∷ []) rest h r = (apart-closed m rest, (tt, r))
closed-apart (m ∷ n ∷ ms) rest h r = (apart-longer m n ms (ms ++ closing ∷ rest) h.0, closed-apart (n ∷ ms) rest h.1 r)

pub part-element : (name : List ℕ) (attributes : List Attribute) (body : List Tree) → IsFilled name → AllByRecursion IsAttribute attributes → IsNormal body
    → IsPart (tree_marks (Elem name attributes body))
part-element name attributes body named all n = subst IsPart (sym (tree_marks-Elem name attributes body)) (record {
  fit = ((named, all), each-both IsFit (marks body) (closing ∷ []) n.fit (tt, tt));
  apart = λ rest r. (tt, subst AreApart (sym (append_assoc (marks body) (closing ∷ []) rest)) (closed-apart (marks body) rest n.apart r));
})

pub normal : (body : List Tree) → IsPart (marks body) → height body ≤ most_nested → IsNormal body
normal body p low = record { fit = p.fit; apart = subst AreApart (append-nil (marks body)) (p.apart [] tt); nested = low }

-- ---- texts

pub text-height : (text : List ℕ) → height (Text text ∷ []) ≡ 0
text-height text = omega (arith, tree_height-Text text)

pub text-normal : (text : List ℕ) → IsFilled text → IsNormal (Text text ∷ [])
text-normal text filled =
    let is : marks (Text text ∷ []) ≡ words text ∷ [] = ap (λ ms. ms ++ []) (tree_marks-Text text) in
    record {
      fit = subst (AllByRecursion IsFit) (sym is) (filled, tt);
      apart = subst AreApart (sym is) (tt, tt);
      nested = omega (arith, text-height text);
    }

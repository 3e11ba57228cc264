-- The tokens of a source lie one behind the other, and so do their ranges.
use Rattle.std.proofs.Common.{◌≡◌, ◌≤◌, ◌<◌, ℕ, Bool, true, false, cond, List, [], ◌∷◌, length, map, ap, inl, inr, arith}
use Rattle.pide_base.specs.declared.range.Range.{Range}
use Rattle.outer_syntax.specs.Headings.{proper}
use Rattle.outer_syntax.specs.Kinds.{is_proper}
use Rattle.outer_syntax.specs.Tokens.{AreTokensBetween}
use Rattle.outer_syntax.specs.Words.{is_in_force}
use Rattle.outer_syntax.specs.declared.token.Token.{Token}
use Rattle.outer_syntax.proofs.KnownLexing.{all-tokens}
use Rattle.report_markup.specs.Ranges.{AreTreelike}
use Rattle.proof_terms.specs.Cited.{IsPlaceOf}
use Rattle.doc_nodes.specs.Needs.{AliasList, source_tokens}

-- tokens that are not empty, one behind the other between two places
abbrev pub Rises : ℕ → ℕ → List Token → Type 0
Rises from to [] = from ≤ to
Rises from to (t ∷ ts) = (from ≤ t.range.start) × (t.range.start < t.range.stop) × Rises t.range.stop to ts

earlier : (from before to : ℕ) (ts : List Token) → before ≤ from → Rises from to ts → Rises before to ts
earlier from before to [] e r = omega (arith, e, r)
earlier from before to (t ∷ ts) e r = (omega (arith, e, r.0), r.1, r.2)

pub rises-le : (from to : ℕ) (ts : List Token) → Rises from to ts → from ≤ to
rises-le from to [] r = r
rises-le from to (t ∷ ts) r = omega (arith, r.0, r.1, rises-le t.range.stop to ts r.2)

proper-rises : (from to : ℕ) (ts : List Token) → Rises from to ts → Rises from to (proper ts)
proper-rises from to [] r = r
proper-rises from to (t ∷ ts) r = go (is_proper t.kind) (proper-rises t.range.stop to ts r.2)
  where
    go : (b : Bool) → Rises t.range.stop to (proper ts) → Rises from to (cond b (t ∷ proper ts) (proper ts))
    go true more = (r.0, r.1, more)
    go false more = earlier t.range.stop from to (proper ts) (omega (arith, r.0, r.1)) more

between-rises : (names : ℕ → List ℕ → Bool) (text : List ℕ) (from to : ℕ) (ts : List Token) → AreTokensBetween names text from to ts → Rises from to ts
between-rises names text from to [] e = omega (arith, e)
between-rises names text from to (t ∷ ts) are = (omega (arith, are.0), are.1.1, between-rises names text t.range.stop to ts are.2)

pub source-rises : (aliases : AliasList) (source : List ℕ) → Rises 0 (length source) (source_tokens aliases source)
source-rises aliases source =
    let names : ℕ → List ℕ → Bool = λ _. is_in_force (map (λ pair. pair.0) aliases) in
    proper-rises 0 (length source) _ (between-rises names source 0 (length source) _ (all-tokens names source))

pub record Within (from to : ℕ) (r : Range) : Type 0 where
  pub starts : from ≤ r.start
  pub rises : r.start ≤ r.stop
  pub stops : r.stop ≤ to

pub range-within : (from to : ℕ) (ts : List Token) (r : Range) → Rises from to ts → IsPlaceOf ts r → Within from to r
range-within from to [] r rises none = absurd none
range-within from to (t ∷ ts) r rises (inl e) =
    let starts : r.start ≡ t.range.start = ap (λ x. x.start) e in
    let stops : r.stop ≡ t.range.stop = ap (λ x. x.stop) e in
    record {
      starts = omega (arith, rises.0, starts);
      rises = omega (arith, rises.1, starts, stops);
      stops = omega (arith, stops, rises-le t.range.stop to ts rises.2);
    }
range-within from to (t ∷ ts) r rises (inr later) =
    let rest = range-within t.range.stop to ts r rises.2 later in
    record {
      starts = omega (arith, rises.0, rises.1, rest.starts);
      rises = rest.rises;
      stops = rest.stops;
    }

pub ranges-treelike : (from to : ℕ) (ts : List Token) (r s : Range) → Rises from to ts → IsPlaceOf ts r → IsPlaceOf ts s → AreTreelike r s
ranges-treelike from to [] r s rises here there = absurd here
ranges-treelike from to (t ∷ ts) r s rises (inl e) (inl f) =
    let one : r.start ≡ t.range.start = ap (λ x. x.start) e in
    let two : r.stop ≡ t.range.stop = ap (λ x. x.stop) e in
    let three : s.start ≡ t.range.start = ap (λ x. x.start) f in
    let four : s.stop ≡ t.range.stop = ap (λ x. x.stop) f in
    inr (inr (inl (omega (arith, one, three), omega (arith, two, four))))
ranges-treelike from to (t ∷ ts) r s rises (inl e) (inr later) =
    let stops : r.stop ≡ t.range.stop = ap (λ x. x.stop) e in
    inl (omega (arith, stops, (range-within t.range.stop to ts s rises.2 later).starts))
ranges-treelike from to (t ∷ ts) r s rises (inr later) (inl f) =
    let stops : s.stop ≡ t.range.stop = ap (λ x. x.stop) f in
    inr (inl (omega (arith, stops, (range-within t.range.stop to ts r rises.2 later).starts)))
ranges-treelike from to (t ∷ ts) r s rises (inr here) (inr there) = ranges-treelike t.range.stop to ts r s rises.2 here there

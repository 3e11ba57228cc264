-- The sources of commands that keep their ids.
use Rattle.std.proofs.Common.{◌≡◌, ℕ, zero, suc, ◌+◌, ◌-◌, ◌≤◌, List, [], ◌∷◌, length, map, take, drop, sym, ap, ◌∙◌, subst, arith}
use Rattle.std.specs.Prelude.{reverse}
use Rattle.std.specs.List.{AllZip}
use Rattle.std.proofs.lemmas.List.{reverse-reverse, length-drop, drop-drop, take-map, drop-map, length-map}
use Rattle.text_words.proofs.KnownLists.{take_reverse}
use Rattle.shared_map.specs.Pairs.{Each}
use Rattle.pide_base.specs.declared.range.Range.{Range}
use Rattle.doc_nodes.specs.declared.node.Entry.{Entry}
use Rattle.doc_nodes.specs.Needs.{AliasList}
use Rattle.buffer_rules.specs.Cuts.{source}
use Rattle.buffer_rules.specs.Numbers.{Kept, IsLongestKept}
use Rattle.editor_buffer.specs.Commands.{sources_in, AsksFor, AskUnder}

Each-drop : {X : Type 0} (P : X → Type 0) (n : ℕ) (xs : List X) → Each P xs → Each P (drop n xs)
Each-drop P zero xs all = all
Each-drop P (suc n) [] all = all
Each-drop P (suc n) (x ∷ xs) all = Each-drop P n xs all.1

Each-take : {X : Type 0} (P : X → Type 0) (n : ℕ) (xs : List X) → Each P xs → Each P (take n xs)
Each-take P zero xs all = tt
Each-take P (suc n) [] all = all
Each-take P (suc n) (x ∷ xs) all = (all.0, Each-take P n xs all.1)

-- lists whose turned fronts are the same have the same back
same_back : {A : Type 0} (xs ys : List A) (k : ℕ) → k ≤ length xs → k ≤ length ys → take k (reverse xs) ≡ take k (reverse ys)
    → drop (length xs - k) xs ≡ drop (length ys - k) ys
same_back xs ys k in_xs in_ys e =
    sym (reverse-reverse (drop (length xs - k) xs))
    ∙ ap reverse (sym (take_reverse xs k in_xs) ∙ e ∙ take_reverse ys k in_ys)
    ∙ reverse-reverse (drop (length ys - k) ys)

-- the same behind a front
pub back_same : (before now : List (List ℕ)) (k : Kept) → IsLongestKept before now k → k.front + k.back ≤ length before → k.front + k.back ≤ length now
    → drop (length before - k.back) before ≡ drop (length now - k.back) now
back_same before now k so old new =
    let f = k.front in
    let b = k.back in
    let olds = length-drop f before in
    let news = length-drop f now in
    let one : f + (length (drop f before) - b) ≡ length before - b = omega arith in
    let two : f + (length (drop f now) - b) ≡ length now - b = omega arith in
    ap (λ n. drop n before) (sym one)
    ∙ sym (drop-drop (length (drop f before) - b) f before)
    ∙ same_back (drop f before) (drop f now) b (omega arith) (omega arith) so.back.same
    ∙ drop-drop (length (drop f now) - b) f now
    ∙ ap (λ n. drop n now) two

module _ (aliases : AliasList) (old new : List ℕ) where
  -- commands of the same sources ask for the same blobs
  asked_there : (es : List Entry) (rs : List Range) → AskUnder aliases old es → sources_in old es ≡ map (source new) rs
      → AllZip (λ (e : Entry) (r : Range). AsksFor aliases (source new r) e) es rs
  asked_there [] [] all e = tt
  asked_there [] (r ∷ rs) all e = absurd (cc)
  asked_there (x ∷ es) [] all e = absurd (cc)
  asked_there (x ∷ es) (r ∷ rs) all e =
      let head : source old x.range ≡ source new r = cc in
      let tail : sources_in old es ≡ map (source new) rs = cc in (
        subst (λ s. AsksFor aliases s x) head all.0,
        asked_there es rs all.1 tail,
      )

  module _ (es : List Entry) (rs : List Range) (k : Kept) (all : AskUnder aliases old es)
      (so : IsLongestKept (sources_in old es) (map (source new) rs) k)
      (olds : k.front + k.back ≤ length es) (news : k.front + k.back ≤ length rs) where
    pub asked_front : AllZip (λ (e : Entry) (r : Range). AsksFor aliases (source new r) e) (take k.front es) (take k.front rs)
    asked_front =
        asked_there (take k.front es) (take k.front rs)
        (Each-take (λ (e : Entry). AsksFor aliases (source old e.range) e) k.front es all)
        (sym (take-map (λ (e : Entry). source old e.range) k.front es) ∙ so.front.same ∙ take-map (source new) k.front rs)

    pub asked_back : AllZip (λ (e : Entry) (r : Range). AsksFor aliases (source new r) e) (drop (length es - k.back) es) (drop (length rs - k.back) rs)
    asked_back =
        let f = λ (e : Entry). source old e.range in
        let long : length (sources_in old es) ≡ length es = length-map es f in
        let wide : length (map (source new) rs) ≡ length rs = length-map rs (source new) in
        asked_there (drop (length es - k.back) es) (drop (length rs - k.back) rs)
        (Each-drop (λ (e : Entry). AsksFor aliases (source old e.range) e) (length es - k.back) es all)
        (sym (drop-map f (length es - k.back) es)
        ∙ ap (λ n. drop (n - k.back) (sources_in old es)) (sym long)
        ∙ back_same (sources_in old es) (map (source new) rs) k so (omega arith) (omega arith)
        ∙ ap (λ n. drop (n - k.back) (map (source new) rs)) wide
        ∙ drop-map (source new) (length rs - k.back) rs)

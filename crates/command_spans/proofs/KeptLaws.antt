-- What reparsing keeps are the old tokens.
use Rattle.std.proofs.Common.{◌≡◌, ℕ, suc, ◌+◌, ◌-◌, ◌≤◌, Bool, true, false, None, Some, List, [], ◌∷◌, ◌++◌, length, take, drop, map, sym, refl, ap, ◌∙◌, subst, ⊎_elim, arith, length-drop, length-take-le, max}
use Rattle.std.specs.Prelude.{find, nat_le, nat_lt}
use Rattle.std.specs.List.{AllZip, list_any}
use Rattle.std.proofs.lemmas.Bool.{and_parts, or_cases, cond-true, cond-false, leb-true, le-ltb}
use Rattle.std.proofs.lemmas.List.{take-append-drop, length-map, take_at, drop_at}
use Rattle.text_edits.specs.declared.edit.Edit.{Edit}
use Rattle.text_edits.specs.declared.edit.Edit.TheVariants.{Insert, Remove}
use Rattle.text_edits.specs.Edits.{Applies}
use Rattle.text_edits.specs.Offsets.{convert}
use Rattle.outer_syntax.specs.Words.{is_in_force}
use Rattle.outer_syntax.specs.Tokens.{AreTokensBetween}
use Rattle.outer_syntax.specs.Headings.{names_at}
use Rattle.outer_syntax.specs.Lexing.{tokens_from, tokens_of}
use Rattle.outer_syntax.specs.Renaming.{renamed}
use Rattle.outer_syntax.specs.Stages.{after_token, after_tokens, given}
use Rattle.outer_syntax.specs.declared.stage.Stage.{Stage}
use Rattle.outer_syntax.specs.declared.stage.Stage.TheVariants.{Start}
use Rattle.outer_syntax.specs.declared.token.Token.{Token}
use Rattle.outer_syntax.proofs.KnownLexing.{AreStaged, rest-tokens}
use Rattle.outer_syntax.proofs.KnownKept.{renamed-token, renamed-range, renamed-kind}
use Rattle.command_spans.specs.CutTexts.{CutText, tokens_in, boundaries, boundary_at}
use Rattle.command_spans.specs.Reparsing.{start_of, old_end_of, new_end_of, before, front_of, moved, is_meeting, past, back_of}
use Rattle.command_spans.specs.Keeping.{moved_token, IsKept, KeepsTokens, IsChange, restaged}
use Rattle.command_spans.proofs.PlaceLemmas.{rising-split, staged-split, text-rising, before-at, past-append}
use Rattle.command_spans.proofs.RestartLemmas.{restart-found}
use Rattle.command_spans.proofs.MeetingLemmas.{is_moved_to, moved-only, end-meets}
use Rattle.command_spans.proofs.ChangeLemmas.{edit-change}
use Rattle.command_spans.proofs.KeepLemmas.{restaged-length}
use Rattle.command_spans.proofs.EdgeLemmas.{same-lengths, restart-place, front-other, back-other, text-staged}
use Rattle.command_spans.proofs.RelexLemmas.{all-read}

-- behind the edit a place is moved as the edit converts it
pub moved-converts : (edit : Edit) (place : ℕ) → old_end_of edit ≤ place → moved (old_end_of edit) (new_end_of edit) place ≡ convert edit place
moved-converts (Insert start x) place behind =
    omega (arith, behind, cond-false (nat_lt place start) place (place + length x) (le-ltb place start behind))
moved-converts (Remove start x) place behind =
    omega (arith, behind, cond-false (nat_lt place start) place (max (place - length x) start) (le-ltb place start (omega (arith, behind))))

-- renamed tokens are the old ones
renamed-kept : (aliases : List (List ℕ)) (text : List ℕ) (s : Stage) (ts : List Token) → AllZip IsKept ts (restaged aliases text s ts)
renamed-kept aliases text s [] = tt
renamed-kept aliases text s (t ∷ ts) =
    let own : List ℕ → Bool = is_in_force (given s aliases) in
    ((sym (renamed-range own text t), renamed-kind own text t), renamed-kept aliases text (after_token text s (renamed own text t)) ts)

-- there are tokens from each place on, at each stage
rest-staged : (aliases : List (List ℕ)) (text : List ℕ) (names : ℕ → List ℕ → Bool) (s : Stage) (from to : ℕ) (ts : List Token) → AreTokensBetween names text from to ts → AreStaged aliases text s from to (restaged aliases text s ts)
rest-staged aliases text names s from to [] is = is
rest-staged aliases text names s from to (t ∷ ts) (starts, token, rest) =
    let own : List ℕ → Bool = is_in_force (given s aliases) in
    let u : Token = renamed own text t in
    let ranges : u.range ≡ t.range = renamed-range own text t in
    let more = rest-staged aliases text names (after_token text s u) t.range.stop to ts rest in
    ((ap (λ r. r.start) ranges ∙ starts, renamed-token (names from) own text t token), subst (λ p. AreStaged aliases text (after_token text s u) p to (restaged aliases text (after_token text s u) ts)) (sym (ap (λ r. r.stop) ranges)) more)

-- tokens read up to a place are the first ones of the text
first-read : (aliases : List (List ℕ)) (text : List ℕ) (place n : ℕ) (ts : List Token) → place ≤ length text → length ts ≡ n → AreStaged aliases text Start 0 place ts → take n (tokens_of text aliases) ≡ ts
first-read aliases text place n ts within size is =
    let names : ℕ → List ℕ → Bool = names_at None [] in
    let rest : List Token = restaged aliases text (after_tokens text Start ts) (tokens_from names 0 place (drop place text)) in
    let all = all-read aliases text place ts rest is (rest-staged aliases text names (after_tokens text Start ts) place (length text) _ (rest-tokens names text place within)) in
    ap (take n) (sym all) ∙ take_at ts rest n size

-- the first boundary that passes is one of the text
found-boundary : (test : ℕ → Bool) (len : ℕ) (ts : List Token) → test len ≡ true → (k : ℕ) × (k ≤ length ts) × (find test (boundaries len ts) ≡ Some (boundary_at len ts k)) × (test (boundary_at len ts k) ≡ true)
found-boundary test len [] passes = (0, omega arith, cond-true (test len) _ _ passes, passes)
found-boundary test len (t ∷ ts) passes = go (test t.range.start) refl (found-boundary test len ts passes) where
  go : (b : Bool) → test t.range.start ≡ b → (k : ℕ) × (k ≤ length ts) × (find test (boundaries len ts) ≡ Some (boundary_at len ts k)) × (test (boundary_at len ts k) ≡ true) → (k : ℕ) × (k ≤ suc (length ts)) × (find test (boundaries len (t ∷ ts)) ≡ Some (boundary_at len (t ∷ ts) k)) × (test (boundary_at len (t ∷ ts) k) ≡ true)
  go true here more = (0, omega arith, cond-true (test t.range.start) _ _ here, here)
  go false here (k, within, found, holds) = (suc k, omega arith, cond-false (test t.range.start) _ _ here ∙ found, holds)

-- some boundary that passes is one of the text
any-boundary : (test : ℕ → Bool) (len : ℕ) (ts : List Token) → list_any test (boundaries len ts) ≡ true → (k : ℕ) × (k ≤ length ts) × (test (boundary_at len ts k) ≡ true)
any-boundary test len [] passes = (0, omega arith, ⊎_elim (λ (h : test len ≡ true). h) (λ (h : false ≡ true). absurd (cc (h))) (or_cases (test len) false passes))
any-boundary test len (t ∷ ts) passes = ⊎_elim (λ (h : test t.range.start ≡ true). (0, omega arith, h)) (λ (h : list_any test (boundaries len ts) ≡ true). let more = any-boundary test len ts h in (suc more.0, omega (arith, more.1), more.2)) (or_cases (test t.range.start) (list_any test (boundaries len ts)) passes)

module _ (edit : Edit) (old new : CutText) (applied : Applies edit old.text new.text) where
  change : IsChange (start_of edit) (old_end_of edit) (new_end_of edit) old.text new.text
  change = edit-change edit old.text new.text applied

  kept-first : AllZip IsKept (take (front_of edit old) (tokens_in old)) (take (front_of edit old) (tokens_in new))
  kept-first =
      let rises = text-rising old.text old.aliases in
      let front = restart-found (start_of edit) (length old.text) (tokens_in old) rises in
      let place : ℕ = boundary_at (length old.text) (tokens_in old) front.0 in
      let mine : List Token = restaged new.aliases new.text Start (take front.0 (tokens_in old)) in
      let size : length mine ≡ front.0 = restaged-length new.aliases new.text Start (take front.0 (tokens_in old)) ∙ length-take-le front.0 (tokens_in old) front.1 in
      let staged = front-other (start_of edit) (old_end_of edit) (new_end_of edit) old.text new.text old.aliases change front.0 front.1 front.2 new.aliases in
      let low : place ≤ length new.text = omega (arith, (restart-place (start_of edit) (old_end_of edit) (new_end_of edit) old.text new.text old.aliases change front.0 front.1 front.2).0, change.new_order) in
      let front_is : front_of edit old ≡ front.0 = ap (λ r. before r (tokens_in old)) (sym front.3) ∙ before-at 0 (length old.text) (tokens_in old) front.0 front.1 rises in
      subst (λ n. AllZip IsKept (take n (tokens_in old)) (take n (tokens_in new))) (sym front_is)
      (subst (AllZip IsKept (take front.0 (tokens_in old))) (sym (first-read new.aliases new.text place front.0 mine low size staged)) (renamed-kept new.aliases new.text Start (take front.0 (tokens_in old))))

  kept-last : AllZip IsKept (map (moved_token (old_end_of edit) (new_end_of edit)) (drop (length (tokens_in old) - back_of edit old new) (tokens_in old))) (drop (length (tokens_in new) - back_of edit old new) (tokens_in new))
  kept-last =
      let oe : ℕ = old_end_of edit in
      let ne : ℕ = new_end_of edit in
      let olds : List Token = tokens_in old in
      let news : List Token = tokens_in new in
      let len : ℕ = length new.text in
      let test : ℕ → Bool = is_meeting oe ne (boundaries (length old.text) olds) in
      let same = same-lengths (start_of edit) oe ne old.text new.text old.aliases change in
      let first = found-boundary test len news (end-meets oe ne 0 (length old.text) len olds (omega (arith, change.old_order)) (omega (arith, change.new_order)) same) in
      let k : ℕ = first.0 in
      let m : ℕ = boundary_at len news k in
      let parts = and_parts (nat_le ne m) _ first.3 in
      let behind : ne ≤ m = leb-true ne m parts.0 in
      let there = any-boundary (is_moved_to oe ne m) (length old.text) olds parts.1 in
      let next : ℕ = there.0 in
      let moves : List Token = map (moved_token oe ne) (drop next olds) in
      let split = staged-split new.aliases new.text Start 0 len news k first.1 (text-staged new.text new.aliases) in
      let s : Stage = after_tokens new.text Start (take k news) in
      let mine : List Token = restaged new.aliases new.text s moves in
      let others = back-other (start_of edit) oe ne old.text new.text old.aliases change m next there.1 behind (moved-only oe ne m behind (boundary_at (length old.text) olds next) there.2) new.aliases s in
      let all : take k news ++ mine ≡ news = all-read new.aliases new.text m (take k news) mine split.0 others in
      let last : drop k news ≡ mine = ap (drop k) (sym all) ∙ drop_at (take k news) mine k (length-take-le k news first.1) in
      let rises = rising-split 0 len news k first.1 (text-rising new.text new.aliases) in
      let counted : past (Some m) news ≡ length (drop k news) = ap (past (Some m)) (sym (take-append-drop k news)) ∙ past-append 0 m len (take k news) (drop k news) rises.0 rises.1 in
      let back : back_of edit old new ≡ length (drop k news) = ap (λ o. past o news) first.2 ∙ counted in
      let size : length (drop k news) ≡ length olds - next = ap length last ∙ restaged-length new.aliases new.text s moves ∙ length-map (drop next olds) (moved_token oe ne) ∙ length-drop next olds in
      let old_is : length olds - back_of edit old new ≡ next = omega (arith, back, size, there.1) in
      let new_is : length news - back_of edit old new ≡ k = omega (arith, back, length-drop k news, first.1) in
      let zipped : ℕ × ℕ → Type 0 = λ n. AllZip IsKept (map (moved_token oe ne) (drop n.0 olds)) (drop n.1 news) in
      subst zipped (λ i. (sym old_is i, sym new_is i)) (subst (AllZip IsKept moves) (sym last) (renamed-kept new.aliases new.text s moves))

pub kept : (edit : Edit) (old new : CutText) → Applies edit old.text new.text → KeepsTokens (old_end_of edit) (new_end_of edit) (front_of edit old) (back_of edit old new) (tokens_in old) (tokens_in new)
kept edit old new applied = record { first = kept-first edit old new applied; last = kept-last edit old new applied }

-- What an edit keeps of the tokens before it and behind it.
use Rattle.std.proofs.Common.{◌≡◌, ℕ, suc, ◌+◌, ◌-◌, ◌<◌, ◌≤◌, Bool, true, false, List, [], ◌∷◌, ◌++◌, length, get_or, take, drop, map, sym, refl, ap, ◌∙◌, subst, arith, length-take-le, get_or-take, get_or-drop}
use Rattle.std.specs.Prelude.{if◌then◌else◌}
use Rattle.std.proofs.lemmas.Bool.{both_ways}
use Rattle.std.proofs.lemmas.List.{take-append-drop, take-take, drop-drop}
use Rattle.text_words.specs.Blanks.{is_blank}
use Rattle.outer_syntax.specs.Kinds.{is_proper}
use Rattle.outer_syntax.specs.Rows.{IsFirstRow}
use Rattle.outer_syntax.specs.Words.{is_in_force, is_minor_keyword, kind_of}
use Rattle.outer_syntax.specs.Tokens.{text_of, IsToken, AreTokensBetween}
use Rattle.outer_syntax.specs.Renaming.{renamed}
use Rattle.outer_syntax.specs.Stages.{after_word, after_token, given}
use Rattle.outer_syntax.specs.declared.bracket.Bracket.TheVariants.{Comment, String, Cartouche}
use Rattle.outer_syntax.specs.declared.kind.Kind.TheVariants as kind
use Rattle.outer_syntax.specs.declared.row.Row.{Row}
use Rattle.outer_syntax.specs.declared.row.Row.TheVariants.{Space, Enclosed, Error, Symbol, LongIdent, Word, Sym}
use Rattle.outer_syntax.specs.declared.stage.Stage.{Stage}
use Rattle.outer_syntax.specs.declared.token.Token.{Token}
use Rattle.outer_syntax.proofs.KnownLexing.{AreStaged}
use Rattle.outer_syntax.proofs.KnownKept.{SameUpTo, kept-token, moved-token, renamed-token, renamed-range}
use Rattle.command_spans.specs.Reparsing.{is_space, moved}
use Rattle.command_spans.specs.Keeping.{moved_token, IsChange, restaged}
use Rattle.command_spans.proofs.PlaceLemmas.{rising-order, between-rising, staged-rising}

-- the stage goes by the token's kind and its scalars alone
same-stage : (old new : List ℕ) (s : Stage) (t u : Token) → t.kind ≡ u.kind → text_of old t ≡ text_of new u → after_token old s t ≡ after_token new s u
same-stage old new s t u kinds texts = λ i. if is_proper (kinds i) then after_word s (kinds i, texts i) else s

no-space : (a b : Bool) → is_space (if a then kind.Command else (if b then kind.Keyword else kind.Ident)) ≡ false
no-space true b = refl
no-space false true = refl
no-space false false = refl

space-row : (is_command : List ℕ → Bool) (row : Row) (s : List ℕ) → is_space (kind_of is_command row s) ≡ true → row ≡ Space
space-row is_command Space s space = refl
space-row is_command (Enclosed Comment) s space = absurd (both_ways false refl space)
space-row is_command (Enclosed String) s space = absurd (both_ways false refl space)
space-row is_command (Enclosed Cartouche) s space = absurd (both_ways false refl space)
space-row is_command Error s space = absurd (both_ways false refl space)
space-row is_command Symbol s space = absurd (both_ways false refl space)
space-row is_command LongIdent s space = absurd (both_ways false refl space)
space-row is_command Word s space = absurd (both_ways _ (no-space (is_command s) (is_minor_keyword s)) space)
space-row is_command Sym s space = absurd (both_ways false refl space)

-- a space begins with a blank
pub space-blank : (is_command : List ℕ → Bool) (text : List ℕ) (t : Token) → IsToken is_command text t → is_space t.kind ≡ true → is_blank (get_or text t.range.start 0) ≡ true
space-blank is_command text t (row, some, first, kind) space =
    let from : ℕ = t.range.start in
    let n : ℕ = t.range.stop - from in
    let is : row ≡ Space = space-row is_command row (text_of text t) (ap is_space (sym kind) ∙ space) in
    let blanks : IsFirstRow (drop from text) Space n = subst (λ r. IsFirstRow (drop from text) r n) is first in
    let here : from + 0 ≡ from = omega arith in
    ap is_blank (ap (λ k. get_or text k 0) (sym here) ∙ sym (get_or-drop from text 0 0) ∙ sym (get_or-take n (drop from text) 0 0 (omega (arith, some))))
    ∙ blanks.longest.fits.1 0 0 (omega (arith, some, length-take-le n (drop from text) blanks.longest.within))

-- up to a blank before the edit the texts are the same
pub same-upto : (start old_end new_end : ℕ) (old new : List ℕ) (place : ℕ) → IsChange start old_end new_end old new → place < start → is_blank (get_or old place 0) ≡ true → SameUpTo old new place
same-upto start old_end new_end old new place change before blank =
    let n : ℕ = suc place in
    let fronts : take n old ≡ take n new = sym (take-take n start old (omega (arith, before))) ∙ ap (take n) change.first ∙ take-take n start new (omega (arith, before)) in
    record {
      front = take n old;
      old_rest = drop n old;
      new_rest = drop n new;
      old_is = sym (take-append-drop n old);
      new_is = sym (take-append-drop n new) ∙ ap (λ s. s ++ drop n new) (sym fronts);
      size = length-take-le n old (omega (arith, before, change.old_order.0, change.old_order.1));
      blank = ap is_blank (get_or-take n old place 0 (omega arith)) ∙ blank;
    }

module _ (aliases : List (List ℕ)) (old new : List ℕ) (place : ℕ) (same : SameUpTo old new place) where
  -- the tokens before the blank, with the kinds that they have in the other text
  pub front-renamed : (names : ℕ → List ℕ → Bool) (s : Stage) (from to : ℕ) (ts : List Token) → to ≤ place → AreTokensBetween names old from to ts → AreStaged aliases new s from to (restaged aliases new s ts)
  front-renamed names s from to [] upto is = is
  front-renamed names s from to (t ∷ ts) upto (starts, token, rest) =
      let own : List ℕ → Bool = is_in_force (given s aliases) in
      let stop : t.range.stop ≤ to = rising-order t.range.stop to ts (between-rising names old t.range.stop to ts rest) in
      let kept = kept-token (names from) old new place t same (omega (arith, stop, upto)) token in
      let u : Token = renamed own new t in
      let ranges : u.range ≡ t.range = renamed-range own new t in
      let more = front-renamed names (after_token new s u) t.range.stop to ts upto rest in
      ((ap (λ r. r.start) ranges ∙ starts, renamed-token (names from) own new t kept.0), subst (λ p. AreStaged aliases new (after_token new s u) p to (restaged aliases new (after_token new s u) ts)) (sym (ap (λ r. r.stop) ranges)) more)

  -- the same tokens, where the names are the same
  pub front-kept : (s : Stage) (from to : ℕ) (ts : List Token) → to ≤ place → AreStaged aliases old s from to ts → AreStaged aliases new s from to ts
  front-kept s from to [] upto is = is
  front-kept s from to (t ∷ ts) upto ((starts, token), rest) =
      let stop : t.range.stop ≤ to = rising-order t.range.stop to ts (staged-rising aliases old (after_token old s t) t.range.stop to ts rest) in
      let kept = kept-token (is_in_force (given s aliases)) old new place t same (omega (arith, stop, upto)) token in
      ((starts, kept.0), front-kept (after_token new s t) t.range.stop to ts upto (subst (λ x. AreStaged aliases old x t.range.stop to ts) (same-stage old new s t t refl kept.1) rest))

module _ (aliases : List (List ℕ)) (old new : List ℕ) (old_end new_end : ℕ) (last : drop old_end old ≡ drop new_end new) where
  -- behind the edit the same follows
  rests : (place : ℕ) → old_end ≤ place → drop place old ≡ drop (moved old_end new_end place) new
  rests place behind =
      let n : ℕ = place - old_end in
      let old_is : old_end + n ≡ place = omega arith in
      let new_is : new_end + n ≡ moved old_end new_end place = omega arith in
      ap (λ k. drop k old) (sym old_is) ∙ sym (drop-drop n old_end old) ∙ ap (drop n) last ∙ drop-drop n new_end new ∙ ap (λ k. drop k new) new_is

  back-token : (is_command : List ℕ → Bool) (t : Token) → old_end ≤ t.range.start → IsToken is_command old t → IsToken is_command new (moved_token old_end new_end t) × (text_of old t ≡ text_of new (moved_token old_end new_end t))
  back-token is_command t behind token =
      let u : Token = moved_token old_end new_end t in
      let sizes : u.range.stop - u.range.start ≡ t.range.stop - t.range.start = omega (arith, behind, token.1) in
      let there = rests t.range.start behind in
      (moved-token is_command old new t u there sizes (omega (arith, behind, token.1)) refl token, λ i. take (sym sizes i) (there i))

  -- the tokens behind the edit, moved, with the kinds that they have in the other text
  pub back-renamed : (names : ℕ → List ℕ → Bool) (s : Stage) (from to : ℕ) (ts : List Token) → old_end ≤ from → AreTokensBetween names old from to ts → AreStaged aliases new s (moved old_end new_end from) (moved old_end new_end to) (restaged aliases new s (map (moved_token old_end new_end) ts))
  back-renamed names s from to [] behind is = ap (moved old_end new_end) is
  back-renamed names s from to (t ∷ ts) behind (starts, token, rest) =
      let own : List ℕ → Bool = is_in_force (given s aliases) in
      let there : Token = moved_token old_end new_end t in
      let moves = back-token (names from) t (omega (arith, behind, starts)) token in
      let u : Token = renamed own new there in
      let ranges : u.range ≡ there.range = renamed-range own new there in
      let more = back-renamed names (after_token new s u) t.range.stop to ts (omega (arith, behind, starts, token.1)) rest in
      ((ap (λ r. r.start) ranges ∙ ap (moved old_end new_end) starts, renamed-token (names from) own new there moves.0), subst (λ p. AreStaged aliases new (after_token new s u) p (moved old_end new_end to) (restaged aliases new (after_token new s u) (map (moved_token old_end new_end) ts))) (sym (ap (λ r. r.stop) ranges)) more)

  -- the same tokens, moved, where the names are the same
  pub back-kept : (s : Stage) (from to : ℕ) (ts : List Token) → old_end ≤ from → AreStaged aliases old s from to ts → AreStaged aliases new s (moved old_end new_end from) (moved old_end new_end to) (map (moved_token old_end new_end) ts)
  back-kept s from to [] behind is = ap (moved old_end new_end) is
  back-kept s from to (t ∷ ts) behind ((starts, token), rest) =
      let moves = back-token (is_in_force (given s aliases)) t (omega (arith, behind, starts)) token in
      let stages = same-stage old new s t (moved_token old_end new_end t) refl moves.1 in
      ((ap (moved old_end new_end) starts, moves.0), back-kept (after_token new s (moved_token old_end new_end t)) t.range.stop to ts (omega (arith, behind, starts, token.1)) (subst (λ x. AreStaged aliases old x t.range.stop to ts) stages rest))

pub restaged-length : (aliases : List (List ℕ)) (text : List ℕ) (s : Stage) (ts : List Token) → length (restaged aliases text s ts) ≡ length ts
restaged-length aliases text s [] = refl
restaged-length aliases text s (t ∷ ts) = ap suc (restaged-length aliases text (after_token text s (renamed (is_in_force (given s aliases)) text t)) ts)

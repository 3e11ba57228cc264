-- Tokens up to a place are those of each text with the same front and a space behind it.
use Rattle.std.proofs.Common.{◌≡◌, ◌⊎◌, inl, inr, ℕ, ◌-◌, ◌<◌, ◌≤◌, Bool, true, false, List, [], ◌∷◌, ◌++◌, length, take, drop, sym, refl, ap, ◌∙◌, subst, arith, length-append, length-drop, append_assoc}
use Rattle.std.specs.Prelude.{if◌then◌else◌}
use Rattle.std.specs.List.{AllByRecursion}
use Rattle.std.proofs.lemmas.Bool.{both_ways}
use Rattle.std.proofs.lemmas.List.{take_all, take-append-le, take-append-drop, drop-append-le, get_or_at, append-nil}
use Rattle.text_words.specs.Blanks.{is_blank}
use Rattle.text_words.specs.Longest.{IsLongest}
use Rattle.outer_syntax.specs.Brackets.{opening}
use Rattle.outer_syntax.specs.Kinds.{is_proper}
use Rattle.outer_syntax.specs.Rows.{HasForm, IsFirstRow}
use Rattle.outer_syntax.specs.Stages.{after_word, after_token, after_tokens}
use Rattle.outer_syntax.specs.Tokens.{IsToken, text_of}
use Rattle.outer_syntax.specs.Words.{kind_of}
use Rattle.outer_syntax.specs.declared.row.Row.{Row}
use Rattle.outer_syntax.specs.declared.row.Row.TheVariants.{Space, Error}
use Rattle.outer_syntax.specs.declared.stage.Stage.{Stage}
use Rattle.outer_syntax.specs.declared.token.Token.{Token}
use Rattle.outer_syntax.proofs.KnownKept.{kept-token}
use Rattle.outer_syntax.proofs.KnownLexing.{AreStaged, staged-rises}
use Rattle.soundness_laws.specs.Insertion.{is_error, EndsWell}
use Rattle.soundness_laws.proofs.SpacedRows.{spaced_row}

-- it stands before the place, or it is proper and no error
StandsWell : ℕ → Token → Type 0
StandsWell place t = (t.range.stop < place) ⊎ ((is_proper t.kind ≡ true) × (is_error t.kind ≡ false))

-- the same scalars, in each text with the front
same_text : (p x y : List ℕ) (t : Token) → t.range.start < t.range.stop → t.range.stop ≤ length p → text_of (p ++ x) t ≡ text_of (p ++ y) t
same_text p x y t some low =
    let from : ℕ = t.range.start in
    let n : ℕ = t.range.stop - from in
    let within : from ≤ length p = omega (arith, some, low) in
    let fits : n ≤ length (drop from p) = omega (arith, length-drop from p, some, low) in
    ap (take n) (drop-append-le from p x within) ∙ take-append-le n (drop from p) x fits
    ∙ sym (ap (take n) (drop-append-le from p y within) ∙ take-append-le n (drop from p) y fits)

module _ (is_command : List ℕ → Bool) (p x : List ℕ) (t : Token) (low : t.range.stop ≤ length p) (well : StandsWell (length p) t) where
  cut : List ℕ
  cut = drop t.range.start p

  size : ℕ
  size = t.range.stop - t.range.start

  -- what opens and does not end goes on to the end
  not_error : (row : Row) → t.range.start < t.range.stop → IsFirstRow (cut ++ x) row size → t.kind ≡ kind_of is_command row (text_of (p ++ x) t) → row ≡ Error → ⊥
  unfolding cut size StandsWell
  not_error row some first kinds is = go well
    where
      go : (t.range.stop < length p) ⊎ ((is_proper t.kind ≡ true) × (is_error t.kind ≡ false)) → ⊥
      go (inl before) =
          let s : List ℕ = cut ++ x in
          let longest = subst (λ r. IsLongest (HasForm r) s size) is first.longest in
          let b = longest.fits.0 in
          let more = longest.fits.1 in
          let opens : s ≡ opening b ++ (more ++ drop size s) =
          sym (take-append-drop size s) ∙ ap (λ r. r ++ drop size s) longest.fits.2 ∙ append_assoc (opening b) more (drop size s) in
          let all : length s ≤ size = longest.longest (length s) (omega arith) (b, more ++ drop size s, take_all (length s) s (omega arith) ∙ opens) in
          omega (arith, all, some, before, length-append cut x, length-drop t.range.start p)
      go (inr sound) = both_ways (is_error t.kind) sound.1 (ap is_error (kinds ∙ ap (λ r. kind_of is_command r (text_of (p ++ x) t)) is))

  if_space : (row : Row) → t.range.start < t.range.stop → t.kind ≡ kind_of is_command row (text_of (p ++ x) t) → row ≡ Space → size < length cut
  unfolding cut size StandsWell
  if_space row some kinds is = go well
    where
      go : (t.range.stop < length p) ⊎ ((is_proper t.kind ≡ true) × (is_error t.kind ≡ false)) → size < length cut
      go (inl before) = omega (arith, some, before, length-drop t.range.start p)
      go (inr sound) = absurd (both_ways (is_proper t.kind) (ap is_proper (kinds ∙ ap (λ r. kind_of is_command r (text_of (p ++ x) t)) is)) sound.0)

  -- a token of the front with a space behind it
  spaced_only : IsToken is_command (p ++ x) t → IsToken is_command (p ++ 32 ∷ []) t
  unfolding cut size
  spaced_only (row, some, first, kinds) =
      let within : t.range.start ≤ length p = omega (arith, some, low) in
      let here : IsFirstRow (cut ++ x) row size = subst (λ s. IsFirstRow s row size) (drop-append-le t.range.start p x within) first in
      let fits : size ≤ length cut = omega (arith, length-drop t.range.start p, some, low) in
      let there : IsFirstRow (cut ++ 32 ∷ []) row size =
      spaced_row cut x row size fits (omega (arith, some)) here (not_error row some here kinds) (if_space row some kinds) in (
        row,
        some,
        subst (λ s. IsFirstRow s row size) (sym (drop-append-le t.range.start p (32 ∷ []) within)) there,
        kinds ∙ ap (kind_of is_command row) (same_text p x (32 ∷ []) t some low),
      )

  spaced_token : (y : List ℕ) → IsToken is_command (p ++ x) t → IsToken is_command (p ++ 32 ∷ y) t
  spaced_token y token = (kept-token is_command (p ++ 32 ∷ []) (p ++ 32 ∷ y) (length p) t (record {
    front = p ++ 32 ∷ [];
    old_rest = [];
    new_rest = y;
    old_is = sym (append-nil (p ++ 32 ∷ []));
    new_is = sym (append_assoc p (32 ∷ []) y);
    size = length-append p (32 ∷ []) ∙ omega arith;
    blank = ap is_blank (get_or_at p 32 [] 0 (length p) refl);
  }) low (spaced_only token)).0

same_after : (p x y : List ℕ) (s : Stage) (t : Token) → t.range.start < t.range.stop → t.range.stop ≤ length p → after_token (p ++ x) s t ≡ after_token (p ++ y) s t
same_after p x y s t some low = ap (λ w. if is_proper t.kind then after_word s (t.kind, w) else s) (same_text p x y t some low)

-- the tokens up to a place, the last of which is proper and no error
pub record Spaced (names : List (List ℕ)) (p x y : List ℕ) (s : Stage) (from : ℕ) (ts : List Token) : Type 0 where
  pub staged : AreStaged names (p ++ 32 ∷ y) s from (length p) ts
  pub after : after_tokens (p ++ 32 ∷ y) s ts ≡ after_tokens (p ++ x) s ts
  pub texts : AllByRecursion (λ t. text_of (p ++ 32 ∷ y) t ≡ text_of (p ++ x) t) ts

pub spaced : (names : List (List ℕ)) (p x y : List ℕ) (s : Stage) (from : ℕ) (ts : List Token) → AreStaged names (p ++ x) s from (length p) ts → EndsWell ts → Spaced names p x y s from ts
unfolding StandsWell
spaced names p x y s from [] is well = absurd well
spaced names p x y s from (t ∷ []) is well =
    let low : t.range.stop ≤ length p = omega (arith, is.1) in
    let some : t.range.start < t.range.stop = is.0.1.1 in
    record {
      staged = ((is.0.0, spaced_token _ p x t low (inr well) y is.0.1), is.1);
      after = same_after p (32 ∷ y) x s t some low;
      texts = (same_text p (32 ∷ y) x t some low, tt);
    }
spaced names p x y s from (t ∷ u ∷ ts) is well =
    let next : Stage = after_token (p ++ x) s t in
    let rises : u.range.stop ≤ length p = staged-rises names (p ++ x) (after_token (p ++ x) next u) u.range.stop (length p) ts is.1.1 in
    let before : t.range.stop < length p = omega (arith, is.1.0.0, is.1.0.1.1, rises) in
    let low : t.range.stop ≤ length p = omega (arith, before) in
    let same : next ≡ after_token (p ++ 32 ∷ y) s t = same_after p x (32 ∷ y) s t is.0.1.1 low in
    let more = spaced names p x y next t.range.stop (u ∷ ts) is.1 well in
    record {
      staged = ((is.0.0, spaced_token _ p x t low (inl before) y is.0.1), subst (λ n. AreStaged names (p ++ 32 ∷ y) n t.range.stop (length p) (u ∷ ts)) same more.staged);
      after = ap (λ n. after_tokens (p ++ 32 ∷ y) n (u ∷ ts)) (sym same) ∙ more.after;
      texts = (same_text p (32 ∷ y) x t is.0.1.1 low, more.texts);
    }

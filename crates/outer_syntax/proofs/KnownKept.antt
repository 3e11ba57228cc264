-- A token of one text is one of another: before a blank up to which the texts are the same, where the same follows, and
-- under other names.
use Rattle.std.proofs.Common.{◌≡◌, ◌⊎◌, inl, inr, ℕ, suc, ◌+◌, ◌-◌, ◌<◌, ◌≤◌, Bool, true, false, List, ◌++◌, length, get_or, take, drop, sym, refl, ap, ◌∙◌, subst, arith, length-drop, get_or-drop}
use Rattle.std.specs.Prelude.{if◌then◌else◌}
use Rattle.std.proofs.lemmas.Bool.{both_ways}
use Rattle.std.proofs.lemmas.List.{drop-append-le}
use Rattle.text_words.specs.Blanks.{is_blank}
use Rattle.outer_syntax.specs.Rows.{IsFirstRow}
use Rattle.outer_syntax.specs.Words.{is_minor_keyword, kind_of}
use Rattle.outer_syntax.specs.Tokens.{text_of, IsToken}
use Rattle.outer_syntax.specs.Renaming.{is_word, renamed}
use Rattle.outer_syntax.specs.declared.bracket.Bracket.TheVariants.{Comment, String, Cartouche}
use Rattle.outer_syntax.specs.declared.kind.Kind.TheVariants as kind
use Rattle.outer_syntax.specs.declared.row.Row.{Row}
use Rattle.outer_syntax.specs.declared.row.Row.TheVariants.{Space, Enclosed, Error, Symbol, LongIdent, Word, Sym}
use Rattle.outer_syntax.specs.declared.token.Token.{Token}
use Rattle.outer_syntax.proofs.FrontLemmas.{alike, kept-row}

-- two texts are the same up to a place and a blank that stands there
pub record SameUpTo (old new : List ℕ) (place : ℕ) : Type 0 where
  pub front : List ℕ
  pub old_rest : List ℕ
  pub new_rest : List ℕ
  pub old_is : old ≡ front ++ old_rest
  pub new_is : new ≡ front ++ new_rest
  pub size : length front ≡ suc place
  pub blank : is_blank (get_or front place 0) ≡ true

-- a token that ends at the place or before it is one of both texts
pub kept-token : (is_command : List ℕ → Bool) (old new : List ℕ) (place : ℕ) (t : Token) → SameUpTo old new place → t.range.stop ≤ place → IsToken is_command old t → IsToken is_command new t × (text_of old t ≡ text_of new t)
kept-token is_command old new place t same upto (row, some, first, kind) =
    let from : ℕ = t.range.start in
    let n : ℕ = t.range.stop - from in
    let cut : List ℕ = drop from same.front in
    let within : from ≤ length same.front = omega (arith, same.size, some, upto) in
    let old_cut : drop from old ≡ cut ++ same.old_rest = ap (drop from) same.old_is ∙ drop-append-le from same.front same.old_rest within in
    let new_cut : drop from new ≡ cut ++ same.new_rest = ap (drop from) same.new_is ∙ drop-append-le from same.front same.new_rest within in
    let size : length cut ≡ suc (place - from) = omega (arith, length-drop from same.front, same.size, some, upto) in
    let there : from + (place - from) ≡ place = omega (arith, some, upto) in
    let blank : is_blank (get_or cut (place - from) 0) ≡ true = ap is_blank (get_or-drop from same.front (place - from) 0 ∙ ap (λ j. get_or same.front j 0) there) ∙ same.blank in
    let before : n ≤ place - from = omega (arith, some, upto) in
    let here : IsFirstRow (cut ++ same.old_rest) row n = subst (λ s. IsFirstRow s row n) old_cut first in
    let row_kept : IsFirstRow (drop from new) row n = subst (λ s. IsFirstRow s row n) (sym new_cut) (kept-row cut same.old_rest same.new_rest (place - from) size blank row n before here) in
    let texts : text_of old t ≡ text_of new t = ap (take n) old_cut ∙ alike cut same.old_rest same.new_rest (place - from) size blank n (omega (arith, before)) ∙ ap (take n) (sym new_cut) in
    ((row, some, row_kept, kind ∙ ap (kind_of is_command row) texts), texts)

-- where the same text follows, the same token stands
pub moved-token : (is_command : List ℕ → Bool) (old new : List ℕ) (t u : Token) → drop t.range.start old ≡ drop u.range.start new → u.range.stop - u.range.start ≡ t.range.stop - t.range.start → u.range.start < u.range.stop → u.kind ≡ t.kind → IsToken is_command old t → IsToken is_command new u
moved-token is_command old new t u rests sizes some kinds (row, more, first, kind) =
    let n : ℕ = u.range.stop - u.range.start in
    let size : t.range.stop - t.range.start ≡ n = sym sizes in
    let there : IsFirstRow (drop u.range.start new) row n = subst (λ s. IsFirstRow s row n) rests (subst (IsFirstRow (drop t.range.start old) row) size first) in
    let texts : text_of old t ≡ text_of new u = λ i. take (size i) (rests i) in
    (row, some, there, kinds ∙ kind ∙ ap (kind_of is_command row) texts)

word-kind : (a b : Bool) → is_word (if a then kind.Command else (if b then kind.Keyword else kind.Ident)) ≡ true
word-kind true b = refl
word-kind false true = refl
word-kind false false = refl

-- a word's row
word-row : (is_command : List ℕ → Bool) (row : Row) (s : List ℕ) → is_word (kind_of is_command row s) ≡ true → row ≡ Word
word-row is_command Space s word = absurd (both_ways false refl word)
word-row is_command (Enclosed Comment) s word = absurd (both_ways false refl word)
word-row is_command (Enclosed String) s word = absurd (both_ways false refl word)
word-row is_command (Enclosed Cartouche) s word = absurd (both_ways false refl word)
word-row is_command Error s word = absurd (both_ways false refl word)
word-row is_command Symbol s word = absurd (both_ways false refl word)
word-row is_command LongIdent s word = absurd (both_ways false refl word)
word-row is_command Word s word = refl
word-row is_command Sym s word = absurd (both_ways false refl word)

-- the kind of what is no word is the same under all names
other-kind : (one other : List ℕ → Bool) (row : Row) (s : List ℕ) → is_word (kind_of one row s) ≡ false → kind_of one row s ≡ kind_of other row s
other-kind one other Space s word = refl
other-kind one other (Enclosed Comment) s word = refl
other-kind one other (Enclosed String) s word = refl
other-kind one other (Enclosed Cartouche) s word = refl
other-kind one other Error s word = refl
other-kind one other Symbol s word = refl
other-kind one other LongIdent s word = refl
other-kind one other Word s word = absurd (both_ways _ word (word-kind (one s) (is_minor_keyword s)))
other-kind one other Sym s word = refl

-- a token under some names is one under others, renamed
pub renamed-token : (others names : List ℕ → Bool) (text : List ℕ) (t : Token) → IsToken others text t → IsToken names text (renamed names text t)
renamed-token others names text t (row, some, first, kind) = go (is_word t.kind) refl where
  go : (b : Bool) → is_word t.kind ≡ b → IsToken names text (if b then record t { kind = kind_of names Word (text_of text t) } else t)
  go true word =
      let is : row ≡ Word = word-row others row (text_of text t) (ap is_word (sym kind) ∙ word) in
      (row, some, first, ap (λ r. kind_of names r (text_of text t)) (sym is))
  go false word = (row, some, first, kind ∙ other-kind others names row (text_of text t) (ap is_word (sym kind) ∙ word))

-- and keeps its range
pub renamed-range : (names : List ℕ → Bool) (text : List ℕ) (t : Token) → (renamed names text t).range ≡ t.range
renamed-range names text t = go (is_word t.kind) where
  go : (b : Bool) → (if b then record t { kind = kind_of names Word (text_of text t) } else t).range ≡ t.range
  go true = refl
  go false = refl

-- and its kind, but for that of a word, which stays a word
pub renamed-kind : (names : List ℕ → Bool) (text : List ℕ) (t : Token) → (t.kind ≡ (renamed names text t).kind) ⊎ ((is_word t.kind ≡ true) × (is_word (renamed names text t).kind ≡ true))
renamed-kind names text t = go (is_word t.kind) refl where
  go : (b : Bool) → is_word t.kind ≡ b → (t.kind ≡ (if b then record t { kind = kind_of names Word (text_of text t) } else t).kind) ⊎ ((is_word t.kind ≡ true) × (is_word (if b then record t { kind = kind_of names Word (text_of text t) } else t).kind ≡ true))
  go true word = inr (word, word-kind (names (text_of text t)) (is_minor_keyword (text_of text t)))
  go false word = inl refl

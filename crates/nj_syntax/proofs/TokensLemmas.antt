-- What stands behind blanks: a token, or a scalar that begins none.
use Rattle.std.proofs.Common.{◌≡◌, ◌<◌, ◌+◌, ℕ, suc, Bool, false, List, [], ◌∷◌, length-drop, ◌-◌, length, get_or, take, drop, Some, None, ap, sym, subst, ◌∙◌, arith, add-one, drop-cons}
use Rattle.std.proofs.lemmas.List.{drop-drop, take_all}
use Rattle.nj_syntax.specs.declared.token.Token.{Token}
use Rattle.nj_syntax.specs.declared.token.Placed.{Placed}
use Rattle.text_words.specs.Blanks.{is_blank}
use Rattle.nj_syntax.specs.Lexis.{first_token}
use Rattle.nj_syntax.specs.Tokens.{AreTokens, stops, begins, placed_before, cut_from}
use Rattle.nj_syntax.proofs.KnownTokens.{are_from, cut_is}

module _ (text : List ℕ) (at c : ℕ) (within : at < length text) (is : c ≡ get_or text at c) where
  front : drop at text ≡ c ∷ drop (at + 1) text
  front = rw add-one (drop-cons text at c within ∙ ap (λ x. x ∷ drop (suc at) text) (sym is))

  no_token : is_blank c ≡ false → first_token (drop at text) ≡ None → AreTokens at (drop at text) [] at false
  no_token b none = subst (λ t. AreTokens at t [] at false) (sym front) (stops b (ap first_token (sym front) ∙ none))

  over_token : (t : Token) (n : ℕ) (more : List Placed) (stop : ℕ) (whole : Bool) → is_blank c ≡ false
      → first_token (drop at text) ≡ Some (t, n)
      → AreTokens (at + n) (drop (at + n) text) more stop whole
      → AreTokens at (drop at text) (record { token = t; at = at } ∷ more) stop whole
  over_token t n more stop whole b found h =
      let rest : drop n (c ∷ drop (at + 1) text) ≡ drop (at + n) text = ap (drop n) (sym front) ∙ drop-drop n at text in
      subst (λ x. AreTokens at x (record { token = t; at = at } ∷ more) stop whole) (sym front)
      (begins b (ap first_token (sym front) ∙ found) (subst (λ x. AreTokens (at + n) x more stop whole) (sym rest) h))

  pub stray_next : is_blank c ≡ false → first_token (drop at text) ≡ None → cut_from at text ≡ record { tokens = []; stop = at; whole = false }
  stray_next b none = cut_is (no_token b none)

  pub token_next : (t : Token) (n : ℕ) → is_blank c ≡ false → first_token (drop at text) ≡ Some (t, n)
      → cut_from at text ≡ placed_before (record { token = t; at = at }) (cut_from (at + n) text)
  token_next t n b found =
      let rest = cut_from (at + n) text in cut_is (over_token t n rest.tokens rest.stop rest.whole b found (are_from text (at + n)))

-- the rest of the text, as the loop passes it on
pub passed_on : (text : List ℕ) (at : ℕ) → take (length text - at) (drop at text) ≡ drop at text
passed_on text at = take_all (length text - at) (drop at text) (simp length-drop (omega arith))

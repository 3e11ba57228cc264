-- Chunks that are texts, one after the other.
use Rattle.std.proofs.Common.{◌≡◌, ℕ, ◌<◌, ◌+◌, ◌&&◌, true, false, Bool, List, [], ◌∷◌, ◌++◌, length, drop, get_or, slice_index_or, Bor, refl, sym, ap, ◌∙◌, append_assoc, add-one, drop-cons}
use Rattle.std.specs.Str.{IsUtf8, is_utf8}
use Rattle.std.proofs.lemmas.List.{map-append}
use Rattle.std.proofs.lemmas.Str.{IsUtf8-from_is_utf8, is_utf8-from_IsUtf8}
use Rattle.pide_messages.specs.Texts.{texts, all_utf8}

next : (chunks : List (List ℕ)) (n : ℕ) (chunk : List ℕ) → n < length chunks → chunk ≡ slice_index_or chunks n [] → drop n chunks ≡ chunk ∷ drop (n + 1) chunks
next chunks n chunk h is =
    let step : drop n chunks ≡ get_or chunks n [] ∷ drop (n + 1) chunks = rw (add-one, drop-cons chunks n []) refl in
    step ∙ ap (λ c. c ∷ drop (n + 1) chunks) (sym is)

-- a chunk is no text, so not all are
pub utf8_stops : (chunks : List (List ℕ)) (n : ℕ) (chunk : List ℕ) → n < length chunks → chunk ≡ slice_index_or chunks n [] → (IsUtf8 chunk → ⊥)
    → all_utf8 (drop n chunks) ≡ false
utf8_stops chunks n chunk h is never = ap all_utf8 (next chunks n chunk h is) ∙ ap (λ b. b && all_utf8 (drop (n + 1) chunks)) (no_text (is_utf8 chunk) refl) where
  no_text : (b : Bool) → is_utf8 chunk ≡ b → is_utf8 chunk ≡ false
  no_text true e = absurd (never (IsUtf8-from_is_utf8 chunk e))
  no_text false e = e

-- a chunk is a text, so all are where those behind it are
pub utf8_goes_on : (chunks : List (List ℕ)) (n : ℕ) (chunk : List ℕ) → n < length chunks → chunk ≡ slice_index_or chunks n [] → IsUtf8 chunk
    → all_utf8 (drop n chunks) ≡ all_utf8 (drop (n + 1) chunks)
utf8_goes_on chunks n chunk h is text =
    ap all_utf8 (next chunks n chunk h is) ∙ ap (λ b. b && all_utf8 (drop (n + 1) chunks)) (is_utf8-from_IsUtf8 chunk text)

-- one more text is lent
pub texts_go_on : (lent : List (Bor (List ℕ))) (text : Bor (List ℕ)) (chunks all : List (List ℕ)) (n : ℕ) → n < length chunks → text.now ≡ slice_index_or chunks n []
    → texts lent ++ drop n chunks ≡ all → texts (lent ++ text ∷ []) ++ drop (n + 1) chunks ≡ all
texts_go_on lent text chunks all n h is e =
    ap (λ ts. ts ++ drop (n + 1) chunks) (map-append (λ (t : Bor (List ℕ)). t.now) lent (text ∷ []))
    ∙ append_assoc (texts lent) (text.now ∷ []) (drop (n + 1) chunks)
    ∙ ap (λ d. texts lent ++ d) (sym (next chunks n text.now h is)) ∙ e

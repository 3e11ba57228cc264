-- Texts and their scalars.
use Rattle.std.proofs.Common.{◌≡◌, ℕ, List, Option, Some, None, sym, ap, ◌∙◌}
use Rattle.std.specs.Str.{IsUtf8, is_utf8, chars}
use Rattle.std.proofs.lemmas.Str.{is_utf8-from_IsUtf8}
use Rattle.message_values.specs.Each.{◌>>=◌}
use Rattle.message_values.specs.Texts.{scalars_of}
use Rattle.message_values.proofs.KnownSteps.{passed}

-- the scalars of a text that was found
pub text_found : (found : Option (List ℕ)) (text shown scalars : List ℕ) → found ≡ Some text → shown ≡ text → IsUtf8 shown → scalars ≡ chars shown
    → (found >>= scalars_of) ≡ Some scalars
text_found found text shown scalars e same utf8 are =
    ap (λ o. o >>= scalars_of) (e ∙ ap (λ t. Some t) (sym same))
    ∙ passed (is_utf8 shown) (Some (chars shown)) None (is_utf8-from_IsUtf8 shown utf8) ∙ ap (λ s. Some s) (sym are)

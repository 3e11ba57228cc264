-- The tokens of a text, read from the left with the aliases that what was read puts in force.
use Rattle.std.proofs.Common.{◌≡◌, ℕ, ◌<◌, ◌≤◌, Bool, true, false, Option, None, Some, List, [], ◌∷◌, ◌++◌, length, drop, sym, refl, ◌∙◌, subst, arith}
use Rattle.std.specs.Prelude.{if◌then◌else◌, nat_le}
use Rattle.std.proofs.lemmas.Bool.{cond-true, cond-false, le-leb, lt-leb}
use Rattle.outer_syntax.specs.Words.{is_in_force}
use Rattle.outer_syntax.specs.Tokens.{IsToken, IsTokenAt, AreTokensBetween, AreTokensUnder}
use Rattle.outer_syntax.specs.Headings.{aliases_at, names_at, proper, AreTokens}
use Rattle.outer_syntax.specs.Stages.{after_token, after_tokens, is_ended, given, end_from}
use Rattle.outer_syntax.specs.Lexing.{tokens_from, tokens_under, tokens_of, header_end}
use Rattle.outer_syntax.specs.declared.stage.Stage.{Stage}
use Rattle.outer_syntax.specs.declared.stage.Stage.TheVariants.{Start, Ended}
use Rattle.outer_syntax.specs.declared.token.Token.{Token}
use Rattle.outer_syntax.proofs.KnownHeadings.{heading-end, one-end}
use Rattle.outer_syntax.proofs.TokenLaws.{rises, one-token, one-between, one-tokens}
use Rattle.outer_syntax.proofs.FitLemmas.{are-from, are-under}
use Rattle.outer_syntax.proofs.KnownStages.{ended-is}
use Rattle.outer_syntax.proofs.KnownReading.{ended-stays}

-- one token more
pub tokens-push : (names : ℕ → List ℕ → Bool) (text : List ℕ) (from middle : ℕ) (before : List Token) (t : Token) → AreTokensBetween names text from middle before → t.range.start ≡ middle → IsToken (names middle) text t → AreTokensBetween names text from t.range.stop (before ++ t ∷ [])
tokens-push names text from middle [] t same starts token = (starts ∙ sym same, subst (λ p. IsToken (names p) text t) (sym same) token, refl)
tokens-push names text from middle (x ∷ xs) t tokens starts token = (tokens.0, tokens.1, tokens-push names text x.range.stop middle xs t tokens.2 starts token)

-- tokens up to a place and tokens from there on
pub tokens-append : (names : ℕ → List ℕ → Bool) (text : List ℕ) (from middle to : ℕ) (xs ys : List Token) → AreTokensBetween names text from middle xs → AreTokensBetween names text middle to ys → AreTokensBetween names text from to (xs ++ ys)
tokens-append names text from middle to [] ys same is = subst (λ p. AreTokensBetween names text p to ys) (sym same) is
tokens-append names text from middle to (x ∷ xs) ys is more = (is.0, is.1, tokens-append names text x.range.stop middle to xs ys is.2 more)

-- there are tokens from each place on
pub rest-tokens : (names : ℕ → List ℕ → Bool) (text : List ℕ) (place : ℕ) → place ≤ length text → AreTokensBetween names text place (length text) (tokens_from names 0 place (drop place text))
rest-tokens names text place within = are-from names text 0 place place (drop place text) refl (omega arith) within within

-- the tokens from one place to another, from a stage of the header on
abbrev pub AreStaged : List (List ℕ) → List ℕ → Stage → ℕ → ℕ → List Token → Type 0
AreStaged aliases text stage from to [] = from ≡ to
AreStaged aliases text stage from to (t ∷ ts) = IsTokenAt (is_in_force (given stage aliases)) text from t × AreStaged aliases text (after_token text stage t) t.range.stop to ts

pub staged-push : (aliases : List (List ℕ)) (text : List ℕ) (stage : Stage) (from middle : ℕ) (before : List Token) (t : Token) → AreStaged aliases text stage from middle before → IsTokenAt (is_in_force (given (after_tokens text stage before) aliases)) text middle t → AreStaged aliases text stage from t.range.stop (before ++ t ∷ [])
staged-push aliases text stage from middle [] t same at = (subst (λ p. IsTokenAt (is_in_force (given stage aliases)) text p t) (sym same) at, refl)
staged-push aliases text stage from middle (x ∷ xs) t is at = (is.0, staged-push aliases text (after_token text stage x) x.range.stop middle xs t is.1 at)

-- and the tokens from one place on behind those up to it
pub staged-append : (aliases : List (List ℕ)) (text : List ℕ) (s : Stage) (from middle to : ℕ) (xs ys : List Token) → AreStaged aliases text s from middle xs → AreStaged aliases text (after_tokens text s xs) middle to ys → AreStaged aliases text s from to (xs ++ ys)
staged-append aliases text s from middle to [] ys same is = subst (λ p. AreStaged aliases text s p to ys) (sym same) is
staged-append aliases text s from middle to (x ∷ xs) ys is more = (is.0, staged-append aliases text (after_token text s x) x.range.stop middle to xs ys is.1 more)

pub after-push : (text : List ℕ) (stage : Stage) (before : List Token) (t : Token) → after_tokens text stage (before ++ t ∷ []) ≡ after_token text (after_tokens text stage before) t
after-push text stage [] t = refl
after-push text stage (x ∷ xs) t = after-push text (after_token text stage x) xs t

pub given-none : (s : Stage) (aliases : List (List ℕ)) → is_ended s ≡ false → given s aliases ≡ []
given-none Ended aliases on = absurd (cc (on))
given-none _ aliases on = refl

end-above : (names : ℕ → List ℕ → Bool) (text : List ℕ) (s : Stage) (from to : ℕ) (ts : List Token) (end : ℕ) → AreTokensBetween names text from to ts → end_from text s ts ≡ Some end → from < end
end-above names text s from to [] end is found = absurd (cc (found))
end-above names text s from to (t ∷ ts) end (starts, token, rest) found = go (is_ended (after_token text s t)) found (λ (f : end_from text (after_token text s t) ts ≡ Some end). end-above names text (after_token text s t) t.range.stop to ts end rest f) where
  go : (b : Bool) → (if b then Some t.range.stop else end_from text (after_token text s t) ts) ≡ Some end → (end_from text (after_token text s t) ts ≡ Some end → t.range.stop < end) → from < end
  go true found more = let same : t.range.stop ≡ end = cc (found) in omega (arith, starts, token.1)
  go false found more = omega (arith, starts, token.1, more found)

-- after the end all aliases are in force
past : (aliases : List (List ℕ)) (text : List ℕ) (end from to : ℕ) (ts : List Token) → end ≤ from → AreStaged aliases text Ended from to ts → AreTokensBetween (names_at (Some end) aliases) text from to ts
past aliases text end from to [] within is = is
past aliases text end from to (t ∷ ts) within ((starts, token), rest) =
    let all : aliases_at (Some end) aliases from ≡ aliases = cond-true (nat_le end from) aliases [] (le-leb end from within) in
    (starts, subst (λ names. IsToken (is_in_force names) text t) (sym all) token, past aliases text end t.range.stop to ts (omega (arith, starts, token.1)) (subst (λ s. AreStaged aliases text s t.range.stop to ts) (ended-stays text t) rest))

unpast : (aliases : List (List ℕ)) (text : List ℕ) (end from to : ℕ) (ts : List Token) → end ≤ from → AreTokensBetween (names_at (Some end) aliases) text from to ts → AreStaged aliases text Ended from to ts
unpast aliases text end from to [] within is = is
unpast aliases text end from to (t ∷ ts) within (starts, token, rest) =
    let all : aliases_at (Some end) aliases from ≡ aliases = cond-true (nat_le end from) aliases [] (le-leb end from within) in
    ((starts, subst (λ names. IsToken (is_in_force names) text t) all token), subst (λ s. AreStaged aliases text s t.range.stop to ts) (sym (ended-stays text t)) (unpast aliases text end t.range.stop to ts (omega (arith, starts, token.1)) rest))

-- before the end none is
before-none : (o : Option ℕ) (aliases : List (List ℕ)) (from : ℕ) → ((end : ℕ) → o ≡ Some end → from < end) → aliases_at o aliases from ≡ []
before-none None aliases from above = refl
before-none (Some end) aliases from above = cond-false (nat_le end from) aliases [] (lt-leb end from (above end refl))

pub staged-rises : (aliases : List (List ℕ)) (text : List ℕ) (s : Stage) (from to : ℕ) (ts : List Token) → AreStaged aliases text s from to ts → from ≤ to
staged-rises aliases text s from to [] is = omega arith
staged-rises aliases text s from to (t ∷ ts) ((starts, token), rest) = omega (arith, starts, token.1, staged-rises aliases text (after_token text s t) t.range.stop to ts rest)

staged-step : (aliases : List (List ℕ)) (text : List ℕ) (s' : Stage) (from to : ℕ) (t : Token) (ts bs : List Token) → IsTokenAt (is_in_force []) text from t → AreStaged aliases text s' t.range.stop to ts → AreTokensBetween (names_at None []) text t.range.stop to bs → (is_ended s' ≡ false → AreTokensBetween (names_at (end_from text s' bs) aliases) text t.range.stop to ts) → (b : Bool) → is_ended s' ≡ b → AreTokensBetween (names_at (if b then Some t.range.stop else end_from text s' bs) aliases) text from to (t ∷ ts)
staged-step aliases text s' from to t ts bs (starts, token) is base more true e =
    let none : aliases_at (Some t.range.stop) aliases from ≡ [] = before-none (Some t.range.stop) aliases from (λ end same. let stop : t.range.stop ≡ end = cc (same) in omega (arith, starts, token.1, stop)) in
    (starts, subst (λ names. IsToken (is_in_force names) text t) (sym none) token, past aliases text t.range.stop t.range.stop to ts (omega arith) (subst (λ s. AreStaged aliases text s t.range.stop to ts) (ended-is s' e) is))
staged-step aliases text s' from to t ts bs (starts, token) is base more false e =
    let none : aliases_at (end_from text s' bs) aliases from ≡ [] = before-none (end_from text s' bs) aliases from (λ end same. omega (arith, starts, token.1, end-above (names_at None []) text s' t.range.stop to bs end base same)) in
    (starts, subst (λ names. IsToken (is_in_force names) text t) (sym none) token, more e)

-- one list under the language's own names tells where the header ends, and so the names at each place
staged-between : (aliases : List (List ℕ)) (text : List ℕ) (s : Stage) (from to : ℕ) (ts bs : List Token) → is_ended s ≡ false → AreStaged aliases text s from to ts → AreTokensBetween (names_at None []) text from to bs → AreTokensBetween (names_at (end_from text s bs) aliases) text from to ts
staged-between aliases text s from to [] bs on is base = is
staged-between aliases text s from to (t ∷ ts) [] on ((starts, token), rest) base = absurd (omega (arith, base, starts, token.1, staged-rises aliases text (after_token text s t) t.range.stop to ts rest))
staged-between aliases text s from to (t ∷ ts) (b ∷ bs) on ((starts, token), rest) (starts', token', more) =
    let own : IsToken (is_in_force []) text t = subst (λ names. IsToken (is_in_force names) text t) (given-none s aliases on) token in
    let same : t ≡ b = one-token (is_in_force []) text t b (starts ∙ sym starts') own token' in
    let base : AreTokensBetween (names_at None []) text t.range.stop to bs = subst (λ (x : Token). AreTokensBetween (names_at None []) text x.range.stop to bs) (sym same) more in
    subst (λ (x : Token). AreTokensBetween (names_at (end_from text s (x ∷ bs)) aliases) text from to (t ∷ ts)) same
    (staged-step aliases text (after_token text s t) from to t ts bs (starts, own) rest base (λ (e : is_ended (after_token text s t) ≡ false). staged-between aliases text (after_token text s t) t.range.stop to ts bs e rest base) (is_ended (after_token text s t)) refl)

unstaged-step : (aliases : List (List ℕ)) (text : List ℕ) (s' : Stage) (from to : ℕ) (ts bs : List Token) → (is_ended s' ≡ false → AreTokensBetween (names_at (end_from text s' bs) aliases) text from to ts → AreStaged aliases text s' from to ts) → (b : Bool) → is_ended s' ≡ b → AreTokensBetween (names_at (if b then Some from else end_from text s' bs) aliases) text from to ts → AreStaged aliases text s' from to ts
unstaged-step aliases text s' from to ts bs more true e is =
    subst (λ s. AreStaged aliases text s from to ts) (sym (ended-is s' e)) (unpast aliases text from from to ts (omega arith) is)
unstaged-step aliases text s' from to ts bs more false e is = more e is

unstaged : (aliases : List (List ℕ)) (text : List ℕ) (s : Stage) (from to : ℕ) (ts bs : List Token) → is_ended s ≡ false → AreTokensBetween (names_at (end_from text s bs) aliases) text from to ts → AreTokensBetween (names_at None []) text from to bs → AreStaged aliases text s from to ts
unstaged aliases text s from to [] bs on is base = is
unstaged aliases text s from to (t ∷ ts) [] on (starts, token, rest) base = absurd (omega (arith, base, starts, token.1, rises (names_at (end_from text s []) aliases) text t.range.stop to ts rest))
unstaged aliases text s from to (t ∷ ts) (b ∷ bs) on (starts, token, rest) (starts', token', more) =
    let none : aliases_at (end_from text s (b ∷ bs)) aliases from ≡ [] = before-none (end_from text s (b ∷ bs)) aliases from (λ end found. end-above (names_at None []) text s from to (b ∷ bs) end (starts', token', more) found) in
    let own : IsToken (is_in_force []) text t = subst (λ names. IsToken (is_in_force names) text t) none token in
    let same : t ≡ b = one-token (is_in_force []) text t b (starts ∙ sym starts') own token' in
    let base : AreTokensBetween (names_at None []) text t.range.stop to bs = subst (λ (x : Token). AreTokensBetween (names_at None []) text x.range.stop to bs) (sym same) more in
    let after : AreTokensBetween (names_at (end_from text s (t ∷ bs)) aliases) text t.range.stop to ts = subst (λ (x : Token). AreTokensBetween (names_at (end_from text s (x ∷ bs)) aliases) text t.range.stop to ts) (sym same) rest in (
      (starts, subst (λ names. IsToken (is_in_force names) text t) (sym (given-none s aliases on)) own),
      unstaged-step aliases text (after_token text s t) t.range.stop to ts bs (λ (e : is_ended (after_token text s t) ≡ false) (is : AreTokensBetween (names_at (end_from text (after_token text s t) bs) aliases) text t.range.stop to ts). unstaged aliases text (after_token text s t) t.range.stop to ts bs e is base) (is_ended (after_token text s t)) refl after,
    )

-- what is read from the left is the text's list of tokens
pub staged-tokens : (text : List ℕ) (aliases : List (List ℕ)) (ts : List Token) → AreStaged aliases text Start 0 (length text) ts → AreTokens text aliases ts
staged-tokens text aliases ts is =
    let base = tokens_under (names_at None []) text in
    (base, end_from text Start base, are-under (names_at None []) text, heading-end text base, staged-between aliases text Start 0 (length text) ts base refl is (are-under (names_at None []) text))

-- and the other way round
pub tokens-staged : (text : List ℕ) (aliases : List (List ℕ)) (ts : List Token) → AreTokens text aliases ts → AreStaged aliases text Start 0 (length text) ts
tokens-staged text aliases ts (base, end, under, ends, is) =
    let same : end ≡ end_from text Start base = one-end text (proper base) end (end_from text Start base) ends (heading-end text base) in
    unstaged aliases text Start 0 (length text) ts base refl (subst (λ o. AreTokensUnder (names_at o aliases) text ts) same is) under

pub are-tokens : (text : List ℕ) (aliases : List (List ℕ)) → AreTokens text aliases (tokens_of text aliases)
are-tokens text aliases =
    let base = tokens_under (names_at None []) text in
    (base, header_end text, are-under (names_at None []) text, heading-end text base, are-under (names_at (header_end text) aliases) text)

pub all-tokens : (names : ℕ → List ℕ → Bool) (text : List ℕ) → AreTokensUnder names text (tokens_under names text)
all-tokens names text = are-under names text

pub same-tokens : (names : ℕ → List ℕ → Bool) (text : List ℕ) (a b : List Token) → AreTokensUnder names text a → AreTokensUnder names text b → a ≡ b
same-tokens names text a b = one-between names text 0 (length text) a b

pub same-lexed : (text : List ℕ) (aliases : List (List ℕ)) (a b : List Token) → AreTokens text aliases a → AreTokens text aliases b → a ≡ b
same-lexed text aliases a b = one-tokens text aliases a b

pub between-rises : (names : ℕ → List ℕ → Bool) (text : List ℕ) (from to : ℕ) (ts : List Token) → AreTokensBetween names text from to ts → from ≤ to
between-rises names text from to ts = rises names text from to ts

-- Where a header ends, and what the function tells of it.
use Rattle.std.proofs.Common.{◌≡◌, ℕ, ◌≤◌, Bool, true, false, None, Some, List, [], ◌∷◌, ◌++◌, length, drop, sym, refl, ap, ◌∙◌, subst, append_assoc}
use Rattle.std.specs.Prelude.{if◌then◌else◌, MatchOption}
use Rattle.std.proofs.lemmas.Bool.{cond-true}
use Rattle.std.proofs.lemmas.List.{append-nil}
use Rattle.outer_syntax.specs.Words.{is_in_force}
use Rattle.outer_syntax.specs.Tokens.{IsTokenAt, AreTokensBetween}
use Rattle.outer_syntax.specs.Stages.{after_token, is_ended, end_from}
use Rattle.outer_syntax.specs.Lexing.{tokens_from, tokens_under, header_end}
use Rattle.outer_syntax.specs.declared.stage.Stage.TheVariants.{Start, Ended, Absent}
use Rattle.outer_syntax.specs.declared.token.Token.{Token}
use Rattle.outer_syntax.proofs.KnownLexing.{tokens-append, rest-tokens, all-tokens, same-tokens, between-rises}
use Rattle.outer_syntax.proofs.KnownStages.{ended-is}
use Rattle.outer_syntax.specs.Headers.{AreBaseTokens, HasHeader, HasNoHeader}
use Rattle.outer_syntax.specs.Reading.{empty_reading, advanced, header_from, header_in}
use Rattle.outer_syntax.specs.declared.read.Reading.{Reading}
use Rattle.outer_syntax.proofs.ReadLemmas.{IsRead, read-start, tokens-next, read-on, read-header, absent-ends, read-end}

-- the tokens that have been read and these more are the text's
base-is : (text : List ℕ) (ts : List Token) → AreBaseTokens text ts → header_end text ≡ end_from text Start ts
base-is text ts is = ap (end_from text Start) (same-tokens (λ _. is_in_force []) text (tokens_under (λ _. is_in_force []) text) ts (all-tokens (λ _. is_in_force []) text) is)

-- the header ends where its last token does
pub read-stop : (text : List ℕ) (place : ℕ) (r : Reading) (t : Token) → IsRead text place r → IsTokenAt (is_in_force []) text place t → t.range.stop ≤ length text → after_token text r.stage t ≡ Ended → header_end text ≡ Some t.range.stop
read-stop text place r t read at within ended =
    let rest : List Token = tokens_from (λ _. is_in_force []) 0 t.range.stop (drop t.range.stop text) in
    base-is text ((read.done ++ t ∷ []) ++ rest) (tokens-append (λ _. is_in_force []) text 0 t.range.stop (length text) (read.done ++ t ∷ []) rest (tokens-next text place r t read at) (rest-tokens (λ _. is_in_force []) text t.range.stop within))
    ∙ ap (end_from text Start) (append_assoc read.done (t ∷ []) rest) ∙ read.ends (t ∷ rest)
    ∙ cond-true (is_ended (after_token text r.stage t)) (Some t.range.stop) (end_from text (after_token text r.stage t) rest) (ap is_ended ended)

-- it ends nowhere after what no header has
pub absent-stop : (text : List ℕ) (place : ℕ) (r : Reading) → IsRead text place r → place ≤ length text → r.stage ≡ Absent → header_end text ≡ None
absent-stop text place r read within absent =
    let rest : List Token = tokens_from (λ _. is_in_force []) 0 place (drop place text) in
    base-is text (read.done ++ rest) (tokens-append (λ _. is_in_force []) text 0 place (length text) read.done rest read.tokens (rest-tokens (λ _. is_in_force []) text place within))
    ∙ read.ends rest ∙ ap (λ s. end_from text s rest) absent ∙ absent-ends text rest

-- nor where the text does
pub end-stop : (text : List ℕ) (place : ℕ) (r : Reading) → IsRead text place r → place ≡ length text → header_end text ≡ None
end-stop text place r read end =
    base-is text read.done (subst (λ p. AreTokensBetween (λ _. is_in_force []) text 0 p read.done) end read.tokens)
    ∙ ap (end_from text Start) (sym (append-nil read.done)) ∙ read.ends []

-- the function tells the header or that there is none
pub from-tells : (text : List ℕ) (place : ℕ) (r : Reading) (ts : List Token) → IsRead text place r → AreTokensBetween (λ _. is_in_force []) text place (length text) ts → MatchOption (header_from text r ts) (HasNoHeader text) (HasHeader text)
from-tells text place r [] read end = read-end text place r read end
from-tells text place r (t ∷ ts) read (starts, token, rest) =
    go (is_ended (advanced text t r).stage) refl (λ (on : is_ended (advanced text t r).stage ≡ false). from-tells text t.range.stop (advanced text t r) ts (read-on text place r t read (starts, token) on) rest)
  where
    go : (b : Bool) → is_ended (advanced text t r).stage ≡ b → (is_ended (advanced text t r).stage ≡ false → MatchOption (header_from text (advanced text t r) ts) (HasNoHeader text) (HasHeader text)) → MatchOption (if b then Some (advanced text t r).header else header_from text (advanced text t r) ts) (HasNoHeader text) (HasHeader text)
    go true ended more = read-header text place r t read (starts, token) (between-rises (λ _. is_in_force []) text t.range.stop (length text) ts rest) (ended-is (advanced text t r).stage ended)
    go false on more = more on

pub in-tells : (text : List ℕ) → MatchOption (header_in text) (HasNoHeader text) (HasHeader text)
in-tells text = from-tells text 0 empty_reading (tokens_under (λ _. is_in_force []) text) (read-start text) (all-tokens (λ _. is_in_force []) text)

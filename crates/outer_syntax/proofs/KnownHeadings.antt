-- Reading word by word finds just the header that the proper tokens begin with.
use Rattle.std.proofs.Common.{◌≡◌, ℕ, zero, suc, ◌+◌, ◌-◌, ◌<◌, ◌≤◌, Bool, true, false, Option, None, Some, List, [], ◌∷◌, ◌++◌, length, take, drop, sym, refl, ap, ◌∙◌, subst, ⊎_elim, arith, append_assoc, length-append, length-take-le, length-drop}
use Rattle.std.specs.Prelude.{if◌then◌else◌, slice_get}
use Rattle.std.proofs.lemmas.Bool.{both_ways, cases_lt, cond-true, cond-false}
use Rattle.std.proofs.lemmas.List.{take_at, map-append, length-map, take-map, take-take, take-append-drop}
use Rattle.outer_syntax.specs.Kinds.{is_proper}
use Rattle.outer_syntax.specs.Tokens.{text_of}
use Rattle.outer_syntax.specs.Headings.{Heading, Word, words, words_of, IsHeading, proper, EndsHeading, IsHeadingEnd}
use Rattle.outer_syntax.specs.Stages.{after_word, after_token, is_ended, end_from}
use Rattle.outer_syntax.specs.declared.stage.Stage.{Stage}
use Rattle.outer_syntax.specs.declared.stage.Stage.TheVariants.{Start, Ended}
use Rattle.outer_syntax.specs.declared.token.Token.{Token}
use Rattle.outer_syntax.proofs.StageLemmas.{strict, strict-is, after_words, after-both, past-end, run-words}
use Rattle.outer_syntax.proofs.KnownParts.{Parts, collect, Sofar}
use Rattle.outer_syntax.proofs.KnownStages.{further, ended-is}
use Rattle.outer_syntax.proofs.KnownProper.{proper-some, proper-none}

-- what is known where reading goes on without an end
goes-on : (o : Option ℕ) (stop : ℕ) (b : Bool) → (if b then Some stop else o) ≡ None → (b ≡ false) × (o ≡ None)
goes-on o stop true none = absurd (cc (none))
goes-on o stop false none = (refl, none)

none-step : (text : List ℕ) (s : Stage) (t : Token) (ts : List Token) (m : ℕ) → is_ended s ≡ false → end_from text s (t ∷ ts) ≡ None → is_ended (after_words s (words text (take (suc m) (proper (t ∷ ts))))) ≡ true → ((s' : Stage) (k : ℕ) → is_ended s' ≡ false → end_from text s' ts ≡ None → is_ended (after_words s' (words text (take k (proper ts)))) ≡ true → ⊥) → (b : Bool) → is_proper t.kind ≡ b → ⊥
none-step text s t ts m on none ended more true e =
    let w : Word = (t.kind, text_of text t) in
    let rest = goes-on (end_from text (after_token text s t) ts) t.range.stop (is_ended (after_token text s t)) none in
    let here : after_token text s t ≡ after_word s w = cond-true (is_proper t.kind) (after_word s w) s e in
    let at : strict s w ≡ after_token text s t = strict-is s w on ∙ sym here in
    more (after_token text s t) m rest.0 rest.1
    (sym (ap (λ x. is_ended (after_words x (words text (take m (proper ts))))) at) ∙ sym (ap (λ r. is_ended (after_words s (words text (take (suc m) r)))) (proper-some t ts e)) ∙ ended)
none-step text s t ts m on none ended more false e =
    let w : Word = (t.kind, text_of text t) in
    let rest = goes-on (end_from text (after_token text s t) ts) t.range.stop (is_ended (after_token text s t)) none in
    let here : after_token text s t ≡ s = cond-false (is_proper t.kind) (after_word s w) s e in
    more s (suc m) on (ap (λ x. end_from text x ts) (sym here) ∙ rest.1)
    (sym (ap (λ r. is_ended (after_words s (words text (take (suc m) r)))) (proper-none t ts e)) ∙ ended)

-- where reading comes to no end, no words that would bring it to one stand there
none-end : (text : List ℕ) (s : Stage) (ts : List Token) (m : ℕ) → is_ended s ≡ false → end_from text s ts ≡ None → is_ended (after_words s (words text (take m (proper ts)))) ≡ true → ⊥
none-end text s ts zero on none ended = both_ways (is_ended s) on ended
none-end text s [] (suc m) on none ended = both_ways (is_ended s) on ended
none-end text s (t ∷ ts) (suc m) on none ended =
    none-step text s t ts m on none ended (λ (s' : Stage) (k : ℕ). none-end text s' ts k) (is_proper t.kind) refl

get-last : (done : List Token) (t : Token) (rest : List Token) → slice_get (done ++ t ∷ rest) (length done) ≡ Some t
get-last [] t rest = refl
get-last (d ∷ done) t rest = get-last done t rest

pub words-push : (text : List ℕ) (done : List Token) (t : Token) → words text (done ++ t ∷ []) ≡ words text done ++ (t.kind, text_of text t) ∷ []
words-push text done t = map-append (λ (u : Token). (u.kind, text_of text u)) done (t ∷ [])

last-word : (text : List ℕ) (h : Heading) (done : List Token) (t : Token) (rest : List Token) → words text done ++ (t.kind, text_of text t) ∷ [] ≡ words_of h → EndsHeading text (done ++ t ∷ rest) t.range.stop
last-word text h done t rest is =
    let n : ℕ = length done + 1 in
    let before : n - 1 ≡ length done = omega arith in
    let cut : take n (done ++ t ∷ rest) ≡ done ++ t ∷ [] =
    ap (take n) (sym (append_assoc done (t ∷ []) rest)) ∙ take_at (done ++ t ∷ []) rest n (length-append done (t ∷ []) ∙ omega arith) in (
      h,
      n,
      t,
      record { within = omega (arith, length-append done (t ∷ rest)); spelled = ap (words text) cut ∙ words-push text done t ∙ is },
      ap (slice_get (done ++ t ∷ rest)) before ∙ get-last done t rest,
      refl,
    )

-- one proper token more
some-step : (text : List ℕ) (s' : Stage) (p' : Parts) (done : List Token) (t : Token) (ts : List Token) (stop : ℕ) → Sofar s' p' (words text done ++ (t.kind, text_of text t) ∷ []) → ((s : Stage) (p : Parts) (before : List Token) → is_ended s ≡ false → Sofar s p (words text before) → end_from text s ts ≡ Some stop → EndsHeading text (before ++ proper ts) stop) → (b : Bool) → is_ended s' ≡ b → (if b then Some t.range.stop else end_from text s' ts) ≡ Some stop → EndsHeading text (done ++ t ∷ proper ts) stop
some-step text s' p' done t ts stop so more true e found =
    let at = subst (λ s. Sofar s p' (words text done ++ (t.kind, text_of text t) ∷ [])) (ended-is s' e) so in
    let same : t.range.stop ≡ stop = cc (found) in
    subst (EndsHeading text (done ++ t ∷ proper ts)) same (last-word text p'.0 done t (proper ts) at.1)
some-step text s' p' done t ts stop so more false e found =
    subst (λ r. EndsHeading text r stop) (append_assoc done (t ∷ []) (proper ts))
    (more s' p' (done ++ t ∷ []) e (subst (Sofar s' p') (sym (words-push text done t)) so) found)

some-token : (text : List ℕ) (s : Stage) (p : Parts) (done : List Token) (t : Token) (ts : List Token) (stop : ℕ) → is_ended s ≡ false → Sofar s p (words text done) → end_from text s (t ∷ ts) ≡ Some stop → ((s : Stage) (p : Parts) (before : List Token) → is_ended s ≡ false → Sofar s p (words text before) → end_from text s ts ≡ Some stop → EndsHeading text (before ++ proper ts) stop) → (b : Bool) → is_proper t.kind ≡ b → EndsHeading text (done ++ proper (t ∷ ts)) stop
some-token text s p done t ts stop on so found more true e =
    let w : Word = (t.kind, text_of text t) in
    let here : after_token text s t ≡ after_word s w = cond-true (is_proper t.kind) (after_word s w) s e in
    subst (λ r. EndsHeading text (done ++ r) stop) (sym (proper-some t ts e))
    (some-step text (after_word s w) (collect (after_word s w) w.1 p) done t ts stop (further s p (words text done) w on so) more (is_ended (after_word s w)) refl
    (sym (ap (λ x. if is_ended x then Some t.range.stop else end_from text x ts) here) ∙ found))
some-token text s p done t ts stop on so found more false e =
    let w : Word = (t.kind, text_of text t) in
    let here : after_token text s t ≡ s = cond-false (is_proper t.kind) (after_word s w) s e in
    subst (λ r. EndsHeading text (done ++ r) stop) (sym (proper-none t ts e))
    (more s p done on so (sym (cond-false (is_ended s) (Some t.range.stop) (end_from text s ts) on) ∙ sym (ap (λ x. if is_ended x then Some t.range.stop else end_from text x ts) here) ∙ found))

-- where reading ends, a header stands
some-end : (text : List ℕ) (s : Stage) (p : Parts) (done ts : List Token) (stop : ℕ) → is_ended s ≡ false → Sofar s p (words text done) → end_from text s ts ≡ Some stop → EndsHeading text (done ++ proper ts) stop
some-end text s p done [] stop on so found = absurd (cc (found))
some-end text s p done (t ∷ ts) stop on so found =
    some-token text s p done t ts stop on so found (λ (s' : Stage) (p' : Parts) (before : List Token). some-end text s' p' before ts stop) (is_proper t.kind) refl

abbrev pub nothing-read : Parts
nothing-read = (record { name = []; imports = []; pairs = [] }, [])

pub heading-end : (text : List ℕ) (base : List Token) → IsHeadingEnd text (proper base) (end_from text Start base)
heading-end text base = go (end_from text Start base) refl where
  go : (o : Option ℕ) → end_from text Start base ≡ o → IsHeadingEnd text (proper base) o
  go None none = λ h n is. none-end text Start base n refl none (ap (λ ws. is_ended (after_words Start ws)) is.spelled ∙ ap is_ended (run-words h))
  go (Some stop) found = some-end text Start nothing-read [] base stop refl ((refl, refl), refl) found

-- no header is longer than another at the same front
not-longer : (text : List ℕ) (tokens : List Token) (h k : Heading) (m n : ℕ) → IsHeading text tokens h m → IsHeading text tokens k n → m < n → ⊥
not-longer text tokens h k m n one other less =
    let ws : List Word = words text (take n tokens) in
    let size : length ws ≡ n = length-map {B = Word} (take n tokens) (λ (t : Token). (t.kind, text_of text t)) ∙ length-take-le n tokens other.within in
    let start : take m ws ≡ words_of h = take-map (λ (t : Token). (t.kind, text_of text t)) m (take n tokens) ∙ ap (words text) (take-take m n tokens (omega arith)) ∙ one.spelled in
    let at : after_words Start (take m ws) ≡ Ended = ap (after_words Start) start ∙ run-words h in
    let whole : after_words Start ws ≡ after_words Ended (drop m ws) =
    ap (after_words Start) (sym (take-append-drop m ws)) ∙ after-both Start (take m ws) (drop m ws) ∙ ap (λ s. after_words s (drop m ws)) at in
    let ended : is_ended (after_words Start ws) ≡ true = ap (λ x. is_ended (after_words Start x)) other.spelled ∙ ap is_ended (run-words k) in
    both_ways (is_ended (after_words Start ws)) (ap is_ended whole ∙ past-end (drop m ws) (omega (arith, size, length-drop m ws))) ended

pub one-size : (text : List ℕ) (tokens : List Token) (h k : Heading) (m n : ℕ) → IsHeading text tokens h m → IsHeading text tokens k n → m ≡ n
one-size text tokens h k m n one other =
    ⊎_elim (λ (less : m < n). absurd (not-longer text tokens h k m n one other less))
    (λ (above : n ≤ m). ⊎_elim (λ (less : n < m). absurd (not-longer text tokens k h n m other one less)) (λ (below : m ≤ n). omega arith) (cases_lt n m)) (cases_lt m n)

-- a header ends at one place
pub one-end : (text : List ℕ) (tokens : List Token) (a b : Option ℕ) → IsHeadingEnd text tokens a → IsHeadingEnd text tokens b → a ≡ b
one-end text tokens None None one other = refl
one-end text tokens None (Some q) one other = absurd (one other.0 other.1 other.3)
one-end text tokens (Some p) None one other = absurd (other one.0 one.1 one.3)
one-end text tokens (Some p) (Some q) one other =
    let sizes : one.1 ≡ other.1 = one-size text tokens one.0 other.0 one.1 other.1 one.3 other.3 in
    let same : Some one.2 ≡ Some other.2 = sym one.4 ∙ ap (λ n. slice_get tokens (n - 1)) sizes ∙ other.4 in
    let last : one.2 ≡ other.2 = cc (same) in
    ap Some (sym one.5 ∙ ap (λ (t : Token). t.range.stop) last ∙ other.5)

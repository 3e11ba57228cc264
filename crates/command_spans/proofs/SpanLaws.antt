-- The tokens are cut into spans in one way, and these join to the text.
use Rattle.std.proofs.Common.{◌≡◌, ℕ, zero, suc, ◌-◌, ◌<◌, ◌≤◌, Bool, true, Some, List, [], ◌∷◌, ◌++◌, length, get_or, drop, map, sym, refl, ap, ◌∙◌, subst, ⊎_elim, arith}
use Rattle.std.specs.Prelude.{slice_get}
use Rattle.std.specs.List.{flat_map}
use Rattle.std.proofs.lemmas.Bool.{both_ways, cases_lt}
use Rattle.std.proofs.lemmas.List.Concat.{flat_map-cons}
use Rattle.text_words.specs.Pieces.{text_between, joined, Tiles}
use Rattle.text_words.proofs.KnownPieces.{tiles-whole}
use Rattle.outer_syntax.specs.Headings.{names_at}
use Rattle.outer_syntax.specs.Tokens.{AreTokensBetween}
use Rattle.outer_syntax.specs.declared.kind.Kind.TheVariants as kind
use Rattle.outer_syntax.specs.declared.token.Token.{Token}
use Rattle.outer_syntax.proofs.KnownProper.{command-proper}
use Rattle.command_spans.specs.Spans.{Is, proper_token, command_token, RunsTo, IsSpan, Covers, AreSpansOf, AreSpans}
use Rattle.command_spans.specs.declared.span.SpanKind.{SpanKind}
use Rattle.command_spans.specs.declared.span.SpanKind.TheVariants.{Command, Malformed, Ignored}
use Rattle.command_spans.specs.declared.span.Span.{Span}
use Rattle.command_spans.proofs.SpanLemmas.{span-within}

some_token : Token
some_token = record { kind = kind.Space; range = record { start = 0; stop = 0 } }

run-not-less : (ts : List Token) (m n : ℕ) → RunsTo ts m → RunsTo ts n → m < n → ⊥
run-not-less ts m n one other less =
    let next = one.next in
    ⊎_elim
    (λ (before : n - 1 < next.0). both_ways (proper_token (get_or ts (n - 1) some_token)) (next.3 (n - 1) some_token (omega arith) before) (other.ends some_token))
    (λ (past : next.0 ≤ n - 1).
    both_ways (command_token (get_or ts next.0 some_token))
    (other.no_other next.0 some_token (omega (arith, one.some, next.1)) (omega (arith, less, past)))
    (next.4 (omega (arith, other.within, less, past)) some_token))
    (cases_lt (n - 1) next.0)

run-one : (ts : List Token) (m n : ℕ) → RunsTo ts m → RunsTo ts n → m ≡ n
run-one ts m n one other =
    ⊎_elim
    (λ (less : m < n). absurd (run-not-less ts m n one other less))
    (λ (above : n ≤ m). ⊎_elim (λ (less : n < m). absurd (run-not-less ts n m other one less)) (λ (below : m ≤ n). omega arith) (cases_lt n m))
    (cases_lt m n)

ignored-one : (ts : List Token) (m n : ℕ) → IsSpan Ignored ts m → IsSpan Ignored ts n → m ≡ n
ignored-one ts m n one other =
    ⊎_elim
    (λ (less : m < n). absurd (both_ways (proper_token (get_or ts m some_token)) (other.2 m some_token (omega arith) less) (one.3 (omega (arith, less, other.1)) some_token)))
    (λ (above : n ≤ m).
    ⊎_elim
    (λ (less : n < m). absurd (both_ways (proper_token (get_or ts n some_token)) (one.2 n some_token (omega arith) less) (other.3 (omega (arith, less, one.1)) some_token)))
    (λ (below : m ≤ n). omega arith)
    (cases_lt n m))
    (cases_lt m n)

not-ignored : (ts : List Token) (n : ℕ) → IsSpan Ignored ts n → Is proper_token true ts 0 → ⊥
not-ignored ts n is proper = both_ways (proper_token (get_or ts 0 some_token)) (is.2 0 some_token (omega arith) is.0) (proper some_token)

command-first : (ts : List Token) → Is command_token true ts 0 → Is proper_token true ts 0
command-first ts is d = command-proper (get_or ts 0 d).kind (is d)

span-one : (k q : SpanKind) (ts : List Token) (m n : ℕ) → IsSpan k ts m → IsSpan q ts n → (k ≡ q) × (m ≡ n)
span-one Command Command ts m n one other = (refl, run-one ts m n one.1 other.1)
span-one Command Malformed ts m n one other = absurd (both_ways (command_token (get_or ts 0 some_token)) (other.0 some_token) (one.0 some_token))
span-one Command Ignored ts m n one other = absurd (not-ignored ts n other (command-first ts one.0))
span-one Malformed Command ts m n one other = absurd (both_ways (command_token (get_or ts 0 some_token)) (one.0 some_token) (other.0 some_token))
span-one Malformed Malformed ts m n one other = (refl, run-one ts m n one.2 other.2)
span-one Malformed Ignored ts m n one other = absurd (not-ignored ts n other one.1)
span-one Ignored Command ts m n one other = absurd (not-ignored ts m one (command-first ts other.0))
span-one Ignored Malformed ts m n one other = absurd (not-ignored ts m one other.1)
span-one Ignored Ignored ts m n one other = (refl, ignored-one ts m n one other)

covered : (ts : List Token) (s u : Span) (m n : ℕ) → s.kind ≡ u.kind → m ≡ n → Covers s ts m → Covers u ts n → s ≡ u
covered ts s u m n kinds sizes one other =
    let first_same : Some one.0 ≡ Some other.0 = sym one.2 ∙ other.2 in
    let last_same : Some one.1 ≡ Some other.1 = sym one.3 ∙ ap (λ k. slice_get ts (k - 1)) sizes ∙ other.3 in
    let firsts : one.0 ≡ other.0 = cc (first_same) in
    let lasts : one.1 ≡ other.1 = cc (last_same) in
    let starts : s.range.start ≡ u.range.start = one.4 ∙ ap (λ (t : Token). t.range.start) firsts ∙ sym other.4 in
    let stops : s.range.stop ≡ u.range.stop = one.5 ∙ ap (λ (t : Token). t.range.stop) lasts ∙ sym other.5 in
    λ i. record { kind = kinds i; range = record { start = starts i; stop = stops i } }

pub one-cut : (ts : List Token) (a b : List Span) → AreSpansOf ts a → AreSpansOf ts b → a ≡ b
one-cut ts [] [] one other = refl
one-cut ts [] (u ∷ us) one other = let within = span-within u.kind ts other.0 other.1 in absurd (omega (arith, within.0, within.1, ap length one))
one-cut ts (s ∷ ss) [] one other = let within = span-within s.kind ts one.0 one.1 in absurd (omega (arith, within.0, within.1, ap length other))
one-cut ts (s ∷ ss) (u ∷ us) one other =
    let same = span-one s.kind u.kind ts one.0 other.0 one.1 other.1 in
    let heads : s ≡ u = covered ts s u one.0 other.0 same.0 same.1 one.2 other.2 in
    let tails : ss ≡ us = one-cut (drop one.0 ts) ss us one.3 (subst (λ n. AreSpansOf (drop n ts) us) (sym same.1) other.3) in
    λ i. heads i ∷ tails i

-- after some tokens the next ones begin where the last of these ends
tokens-after : (names : ℕ → List ℕ → Bool) (text : List ℕ) (from to : ℕ) (ts : List Token) (k : ℕ) (last : Token) → AreTokensBetween names text from to ts → slice_get ts k ≡ Some last → AreTokensBetween names text last.range.stop to (drop (suc k) ts) × (from < last.range.stop)
tokens-after names text from to [] k last tokens at = absurd (cc)
tokens-after names text from to (t ∷ ts) zero last (starts, token, rest) at =
    let same : t ≡ last = cc (at) in
    (subst (λ (x : Token). AreTokensBetween names text x.range.stop to ts) same rest, subst (λ (x : Token). from < x.range.stop) same (omega (arith, starts, token.1)))
tokens-after names text from to (t ∷ ts) (suc k) last (starts, token, rest) at =
    let more = tokens-after names text t.range.stop to ts k last rest at in (more.0, omega (arith, more.1, starts, token.1))

tokens-first : (names : ℕ → List ℕ → Bool) (text : List ℕ) (from to : ℕ) (ts : List Token) (first : Token) → AreTokensBetween names text from to ts → slice_get ts 0 ≡ Some first → first.range.start ≡ from
tokens-first names text from to [] first tokens at = absurd (cc)
tokens-first names text from to (t ∷ ts) first (starts, token, rest) at = let same : t ≡ first = cc (at) in ap (λ (x : Token). x.range.start) (sym same) ∙ starts

-- where a span begins and where it ends
abbrev place_of : Span → ℕ × ℕ
place_of s = (s.range.start, s.range.stop)

-- spans tile what their tokens do
tiles : (names : ℕ → List ℕ → Bool) (text : List ℕ) (from to : ℕ) (ts : List Token) (ss : List Span) → AreTokensBetween names text from to ts → AreSpansOf ts ss → Tiles from to (map place_of ss)
tiles names text from to ts [] tokens none = subst (λ x. AreTokensBetween names text from to x) none tokens
tiles names text from to ts (s ∷ ss) tokens (n, is, covers, more) =
    let within = span-within s.kind ts n is in
    let starts : s.range.start ≡ from = covers.4 ∙ tokens-first names text from to ts covers.0 tokens covers.2 in
    let count : suc (n - 1) ≡ n = omega (arith, within.0) in
    let after = tokens-after names text from to ts (n - 1) covers.1 tokens covers.3 in
    let next = subst (λ (p : ℕ × ℕ). AreTokensBetween names text p.0 to (drop p.1 ts)) (λ i. (sym covers.5 i, count i)) after.0 in
    (starts, omega (arith, after.1, covers.5, starts), tiles names text s.range.stop to (drop n ts) ss next more)

joins-as : (text : List ℕ) (ss : List Span) → flat_map (λ (s : Span). text_between text s.range.start s.range.stop) ss ≡ joined text (map place_of ss)
joins-as text [] = refl
joins-as text (s ∷ ss) =
    flat_map-cons (λ (u : Span). text_between text u.range.start u.range.stop) s ss
    ∙ ap (λ r. text_between text s.range.start s.range.stop ++ r) (joins-as text ss)
    ∙ sym (flat_map-cons (λ (p : ℕ × ℕ). text_between text p.0 p.1) (place_of s) (map place_of ss))

pub joined-all : (text : List ℕ) (aliases : List (List ℕ)) (ss : List Span) → AreSpans text aliases ss → flat_map (λ s. text_between text s.range.start s.range.stop) ss ≡ text
joined-all text aliases ss (ts, (base, end, under, ends, tokens), cut) =
    joins-as text ss ∙ tiles-whole text (map place_of ss) (tiles (names_at end aliases) text 0 (length text) ts ss tokens cut)

-- The words of a header among those of a text.
use Rattle.std.proofs.Common.{◌≡◌, ℕ, ◌+◌, ◌-◌, true, false, List, [], ◌∷◌, ◌++◌, length, map, take, refl, sym, ap, ◌∙◌, arith}
use Rattle.std.proofs.lemmas.Bool.{false≢true}
use Rattle.std.proofs.lemmas.List.{length-append, length-map, take-append-le}
use Rattle.std.specs.Prelude.{if◌then◌else◌}
use Rattle.std.specs.List.{AllByRecursion, take-map}
use Rattle.outer_syntax.specs.Headings.{Heading, IsHeading, Word, words, proper}
use Rattle.outer_syntax.specs.Kinds.{is_proper}
use Rattle.outer_syntax.specs.Renaming.{is_word}
use Rattle.outer_syntax.specs.Tokens.{text_of}
use Rattle.outer_syntax.specs.Words.{is_in_force, kind_of}
use Rattle.outer_syntax.specs.declared.kind.Kind.{Kind}
use Rattle.outer_syntax.specs.declared.kind.Kind.TheVariants as kind
use Rattle.outer_syntax.specs.declared.row.Row.TheVariants as row
use Rattle.outer_syntax.specs.declared.token.Token.{Token}
use Rattle.buffer_laws.proofs.BareTexts.{IsImproper}
use Rattle.buffer_laws.proofs.HeaderTokens.{base}

no_word : (k : Kind) → is_proper k ≡ false → is_word k ≡ false
no_word kind.Space e = refl
no_word kind.Comment e = refl
no_word kind.String e = absurd (false≢true (sym e))
no_word kind.Cartouche e = absurd (false≢true (sym e))
no_word kind.Error e = absurd (false≢true (sym e))
no_word kind.Symbol e = absurd (false≢true (sym e))
no_word kind.LongIdent e = absurd (false≢true (sym e))
no_word kind.Command e = absurd (false≢true (sym e))
no_word kind.Keyword e = absurd (false≢true (sym e))
no_word kind.Ident e = absurd (false≢true (sym e))
no_word kind.Sym e = absurd (false≢true (sym e))

-- improper tokens stay improper
pub none_based : (aliases : List (List ℕ)) (text : List ℕ) (ts : List Token) → AllByRecursion IsImproper ts → proper (map (base aliases text) ts) ≡ []
none_based aliases text [] all = refl
none_based aliases text (t ∷ ts) all =
    ap (λ b. proper ((if b then record t { kind = kind_of (is_in_force []) row.Word (text_of text t) } else t) ∷ map (base aliases text) ts)) (no_word t.kind all.0)
    ∙ ap (λ b. if b then t ∷ proper (map (base aliases text) ts) else proper (map (base aliases text) ts)) all.0
    ∙ none_based aliases text ts all.1

-- a header at the front of some words is one of them and others
pub heading_on : (one other : List ℕ) (xs ys : List Token) (more : List Word) (h : Heading) (n : ℕ) → words other ys ≡ words one xs ++ more
    → IsHeading one xs h n → IsHeading other ys h n
heading_on one other xs ys more h n same is =
    let long : length xs ≡ length (words one xs) = sym (length-map xs (λ (t : Token). (t.kind, text_of one t))) in
    let other_long : length (words other ys) ≡ length ys = length-map ys (λ (t : Token). (t.kind, text_of other t)) in
    let both : length (words other ys) ≡ length (words one xs) + length more = ap length same ∙ length-append (words one xs) more in
    record {
      within = omega (arith, is.within, long, other_long, both);
      spelled = sym (take-map (λ (t : Token). (t.kind, text_of other t)) n ys) ∙ ap (take n) same
          ∙ take-append-le n (words one xs) more (omega (arith, is.within, long))
          ∙ take-map (λ (t : Token). (t.kind, text_of one t)) n xs ∙ is.spelled;
    }

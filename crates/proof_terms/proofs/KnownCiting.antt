-- Each name that a term cites stands on one of the tokens that the term was read from.
use Rattle.std.proofs.Common.{◌≡◌, ℕ, ◌==◌, Bool, true, false, if◌then◌else◌, List, [], ◌∷◌, Ok, refl, inl, inr, subst}
use Rattle.std.specs.List.{AllByRecursion}
use Rattle.pide_base.specs.declared.range.Range.{Range}
use Rattle.outer_syntax.specs.declared.kind.Kind.{Kind}
use Rattle.outer_syntax.specs.declared.kind.Kind.TheVariants as kind
use Rattle.outer_syntax.specs.declared.token.Token.{Token}
use Rattle.outer_syntax.specs.Tokens.{text_of}
use Rattle.proof_terms.specs.Marks.{is_ascii, mark, marks}
use Rattle.proof_terms.specs.declared.mark.Mark.TheVariants.{Opens, Closes, Name, Long, Other}
use Rattle.proof_terms.specs.declared.term.Term.{Term}
use Rattle.proof_terms.specs.Cited.{cites_of, IsPlaceOf}
use Rattle.proof_terms.specs.Reading.{proof_of}
use Rattle.proof_terms.proofs.CitingLemmas.{IsMark, AreMarks, IfProof, proof-good}

module _ (P : Range → Type 0) where
  mark-is : (k : Kind) (s : List ℕ) (r : Range) → P r → IsMark P (mark k s r)
  mark-is kind.Ident s r p = go (is_ascii s)
    where
      go : (b : Bool) → IsMark P (if b then Name (record { name = s; range = r }) else Other)
      go true = p
      go false = tt
  mark-is kind.LongIdent s r p = go (is_ascii s)
    where
      go : (b : Bool) → IsMark P (if b then Long (record { name = s; range = r }) else Other)
      go true = p
      go false = tt
  mark-is kind.Sym [] r p = tt
  mark-is kind.Sym (c ∷ []) r p = go (c == 40) (c == 41)
    where
      go : (b d : Bool) → IsMark P (if b then Opens else (if d then Closes else Other))
      go true d = tt
      go false true = tt
      go false false = tt
  mark-is kind.Sym (c ∷ d ∷ more) r p = tt
  mark-is _ s r p = tt

  pub marks-are : (source : List ℕ) (ts : List Token) → AllByRecursion (λ t. P t.range) ts → AreMarks P (marks source ts)
  marks-are source [] all = tt
  marks-are source (t ∷ ts) all = (mark-is t.kind (text_of source t) t.range all.0, marks-are source ts all.1)

-- each token's range is that of one of them
pub in_more : (t : Token) (ts us : List Token) → AllByRecursion (λ u. IsPlaceOf ts u.range) us → AllByRecursion (λ u. IsPlaceOf (t ∷ ts) u.range) us
in_more t ts [] all = tt
in_more t ts (u ∷ us) all = (inr all.0, in_more t ts us all.1)

pub all_in : (ts : List Token) → AllByRecursion (λ t. IsPlaceOf ts t.range) ts
all_in [] = tt
all_in (t ∷ ts) = (inl refl, in_more t ts ts (all_in ts))

pub cited_on_tokens : (source : List ℕ) (tokens : List Token) (t : Term) → proof_of (marks source tokens) ≡ Ok t
    → AllByRecursion (λ c. IsPlaceOf tokens c.range) (cites_of t)
cited_on_tokens source tokens t e = subst (IfProof (IsPlaceOf tokens)) e
    (proof-good (IsPlaceOf tokens) (marks source tokens) (marks-are (IsPlaceOf tokens) source tokens (all_in tokens)))

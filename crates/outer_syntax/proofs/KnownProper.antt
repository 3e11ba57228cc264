-- The proper ones of tokens put together, and that a command is one.
use Rattle.std.proofs.Common.{◌≡◌, Bool, true, false, cond, List, [], ◌∷◌, ◌++◌, sym, refl, ap, ◌∙◌}
use Rattle.std.proofs.lemmas.Bool.{cond-true, cond-false}
use Rattle.std.proofs.lemmas.List.{append-nil}
use Rattle.outer_syntax.specs.Kinds.{is_proper, is_command}
use Rattle.outer_syntax.specs.Headings.{proper}
use Rattle.outer_syntax.specs.declared.kind.Kind.{Kind}
use Rattle.outer_syntax.specs.declared.kind.Kind.TheVariants as kind
use Rattle.outer_syntax.specs.declared.token.Token.{Token}

pub command-proper : (k : Kind) → is_command k ≡ true → is_proper k ≡ true
command-proper kind.Command e = refl
command-proper _ e = cc

pub proper-cons : (t : Token) (ts : List Token) → proper (t ∷ ts) ≡ cond (is_proper t.kind) (t ∷ proper ts) (proper ts)
proper-cons t ts = refl

pub proper-some : (t : Token) (ts : List Token) → is_proper t.kind ≡ true → proper (t ∷ ts) ≡ t ∷ proper ts
proper-some t ts e = proper-cons t ts ∙ cond-true (is_proper t.kind) (t ∷ proper ts) (proper ts) e

pub proper-none : (t : Token) (ts : List Token) → is_proper t.kind ≡ false → proper (t ∷ ts) ≡ proper ts
proper-none t ts e = proper-cons t ts ∙ cond-false (is_proper t.kind) (t ∷ proper ts) (proper ts) e

pub proper-push : (ts : List Token) (t : Token) → is_proper t.kind ≡ true → proper (ts ++ t ∷ []) ≡ proper ts ++ t ∷ []
proper-push [] t e = proper-some t [] e
proper-push (x ∷ ts) t e = go (is_proper x.kind) refl (proper-push ts t e) where
  go : (b : Bool) → is_proper x.kind ≡ b → proper (ts ++ t ∷ []) ≡ proper ts ++ t ∷ [] → proper (x ∷ ts ++ t ∷ []) ≡ proper (x ∷ ts) ++ t ∷ []
  go true p more = proper-some x (ts ++ t ∷ []) p ∙ ap (λ r. x ∷ r) more ∙ ap (λ r. r ++ t ∷ []) (sym (proper-some x ts p))
  go false p more = proper-none x (ts ++ t ∷ []) p ∙ more ∙ ap (λ r. r ++ t ∷ []) (sym (proper-none x ts p))

pub proper-both : (xs ys : List Token) → proper (xs ++ ys) ≡ proper xs ++ proper ys
proper-both [] ys = refl
proper-both (x ∷ xs) ys = go (is_proper x.kind) refl (proper-both xs ys) where
  go : (b : Bool) → is_proper x.kind ≡ b → proper (xs ++ ys) ≡ proper xs ++ proper ys → proper (x ∷ xs ++ ys) ≡ proper (x ∷ xs) ++ proper ys
  go true p more = proper-some x (xs ++ ys) p ∙ ap (λ r. x ∷ r) more ∙ ap (λ r. r ++ proper ys) (sym (proper-some x xs p))
  go false p more = proper-none x (xs ++ ys) p ∙ more ∙ ap (λ r. r ++ proper ys) (sym (proper-none x xs p))

pub proper-skip : (ts : List Token) (t : Token) → is_proper t.kind ≡ false → proper (ts ++ t ∷ []) ≡ proper ts
proper-skip ts t e = proper-both ts (t ∷ []) ∙ ap (λ r. proper ts ++ r) (proper-none t [] e) ∙ append-nil (proper ts)

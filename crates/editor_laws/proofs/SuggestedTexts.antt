-- The text of a suggested proof is plain.
use Rattle.std.proofs.Common.{◌≡◌, ℕ, zero, suc, List, [], ◌∷◌, ◌+◌, codes, Option, Some, None}
use Rattle.std.proofs.Common.{IfSome, refl}
use Rattle.text_words.proofs.KnownLists.{each-passing}
use Rattle.nj_formula.specs.declared.formula.Formula.{Formula, out-Formula}
use Rattle.nj_formula.specs.declared.formula.Formula.TheOpen.{Formula-F}
use Rattle.nj_formula.specs.declared.formula.Formula.TheVariants as F
use Rattle.nj_syntax.specs.Readable.{IsReadable}
use Rattle.theory_ctx.specs.declared.local.Local.{Local}
use Rattle.proof_terms.specs.declared.term.Term.{Term}
use Rattle.suggest_rules.specs.declared.names.Names.{Names}
use Rattle.suggest_rules.specs.Names.{unhidden, citable, next_name, assuming}
use Rattle.suggest_rules.specs.Search as S
use Rattle.suggest_rules.specs.Search.{if_so, citing, first_of, found_by, found_within, suggested}
use Rattle.suggest_rules.specs.TermText.{by_text}
use Rattle.editor_laws.proofs.EachPart.{each_front}
use Rattle.editor_laws.proofs.PlainTexts.{Plain, joined, after, decimal_plain, primes_plain}
use Rattle.nj_syntax.proofs.KnownParts.{and_readable, or_readable, implies_readable}
use Rattle.nj_syntax.proofs.KnownParts.{not_readable, false_readable}
use Rattle.editor_laws.proofs.TermTexts.{text_conj, text_first, text_second, text_left, text_right}
use Rattle.editor_laws.proofs.TermTexts.{text_cases, text_imp, text_follow, text_not, text_denied}
use Rattle.editor_laws.proofs.TermTexts.{text_false}
use Rattle.editor_laws.proofs.FoundTexts.{LocalSaid, LocalsSaid, Goes, nothing, just, goes_if}
use Rattle.editor_laws.proofs.FoundTexts.{goes_or, goes_map, goes_both, cited_plain, goes_cited}
use Rattle.editor_laws.proofs.FoundTexts.{goes_first}

module _ (aliases : List (List ℕ)) where
  next_plain : (names : Names) → Plain (next_name aliases names)
  next_plain names =
      joined (after (codes "h") refl (decimal_plain (names.own + 1))) (primes_plain _)

  module _ (sub : Names → Formula → Option Term)
      (parts : (more : Names) → LocalsSaid more.facts → (g : Formula) → IsReadable g
      → Goes (sub more g))
      (names : Names) (seen : LocalsSaid names.facts) (goal : Formula)
      (readable : IsReadable goal) where
    under : (a g : Formula) → IsReadable a → IsReadable g → Goes (sub (assuming aliases names a) g)
    under a g own shown = parts (assuming aliases names a) ((next_plain names, own), seen) g shown

    here : (g : Formula) → IsReadable g → Goes (sub names g)
    here g shown = parts names seen g shown

    introduced : (layer : Formula-F Formula) → out-Formula goal ≡ layer
        → Goes (S.introduced aliases sub names layer)
    introduced (Formula-F.Implies a b) out =
        let both = implies_readable goal a b out readable in
        goes_if _ (goes_map _ (λ t p. text_imp _ t (next_plain names) p) (under a b both.0 both.1))
    introduced (Formula-F.Not a) out =
        goes_if _ (goes_map _ (λ t p. text_not _ t (next_plain names) p)
        (under a F.False (not_readable goal a out readable) false_readable))
    introduced (Formula-F.And a b) out =
        let both = and_readable goal a b out readable in
        goes_if _ (goes_both _ (λ t u p q. text_conj t u p q) (here a both.0) (here b both.1))
    introduced (Formula-F.Or a b) out =
        let both = or_readable goal a b out readable in
        goes_or (goes_if _ (goes_map _ (λ t p. text_left t p) (here a both.0)))
        (goes_if _ (goes_map _ (λ t p. text_right t p) (here b both.1)))
    introduced Formula-F.False out = nothing
    introduced (Formula-F.Atom p args) out = nothing
    introduced (Formula-F.All y a) out = nothing
    introduced (Formula-F.Exists y a) out = nothing

    eliminated : (local : Local) → LocalSaid local → (layer : Formula-F Formula)
        → out-Formula local.formula ≡ layer
        → Goes (S.eliminated aliases sub names goal (citing local) layer)
    eliminated local said (Formula-F.And a b) out =
        let both = and_readable local.formula a b out said.1 in
        goes_or (goes_if _
        (goes_if _ (just (text_first b (citing local) both.1 (cited_plain local said)))))
        (goes_if _ (goes_if _
        (just (text_second a (citing local) both.0 (cited_plain local said)))))
    eliminated local said (Formula-F.Implies a b) out =
        let both = implies_readable local.formula a b out said.1 in
        goes_if _ (goes_if _
        (goes_map _ (λ t p. text_follow a (citing local) t both.0 (cited_plain local said) p)
        (here a both.0)))
    eliminated local said (Formula-F.Not a) out =
        let own = not_readable local.formula a out said.1 in
        goes_if _ (goes_if _
        (goes_map _ (λ t p. text_denied a (citing local) t own (cited_plain local said) p)
        (here a own)))
    eliminated local said (Formula-F.Or a b) out =
        let both = or_readable local.formula a b out said.1 in
        goes_if _ (goes_both _
        (λ u v p q. text_cases a b (citing local) _ u _ v both.0 both.1 (cited_plain local said)
        (next_plain names) p (next_plain names) q)
        (under a goal both.0 readable) (under b goal both.1 readable))
    eliminated local said Formula-F.False out =
        goes_if _ (just (text_false (citing local) (cited_plain local said)))
    eliminated local said (Formula-F.Atom p args) out = nothing
    eliminated local said (Formula-F.All y a) out = nothing
    eliminated local said (Formula-F.Exists y a) out = nothing

    found_plain : Goes (found_by aliases sub names goal)
    unfolding found_by
    found_plain =
        goes_or (goes_cited _ names.facts seen)
        (goes_or (introduced (out-Formula goal) refl)
        (goes_first _
        (λ local said. eliminated local said
        (out-Formula local.formula) refl) names.facts seen))

  within_plain : (d : ℕ) (names : Names) → LocalsSaid names.facts → (goal : Formula)
      → IsReadable goal → Goes (found_within aliases d names goal)
  unfolding found_within
  within_plain zero names seen goal readable = nothing
  within_plain (suc d) names seen goal readable =
      found_plain (found_within aliases d)
      (λ more inner g shown. within_plain d more inner g shown) names seen goal readable

each_unhidden : (locals : List Local) → LocalsSaid locals → LocalsSaid (unhidden locals)
each_unhidden [] all = tt
each_unhidden (local ∷ locals) all =
    (all.0, each-passing LocalSaid _ (unhidden locals) (each_unhidden locals all.1))

by_plain : (o : Option Term) → Goes o → IfSome o (λ t. Plain (by_text t))
by_plain None is = tt
by_plain (Some t) is = after (codes "by ") refl is.text

pub suggested_plain : (goal : Formula) (locals : List Local) (aliases : List (List ℕ))
    → IsReadable goal → LocalsSaid locals
    → IfSome (suggested goal locals aliases) (λ t. Plain (by_text t))
suggested_plain goal locals aliases readable all =
    by_plain (suggested goal locals aliases)
    (within_plain aliases 4 (citable locals)
    (each_front LocalSaid 16 (unhidden locals) (each_unhidden locals all)) goal readable)

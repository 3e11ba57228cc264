-- A rule that is named by scalars: they are its name, and so ASCII.
use Rattle.std.proofs.Common.{◌==◌, ◌&&◌, ◌≡◌, ℕ, Bool, true, false, cond, List, [], ◌∷◌, length, get_or, take, drop, ◌≤◌, ◌-◌, Option, Some, None, IfSome, Err, refl, ap, sym, subst, ◌∙◌, arith}
use Rattle.std.specs.List.{find}
use Rattle.std.specs.Str.{bytes_eq}
use Rattle.std.proofs.lemmas.Bool.{eq-eqb, eqb-true}
use Rattle.std.proofs.lemmas.List.{take_rest}
use Rattle.std.proofs.lemmas.Slice.Eq.{bytes_eq-Decides}
use Rattle.nj_kernel.specs.RuleNames.{rule_name}
use Rattle.nj_kernel.specs.declared.rule.Rule.{Rule}
use Rattle.nj_kernel.specs.declared.rule.Rule.TheVariants.{ConjI, ConjE1, ConjE2, DisjI1, DisjI2, DisjE, ImpI, ImpE, NotI, NotE, FalseE, AllI, AllE, ExI, ExE}
use Rattle.outer_syntax.specs.Words.{same}
use Rattle.outer_syntax.specs.declared.token.Token.{Token}
use Rattle.outer_syntax.specs.declared.kind.Kind.{Kind}
use Rattle.outer_syntax.specs.declared.kind.Kind.TheVariants.{Ident, LongIdent, Sym}
use Rattle.pide_base.specs.declared.range.Range.{Range}
use Rattle.proof_terms.specs.declared.mark.Mark.{Mark}
use Rattle.proof_terms.specs.declared.mark.Mark.TheVariants.{Name, Long, Opens, Closes, Other}
use Rattle.proof_terms.specs.declared.fault.TermFault.TheVariants.{Malformed}
use Rattle.proof_terms.specs.Marks.{is_ascii, mark, mark_of, marks}
use Rattle.proof_terms.specs.Reading.{of_name, read_rule_name}
use Rattle.proof_terms.specs.RuleNames.{all_rules, rule_of}

equal_turned : (c d : ℕ) → c == d ≡ d == c
equal_turned c d = go (c == d) (d == c) refl refl
  where
    go : (p q : Bool) → c == d ≡ p → d == c ≡ q → p ≡ q
    go true true e h = refl
    go true false e h = let k : d == c ≡ true = eq-eqb d c (sym (eqb-true c d e)) in cc
    go false true e h = let k : c == d ≡ true = eq-eqb c d (sym (eqb-true d c h)) in cc
    go false false e h = refl

-- both tests are of the same scalars
pub same_tests : (x y : List ℕ) → same x y ≡ bytes_eq y x
same_tests [] [] = refl
same_tests [] (d ∷ y) = refl
same_tests (c ∷ x) [] = refl
same_tests (c ∷ x) (d ∷ y) = λ i. equal_turned c d i && same_tests x y i

name_ascii : (r : Rule) → is_ascii (rule_name r) ≡ true
name_ascii ConjI = refl
name_ascii ConjE1 = refl
name_ascii ConjE2 = refl
name_ascii DisjI1 = refl
name_ascii DisjI2 = refl
name_ascii DisjE = refl
name_ascii ImpI = refl
name_ascii ImpE = refl
name_ascii NotI = refl
name_ascii NotE = refl
name_ascii FalseE = refl
name_ascii AllI = refl
name_ascii AllE = refl
name_ascii ExI = refl
name_ascii ExE = refl

named_ascii : (x : List ℕ) (rs : List Rule) → IfSome (find (λ r. bytes_eq (rule_name r) x) rs) (λ _. is_ascii x ≡ true)
named_ascii x [] = tt
named_ascii x (r ∷ rs) = go (named_ascii x rs) (bytes_eq (rule_name r) x) refl
  where
    go : IfSome (find (λ q. bytes_eq (rule_name q) x) rs) (λ _. is_ascii x ≡ true) → (b : Bool) → bytes_eq (rule_name r) x ≡ b
        → IfSome (cond b (Some r) (find (λ q. bytes_eq (rule_name q) x) rs)) (λ _. is_ascii x ≡ true)
    go more true e = subst (λ w. is_ascii w ≡ true) ((bytes_eq-Decides (rule_name r) x).0 e) (name_ascii r)
    go more false e = more

-- scalars that aren't ASCII name no rule
no_rule : (x : List ℕ) (found : Option Rule) → is_ascii x ≡ false → IfSome found (λ _. is_ascii x ≡ true) → found ≡ None
no_rule x None other is = refl
no_rule x (Some r) other is = cc

pub ident_names : (x : List ℕ) (place : Range) (more : List Mark) → read_rule_name (mark Ident x place ∷ more) ≡ of_name (rule_of x) more
ident_names x place more = go (is_ascii x) refl
  where
    go : (b : Bool) → is_ascii x ≡ b → read_rule_name (cond b (Name (record { name = x; range = place })) Other ∷ more) ≡ of_name (rule_of x) more
    go true e = refl
    go false e = ap (λ found. of_name found more) (sym (no_rule x (rule_of x) e (named_ascii x all_rules)))

-- a token of another kind names none
pub other_names : (k : Kind) (x : List ℕ) (place : Range) (more : List Mark) → (k ≡ Ident → ⊥) → read_rule_name (mark k x place ∷ more) ≡ Err Malformed
other_names Ident x place more other = absurd (other refl)
other_names LongIdent x place more other = go (is_ascii x)
  where
    go : (b : Bool) → read_rule_name (cond b (Long (record { name = x; range = place })) Other ∷ more) ≡ Err Malformed
    go true = refl
    go false = refl
other_names Sym [] place more other = refl
other_names Sym (c ∷ []) place more other = go (c == 40) (c == 41)
  where
    go : (opens closes : Bool) → read_rule_name (cond opens Opens (cond closes Closes Other) ∷ more) ≡ Err Malformed
    go true closes = refl
    go false true = refl
    go false false = refl
other_names Sym (c ∷ d ∷ x) place more other = refl
other_names _ x place more other = refl

-- the first of the tokens is read, and the others are left
pub name_read : (source : List ℕ) (rest : List Token) (d : Token) (found : Option Rule) → 1 ≤ length rest
    → ((more : List Mark) → read_rule_name (mark_of source (get_or rest 0 d) ∷ more) ≡ of_name found more)
    → read_rule_name (marks source rest) ≡ of_name found (marks source (take (length rest - 1) (drop 1 rest)))
name_read source [] d found some reads = absurd (omega arith)
name_read source (t ∷ ts) d found some reads = reads (marks source ts) ∙ ap (λ r. of_name found (marks source r)) (sym (take_rest (t ∷ ts) 1))

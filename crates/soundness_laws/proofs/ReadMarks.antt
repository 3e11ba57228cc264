-- What single marks are read as.
use Rattle.std.proofs.Common.{◌≡◌, ℕ, zero, suc, ◌-◌, ◌&&◌, nat_lt, true, cond, List, [], ◌∷◌, ◌++◌, length, Ok, refl, ap, ◌∙◌, arith, length-append, lt-ltb}
use Rattle.std.specs.List.{AllByRecursion, AllPass}
use Rattle.std.proofs.lemmas.Bool.{and_from, cond-true}
use Rattle.std.proofs.lemmas.List.{take_at}
use Rattle.pide_base.specs.declared.range.Range.{Range}
use Rattle.text_words.specs.Identifier.{is_identifier_part, IsIdentifier}
use Rattle.text_words.proofs.KnownIdentifiers.{identifier-parts, part_ascii}
use Rattle.outer_syntax.specs.Brackets.{begins}
use Rattle.outer_syntax.specs.Contents.{first_of, begins_code, first_code, replaced_from, content_of}
use Rattle.outer_syntax.specs.declared.kind.Kind.TheVariants as kind
use Rattle.nj_kernel.specs.declared.rule.Rule.{Rule}
use Rattle.nj_kernel.specs.declared.rule.Rule.TheVariants as R
use Rattle.nj_kernel.specs.RuleNames.{rule_name}
use Rattle.proof_terms.specs.declared.term.Term.TheVariants.{Fact}
use Rattle.proof_terms.specs.Marks.{is_ascii, mark}
use Rattle.proof_terms.specs.Reading.{read_name, read_rule, read_term}
use Rattle.soundness_laws.specs.Lexemes.{IsPlain}

-- a string that has no `"` and no `\` contains what stands in it
first_plain : (c : ℕ) (s : List ℕ) → IsPlain c → first_of c s ≡ (c, 1)
first_plain c s plain = λ i. cond (plain.1 i && begins (34 ∷ []) s) (34, 2) (cond (plain.1 i && begins (92 ∷ []) s) (92, 2) (cond (plain.1 i && begins_code s) (first_code s, 4) (c, 1)))

replaced_plain : (u : List ℕ) → AllByRecursion IsPlain u → replaced_from 0 u ≡ u
replaced_plain [] plain = refl
replaced_plain (c ∷ u) plain = ap (λ p. p.0 ∷ replaced_from (p.1 - 1) u) (first_plain c u plain.0) ∙ ap (λ s. c ∷ s) (replaced_plain u plain.1)

pub content_plain : (u : List ℕ) → AllByRecursion IsPlain u → content_of kind.String (34 ∷ (u ++ 34 ∷ [])) ≡ u
content_plain u plain =
    ap (replaced_from 0) (take_at u (34 ∷ []) (length (34 ∷ (u ++ 34 ∷ [])) - 2) (omega (arith, length-append u (34 ∷ [])))) ∙ replaced_plain u plain

-- identifiers are in ASCII
ascii_passes : (s : List ℕ) → AllPass is_identifier_part s → is_ascii s ≡ true
ascii_passes [] pass = refl
ascii_passes (c ∷ s) pass =
    and_from (nat_lt c 128) (is_ascii s) (lt-ltb c 128 (part_ascii c (pass 0 0 (omega arith)))) (ascii_passes s (λ k d low. pass (suc k) d (omega (arith, low))))

module _ (x : List ℕ) (range : Range) (id : IsIdentifier x) where
  ascii : is_ascii x ≡ true
  ascii = ascii_passes x (identifier-parts x id)

  pub name_read : (rest : _) → read_name (mark kind.Ident x range ∷ rest) ≡ Ok (x, rest)
  name_read rest = ap (λ m. read_name (m ∷ rest)) (cond-true (is_ascii x) _ _ ascii)

  pub fact_read : (n : ℕ) (rest : _) → read_term n (mark kind.Ident x range ∷ rest) ≡ Ok (Fact (record { name = x; range = range }), rest)
  fact_read zero rest = ap (λ m. read_term zero (m ∷ rest)) (cond-true (is_ascii x) _ _ ascii)
  fact_read (suc n) rest = ap (λ m. read_term (suc n) (m ∷ rest)) (cond-true (is_ascii x) _ _ ascii)

-- `(` and a rule's name
pub rule_read : (n : ℕ) (r : Rule) (one other : Range) (rest : _)
    → read_term (suc n) (mark kind.Sym (40 ∷ []) one ∷ mark kind.Ident (rule_name r) other ∷ rest) ≡ read_rule (read_term n) r rest
rule_read n R.ConjI one other rest = refl
rule_read n R.ConjE1 one other rest = refl
rule_read n R.ConjE2 one other rest = refl
rule_read n R.DisjI1 one other rest = refl
rule_read n R.DisjI2 one other rest = refl
rule_read n R.DisjE one other rest = refl
rule_read n R.ImpI one other rest = refl
rule_read n R.ImpE one other rest = refl
rule_read n R.NotI one other rest = refl
rule_read n R.NotE one other rest = refl
rule_read n R.FalseE one other rest = refl
rule_read n R.AllI one other rest = refl
rule_read n R.AllE one other rest = refl
rule_read n R.ExI one other rest = refl
rule_read n R.ExE one other rest = refl

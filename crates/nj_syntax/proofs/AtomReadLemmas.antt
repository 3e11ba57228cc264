-- The print of an atom is read as the atom.
use Rattle.std.proofs.Common.{◌≡◌, ◌+◌, ℕ, zero, suc, nat_le, true, false, List, [], ◌∷◌, ◌++◌, map, length, replicate, codes, refl, ap, sym, subst, ◌∙◌, arith, append-nil}
use Rattle.std.proofs.lemmas.Bool.{and_parts, and_from}
use Rattle.std.proofs.lemmas.List.Folds.{list_all-append}
use Rattle.std.specs.List.{list_all, prefix_len}
use Rattle.std.specs.Char.{is_ascii_alphabetic}
use Rattle.nj_formula.specs.declared.argument.Argument.{Argument}
use Rattle.nj_formula.specs.declared.formula.Formula.{Formula}
use Rattle.nj_formula.specs.declared.formula.Formula.TheVariants as Formulas
use Rattle.nj_formula.specs.Statement.{Statement, atom}
use Rattle.nj_formula.specs.Meaning.{meaning}
use Rattle.nj_formula.proofs.KnownMeaning.{meaning-False, meaning-Atom}
use Rattle.nj_syntax.specs.declared.token.Token.TheVariants as Tokens
use Rattle.text_words.specs.Identifier.{is_identifier_part, is_identifier}
use Rattle.nj_syntax.specs.declared.operator.Operator.{Operator}
use Rattle.nj_syntax.specs.declared.operator.Quantifier.{Quantifier}
use Rattle.nj_syntax.specs.Terms.{Deep}
use Rattle.nj_syntax.specs.Grammar.{sign, word, is_word, Reads}
use Rattle.nj_syntax.specs.Grammar as Grammar
use Rattle.nj_syntax.specs.ArgumentText.{listed, argument_text}
use Rattle.nj_syntax.specs.Primed.{with_primes}
use Rattle.nj_syntax.specs.Prints.{operator_text}
use Rattle.nj_syntax.specs.Within.{are_within, is_within}
use Rattle.nj_syntax.specs.Spellable.{is_spellable_argument}
use Rattle.nj_syntax.proofs.FreshLemmas.{FreshBy}
use Rattle.nj_syntax.proofs.SpellsLemmas.{Spells, nothing, blank_then, sign_then, arrow_then, name_then}
use Rattle.nj_syntax.proofs.OpensLemmas.{opens_of, opens_of-append, wanted, terms_have}
use Rattle.nj_syntax.proofs.WithinTerms.{Low, low_both, terms_low}
use Rattle.nj_syntax.proofs.WithinReading.{starts}
use Rattle.nj_syntax.proofs.TermReadLemmas.{shown_by_each, enclosed, arguments_read}

-- the text is read in the place as a formula that says this
pub record IsRead (p d : ℕ) (names : List (List ℕ)) (s : Statement) (text : List ℕ) : Type 0 where
  pub deep : List Deep
  pub formula : Formula
  pub reads : Reads p d names deep formula
  pub says : meaning formula ≡ s
  pub spells : Spells text deep
  pub opens_are : opens_of deep ≡ wanted p s
  pub low : (most : ℕ) → is_within most s p d ≡ true → Low most deep

pub identifier_primed : (x y : List ℕ) (primes : ℕ) → y ≡ with_primes x primes → is_identifier x ≡ true → is_identifier y ≡ true
identifier_primed [] y primes e is = cc
identifier_primed (c ∷ more) y primes e is =
    let parts = and_parts (is_ascii_alphabetic c) (list_all is_identifier_part more) is in
    ap is_identifier e ∙ and_from (is_ascii_alphabetic c) (list_all is_identifier_part (more ++ replicate primes 39)) parts.0
    (list_all-append is_identifier_part more (replicate primes 39) ∙ and_from (list_all is_identifier_part more) (list_all is_identifier_part (replicate primes 39)) parts.1 (primes_go_on primes))
  where
    primes_go_on : (n : ℕ) → list_all is_identifier_part (replicate n 39) ≡ true
    primes_go_on zero = refl
    primes_go_on (suc n) = primes_go_on n

pub word_is : (q : Quantifier) → is_identifier (word q) ≡ true
word_is Quantifier.All = refl
word_is Quantifier.Exists = refl

pub operator_spells : (op : Operator) (d : ℕ) {text : List ℕ} {deep : List Deep} → Spells text deep → Spells (operator_text op ++ text) ((sign op, d) ∷ deep)
operator_spells Operator.And d s = blank_then (sign_then 38 Tokens.And d (omega arith) refl (λ after. refl) (blank_then s))
operator_spells Operator.Or d s = blank_then (sign_then 124 Tokens.Or d (omega arith) refl (λ after. refl) (blank_then s))
operator_spells Operator.Implies d s = blank_then (arrow_then d (blank_then s))

pub operator_breaks : (op : Operator) (text rest : List ℕ) → prefix_len is_identifier_part ((operator_text op ++ text) ++ rest) ≡ 0
operator_breaks Operator.And text rest = refl
operator_breaks Operator.Or text rest = refl
operator_breaks Operator.Implies text rest = refl

pub false_read : (p d : ℕ) (names : List (List ℕ)) → IsRead p d names (meaning Formulas.False) (codes "False")
false_read p d names = record {
  deep = (Tokens.Name (codes "False"), d) ∷ [];
  formula = Formulas.False;
  reads = Grammar.falsity;
  says = refl;
  spells = name_then (codes "False") d refl (λ rest b. b) nothing;
  opens_are = sym (ap (wanted p) meaning-False);
  low = λ most is. (starts most (meaning Formulas.False) p d is, tt);
}

-- of an atom
module _ (p d : ℕ) (names : List (List ℕ)) (x : List ℕ) (is : is_identifier x ≡ true) (no_word : is_word x ≡ false) where
  pub atom_read : IsRead p d names (meaning (Formulas.Atom x [])) x
  atom_read = record {
    deep = (Tokens.Name x, d) ∷ [];
    formula = Formulas.Atom x [];
    reads = Grammar.atom no_word;
    says = refl;
    spells = subst (λ t. Spells t ((Tokens.Name x, d) ∷ [])) (append-nil x) (name_then x d is (λ rest b. b) nothing);
    opens_are = sym (ap (wanted p) (meaning-Atom x []));
    low = λ most is. (starts most (meaning (Formulas.Atom x [])) p d is, tt);
  }

  pub predicate_read : (t : Argument) (more : List Argument) → list_all is_identifier names ≡ true
      → list_all (λ is. is) (map (is_spellable_argument (length names)) (t ∷ more)) ≡ true → FreshBy (shown_by_each (t ∷ more)) names 0
      → IsRead p d names (meaning (Formulas.Atom x (t ∷ more))) (x ++ (codes "(" ++ (listed (map (argument_text names) (t ∷ more)) ++ codes ")")))
  predicate_read t more identifiers spellable fresh =
      let inside = arguments_read names identifiers (d + 1) t more spellable fresh in
      record {
        deep = (Tokens.Name x, d) ∷ (Tokens.Open, d) ∷ inside.deep ++ (Tokens.Close, d) ∷ [];
        formula = Formulas.Atom x (t ∷ more);
        reads = Grammar.predicate no_word inside.reads;
        says = refl;
        spells = name_then x d is (λ rest b. refl) (enclosed d inside.spells);
        opens_are = omega (arith, opens_of-append inside.deep ((Tokens.Close, d) ∷ []), terms_have inside.reads, ap (wanted p) (meaning-Atom x (t ∷ more)));
        low = λ most is.
            let said : is_within most (atom x (t ∷ more)) p d ≡ true = ap (λ s. is_within most s p d) (sym (meaning-Atom x (t ∷ more))) ∙ is in
            let here = starts most (atom x (t ∷ more)) p d said in
            let terms = terms_low most inside.reads (and_parts (nat_le d most) (are_within most (t ∷ more) (d + 1)) said).1 in
            (here, (here, low_both most inside.deep ((Tokens.Close, d) ∷ []) terms (here, tt)));
      }

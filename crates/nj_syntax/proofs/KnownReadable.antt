-- What a text was read as is read again from its print, and so are its parts.
use Rattle.std.proofs.Common.{◌≡◌, ◌⊎◌, ◌≤◌, ◌+◌, ℕ, true, ◌&&◌, IsTrue, List, [], length, Result, Ok, Err, ap, sym, subst, ◌∙◌, ⊎_elim, arith}
use Rattle.std.proofs.lemmas.Bool.{and_parts}
use Rattle.nj_formula.specs.declared.argument.Argument.TheVariants.{Free}
use Rattle.nj_formula.specs.declared.formula.Formula.{Formula}
use Rattle.nj_formula.specs.declared.formula.Formula.TheVariants as Formulas
use Rattle.nj_formula.specs.Meaning.{meaning}
use Rattle.nj_formula.specs.FormulaInstance.{formula_instance}
use Rattle.nj_formula.proofs.KnownMeaning.{meaning-Not}
use Rattle.nj_formula.proofs.KnownInstance.{instance_says}
use Rattle.nj_formula.proofs.KnownArguments.{fold-Free}
use Rattle.text_words.specs.Identifier.{is_identifier}
use Rattle.nj_syntax.specs.declared.fault.FormulaFault.{FormulaFault}
use Rattle.nj_syntax.specs.declared.operator.Operator.{Operator}
use Rattle.nj_syntax.specs.declared.operator.Quantifier.{Quantifier}
use Rattle.nj_syntax.specs.Deepest.{deepest}
use Rattle.nj_syntax.specs.Grammar.{priority, joined, quantified}
use Rattle.nj_syntax.specs.Answers.{IsFormula, SaysWhole, Answers}
use Rattle.nj_syntax.specs.Answer.{formula_of}
use Rattle.nj_syntax.proofs.KnownAnswers.{formula_is}
use Rattle.nj_syntax.specs.Prints.{Prints}
use Rattle.nj_syntax.specs.Spellable.{spellable_layer, is_spellable}
use Rattle.nj_syntax.specs.Within.{is_within}
use Rattle.nj_syntax.specs.Readable.{IsReadable, IsReadAgain}
use Rattle.nj_syntax.proofs.FormLemmas.{meaning-joined, meaning-quantified, spellable-Not, spellable-joined, spellable-quantified}
use Rattle.nj_syntax.proofs.SpellsWhole.{cut_whole}
use Rattle.nj_syntax.proofs.ReadLemmas.{outermost_read}
use Rattle.nj_syntax.proofs.WithinTerms.{low_of, all_of}
use Rattle.nj_syntax.proofs.WithinLemmas.{no_inside, inside_wider, within-join, within-bind, risen, lowered}
use Rattle.nj_syntax.proofs.WithinReading.{reading_within}
use Rattle.nj_syntax.proofs.WithinInstance.{filled_within}
use Rattle.nj_syntax.proofs.EnclosedLemmas.{least_priority}
use Rattle.nj_syntax.proofs.KnownSpellable.{parsed_spellable}
use Rattle.nj_syntax.proofs.KnownInstances.{instance_spellable}

pub parsed_readable : (text : List ℕ) (a : Formula) → SaysWhole IsFormula text a → IsReadable a
parsed_readable text a h = (parsed_spellable text a h, reading_within deepest h.is (low_of deepest h.deep h.shallow))

same_ok : (a b : Formula) → ◌≡◌ {A = Result Formula FormulaFault} (Ok a) (Ok b) → a ≡ b
same_ok a b e = cc

no_memory : (a : Formula) → ◌≡◌ {A = Result Formula FormulaFault} (Ok a) (Err FormulaFault.NoMemory) → ⊥
no_memory a e = cc

-- the print says a formula that says the same
says_print : (a : Formula) (text : List ℕ) → IsReadable a → Prints 10 [] a text → (b : Formula) × SaysWhole IsFormula text b × (meaning b ≡ meaning a)
says_print a text readable prints =
    let read = outermost_read a text readable.0 prints in
    let own = cut_whole read.spells in (
      read.formula,
      record {
        tokens = own.0;
        stop = length text;
        cut = own.2;
        deep = read.deep;
        tokens_are = own.1;
        is = read.reads;
        shallow = all_of deepest read.deep (read.low deepest readable.1);
      },
      read.says,
    )

of_value : (a b : Formula) (text : List ℕ) → meaning b ≡ meaning a → Ok b ≡ formula_of text → (answer : Result Formula FormulaFault)
    → (answer ≡ Err FormulaFault.NoMemory) ⊎ (answer ≡ formula_of text) → IsReadAgain a answer
of_value a b text says is answer one =
    ⊎_elim (λ none. subst (IsReadAgain a) (sym none) tt) (λ same. subst (IsReadAgain a) (is ∙ sym same) says) one

pub print_read_again : (a : Formula) (text : List ℕ) (answer : Result Formula FormulaFault) → IsReadable a → Prints 10 [] a text
    → Answers IsFormula text answer → IsReadAgain a answer
print_read_again a text answer readable prints h =
    let says = says_print a text readable prints in
    let is : Ok says.0 ≡ formula_of text = ⊎_elim (λ none. absurd (no_memory says.0 none)) (λ same. same) (formula_is text (Ok says.0) says.1) in
    of_value a says.0 text says.2 is answer (formula_is text answer h)

pub negated_readable : (a : Formula) → IsReadable (Formulas.Not a) → IsReadable a
negated_readable a h =
    let within : is_within deepest (meaning a) 40 1 ≡ true = ap (λ s. is_within deepest s 10 0) (sym (meaning-Not a)) ∙ h.1 in
    (sym (spellable-Not a 0) ∙ h.0, risen deepest (meaning a) 10 40 0 within)

pub operands_readable : (op : Operator) (a b : Formula) → IsReadable (joined op a b) → IsReadable a × IsReadable b
operands_readable op a b h =
    let n : ℕ = priority op in
    let both : (is_within deepest (meaning a) (n + 1) 0 && is_within deepest (meaning b) n 1) ≡ true =
    ap (λ e. is_within deepest (meaning a) (n + 1) e && is_within deepest (meaning b) n (e + 1)) (sym (no_inside n 10 0 (least_priority op)))
    ∙ (sym (within-join deepest op (meaning a) (meaning b) 10 0) ∙ (ap (λ s. is_within deepest s 10 0) (sym (meaning-joined op a b)) ∙ h.1)) in
    let within = and_parts (is_within deepest (meaning a) (n + 1) 0) (is_within deepest (meaning b) n 1) both in
    let spelled = and_parts (is_spellable a 0) (is_spellable b 0) (sym (spellable-joined op a b 0) ∙ h.0) in
    let wide : 10 ≤ n + 1 = (let least = least_priority op in omega arith) in (
      (spelled.0, lowered deepest (meaning a) 10 (n + 1) 0 0 (omega arith) (λ m. inside_wider m 10 (n + 1) 0 wide) within.0),
      (spelled.1, risen deepest (meaning b) 10 n 0 within.1),
    )

pub instance_readable : (q : Quantifier) (x y : List ℕ) (a : Formula) → IsReadable (quantified q x a) → IsTrue (is_identifier y)
    → IsReadable (formula_instance (Free y) a)
instance_readable q x y a h is =
    let spelled = and_parts (is_identifier x) (is_spellable a 1) (sym (spellable-quantified q x a 0) ∙ h.0) in
    let inner : is_within deepest (meaning a) 10 1 ≡ true =
    sym (within-bind deepest q (meaning a) 10 0) ∙ (ap (λ s. is_within deepest s 10 0) (sym (meaning-quantified q x a)) ∙ h.1) in
    let body : is_within deepest (meaning a) 10 0 ≡ true = risen deepest (meaning a) 10 10 0 inner in (
      instance_spellable (Free y) a (fold-Free (spellable_layer 0) y ∙ is) spelled.1,
      ap (λ s. is_within deepest s 10 0) (instance_says (Free y) a) ∙ (filled_within deepest y (meaning a) 0 10 0 ∙ body),
    )

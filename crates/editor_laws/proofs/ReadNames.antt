-- A term that is read from tokens of plain names has plain names. A mark is told by what it is
-- read as by itself.
use Rattle.std.proofs.Common.{ℕ, ◌==◌, Bool, true, false, cond, List, [], ◌∷◌, Result, Ok, Err}
use Rattle.std.proofs.Common.{subst}
use Rattle.std.specs.Prelude.{⊤}
use Rattle.std.specs.List.{AllByRecursion}
use Rattle.text_words.proofs.KnownLists.{each-part}
use Rattle.pide_base.specs.declared.range.Range.{Range}
use Rattle.outer_syntax.specs.Tokens.{text_of}
use Rattle.outer_syntax.specs.declared.kind.Kind.{Kind}
use Rattle.outer_syntax.specs.declared.kind.Kind.TheVariants as kind
use Rattle.outer_syntax.specs.declared.token.Token.{Token}
use Rattle.proof_terms.specs.declared.fault.TermFault.{TermFault}
use Rattle.proof_terms.specs.declared.term.Cite.{Cite}
use Rattle.proof_terms.specs.declared.term.Term.{Term}
use Rattle.proof_terms.specs.declared.term.Term.TheOpen.{Term-F}
use Rattle.proof_terms.specs.declared.term.Term.TheVariants as T
use Rattle.proof_terms.specs.Grammar.{IsTerm, AreParts, by_name, by_long_name, fact, ruled, none}
use Rattle.proof_terms.specs.Grammar.{then_formula, then_object, then_name, then_proof}
use Rattle.proof_terms.specs.Marks.{is_ascii, mark, marks}
use Rattle.proof_terms.specs.Reading.{read_term}
use Rattle.proof_terms.specs.Slots.{Slot, Part}
use Rattle.proof_terms.proofs.KnownTerms.{fold-Fact}
use Rattle.editor_laws.proofs.PlainTexts.{Plain}
use Rattle.editor_laws.proofs.TokenNames.{IfName, TokenPlain}
use Rattle.editor_laws.proofs.TermNames.{names_layer, AllPlain, TermPlain, PartPlain, IfBuilt}
use Rattle.editor_laws.proofs.TermNames.{rolled, built_plain}

-- of either of two things
pub either : {M : Type 0} (F : M → Type 0) (b : Bool) {x y : M} → F x → F y → F (cond b x y)
either F true p q = p
either F false p q = q

-- what is read is a term of plain names, if it is a term
abbrev IfTerm : {M : Type 0} → Result (Term × List M) TermFault → Type 0
IfTerm (Ok r) = TermPlain r.0
IfTerm (Err fault) = ⊤

-- so of a mark by itself: the name that it is, if it is one, is plain
abbrev IfFact : {M : Type 0} → (List M → Result (Term × List M) TermFault) → M → Type 0
IfFact read m = IfTerm (read (m ∷ []))

abbrev MarksPlain : {M : Type 0} → (List M → Result (Term × List M) TermFault) → List M → Type 0
MarksPlain read ms = AllByRecursion (IfFact read) ms

named_fact : (c : Cite) → Plain c.name → TermPlain (T.Fact c)
named_fact c plain = rolled (Term-F.Fact c) (T.Fact c) (T.rolls-Fact c) (plain, tt)

fact_name : (c : Cite) → TermPlain (T.Fact c) → Plain c.name
fact_name c plain = (subst AllPlain (fold-Fact names_layer c) plain).0

mark_plain : (k : Kind) (s : List ℕ) (r : Range) → IfName k s → IfFact (read_term 0) (mark k s r)
mark_plain kind.Ident s r plain =
    either (IfFact (read_term 0)) (is_ascii s)
    (named_fact (record { name = s; range = r }) plain) tt
mark_plain kind.LongIdent s r plain =
    either (IfFact (read_term 0)) (is_ascii s)
    (named_fact (record { name = s; range = r }) plain) tt
mark_plain kind.Sym [] r plain = tt
mark_plain kind.Sym (c ∷ []) r plain =
    either (IfFact (read_term 0)) (c == 40) tt (either (IfFact (read_term 0)) (c == 41) tt tt)
mark_plain kind.Sym (c ∷ d ∷ more) r plain = tt
mark_plain _ s r plain = tt

pub marks_plain : (source : List ℕ) (ts : List Token) → AllByRecursion (TokenPlain source) ts
    → MarksPlain (read_term 0) (marks source ts)
marks_plain source [] all = tt
marks_plain source (t ∷ ts) all =
    (mark_plain t.kind (text_of source t) t.range all.0, marks_plain source ts all.1)

mutual
  pub term_plain : {n : ℕ} {ms : _} {t : Term} → IsTerm n ms t → MarksPlain (read_term 0) ms
      → TermPlain t
  term_plain (fact by_name) all = all.0
  term_plain (fact by_long_name) all = all.0
  term_plain (ruled {inside = inside} {parts = parts} r named are made) all =
      subst IfBuilt made
      (built_plain r parts
      (parts_plain are (each-part (IfFact (read_term 0)) inside _ all.1.1).0))

  parts_plain : {n : ℕ} {ss : List Slot} {ms : _} {ps : List Part} → AreParts n ss ms ps
      → MarksPlain (read_term 0) ms → AllByRecursion PartPlain ps
  parts_plain none all = tt
  parts_plain (then_formula is more) all = (tt, parts_plain more all.1)
  parts_plain (then_object is more) all = (tt, parts_plain more all.1)
  parts_plain (then_name {c = c} more) all = (fact_name c all.0, parts_plain more all.1)
  parts_plain (then_proof {front = front} {back = back} is more) all =
      let two = each-part (IfFact (read_term 0)) front back all in
      (term_plain is two.0, parts_plain more two.1)

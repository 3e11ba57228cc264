-- Facts of plain names: how they are put together, and what a name means among them.
use Rattle.std.proofs.Common.{ℕ, List, [], ◌∷◌, Option, Some, None, IfSome}
use Rattle.std.specs.Prelude.{⊤, fold}
use Rattle.std.specs.List.{AllByRecursion}
use Rattle.text_words.proofs.KnownLists.{each-both, each-passing}
use Rattle.shared_map.specs.Changes.{united}
use Rattle.shared_map.specs.Cuts.{before, behind, at_key}
use Rattle.theory_ctx.specs.declared.local.Local.{Local}
use Rattle.theory_ctx.specs.Answers.{Answer, found, unknown, ambiguous}
use Rattle.theory_ctx.specs.Facts.{Fact, is_called, is_import, fact_of, facts_elsewhere}
use Rattle.theory_ctx.specs.Locals.{Scoped, local_of, local_first, looked_in}
use Rattle.theory_ctx.specs.Looked.{among, first_of, looked_by, name_parts, looked}
use Rattle.theory_ctx.specs.Merged.{extended_facts, merged_facts}
use Rattle.theory_ctx.specs.Order.{by_name}
use Rattle.editor_laws.proofs.EachPart.{each_found}
use Rattle.editor_laws.proofs.PlainTexts.{Plain}

abbrev pub FactPlain : Fact → Type 0
FactPlain fact = Plain fact.0.theory × Plain fact.0.name

abbrev pub FactsPlain : List Fact → Type 0
FactsPlain = AllByRecursion FactPlain

pub added_plain : (fact : Fact) (facts : List Fact) → FactPlain fact → FactsPlain facts
    → FactsPlain (extended_facts fact facts)
added_plain fact facts this all =
    each-both FactPlain (before (at_key by_name fact.0) facts)
    (fact ∷ behind (at_key by_name fact.0) facts)
    (each-passing FactPlain _ facts all) (this, each-passing FactPlain _ facts all)

united_plain : (one other : List Fact) → FactsPlain one → FactsPlain other
    → FactsPlain (united by_name one other)
united_plain [] other all more = more
united_plain (fact ∷ one) other all more =
    each-both FactPlain (before (at_key by_name fact.0) other)
    (fact ∷ united by_name one (behind (at_key by_name fact.0) other))
    (each-passing FactPlain _ other more) (
      all.0,
      united_plain one (behind (at_key by_name fact.0) other) all.1
          (each-passing FactPlain _ other more),
    )

fold_plain : (parts : List (List Fact)) (all : List Fact) → FactsPlain all
    → AllByRecursion FactsPlain parts → FactsPlain (fold (united by_name) all parts)
fold_plain [] all plain parts = plain
fold_plain (part ∷ more) all plain parts =
    fold_plain more (united by_name all part) (united_plain all part plain parts.0) parts.1

pub merged_plain : (parts : List (List Fact)) → AllByRecursion FactsPlain parts
    → FactsPlain (merged_facts parts)
merged_plain parts all = fold_plain parts [] tt all

abbrev pub LocalsPlain : List Local → Type 0
LocalsPlain = AllByRecursion (λ local. Plain local.name)

-- the names that stand in a scope
pub record IsPlainScope (scope : Scoped) : Type 0 where
  pub locals : LocalsPlain scope.locals
  pub facts : FactsPlain scope.facts

abbrev pub AnswerPlain : Answer → Type 0
AnswerPlain (found (Some theory) name f) = Plain theory × Plain name
AnswerPlain (found None name f) = Plain name
AnswerPlain unknown = ⊤
AnswerPlain (ambiguous one other) = ⊤

among_plain : (facts : List Fact) → FactsPlain facts → AnswerPlain (among facts)
among_plain [] all = tt
among_plain (fact ∷ []) all = all.0
among_plain (one ∷ two ∷ more) all = tt

first_plain : (o : Option Fact) (others : List Fact) → IfSome o FactPlain → FactsPlain others
    → AnswerPlain (first_of o others)
first_plain None others one all = among_plain others all
first_plain (Some fact) others one all = one

looked_plain : (facts : List Fact) (own : List ℕ) (parts : List (List ℕ)) → FactsPlain facts
    → AnswerPlain (looked_by facts own parts)
looked_plain facts own [] all = tt
looked_plain facts own (n ∷ []) all =
    first_plain (fact_of own n facts) (facts_elsewhere own n facts)
    (each_found FactPlain (is_called own n) facts all)
    (each-passing FactPlain (is_import own n) facts all)
looked_plain facts own (t ∷ n ∷ []) all =
    first_plain (fact_of t n facts) [] (each_found FactPlain (is_called t n) facts all) tt
looked_plain facts own (t ∷ n ∷ m ∷ more) all = tt

local_plain : (locals : List Local) (parts : List (List ℕ)) → LocalsPlain locals
    → IfSome (local_of locals parts) (λ local. Plain local.name)
local_plain locals [] all = tt
local_plain locals (n ∷ []) all = each_found (λ (local : Local). Plain local.name) _ locals all
local_plain locals (n ∷ m ∷ more) all = tt

pub answer_plain : (scope : Scoped) → IsPlainScope scope → (x : List ℕ)
    → AnswerPlain (looked_in scope x)
answer_plain scope plain x =
    go (local_of scope.locals (name_parts x))
    (local_plain scope.locals (name_parts x) plain.locals)
  where
    go : (o : Option Local) → IfSome o (λ local. Plain local.name)
        → AnswerPlain (local_first o (looked scope.facts scope.theory x))
    go None is = looked_plain scope.facts scope.theory (name_parts x) plain.facts
    go (Some local) is = is

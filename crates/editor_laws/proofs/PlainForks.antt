-- What is reported behind a command by its fork is plain.
use Rattle.std.proofs.Common.{ℕ, List, [], ◌∷◌, drop, Option, Some, None, IfSome}
use Rattle.std.proofs.Common.{option_map, Result, Ok, Err, refl}
use Rattle.std.specs.List.{AllByRecursion, cons_option}
use Rattle.text_words.proofs.KnownLists.{each-both, each-so}
use Rattle.outer_syntax.specs.declared.token.Token.{Token}
use Rattle.nj_formula.specs.declared.formula.Formula.{Formula}
use Rattle.nj_formula.specs.Statement.{Statement}
use Rattle.theory_ctx.specs.declared.local.Local.{Local}
use Rattle.theory_ctx.specs.Locals.{Scoped}
use Rattle.proof_state.specs.declared.frame.Frame.{Frame}
use Rattle.proof_state.specs.declared.levels.Levels.TheVariants.{Closed, Prove, State}
use Rattle.proof_state.specs.declared.local_fact.LocalFact.{LocalFact}
use Rattle.proof_state.specs.Named.{named_facts}
use Rattle.proof_state.specs.Locals.{around_locals}
use Rattle.proof_terms.specs.declared.fault.TermFault.{TermFault}
use Rattle.proof_terms.specs.declared.term.Term.{Term}
use Rattle.proof_terms.specs.Marks.{marks}
use Rattle.proof_terms.specs.Reading.{proof_of}
use Rattle.proof_checks.specs.Checks.{checked}
use Rattle.report_markup.specs.declared.kind.ReportKind.TheVariants as kind
use Rattle.report_markup.specs.declared.report.Report.{Report}
use Rattle.isar_rules.specs.declared.state.Place.{Place}
use Rattle.isar_rules.specs.declared.state.Place.TheVariants as place
use Rattle.isar_rules.specs.declared.state.State as states
use Rattle.isar_rules.specs.Cites.{refs}
use Rattle.isar_rules.specs.Forks.{scope_at, verdict, judged_reports, forked_at, fork}
use Rattle.isar_rules.specs.Reports.{report, whole}
use Rattle.isar_rules.specs.Steps.{aliases_at}
use Rattle.isar_rules.proofs.KnownQuiet.{sorted}
use Rattle.editor_laws.proofs.EachPart.{each_behind}
use Rattle.editor_laws.proofs.PlainTexts.{Plain, spelled}
use Rattle.editor_laws.proofs.TokenNames.{TokenPlain}
use Rattle.editor_laws.proofs.WordNames.{source_plain}
use Rattle.editor_laws.proofs.PlainStates.{ReportPlain, LocalPlain, FramesPlain}
use Rattle.editor_laws.proofs.PlainStates.{PlacePlain}
use Rattle.editor_laws.proofs.ReadFaults.{TermLaw, IfProof, proof_plain}
use Rattle.editor_laws.proofs.CheckedFaults.{IfChecked, checked_plain}
use Rattle.editor_laws.proofs.PlainFacts.{IsPlainScope}
use Rattle.editor_laws.proofs.CitedNames.{refs_plain}
use Rattle.editor_laws.proofs.FoundTexts.{LocalSaid, LocalsSaid}

abbrev pub AllReports : List Report → Type 0
AllReports = AllByRecursion ReportPlain

-- the facts of blocks that have names
named_said : (facts : List LocalFact) → AllByRecursion LocalPlain facts
    → LocalsSaid (named_facts facts)
named_said [] all = tt
named_said (fact ∷ facts) all = go fact.name all.0.0 (named_said facts all.1)
  where
    go : (name : Option (List ℕ)) → IfSome name Plain → LocalsSaid (named_facts facts)
        → LocalsSaid
        (cons_option (option_map (λ n. record { name = n; formula = fact.formula }) name)
        (named_facts facts))
    go None plain more = more
    go (Some n) plain more = ((plain, all.0.1), more)

pub around_said : (around : List Frame) → FramesPlain around → LocalsSaid (around_locals around)
around_said [] all = tt
around_said (frame ∷ around) all =
    each-both LocalSaid (named_facts frame.block.facts) (around_locals around)
    (named_said frame.block.facts all.0.0.2) (around_said around all.1)

verdict_plain : (source : List ℕ) (cites : List Report) (v : Result (List Statement) TermFault)
    → AllReports cites → IfChecked v → AllReports (verdict source cites v)
verdict_plain source cites (Ok assumed) all is =
    sorted ReportPlain (report kind.Proved (whole source) [] [] ∷ cites) ((tt, spelled refl), all)
verdict_plain source cites (Err fault) all is = ((tt, is), tt)

judged_plain : (source : List ℕ) (goal : Formula) (scope : Scoped) → IsPlainScope scope
    → (read : Result Term TermFault) → IfProof read
    → AllReports (judged_reports source goal scope read)
judged_plain source goal scope plain (Ok t) is =
    verdict_plain source (refs scope t) (checked t goal scope) (refs_plain scope plain t is)
    (checked_plain t goal scope is)
judged_plain source goal scope plain (Err fault) is = ((tt, is), tt)

forked_plain : TermLaw → (source : List ℕ) (ts : List Token) → AllByRecursion (TokenPlain source) ts
    → (p : Place) → PlacePlain p → AllReports (forked_at source ts p)
forked_plain law source ts all (place.Proof theory name start (Prove goal around)) plain =
    judged_plain source goal (scope_at theory (Prove goal around))
    (record {
      locals = each-so LocalSaid (λ (local : Local). Plain local.name)
          (λ local said. said.0) _ (around_said around plain.2.1);
      facts = plain.0.1;
    })
    (proof_of (marks source (drop 1 ts)))
    (proof_plain law source (drop 1 ts) (each_behind (TokenPlain source) 1 ts all))
forked_plain law source ts all (place.Proof theory name start Closed) plain = tt
forked_plain law source ts all (place.Proof theory name start (State block around)) plain = tt
forked_plain law source ts all (place.Start node given keyword) plain = tt
forked_plain law source ts all place.Outside plain = tt
forked_plain law source ts all (place.Theory theory) plain = tt
forked_plain law source ts all (place.End theory) plain = tt

pub fork_plain : TermLaw → (source : List ℕ) (before : states.State) → PlacePlain before.place
    → AllReports (fork source before)
fork_plain law source before plain =
    forked_plain law source _
    (source_plain (aliases_at before.place before.aliases) source) before.place plain

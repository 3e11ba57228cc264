-- The parts that are told have all reports of those that are shown.
use Rattle.std.proofs.Common.{◌≡◌, ℕ, List, [], ◌∷◌, ◌++◌, map, filter, Option, Some, None, cond, refl, sym, ap, subst, ◌∙◌}
use Rattle.std.proofs.lemmas.List.{append-nil}
use Rattle.std.specs.Prelude.{flat_map, is_some}
use Rattle.std.specs.Option.{option_map_or}
use Rattle.report_markup.specs.declared.report.Report.{Report}
use Rattle.doc_nodes.specs.Imports.{place_of}
use Rattle.core_tables.specs.Live.{version_of}
use Rattle.exec_rules.specs.declared.version.Version.{Version}
use Rattle.exec_rules.specs.Assigning.{entries_at, rows_in}
use Rattle.language.specs.Lang.{Lang}
use Rattle.core_rules.specs.Shown.{PartShown, commands_parts, parts_shown}
use Rattle.core_jobs.specs.declared.results.NodeResults.{NodeResults}
use Rattle.core_jobs.specs.declared.results.PartResult.{PartResult}
use Rattle.core_jobs.specs.Parts.{told_part}
use Rattle.prover_core.specs.Results.{AreResults, is_reported}
use Rattle.session_rules.specs.Session.{document}
use Rattle.thread_serve.specs.document_session_below.Contents.{SessionState}
use Rattle.session_rules.specs.Reported.{part_reports}
use Rattle.made_document.specs.declared.tally.Tally.{Tally}
use Rattle.made_document.specs.Tallies.{IsTally, results_reports}
use Rattle.pide_program.specs.Told.{IsLive, listed_session, shown_reports}

-- parts that are not reported have none
reported_only : (parts : List PartShown) → flat_map part_reports (filter is_reported parts) ≡ flat_map part_reports parts
reported_only [] = refl
reported_only (part ∷ parts) = go part.reports refl (reported_only parts)
  where
    go : (o : Option (List Report)) → part.reports ≡ o → flat_map part_reports (filter is_reported parts) ≡ flat_map part_reports parts
        → flat_map part_reports (cond (is_some o) (part ∷ filter is_reported parts) (filter is_reported parts))
        ≡ option_map_or (λ reports. reports) o [] ++ flat_map part_reports parts
    go None is rest = rest
    go (Some reports) is rest =
        ap (λ xs. xs ++ flat_map part_reports (filter is_reported parts)) (ap (λ o. option_map_or (λ xs. xs) o []) is)
        ∙ ap (λ xs. reports ++ xs) rest

-- those that are told are of parts that are told
told_reports : (parts : List PartResult)
    → results_reports parts ≡ flat_map part_reports (map told_part parts)
told_reports [] = refl
told_reports (part ∷ parts) = ap (λ xs. part.reports.now ++ xs) (told_reports parts)

pub results_are : (found : List PartResult) (parts : List PartShown)
    → map told_part found ≡ filter is_reported parts
    → results_reports found ≡ flat_map part_reports parts
results_are found parts are = told_reports found ∙ ap (flat_map part_reports) are ∙ reported_only parts

module _ {S : Type 0} (l : Lang S) (s : SessionState) (version : Version) (name : List ℕ) where
  -- a node that there is not shows nothing
  none_shown : place_of version.nodes name ≡ None → shown_reports l s version name ≡ []
  none_shown none = ap (λ o. flat_map part_reports (commands_parts l (listed_session l s).events (document l (listed_session l s)).homes
      (option_map_or (entries_at version.nodes) o []) (rows_in version name))) none

  one_version : (o : Option Version) (v w : Version) → o ≡ Some v → o ≡ Some w → v ≡ w
  one_version o v w p q = cc

  -- what is told of a node is what is shown of it
  pub found_reports : (id : ℕ) (found : NodeResults) → AreResults l (listed_session l s).events id name (Some found) → IsLive l s id version
      → results_reports found.parts.items ≡ shown_reports l s version name
  found_reports id found are live =
      let same : are.version ≡ version = one_version (version_of (document l (listed_session l s)).live id) are.version version are.live live in
      results_are found.parts.items (parts_shown l (listed_session l s).events (document l
      (listed_session l s)) version name)
      (are.parts ∙ ap (λ v. filter is_reported (parts_shown l (listed_session l s).events (document l (listed_session l s)) v name)) same)

  pub none_reports : (id : ℕ) → AreResults l (listed_session l s).events id name None → IsLive l s id version → (tally : Tally) (all : List Report)
      → IsTally tally all → IsTally tally (all ++ shown_reports l s version name)
  none_reports id are live tally all is =
      subst (IsTally tally) (sym (ap (λ xs. all ++ xs) (none_shown (are version live)) ∙ append-nil all)) is

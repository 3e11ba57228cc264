-- What is counted is the summary.
use Rattle.std.proofs.Common.{◌≡◌, ℕ, List, [], ◌∷◌, ◌++◌, length, Option, Some, None, refl, ap, sym, subst, ◌∙◌}
use Rattle.std.specs.Prelude.{flat_map}
use Rattle.std.specs.Option.{option_map, option_map_or}
use Rattle.doc_nodes.specs.declared.node.Node.{Node}
use Rattle.core_tables.specs.declared.versions.Live.{Live}
use Rattle.core_tables.specs.Live.{version_of}
use Rattle.exec_rules.specs.declared.version.Version.{Version}
use Rattle.language.specs.Lang.{Lang}
use Rattle.core_rules.specs.Assigned.{command_ids}
use Rattle.core_rules.specs.Shown.{parts_shown}
use Rattle.session_rules.specs.declared.service.Service.TheVariants.{Workers}
use Rattle.session_rules.specs.Heard.{Heard}
use Rattle.session_rules.specs.History.{session}
use Rattle.session_rules.specs.Legal.{IsLegal}
use Rattle.session_rules.specs.Session.{document}
use Rattle.session_rules.specs.OneThread.{reads}
use Rattle.thread_serve.specs.keeping_rules_below.Items.{heard_in, session_in}
use Rattle.thread_serve.specs.document_session_below.Contents.{SessionState}
use Rattle.made_document.specs.Messages.{last_version}
use Rattle.session_rules.specs.Reported.{node_reports, part_reports, version_reports}
use Rattle.session_rules.specs.Updates.{Updates, all_read, document_of}
use Rattle.made_document.specs.declared.summary.Summary.{Summary}
use Rattle.made_document.specs.declared.tally.Tally.{Tally}
use Rattle.made_document.specs.Summary.{greatest_execution, summary_text, made_updates, summary, summary_lines, summary_of}
use Rattle.made_document.specs.Tallies.{IsTally}
use Rattle.pide_program.specs.Answered.{Made}
use Rattle.pide_program.specs.Told.{IsLive, listed_session, shown_reports}

-- what is known of two updates and a settle
pub record SettledLaws {S : Type 0} (l : Lang S) : Type 0 where
  pub live : (count : ℕ) (h : List Heard) (u : Updates) → IsLegal l (Workers count) h → reads h ≡ all_read u
      → (document l (session l (Workers count) h)).live ≡ (document_of l u).live
  pub shown : (count : ℕ) (h : List Heard) (u : Updates) (version : Version) (name : List ℕ) → IsLegal l (Workers count) h → reads h ≡ all_read u
      → version_of (document_of l u).live u.second ≡ Some version
      → flat_map part_reports (parts_shown l (session l (Workers count) h).events (document l (session l (Workers count) h)) version name)
      ≡ node_reports l version name

flat_same : {A B : Type 0} (f g : A → List B) → ((x : A) → f x ≡ g x) → (xs : List A) → flat_map f xs ≡ flat_map g xs
flat_same f g same [] = refl
flat_same f g same (x ∷ xs) = ap (λ ys. ys ++ flat_map f xs) (same x) ∙ ap (λ ys. g x ++ ys) (flat_same f g same xs)

module _ {S : Type 0} (l : Lang S) (laws : SettledLaws l) (count workers : ℕ) (s : SessionState) (is : Made l count workers s) where
  abbrev lives : List (Live Version)
  lives = (document_of l (made_updates count)).live

  pub lives_are : (document l (listed_session l s)).live ≡ lives
  lives_are = subst (λ service. (document l (session_in l service s.items)).live ≡ lives) (sym is.served)
      (laws.live workers (heard_in (Workers workers) s.items) (made_updates count) is.legal is.read)

  pub none_is : version_of (document l (listed_session l s)).live last_version ≡ None
      → None ≡ summary l count
  none_is none = sym (ap (option_map (summary_of l lives)) (sym (ap (λ xs. version_of xs last_version) lives_are) ∙ none))

  -- all reports of a version
  reports_are : (version : Version) → IsLive l s last_version version
      → flat_map (λ (pair : List ℕ × Node). shown_reports l s version pair.0) version.nodes ≡ version_reports l version
  reports_are version live =
      let at : version_of lives last_version ≡ Some version = sym (ap (λ xs. version_of xs last_version) lives_are) ∙ live in
      flat_same (λ (pair : List ℕ × Node). shown_reports l s version pair.0) (λ pair. node_reports l version pair.0)
      (λ pair. subst (λ service. flat_map part_reports (parts_shown l (session_in l service s.items).events (document l (session_in l service s.items)) version pair.0)
      ≡ node_reports l version pair.0) (sym is.served)
      (laws.shown workers (heard_in (Workers workers) s.items) (made_updates count) version pair.0 is.legal is.read at)) version.nodes

  pub some_is : (version : Version) → IsLive l s last_version version → (tally : Tally) (nodes commands executions : ℕ)
      → IsTally tally (flat_map (λ (pair : List ℕ × Node). shown_reports l s version pair.0) version.nodes)
      → nodes ≡ length version.nodes → commands ≡ length (command_ids version.nodes)
      → executions ≡ greatest_execution (document l (listed_session l s)).live
      → Some (record { nodes = nodes; commands = commands; executions = executions; reports = tally.reports; errors = tally.errors }) ≡ summary l count
  some_is version live tally nodes commands executions counted nodes_are commands_are executions_are =
      let all : IsTally tally (version_reports l version) = subst (IsTally tally) (reports_are version live) counted in
      let at : version_of lives last_version ≡ Some version = sym (ap (λ xs. version_of xs last_version) lives_are) ∙ live in
      let greatest_is : executions ≡ greatest_execution lives = executions_are ∙ ap greatest_execution lives_are in
      let made : record { nodes = nodes; commands = commands; executions = executions; reports = tally.reports; errors = tally.errors } ≡ summary_of l lives version =
      ap (λ x. record { nodes = x; commands = commands; executions = executions; reports = tally.reports; errors = tally.errors }) nodes_are
      ∙ ap (λ x. record { nodes = length version.nodes; commands = x; executions = executions; reports = tally.reports; errors = tally.errors }) commands_are
      ∙ ap (λ x. record { nodes = length version.nodes; commands = length (command_ids version.nodes); executions = x; reports = tally.reports; errors = tally.errors }) greatest_is
      ∙ ap (λ x. record { nodes = length version.nodes; commands = length (command_ids version.nodes); executions = greatest_execution lives; reports = x; errors = tally.errors }) all.reports
      ∙ ap (λ x. record { nodes = length version.nodes; commands = length (command_ids version.nodes); executions = greatest_execution lives; reports = length (version_reports l version); errors = x }) all.errors in
      ap (λ x. Some x) made ∙ sym (ap (option_map (summary_of l lives)) at)

-- the lines are those of the summary
pub some_lines : {S : Type 0} (l : Lang S) (count : ℕ) (found : Option Summary) (made : Summary) (text : List ℕ) → found ≡ Some made
    → found ≡ summary l count → text ≡ summary_text made → text ≡ summary_lines l count
some_lines l count found made text is same written = written ∙ ap
    (λ o. option_map_or summary_text o []) (sym is ∙ same)

pub no_lines : {S : Type 0} (l : Lang S) (count : ℕ) (found : Option Summary) (text : List ℕ) → found ≡ None → found ≡ summary l count
    → text ≡ [] → text ≡ summary_lines l count
no_lines l count found text is same written = written ∙ ap (λ o. option_map_or summary_text o [])
    (sym is ∙ same)

-- Jobs of the small language, computed (this project's own).
use Rattle.std.specs.Prelude.{◌≡◌, ℕ, true, List, [], ◌∷◌, codes, Option, Some, None}
use Rattle.pide_base.specs.declared.part.PartKind.{PartKind}
use Rattle.pide_base.specs.declared.part.PartKind.TheVariants as kind
use Rattle.report_markup.specs.declared.kind.ReportKind.TheVariants as report
use Rattle.doc_nodes.specs.Aliases.{no_aliases}
use Rattle.core_rules.specs.exec_rules_below.declared.key.Key.TheVariants.{Lasts}
use Rattle.core_rules.specs.exec_rules_below.declared.key.Last.TheVariants.{Made}
use Rattle.core_rules.specs.exec_rules_below.declared.home.Home.{Home}
use Rattle.core_rules.specs.exec_rules_below.declared.home.Head.{Head}
use Rattle.core_rules.specs.exec_rules_below.declared.home.Input.TheVariants as home
use Rattle.core_rules.specs.language_below.declared.made.Imports.TheVariants.{Ordered}
use Rattle.core_rules.specs.Small.{Words, small, about}
use Rattle.core_jobs.specs.declared.input.Input.{Input}
use Rattle.core_jobs.specs.declared.input.Input.TheVariants as input
use Rattle.core_jobs.specs.Jobs.{JobContent}
use Rattle.core_jobs.specs.Runs.{done_by}
use Rattle.core_jobs.specs.Fits.{IsJobOf}

-- the job of a part of an execution, with a command of this source
abbrev pub job : ℕ → PartKind → List ℕ → Option (List ℕ) → Input Words → JobContent Words
job exec k source blob taken = record {
  part = record { exec = exec; kind = k };
  source = source;
  blob = blob;
  input = taken;
}

-- the first command of a node `B` that imports `A`
abbrev pub head : Head
head = record {
  node = codes "B";
  imports = codes "A" ∷ [];
  aliases = no_aliases;
  key = Lasts (Made 1 ∷ []);
}

-- the node has this from its import
abbrev pub begun : Input Words
begun = input.Start head (Ordered (record { name = codes "A"; state = codes "t" ∷ [] } ∷ []))

-- an evaluation in `A`; that of the first command of `B`, which forks and asks for a blob; its
-- print
abbrev pub homes : List Home
homes = record { source = codes "b"; blob = Some (codes "p"); input = home.Print 2 }
    ∷ record { source = codes "b"; blob = Some (codes "p"); input = home.First head }
    ∷ record {
      source = codes "t";
      blob = None;
      input = home.First
          (record { node = codes "A"; imports = []; aliases = no_aliases; key = Lasts [] });
    } ∷ []

-- its evaluation
abbrev pub eval : JobContent Words
eval = job 2 kind.Eval (codes "b") (Some (codes "p")) begun

-- its fork, which takes up the same state
abbrev pub fork : JobContent Words
fork = job 2 kind.Fork (codes "b") (Some (codes "p")) begun

-- its print, which takes up the state behind it
abbrev pub print : JobContent Words
print = job 3 kind.Print (codes "b") (Some (codes "p"))
    (input.State (codes "t" ∷ codes "b" ∷ codes "p" ∷ []))

-- the parts of the first command of a node
pub record AFirstCommand : Type 0 where
  pub evaluated : done_by small eval ≡ record {
    part = record { exec = 2; kind = kind.Eval };
    reports = about report.Command (codes "b");
    made = Some (record { state = codes "t" ∷ codes "b" ∷ codes "p" ∷ []; forks = true });
  }
  pub forked : done_by small fork ≡ record {
    part = record { exec = 2; kind = kind.Fork };
    reports = about report.Proved (codes "b");
    made = None;
  }
  pub printed : done_by small print ≡ record {
    part = record { exec = 3; kind = kind.Print };
    reports = about report.State (codes "b");
    made = None;
  }

-- they work on what their executions work on
pub record AreTheirJobs : Type 0 where
  pub eval_fits : IsJobOf small homes eval
  pub fork_fits : IsJobOf small homes fork
  pub print_fits : IsJobOf small homes print

-- What is put into the table of executions (this project's own).
use Rattle.std.specs.Prelude.{Bool, false}
use Rattle.std.specs.Option.{option_map_or}
use Rattle.pide_base.specs.declared.part.PartKind.{PartKind}
use Rattle.pide_base.specs.declared.part.PartKind.TheVariants as kind
use Rattle.core_tables.specs.declared.execution.Done.{Done as Row}
use Rattle.core_tables.specs.declared.execution.Done.TheVariants as done
use Rattle.core_jobs.specs.declared.done.Done.{Done as Result}

-- what finishing a part of this kind brings, where an evaluation tells whether its command forks
abbrev pub brought : {R : Type 0} → PartKind → R → Bool → Row R
brought kind.Eval result forks = done.Eval result forks
brought kind.Fork result forks = done.Fork result
brought kind.Print result forks = done.Print result

-- whether the command of an evaluation that is done forks
abbrev pub forks_told : {S : Type 0} → Result S → Bool
forks_told done = option_map_or (λ made. made.forks) done.made false

-- Reports of a tidy language lie in the command's source.
use Rattle.std.proofs.Common.{◌≡◌, ℕ, List, [], ◌++◌, true, None, if◌then◌else◌, subst}
use Rattle.std.proofs.lemmas.Bool.{cond-true}
use Rattle.std.specs.List.{AllByRecursion}
use Rattle.text_words.proofs.KnownLists.{each-part}
use Rattle.language.specs.Lang.{Lang}
use Rattle.language.specs.Laws.{AreTidy, LiesIn}

-- those of the evaluation, and of the fork if it has one
parts : {S : Type 0} (l : Lang S) → AreTidy l → (source : List ℕ) (state : S)
    → AllByRecursion (LiesIn source) (l.step source None state).reports
    × AllByRecursion (LiesIn source) (if (l.step source None state).forks then l.fork source state else [])
parts l tidy source state =
    let made = l.step source None state in
    let later = if made.forks then l.fork source state else [] in
    each-part (LiesIn source) made.reports later
    (each-part (LiesIn source) (made.reports ++ later) (l.print source made.state) (tidy.lie source None state)).0

pub reports_lie : {S : Type 0} (l : Lang S) → AreTidy l → (source : List ℕ) (state : S)
    → AllByRecursion (LiesIn source) (l.step source None state).reports
reports_lie l tidy source state = (parts l tidy source state).0

pub fork_lies : {S : Type 0} (l : Lang S) → AreTidy l → (source : List ℕ) (state : S)
    → (l.step source None state).forks ≡ true → AllByRecursion (LiesIn source) (l.fork source state)
fork_lies l tidy source state forks = subst (AllByRecursion (LiesIn source))
    (cond-true (l.step source None state).forks (l.fork source state) [] forks) (parts l tidy source state).1

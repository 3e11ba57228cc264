-- What is cancelled, as far as a version goes (this project's own).
use Rattle.std.specs.Prelude.{◌≡◌, ℕ, true, List, flat_map}
use Rattle.text_words.specs.Members.{has}
use Rattle.exec_rules.specs.declared.version.Version.{Version}
use Rattle.exec_rules.specs.Listed.{executions}

-- both lists have the same of the executions that the version assigns
abbrev pub AgreeAt : Version → List ℕ → List ℕ → Type 0
AgreeAt version one other = (e : ℕ)
    → has (flat_map executions (flat_map (λ assigned. assigned.rows) version.assigned)) e ≡ true
    → has one e ≡ has other e

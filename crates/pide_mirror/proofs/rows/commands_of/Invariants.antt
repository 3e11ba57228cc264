use Rattle.std.proofs.Common.{◌≡◌, ◌==◌, ℕ, map, take}
use Rattle.std.specs.List.{list_any}
use Rattle.text_words.specs.Members.{has}
use Rattle.pide_mirror.proofs.rows.commands_of.Given as goal

abbrev pub invariant-entries : goal.invariant-entries
invariant-entries l = (id : ℕ) → list_any (λ key. id == key) l.commands.keys
    ≡ has (map (λ e. e.command) (take l.entry-index l.entries)) id

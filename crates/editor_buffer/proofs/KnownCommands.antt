-- The ids and the sources of the commands that a node had.
use Rattle.std.proofs.Common.{◌≡◌, ℕ, List, [], ◌∷◌, map, refl, ap}
use Rattle.doc_nodes.specs.declared.node.Entry.{Entry}
use Rattle.buffer_rules.specs.Cuts.{source}
use Rattle.buffer_rules.specs.Numbers.{Command}
use Rattle.editor_buffer.specs.Commands.{sources_in, commands_in}

pub firsts : (text : List ℕ) (es : List Entry) → map (λ (c : Command). c.0) (commands_in text es) ≡ map (λ (e : Entry). e.command) es
firsts text [] = refl
firsts text (e ∷ es) = ap (λ ids. e.command ∷ ids) (firsts text es)

pub seconds : (text : List ℕ) (es : List Entry) → map (λ (c : Command). c.1) (commands_in text es) ≡ sources_in text es
seconds text [] = refl
seconds text (e ∷ es) = ap (λ xs. source text e.range ∷ xs) (seconds text es)

-- The commands of one node, checked from nothing: one after the other.
use Rattle.std.proofs.Common.{◌≡◌, ℕ, ◌==◌, List, [], ◌∷◌, find, ap, ◌∙◌}
use Rattle.std.specs.Option.{option_map_or}
use Rattle.doc_nodes.specs.declared.node.Node.{Node}
use Rattle.doc_nodes.specs.Imports.{NodeList, is_bad}
use Rattle.doc_nodes.specs.Aliases.{aliases_at}
use Rattle.language.specs.Lang.{Lang}
use Rattle.core_rules.specs.Settings.{Setting}
use Rattle.core_rules.specs.Scratch.{begins_at, run_all, run_from, scratch_at}
use Rattle.text_check.specs.Headings.{alone, begins, headed, imports_of}
use Rattle.text_check.proofs.Alike.{aliases_alike, first_alike}
use Rattle.text_check.proofs.KnownOneNode.{imports_one, order_one}

-- the only node begins as its heading says
begins_one : {S : Type 0} (l : Lang S) (name : List ℕ) (node : Node)
    → begins_at l ((name, node) ∷ []) [] 0 (name, node) ≡ begins l (headed name node.imports node.keywords)
begins_one l name node =
    ap (λ imports. l.start name imports (aliases_at ((name, node) ∷ []) 0))
    (imports_one l ((name, node) ∷ []) node.imports (find (is_bad ((name, node) ∷ [])) node.imports)
    ∙ ap imports_of (first_alike name node node.imports))
    ∙ ap (l.start name (imports_of (find (is_bad (alone name node.imports node.keywords)) node.imports))) (aliases_alike name node)

-- the commands of the first node, when the nodes at these places were checked
abbrev checked_at : {S : Type 0} → Lang S → NodeList → List ℕ → List (Setting S)
checked_at l nodes ps = option_map_or (λ one. one.1.commands) (find (λ one. one.0 == 0) (run_all l nodes [] ps [])) []

-- and is checked so
pub scratch_one : {S : Type 0} (l : Lang S) (name : List ℕ) (node : Node)
    → scratch_at l ((name, node) ∷ []) [] 0 ≡ run_from l node [] node.entries (begins l (headed name node.imports node.keywords))
scratch_one l name node = ap (checked_at l ((name, node) ∷ [])) (order_one name node)
    ∙ ap (run_from l node [] node.entries) (begins_one l name node)

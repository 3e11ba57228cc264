-- The wanted prefix of a list with one command more.
use Rattle.std.proofs.Common.{◌≡◌, ℕ, suc, ◌+◌, Bool, true, false, List, [], ◌∷◌, ◌++◌, length, ap, ◌∙◌, arith}
use Rattle.doc_nodes.specs.declared.node.Entry.{Entry}
use Rattle.doc_nodes.specs.Prefix.{up_to, wanted_prefix}

up_more : (v : Bool) (n : ℕ) → up_to v (n + 1) ≡ n + 2
up_more v n = let same : n + 1 ≡ suc n = omega arith in let more : suc (suc n) ≡ n + 2 = omega arith in ap (up_to v) same ∙ more

pub prefix_hidden : (es : List Entry) (e : Entry) → e.visible ≡ false → wanted_prefix (es ++ e ∷ []) ≡ wanted_prefix es
prefix_hidden [] e hidden = ap (λ v. up_to v 0) hidden
prefix_hidden (d ∷ es) e hidden = ap (up_to d.visible) (prefix_hidden es e hidden)

pub prefix_visible : (es : List Entry) (e : Entry) → e.visible ≡ true → wanted_prefix (es ++ e ∷ []) ≡ length es + 1
prefix_visible [] e visible = ap (λ v. up_to v 0) visible
prefix_visible (d ∷ es) e visible =
    let more : length es + 2 ≡ length (d ∷ es) + 1 = omega arith in
    ap (up_to d.visible) (prefix_visible es e visible) ∙ up_more d.visible (length es) ∙ more

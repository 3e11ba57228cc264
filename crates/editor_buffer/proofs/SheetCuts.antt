-- What is kept beside a text.
use Rattle.std.proofs.Common.{◌≡◌, ℕ, List, sym, ap, ◌∙◌}
use Rattle.command_spans.specs.CutTexts.{Cuts, cut, AreCutsOf}

-- what a text is cut to under some aliases is its own
pub are_cuts : (text : List ℕ) (aliases : List (List ℕ)) (cuts : Cuts) → cuts ≡ cut text aliases → AreCutsOf text cuts
are_cuts text aliases cuts is = is ∙ ap (cut text) (sym (ap (λ (x : Cuts). x.aliases) is))

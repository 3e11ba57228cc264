-- One node more.
use Rattle.std.proofs.Common.{◌≡◌, ℕ, ◌+◌, Bool, List, [], ◌∷◌, ◌++◌, length, ap, sym, subst, ◌∙◌, arith, append_assoc}
use Rattle.std.proofs.lemmas.List.{length-append}
use Rattle.std.specs.Borrow.{Bor}
use Rattle.doc_nodes.specs.declared.node.Node.{Node}
use Rattle.doc_nodes.specs.Imports.{NodeList}
use Rattle.reply_messages.specs.declared.told.NodeRows.{NodeRows}
use Rattle.pide_mirror.specs.Listing.{listed_at}
use Rattle.pide_mirror.specs.Making.{is_marked, IsMadeBy, AreMadeBy}
use Rattle.pide_mirror.specs.declared.known.Known.{Known}
use Rattle.pide_mirror.specs.declared.renewing.NewRows.{NewRows}
use Rattle.pide_mirror.proofs.Named.{more_at}

-- one node more is made
pub made_more : (tip : Known) (marks : List Bool) (listing : List (ℕ × Bor NodeRows)) (nodes front rest more : NodeList) (all items : List NewRows) (place : ℕ)
    (pair : List ℕ × Node) (new : NewRows) → nodes ≡ front ++ rest → rest ≡ pair ∷ more → place ≡ length front → length front ≡ length all
    → AreMadeBy tip marks listing front all → IsMadeBy tip (is_marked marks place) (listed_at listing place) pair new → items ≡ all ++ new ∷ []
    → (f : NodeList) × (nodes ≡ f ++ more) × (place + 1 ≡ length f) × (length f ≡ length items) × AreMadeBy tip marks listing f items
made_more tip marks listing nodes front rest more all items place pair new whole split at long are one pushed = (
  front ++ pair ∷ [],
  whole ∙ ap (λ ns. front ++ ns) split ∙ sym (append_assoc front (pair ∷ []) more),
  omega (arith, at, length-append front (pair ∷ [])),
  omega (arith, long, length-append front (pair ∷ []), length-append all (new ∷ [])) ∙ ap length (sym pushed),
  subst (λ ms. AreMadeBy tip marks listing (front ++ pair ∷ []) ms) (sym pushed)
      (more_at (λ p x n. IsMadeBy tip (is_marked marks p) (listed_at listing p) x n) front all place pair new at long are one),
)

-- The nodes that sheets are cut into, whatever the ids of their commands.
use Rattle.std.proofs.Common.{◌≡◌, ◌+◌, ℕ, zero, suc, List, [], ◌∷◌, slice_get, Option, Some, None, refl, sym, ap, subst, arith}
use Rattle.std.specs.Prelude.{⊤}
use Rattle.doc_nodes.specs.Needs.{AliasList}
use Rattle.doc_nodes.specs.declared.node.Node.{Node}
use Rattle.doc_nodes.specs.Aliases.{aliases_at}
use Rattle.doc_nodes.specs.Imports.{NodeList}
use Rattle.buffer_rules.specs.declared.sheet.Sheet.{Sheet}
use Rattle.buffer_rules.specs.Nodes.{before_in, cut, nodes_after, nodes_from, sources, uncut_all}
use Rattle.buffer_rules.specs.Numbers.{Command, new_count}
use Rattle.buffer_rules.specs.Sheets.{SheetList}
use Rattle.soundness_laws.proofs.SameAliases.{SameHeads}

-- the node is the sheet, cut under these aliases
pub record IsCut (sheet : Sheet) (aliases : AliasList) (node : Node) : Type 0 where
  pub before : List Command
  pub next : ℕ
  pub is : node ≡ cut sheet aliases before next

-- so are all, each under the aliases at its place
abbrev pub AreCut : (ℕ → AliasList) → ℕ → SheetList → NodeList → Type 0
AreCut aliases p [] [] = ⊤
AreCut aliases p (x ∷ xs) (n ∷ ns) = (n.0 ≡ x.0) × IsCut x.1 (aliases p) n.1 × AreCut aliases (p + 1) xs ns
AreCut aliases p _ _ = ⊥

abbrev pub aliases_in : SheetList → ℕ → AliasList
aliases_in sheets p = (aliases_at (uncut_all sheets) p).pairs

cut_from : (tip all : NodeList) (p : ℕ) (sheets : SheetList) (next : ℕ) → AreCut (λ q. (aliases_at all q).pairs) p sheets (nodes_from tip all p sheets next).nodes
cut_from tip all p [] next = tt
cut_from tip all p (x ∷ xs) next = (
  refl,
  record { before = before_in tip x.0; next = next; is = refl },
  cut_from tip all (p + 1) xs (next + new_count (before_in tip x.0) (sources x.1 (aliases_at all p).pairs)),
)

pub cut_after : (tip : NodeList) (sheets : SheetList) (next : ℕ) → AreCut (aliases_in sheets) 0 sheets (nodes_after tip sheets next).nodes
cut_after tip sheets next = cut_from tip (uncut_all sheets) 0 sheets next

-- they have the headers of the sheets
pub cut_heads : (aliases : ℕ → AliasList) (p : ℕ) (sheets : SheetList) (nodes : NodeList) → AreCut aliases p sheets nodes → SameHeads (uncut_all sheets) nodes
cut_heads aliases p [] [] c = tt
cut_heads aliases p [] (n ∷ ns) c = absurd c
cut_heads aliases p (x ∷ xs) [] c = absurd c
cut_heads aliases p (x ∷ xs) (n ∷ ns) c = (
  sym c.0,
  ap (λ (m : Node). m.imports) (sym c.1.is),
  ap (λ (m : Node). m.keywords) (sym c.1.is),
  cut_heads aliases (p + 1) xs ns c.2,
)

-- what stands at a place of both
abbrev pub Cuts : AliasList → Option (List ℕ × Sheet) → Option (List ℕ × Node) → Type 0
Cuts aliases None None = ⊤
Cuts aliases (Some x) (Some n) = (n.0 ≡ x.0) × IsCut x.1 aliases n.1
Cuts aliases _ _ = ⊥

cuts_from : (aliases : ℕ → AliasList) (p : ℕ) (sheets : SheetList) (nodes : NodeList) → AreCut aliases p sheets nodes
    → (q r : ℕ) → p + q ≡ r → Cuts (aliases r) (slice_get sheets q) (slice_get nodes q)
cuts_from aliases p [] [] c q r e = tt
cuts_from aliases p [] (n ∷ ns) c q r e = absurd c
cuts_from aliases p (x ∷ xs) [] c q r e = absurd c
cuts_from aliases p (x ∷ xs) (n ∷ ns) c zero r e =
    let same : p ≡ r = omega (arith, e) in
    subst (λ k. Cuts (aliases k) (Some x) (Some n)) same (c.0, c.1)
cuts_from aliases p (x ∷ xs) (n ∷ ns) c (suc q) r e = cuts_from aliases (p + 1) xs ns c.2 q r (omega (arith, e))

pub cuts_at : (aliases : ℕ → AliasList) (sheets : SheetList) (nodes : NodeList) → AreCut aliases 0 sheets nodes → (q : ℕ) → Cuts (aliases q) (slice_get sheets q) (slice_get nodes q)
cuts_at aliases sheets nodes c q = cuts_from aliases 0 sheets nodes c q q (omega arith)

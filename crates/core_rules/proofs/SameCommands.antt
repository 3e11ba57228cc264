-- Commands that keep their evaluations have the same source and blob as before.
use Rattle.std.proofs.Common.{◌≡◌, ℕ, suc, Bool, true, false, not, ◌&&◌, cond, List, [], ◌∷◌, refl, ap, sym, ◌∙◌}
use Rattle.std.proofs.lemmas.Bool.{eqb-true, and_parts}
use Rattle.std.specs.Prelude.{◌==◌, ⊤}
use Rattle.text_words.specs.Members.{has}
use Rattle.doc_nodes.specs.declared.node.Entry.{Entry}
use Rattle.doc_nodes.specs.declared.node.Node.{Node}
use Rattle.exec_rules.specs.declared.row.Row.{Row}
use Rattle.exec_rules.specs.declared.home.Input.{Input}
use Rattle.exec_rules.specs.Kept.{Times, agree, blob_of, same_blob, keeps, kept_count}
use Rattle.exec_rules.specs.Homes.{home}
use Rattle.exec_rules.proofs.KnownKept.{agree_is}
use Rattle.core_rules.specs.Updates.{source_in}
use Rattle.core_rules.proofs.KeptRows.{SameHome, SameFront}

module _ (node old : Node) (times : Times) where
  -- commands at the same place that are the same have the same source
  abbrev pub SameSources : List Entry → List Entry → Type 0
  SameSources [] bs = ⊤
  SameSources (e ∷ es) [] = ⊤
  SameSources (e ∷ es) (b ∷ bs) = (e.command ≡ b.command → source_in node e ≡ source_in old b) × SameSources es bs

  same_by : (e b : Entry) (i : Input) → source_in node e ≡ source_in old b → blob_of times.now e.needs ≡ blob_of times.before b.needs
      → home old times.before b i ≡ home node times.now e i
  same_by e b i source blob =
      ap (λ x. record { source = x; blob = blob_of times.before b.needs; input = i }) (sym source)
      ∙ ap (λ x. record { source = source_in node e; blob = x; input = i }) (sym blob)

  same_one : (e b : Entry) (r : Row) → keeps times e b r ≡ true → (e.command ≡ b.command → source_in node e ≡ source_in old b)
      → SameHome node old times.now times.before e b
  same_one e b r keep source =
      let first = and_parts (e.command == b.command) (not (has times.cancelled r.evaluation) && same_blob times e.needs b.needs) keep in
      let second = and_parts (not (has times.cancelled r.evaluation)) (same_blob times e.needs b.needs) first.1 in
      let third = and_parts (agree e.needs b.needs) (agree (blob_of times.now e.needs) (blob_of times.before b.needs)) second.1 in
      λ i. same_by e b i (source (eqb-true e.command b.command first.0)) (agree_is _ _ third.1)

  by : (b : Bool) (e c : Entry) (r : Row) (es cs : List Entry) (n : ℕ) → keeps times e c r ≡ b
      → (e.command ≡ c.command → source_in node e ≡ source_in old c) → SameFront node old times.now times.before n es cs
      → SameFront node old times.now times.before (cond b (suc n) 0) (e ∷ es) (c ∷ cs)
  by true e c r es cs n keep source rest = (same_one e c r keep source, rest)
  by false e c r es cs n keep source rest = tt

  pub same_front : (es bs : List Entry) (rs : List Row) → SameSources es bs
      → SameFront node old times.now times.before (kept_count times es bs rs) es bs
  same_front [] bs rs same = tt
  same_front (e ∷ es) [] rs same = tt
  same_front (e ∷ es) (b ∷ bs) [] same = tt
  same_front (e ∷ es) (b ∷ bs) (r ∷ rs) same =
      by (keeps times e b r) e b r es bs (kept_count times es bs rs) refl same.0
      (same_front es bs rs same.1)

-- The commands and their words (after Isabelle's Isar, Wenzel 1999; this project's own choice).
use Rattle.std.specs.Prelude.{ℕ, List, [], ◌∷◌, codes, Option}
use Rattle.shared_map.specs.Pairs.{found}
use Rattle.doc_nodes.specs.Names.{in_order}
use Rattle.isar_rules.specs.declared.verb.Verb.{Verb}
use Rattle.isar_rules.specs.declared.verb.Verb.TheVariants as verb

-- each word with its command
abbrev pub verbs : List (List ℕ × Verb)
verbs = (codes "theory", verb.Theory) ∷ (codes "end", verb.End) ∷ (codes "axiom", verb.Axiom)
    ∷ (codes "lemma", verb.Lemma) ∷ (codes "load", verb.Load) ∷ (codes "proof", verb.Proof)
    ∷ (codes "fix", verb.Fix) ∷ (codes "assume", verb.Assume) ∷ (codes "have", verb.Have)
    ∷ (codes "show", verb.Show) ∷ (codes "next", verb.Next) ∷ (codes "qed", verb.Qed)
    ∷ (codes "by", verb.By) ∷ []

-- the command that a word is
abbrev pub verb_of : List ℕ → Option Verb
verb_of word = found in_order word verbs

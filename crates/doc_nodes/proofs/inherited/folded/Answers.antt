use Rattle.std.proofs.Common.{◌≡◌, ℕ, List, ◌++◌, length, sym, ap, ◌∙◌}
use Rattle.std.specs.Prelude.{map}
use Rattle.std.specs.List.{flat_map}
use Rattle.outer_syntax.specs.declared.parts.KeywordPair.{KeywordPair}
use Rattle.doc_nodes.specs.declared.inherited.NodeAliases.{NodeAliases}
use Rattle.doc_nodes.specs.Aliases.{no_aliases, folded, pairs_from}
use Rattle.doc_nodes.proofs.FoldLemmas.{first_same, made_by, same_along}
use Rattle.doc_nodes.proofs.CleanFolds.{folded-append}
use Rattle.doc_nodes.proofs.inherited.folded.Goals as goal

pub returns-in-Some-first : goal.returns-in-Some-first
returns-in-Some-first c = λ done are.
    let own : List (List ℕ × List ℕ) = map (λ (pair : KeywordPair). (pair.name, pair.target)) c.args.keywords.now in
    let whole : c.in_ok-with_own.field-0 ≡ folded no_aliases (flat_map (pairs_from done) c.args.aims.now ++ own) =
    c.in_ok-with_own.ensures
    ∙ ap (λ (a : NodeAliases). folded a own) (c.in_ok-from_imports.ensures done are)
    ∙ sym (folded-append (flat_map (pairs_from done) c.args.aims.now) own no_aliases) in
    let pairs : c.into_parts-pairs.result.0 ≡ (folded no_aliases (flat_map (pairs_from done) c.args.aims.now ++ own)).pairs =
    c.into_parts-pairs.ensures.aliases ∙ ap (λ (a : NodeAliases). a.pairs) whole in
    let base = c.in-Some-first.base.now in
    let len : length base ≡ length (folded no_aliases (flat_map (pairs_from done) c.args.aims.now ++ own)).pairs =
    sym (ap length c.get.ensures) ∙ sym c.len.ensures ∙ c.if-len-count.true ∙ c.len-count.ensures ∙ ap length pairs in
    made_by c.with_bad-in-Some-first.result c.copy-in-Some-first.result _ _ c.with_bad-in-Some-first.ensures.pairs c.with_bad-in-Some-first.ensures.bad
    (same_along c.copy-in-Some-first.result base _ c.copy-in-Some-first.ensures (first_same c.args.all.now done c.args.aims.now own base are c.in-Some-first.ensures len))
    (c.into_parts-pairs.ensures.bad ∙ ap (λ (a : NodeAliases). a.bad) whole)

pub returns-in_default : goal.returns-in_default
returns-in_default c = λ done are.
    let own : List (List ℕ × List ℕ) = map (λ (pair : KeywordPair). (pair.name, pair.target)) c.args.keywords.now in
    let whole : c.in_ok-with_own.field-0 ≡ folded no_aliases (flat_map (pairs_from done) c.args.aims.now ++ own) =
    c.in_ok-with_own.ensures
    ∙ ap (λ (a : NodeAliases). folded a own) (c.in_ok-from_imports.ensures done are)
    ∙ sym (folded-append (flat_map (pairs_from done) c.args.aims.now) own no_aliases) in
    made_by c.with_bad-in_default.result c.shared.result _ _ c.with_bad-in_default.ensures.pairs c.with_bad-in_default.ensures.bad
    (same_along c.shared.result _ _ c.shared.ensures (c.into_parts-pairs.ensures.aliases ∙ ap (λ (a : NodeAliases). a.pairs) whole))
    (c.into_parts-pairs.ensures.bad ∙ ap (λ (a : NodeAliases). a.bad) whole)

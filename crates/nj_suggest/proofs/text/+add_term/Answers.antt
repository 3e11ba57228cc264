use Rattle.std.proofs.Common.{rules, ◌≡◌, ◌∙◌, [], ◌∷◌, ◌++◌, string_bytes, ap, sym}
use Rattle.std.proofs.lemmas.Result.{on_ok_weaker}
use Rattle.nj_kernel.specs.declared.rule.Rule.TheVariants as R
use Rattle.nj_syntax.specs.ArgumentText.{argument_text}
use Rattle.proof_terms.proofs.KnownTerms.{fold-ConjI, fold-DisjE, fold-ImpE, fold-NotE, fold-AllE, fold-ExI, fold-ExE}
use Rattle.suggest_rules.specs.TermText.{quoted, formula, ruled, term_layer, term_text}
use Rattle.nj_suggest.proofs.FormLemmas.{after_plain, after_eliminating, after_instancing}
use Rattle.nj_suggest.proofs.TextLemmas.{none_yet, one_yet, one_more, two_more, last, last_two}
use Rattle.nj_suggest.proofs.text.+add_term.Goals as goal

pub add_term-returns-in_ok-add_part-in-ConjI : goal.add_term-returns-in_ok-add_part-in-ConjI
add_term-returns-in_ok-add_part-in-ConjI t c =
    let old = string_bytes c.args.text.now in
    let s0 = none_yet R.ConjI old (string_bytes c.add_rule.new.text) c.in_ok-add_rule-in-ConjI.ensures in
    let s1 = one_more R.ConjI old (string_bytes c.add_rule.new.text) [] s0 (string_bytes c.add_part.new.text) (term_text c.get.result.now) c.in_ok-add_part-in-ConjI.ensures in
    let g0 : c.get.result.now ≡ c.in-ConjI.t = c.get.ensures in
    let g1 : c.get-in-ConjI.result.now ≡ c.in-ConjI.u = c.get-in-ConjI.ensures in
    let is : ruled R.ConjI (term_text c.get.result.now ∷ term_text c.get-in-ConjI.result.now ∷ []) ≡ term_text c.args.term.now =
    ap (λ z. ruled R.ConjI (term_text z ∷ term_text c.get-in-ConjI.result.now ∷ [])) g0
    ∙ (ap (λ z. ruled R.ConjI (term_text c.in-ConjI.t ∷ term_text z ∷ [])) g1
    ∙ sym (ap term_text c.in-ConjI.is ∙ fold-ConjI term_layer c.in-ConjI.t c.in-ConjI.u)) in
    on_ok_weaker c.add_last.result
    (λ e. last R.ConjI old (string_bytes c.add_part.new.text) (term_text c.get.result.now ∷ []) s1 (term_text c.get-in-ConjI.result.now) (string_bytes c.add_last.new.text) e ∙ ap (λ w. old ++ w) is)
    c.add_last.ensures

pub add_eliminating-returns-in_ok-add_case-in-DisjE : goal.add_eliminating-returns-in_ok-add_case-in-DisjE
add_eliminating-returns-in_ok-add_case-in-DisjE t c =
    let old = string_bytes c.args.text.now in
    let s0 = one_yet R.DisjE old (string_bytes c.add_quoting.new.text) (formula c.get.result.now) c.in_ok-add_quoting-in-DisjE.ensures in
    let s1 = one_more R.DisjE old (string_bytes c.add_quoting.new.text) (formula c.get.result.now ∷ []) s0 (string_bytes c.add_formula.new.text) (formula c.get-in-DisjE.result.now) c.in_ok-add_formula-in-DisjE.ensures in
    let s2 = one_more R.DisjE old (string_bytes c.add_formula.new.text) (formula c.get.result.now ∷ formula c.get-in-DisjE.result.now ∷ []) s1 (string_bytes c.add_part.new.text) (term_text c.get-in-DisjE-2.result.now) c.in_ok-add_part-in-DisjE.ensures in
    let s3 = two_more R.DisjE old (string_bytes c.add_part.new.text) (formula c.get.result.now ∷ formula c.get-in-DisjE.result.now ∷ term_text c.get-in-DisjE-2.result.now ∷ []) s2 c.in-DisjE.x (term_text c.get-in-DisjE-3.result.now) (string_bytes c.add_case.new.text) c.in_ok-add_case-in-DisjE.ensures in
    let g0 : c.get.result.now ≡ c.in-DisjE.a = c.get.ensures in
    let g1 : c.get-in-DisjE.result.now ≡ c.in-DisjE.b = c.get-in-DisjE.ensures in
    let g2 : c.get-in-DisjE-2.result.now ≡ c.in-DisjE.t = c.get-in-DisjE-2.ensures in
    let g4 : c.get-in-DisjE-3.result.now ≡ c.in-DisjE.u = c.get-in-DisjE-3.ensures in
    let g6 : c.get-in-DisjE-4.result.now ≡ c.in-DisjE.v = c.get-in-DisjE-4.ensures in
    let is : ruled R.DisjE (formula c.get.result.now ∷ formula c.get-in-DisjE.result.now ∷ term_text c.get-in-DisjE-2.result.now ∷ c.in-DisjE.x ∷ term_text c.get-in-DisjE-3.result.now ∷ c.in-DisjE.y ∷ term_text c.get-in-DisjE-4.result.now ∷ []) ≡ term_text c.args.term.now =
    ap (λ z. ruled R.DisjE (formula z ∷ formula c.get-in-DisjE.result.now ∷ term_text c.get-in-DisjE-2.result.now ∷ c.in-DisjE.x ∷ term_text c.get-in-DisjE-3.result.now ∷ c.in-DisjE.y ∷ term_text c.get-in-DisjE-4.result.now ∷ [])) g0
    ∙ (ap (λ z. ruled R.DisjE (formula c.in-DisjE.a ∷ formula z ∷ term_text c.get-in-DisjE-2.result.now ∷ c.in-DisjE.x ∷ term_text c.get-in-DisjE-3.result.now ∷ c.in-DisjE.y ∷ term_text c.get-in-DisjE-4.result.now ∷ [])) g1
    ∙ (ap (λ z. ruled R.DisjE (formula c.in-DisjE.a ∷ formula c.in-DisjE.b ∷ term_text z ∷ c.in-DisjE.x ∷ term_text c.get-in-DisjE-3.result.now ∷ c.in-DisjE.y ∷ term_text c.get-in-DisjE-4.result.now ∷ [])) g2
    ∙ (ap (λ z. ruled R.DisjE (formula c.in-DisjE.a ∷ formula c.in-DisjE.b ∷ term_text c.in-DisjE.t ∷ c.in-DisjE.x ∷ term_text z ∷ c.in-DisjE.y ∷ term_text c.get-in-DisjE-4.result.now ∷ [])) g4
    ∙ (ap (λ z. ruled R.DisjE (formula c.in-DisjE.a ∷ formula c.in-DisjE.b ∷ term_text c.in-DisjE.t ∷ c.in-DisjE.x ∷ term_text c.in-DisjE.u ∷ c.in-DisjE.y ∷ term_text z ∷ [])) g6
    ∙ sym (ap term_text c.in-DisjE.is ∙ fold-DisjE term_layer c.in-DisjE.a c.in-DisjE.b c.in-DisjE.t c.in-DisjE.x c.in-DisjE.u c.in-DisjE.y c.in-DisjE.v))))) in
    on_ok_weaker c.add_last_case.result
    (λ e. last_two R.DisjE old (string_bytes c.add_case.new.text) (formula c.get.result.now ∷ formula c.get-in-DisjE.result.now ∷ term_text c.get-in-DisjE-2.result.now ∷ c.in-DisjE.x ∷ term_text c.get-in-DisjE-3.result.now ∷ []) s3 c.in-DisjE.y (term_text c.get-in-DisjE-4.result.now) (string_bytes c.add_last_case.new.text) e ∙ ap (λ w. old ++ w) is)
    c.add_last_case.ensures

pub add_eliminating-returns-in_ok-add_part-in-ImpE : goal.add_eliminating-returns-in_ok-add_part-in-ImpE
add_eliminating-returns-in_ok-add_part-in-ImpE t c =
    let old = string_bytes c.args.text.now in
    let s0 = one_yet R.ImpE old (string_bytes c.add_quoting-in-ImpE.new.text) (formula c.get-in-ImpE.result.now) c.in_ok-add_quoting-in-ImpE.ensures in
    let s1 = one_more R.ImpE old (string_bytes c.add_quoting-in-ImpE.new.text) (formula c.get-in-ImpE.result.now ∷ []) s0 (string_bytes c.add_part-in-ImpE.new.text) (term_text c.get-in-ImpE-2.result.now) c.in_ok-add_part-in-ImpE.ensures in
    let g0 : c.get-in-ImpE.result.now ≡ c.in-ImpE.a = c.get-in-ImpE.ensures in
    let g1 : c.get-in-ImpE-2.result.now ≡ c.in-ImpE.t = c.get-in-ImpE-2.ensures in
    let g2 : c.get-in-ImpE-3.result.now ≡ c.in-ImpE.u = c.get-in-ImpE-3.ensures in
    let is : ruled R.ImpE (formula c.get-in-ImpE.result.now ∷ term_text c.get-in-ImpE-2.result.now ∷ term_text c.get-in-ImpE-3.result.now ∷ []) ≡ term_text c.args.term.now =
    ap (λ z. ruled R.ImpE (formula z ∷ term_text c.get-in-ImpE-2.result.now ∷ term_text c.get-in-ImpE-3.result.now ∷ [])) g0
    ∙ (ap (λ z. ruled R.ImpE (formula c.in-ImpE.a ∷ term_text z ∷ term_text c.get-in-ImpE-3.result.now ∷ [])) g1
    ∙ (ap (λ z. ruled R.ImpE (formula c.in-ImpE.a ∷ term_text c.in-ImpE.t ∷ term_text z ∷ [])) g2
    ∙ sym (ap term_text c.in-ImpE.is ∙ fold-ImpE term_layer c.in-ImpE.a c.in-ImpE.t c.in-ImpE.u))) in
    on_ok_weaker c.add_last.result
    (λ e. last R.ImpE old (string_bytes c.add_part-in-ImpE.new.text) (formula c.get-in-ImpE.result.now ∷ term_text c.get-in-ImpE-2.result.now ∷ []) s1 (term_text c.get-in-ImpE-3.result.now) (string_bytes c.add_last.new.text) e ∙ ap (λ w. old ++ w) is)
    c.add_last.ensures

pub add_eliminating-returns-in_ok-add_part-in-NotE : goal.add_eliminating-returns-in_ok-add_part-in-NotE
add_eliminating-returns-in_ok-add_part-in-NotE t c =
    let old = string_bytes c.args.text.now in
    let s0 = one_yet R.NotE old (string_bytes c.add_quoting-in-NotE.new.text) (formula c.get-in-NotE.result.now) c.in_ok-add_quoting-in-NotE.ensures in
    let s1 = one_more R.NotE old (string_bytes c.add_quoting-in-NotE.new.text) (formula c.get-in-NotE.result.now ∷ []) s0 (string_bytes c.add_part-in-NotE.new.text) (term_text c.get-in-NotE-2.result.now) c.in_ok-add_part-in-NotE.ensures in
    let g0 : c.get-in-NotE.result.now ≡ c.in-NotE.a = c.get-in-NotE.ensures in
    let g1 : c.get-in-NotE-2.result.now ≡ c.in-NotE.t = c.get-in-NotE-2.ensures in
    let g2 : c.get-in-NotE-3.result.now ≡ c.in-NotE.u = c.get-in-NotE-3.ensures in
    let is : ruled R.NotE (formula c.get-in-NotE.result.now ∷ term_text c.get-in-NotE-2.result.now ∷ term_text c.get-in-NotE-3.result.now ∷ []) ≡ term_text c.args.term.now =
    ap (λ z. ruled R.NotE (formula z ∷ term_text c.get-in-NotE-2.result.now ∷ term_text c.get-in-NotE-3.result.now ∷ [])) g0
    ∙ (ap (λ z. ruled R.NotE (formula c.in-NotE.a ∷ term_text z ∷ term_text c.get-in-NotE-3.result.now ∷ [])) g1
    ∙ (ap (λ z. ruled R.NotE (formula c.in-NotE.a ∷ term_text c.in-NotE.t ∷ term_text z ∷ [])) g2
    ∙ sym (ap term_text c.in-NotE.is ∙ fold-NotE term_layer c.in-NotE.a c.in-NotE.t c.in-NotE.u))) in
    on_ok_weaker c.add_last-in-NotE.result
    (λ e. last R.NotE old (string_bytes c.add_part-in-NotE.new.text) (formula c.get-in-NotE.result.now ∷ term_text c.get-in-NotE-2.result.now ∷ []) s1 (term_text c.get-in-NotE-3.result.now) (string_bytes c.add_last-in-NotE.new.text) e ∙ ap (λ w. old ++ w) is)
    c.add_last-in-NotE.ensures

pub add_instancing-returns-in_ok-add_object-in-AllE : goal.add_instancing-returns-in_ok-add_object-in-AllE
add_instancing-returns-in_ok-add_object-in-AllE t c =
    let old = string_bytes c.args.text.now in
    let s0 = one_yet R.AllE old (string_bytes c.add_quoting.new.text) (formula c.get.result.now) c.in_ok-add_quoting-in-AllE.ensures in
    let s1 = one_more R.AllE old (string_bytes c.add_quoting.new.text) (formula c.get.result.now ∷ []) s0 (string_bytes c.add_object.new.text) (quoted (argument_text [] c.get-in-AllE.result.now)) c.in_ok-add_object-in-AllE.ensures in
    let g0 : c.get.result.now ≡ c.in-AllE.q = c.get.ensures in
    let g1 : c.get-in-AllE.result.now ≡ c.in-AllE.s = c.get-in-AllE.ensures in
    let g2 : c.get-in-AllE-2.result.now ≡ c.in-AllE.t = c.get-in-AllE-2.ensures in
    let is : ruled R.AllE (formula c.get.result.now ∷ quoted (argument_text [] c.get-in-AllE.result.now) ∷ term_text c.get-in-AllE-2.result.now ∷ []) ≡ term_text c.args.term.now =
    ap (λ z. ruled R.AllE (formula z ∷ quoted (argument_text [] c.get-in-AllE.result.now) ∷ term_text c.get-in-AllE-2.result.now ∷ [])) g0
    ∙ (ap (λ z. ruled R.AllE (formula c.in-AllE.q ∷ quoted (argument_text [] z) ∷ term_text c.get-in-AllE-2.result.now ∷ [])) g1
    ∙ (ap (λ z. ruled R.AllE (formula c.in-AllE.q ∷ quoted (argument_text [] c.in-AllE.s) ∷ term_text z ∷ [])) g2
    ∙ sym (ap term_text c.in-AllE.is ∙ fold-AllE term_layer c.in-AllE.q c.in-AllE.s c.in-AllE.t))) in
    on_ok_weaker c.add_last.result
    (λ e. last R.AllE old (string_bytes c.add_object.new.text) (formula c.get.result.now ∷ quoted (argument_text [] c.get-in-AllE.result.now) ∷ []) s1 (term_text c.get-in-AllE-2.result.now) (string_bytes c.add_last.new.text) e ∙ ap (λ w. old ++ w) is)
    c.add_last.ensures

pub add_instancing-returns-in_ok-add_object-in-ExI : goal.add_instancing-returns-in_ok-add_object-in-ExI
add_instancing-returns-in_ok-add_object-in-ExI t c =
    let old = string_bytes c.args.text.now in
    let s0 = none_yet R.ExI old (string_bytes c.add_rule.new.text) c.in_ok-add_rule-in-ExI.ensures in
    let s1 = one_more R.ExI old (string_bytes c.add_rule.new.text) [] s0 (string_bytes c.add_object-in-ExI.new.text) (quoted (argument_text [] c.get-in-ExI.result.now)) c.in_ok-add_object-in-ExI.ensures in
    let g0 : c.get-in-ExI.result.now ≡ c.in-ExI.s = c.get-in-ExI.ensures in
    let g1 : c.get-in-ExI-2.result.now ≡ c.in-ExI.t = c.get-in-ExI-2.ensures in
    let is : ruled R.ExI (quoted (argument_text [] c.get-in-ExI.result.now) ∷ term_text c.get-in-ExI-2.result.now ∷ []) ≡ term_text c.args.term.now =
    ap (λ z. ruled R.ExI (quoted (argument_text [] z) ∷ term_text c.get-in-ExI-2.result.now ∷ [])) g0
    ∙ (ap (λ z. ruled R.ExI (quoted (argument_text [] c.in-ExI.s) ∷ term_text z ∷ [])) g1
    ∙ sym (ap term_text c.in-ExI.is ∙ fold-ExI term_layer c.in-ExI.s c.in-ExI.t)) in
    on_ok_weaker c.add_last-in-ExI.result
    (λ e. last R.ExI old (string_bytes c.add_object-in-ExI.new.text) (quoted (argument_text [] c.get-in-ExI.result.now) ∷ []) s1 (term_text c.get-in-ExI-2.result.now) (string_bytes c.add_last-in-ExI.new.text) e ∙ ap (λ w. old ++ w) is)
    c.add_last-in-ExI.ensures

pub add_instancing-returns-in_ok-add_case-in-ExE : goal.add_instancing-returns-in_ok-add_case-in-ExE
add_instancing-returns-in_ok-add_case-in-ExE t c =
    let old = string_bytes c.args.text.now in
    let s0 = one_yet R.ExE old (string_bytes c.add_quoting-in-ExE.new.text) (formula c.get-in-ExE.result.now) c.in_ok-add_quoting-in-ExE.ensures in
    let s1 = one_more R.ExE old (string_bytes c.add_quoting-in-ExE.new.text) (formula c.get-in-ExE.result.now ∷ []) s0 (string_bytes c.add_name.new.text) c.in-ExE.x c.in_ok-add_name-in-ExE.ensures in
    let s2 = two_more R.ExE old (string_bytes c.add_name.new.text) (formula c.get-in-ExE.result.now ∷ c.in-ExE.x ∷ []) s1 c.in-ExE.h (term_text c.get-in-ExE-2.result.now) (string_bytes c.add_case.new.text) c.in_ok-add_case-in-ExE.ensures in
    let g0 : c.get-in-ExE.result.now ≡ c.in-ExE.q = c.get-in-ExE.ensures in
    let g3 : c.get-in-ExE-2.result.now ≡ c.in-ExE.t = c.get-in-ExE-2.ensures in
    let g4 : c.get-in-ExE-3.result.now ≡ c.in-ExE.u = c.get-in-ExE-3.ensures in
    let is : ruled R.ExE (formula c.get-in-ExE.result.now ∷ c.in-ExE.x ∷ c.in-ExE.h ∷ term_text c.get-in-ExE-2.result.now ∷ term_text c.get-in-ExE-3.result.now ∷ []) ≡ term_text c.args.term.now =
    ap (λ z. ruled R.ExE (formula z ∷ c.in-ExE.x ∷ c.in-ExE.h ∷ term_text c.get-in-ExE-2.result.now ∷ term_text c.get-in-ExE-3.result.now ∷ [])) g0
    ∙ (ap (λ z. ruled R.ExE (formula c.in-ExE.q ∷ c.in-ExE.x ∷ c.in-ExE.h ∷ term_text z ∷ term_text c.get-in-ExE-3.result.now ∷ [])) g3
    ∙ (ap (λ z. ruled R.ExE (formula c.in-ExE.q ∷ c.in-ExE.x ∷ c.in-ExE.h ∷ term_text c.in-ExE.t ∷ term_text z ∷ [])) g4
    ∙ sym (ap term_text c.in-ExE.is ∙ fold-ExE term_layer c.in-ExE.q c.in-ExE.x c.in-ExE.h c.in-ExE.t c.in-ExE.u))) in
    on_ok_weaker c.add_last-in-ExE.result
    (λ e. last R.ExE old (string_bytes c.add_case.new.text) (formula c.get-in-ExE.result.now ∷ c.in-ExE.x ∷ c.in-ExE.h ∷ term_text c.get-in-ExE-2.result.now ∷ []) s2 (term_text c.get-in-ExE-3.result.now) (string_bytes c.add_last-in-ExE.new.text) e ∙ ap (λ w. old ++ w) is)
    c.add_last-in-ExE.ensures

pub add_term-add_eliminating-requires : goal.add_term-add_eliminating-requires
add_term-add_eliminating-requires t c =
    let d = c.in_default in
    let form = after_plain c.args.term.now d.not-Fact d.not-ConjI d.not-ConjE1 d.not-ConjE2
    d.not-DisjI1 d.not-DisjI2 d.not-ImpI d.not-NotI d.not-FalseE d.not-AllI in
    search (rules, form)

pub add_eliminating-add_instancing-requires : goal.add_eliminating-add_instancing-requires
add_eliminating-add_instancing-requires t c =
    let d = c.in_default in
    let form = after_eliminating c.args.term.now c.requires d.not-DisjE d.not-ImpE d.not-NotE in
    search (rules, form)

pub add_instancing-unreachable-requires : goal.add_instancing-unreachable-requires
add_instancing-unreachable-requires t c =
    let d = c.in_default in
    after_instancing c.args.term.now c.requires d.not-AllE d.not-ExI d.not-ExE

pub add_instancing-unreachable-unreachable : goal.add_instancing-unreachable-unreachable
add_instancing-unreachable-unreachable t c =
    let d = c.in_default in
    after_instancing c.args.term.now c.requires d.not-AllE d.not-ExI d.not-ExE

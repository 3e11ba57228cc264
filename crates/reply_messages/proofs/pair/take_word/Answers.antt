-- A node is an element, and its text is the word.
use Rattle.std.proofs.Common.{◌≡◌, ◌++◌, [], ◌∷◌, refl, sym, ap, subst, ◌∙◌, arith}
use Rattle.std.proofs.lemmas.Bool.{both_ways}
use Rattle.reply_messages.specs.Found.{Finds}
use Rattle.reply_messages.specs.Marks.{element_bytes, node_bytes}
use Rattle.reply_messages.proofs.Cuts.{one_element}
use Rattle.reply_messages.proofs.Taking.{fronts}
use Rattle.reply_messages.proofs.pair.take_word.Goals as goal

pub returns-in_default : goal.returns-in_default
returns-in_default g c = λ value rest fits e. c.in_default.ensures (58 ∷ []) (g.W.Word.word value) rest (refl, tt) (c.requires.words.unmarked value fits) e

pub returns-then-not-is_node : goal.returns-then-not-is_node
returns-then-not-is_node g c = λ value rest fits e.
    let here = c.in-Some.ensures in
    let same = one_element c.in-Some.element.tag.now c.in-Some.element.text.now c.in-Some.element.rest.now (58 ∷ []) (g.W.Word.word value) rest
    here.0 here.1 (refl, tt) (c.requires.words.unmarked value fits) (sym here.2 ∙ e) in
    both_ways c.is_node.result c.if-not-is_node.true (c.is_node.ensures.1 same.0)

pub returns-in_default-2 : goal.returns-in_default-2
returns-in_default-2 g c = λ value rest fits e.
    let here = c.in-Some.ensures in
    let same = one_element c.in-Some.element.tag.now c.in-Some.element.text.now c.in-Some.element.rest.now (58 ∷ []) (g.W.Word.word value) rest
    here.0 here.1 (refl, tt) (c.requires.words.unmarked value fits) (sym here.2 ∙ e) in
    subst (λ found. Finds g.W.Word.word g.W.Word.fits c.in-Some.element.text.now found) c.in_default-2.is c.in_ok-value.ensures value fits (sym same.1)

pub returns : goal.returns
returns g c =
    let here = c.in-Some.ensures in
    let told = subst (λ found. Finds g.W.Word.word g.W.Word.fits c.in-Some.element.text.now found) c.in-Some-2.is c.in_ok-value.ensures in
    let tag : c.in-Some.element.tag.now ≡ 58 ∷ [] = c.is_node.ensures.0 c.if-not-is_node.false in
    fronts (λ value. node_bytes (g.W.Word.word value)) g.W.Word.fits c.args.text.now c.in-Some.element.rest.now c.in-Some-2.value told.0 (omega arith)
    (here.2 ∙ ap (λ t. element_bytes t c.in-Some.element.text.now ++ c.in-Some.element.rest.now) tag
    ∙ ap (λ w. node_bytes w ++ c.in-Some.element.rest.now) (sym told.1))

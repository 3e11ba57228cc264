-- What stands behind the word, and behind the list.
use Rattle.std.proofs.Common.{[], ◌∷◌, drop, sym, subst, ◌∙◌, arith}
use Rattle.std.specs.List.{flat_map}
use Rattle.std.proofs.lemmas.List.{append_cancel_left, take_rest}
use Rattle.reply_messages.specs.Found.{FindsFront}
use Rattle.reply_messages.specs.Marks.{node_bytes}
use Rattle.reply_messages.proofs.Taking.{fronts, behind_first, behind_second, pair_told}
use Rattle.reply_messages.proofs.pair.take_listed.Goals as goal

pub returns-in_default-after : goal.returns-in_default-after
returns-in_default-after g c = λ value rest fits e.
    let of = subst (λ found. FindsFront (λ v. node_bytes (g.W.Word.word v)) g.W.Word.fits c.in-Some.inner.now found) c.in-Some-2.is c.in_ok-of.ensures in
    c.in_default-after.ensures _ (take_rest c.in-Some.inner.now c.in-Some-2.of.length ∙ (behind_first c.args.text.now c.in-Some.inner.now (g.W.Word.word c.in-Some-2.of.value) (drop c.in-Some-2.of.length c.in-Some.inner.now)
    (g.W.Word.word value.of) (flat_map g.P.Piece.spelling value.items) rest c.in-Some.ensures of.told
    (c.requires.words.unmarked c.in-Some-2.of.value of.fits) (c.requires.words.unmarked value.of fits.0) e).1)

pub returns-in_default-after-2 : goal.returns-in_default-after-2
returns-in_default-after-2 g c = λ value rest fits e.
    let of = subst (λ found. FindsFront (λ v. node_bytes (g.W.Word.word v)) g.W.Word.fits c.in-Some.inner.now found) c.in-Some-2.is c.in_ok-of.ensures in
    let second = (behind_first c.args.text.now c.in-Some.inner.now (g.W.Word.word c.in-Some-2.of.value) (drop c.in-Some-2.of.length c.in-Some.inner.now)
    (g.W.Word.word value.of) (flat_map g.P.Piece.spelling value.items) rest c.in-Some.ensures of.told
    (c.requires.words.unmarked c.in-Some-2.of.value of.fits) (c.requires.words.unmarked value.of fits.0) e).1 in
    c.in_default-after-2.ensures _ (take_rest c.in-Some-after.inner.now c.in_ok-items.items.length ∙ behind_second g.P.Piece.spelling g.P.Piece.fits c.requires.elements (drop c.in-Some-2.of.length c.in-Some.inner.now) c.in-Some-after.inner.now
    c.in_ok-items.items value.items rest (sym (take_rest c.in-Some.inner.now c.in-Some-2.of.length) ∙ c.in-Some-after.ensures) c.in_ok-items.ensures fits.1 second)

pub returns-in_default-after-3 : goal.returns-in_default-after-3
returns-in_default-after-3 g c = λ value rest fits e.
    let of = subst (λ found. FindsFront (λ v. node_bytes (g.W.Word.word v)) g.W.Word.fits c.in-Some.inner.now found) c.in-Some-2.is c.in_ok-of.ensures in
    let second = (behind_first c.args.text.now c.in-Some.inner.now (g.W.Word.word c.in-Some-2.of.value) (drop c.in-Some-2.of.length c.in-Some.inner.now)
    (g.W.Word.word value.of) (flat_map g.P.Piece.spelling value.items) rest c.in-Some.ensures of.told
    (c.requires.words.unmarked c.in-Some-2.of.value of.fits) (c.requires.words.unmarked value.of fits.0) e).1 in
    let end = behind_second g.P.Piece.spelling g.P.Piece.fits c.requires.elements (drop c.in-Some-2.of.length c.in-Some.inner.now) c.in-Some-after.inner.now
    c.in_ok-items.items value.items rest (sym (take_rest c.in-Some.inner.now c.in-Some-2.of.length) ∙ c.in-Some-after.ensures) c.in_ok-items.ensures fits.1 second in
    c.in_default-after-3.ensures _ (append_cancel_left (5 ∷ 6 ∷ 5 ∷ []) _ _ (sym c.in-Some-after-2.ensures ∙ take_rest c.in-Some-after.inner.now c.in_ok-items.items.length ∙ end))

pub returns : goal.returns
returns g c =
    let of = subst (λ found. FindsFront (λ v. node_bytes (g.W.Word.word v)) g.W.Word.fits c.in-Some.inner.now found) c.in-Some-2.is c.in_ok-of.ensures in
    fronts _ _ c.args.text.now c.in-Some-after-3.rest.now _ (of.fits, c.in_ok-items.ensures.fits) (omega arith)
    (pair_told c.args.text.now c.in-Some.inner.now (g.W.Word.word c.in-Some-2.of.value) (drop c.in-Some-2.of.length c.in-Some.inner.now) c.in-Some-after.inner.now
    (flat_map g.P.Piece.spelling c.in_ok-items.items.value) _ c.in-Some-after-2.inner.now c.in-Some-after-3.rest.now
    c.in-Some.ensures of.told (sym (take_rest c.in-Some.inner.now c.in-Some-2.of.length) ∙ c.in-Some-after.ensures) c.in_ok-items.ensures.told
    (sym (take_rest c.in-Some-after.inner.now c.in_ok-items.items.length) ∙ c.in-Some-after-2.ensures) c.in-Some-after-3.ensures)

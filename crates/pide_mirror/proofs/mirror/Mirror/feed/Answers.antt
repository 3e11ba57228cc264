-- A piece is heard message by message.
use Rattle.std.proofs.Common.{◌+◌, [], Ok, Err, take, drop, refl, ap, sym, subst, ◌∙◌, arith, take-add}
use Rattle.std.proofs.lemmas.List.{length-drop, take-append-drop, take_all, take_rest}
use Rattle.pide_mirror.specs.Feeding.{FeedsFirst, Hears, HearsFront}
use Rattle.pide_mirror.specs.Hearing.{Hearing}
use Rattle.pide_mirror.proofs.First.{piece_passed}
use Rattle.pide_mirror.proofs.Joining.{hears_same, hears_joined, front_joined}
use Rattle.pide_mirror.proofs.mirror.Mirror.feed.Goals as goal

pub returns-in-Some-clause-feeds : goal.returns-in-Some-clause-feeds
returns-in-Some-clause-feeds c = (
  record { front = []; rest = c.args.piece.now; whole = refl; count = 0; hears = hears_same c.args.self.now },
  ap (λ (h : Hearing). h.ended) (sym c.self.view_is) ∙ c.in-Some.is,
)

pub messages-init : goal.messages-init
messages-init c = (omega arith, omega arith, hears_same c.args.self.now, ap (λ (h : Hearing). h.ended) (sym c.self.view_is) ∙ c.in_default.is)

pub feed_first-requires : goal.feed_first-requires
feed_first-requires c = c.messages.invariant.3

pub returns-in_err-taken-clause-feeds : goal.returns-in_err-taken-clause-feeds
returns-in_err-taken-clause-feeds c =
    let old = c.args.self.now in
    let mid = c.messages.self in
    let new = c.feed_first.new.self in
    let piece = c.args.piece.now in
    let used = c.messages.used in
    let error = c.in_err-taken.field-0.0 in
    let so = subst (λ bytes. FeedsFirst mid bytes new (Err error)) (take_rest piece used) c.in_err-taken.ensures in
    piece_passed old new piece error (
      subst (λ bytes. HearsFront old bytes new) (take-append-drop used piece)
          (front_joined old mid new (take used piece) (drop used piece) c.messages.count c.messages.invariant.2 so.0),
      so.1,
    ) c.from_residual.result c.from_residual.ensures.1

pub overflow_add-used : goal.overflow_add-used
overflow_add-used c =
    let piece = c.args.piece.now in
    let so = subst (λ bytes. FeedsFirst c.messages.self bytes c.feed_first.new.self (Ok c.in_ok-taken.taken)) (take_rest piece c.messages.used) c.in_ok-taken.ensures in
    omega (arith, so.0, length-drop c.messages.used piece, c.messages.invariant.0)

pub overflow_add-count : goal.overflow_add-count
overflow_add-count c =
    let piece = c.args.piece.now in
    let so = subst (λ bytes. FeedsFirst c.messages.self bytes c.feed_first.new.self (Ok c.in_ok-taken.taken)) (take_rest piece c.messages.used) c.in_ok-taken.ensures in
    omega (arith, so.0, so.2, length-drop c.messages.used piece, c.messages.invariant.0, c.messages.invariant.1)

pub messages-preserved : goal.messages-preserved
messages-preserved c =
    let old = c.args.self.now in
    let mid = c.messages.self in
    let new = c.feed_first.new.self in
    let piece = c.args.piece.now in
    let used = c.messages.used in
    let taken = c.in_ok-taken.taken in
    let so = subst (λ bytes. FeedsFirst mid bytes new (Ok taken)) (take_rest piece used) c.in_ok-taken.ensures in (
      omega (arith, so.0, length-drop used piece, c.messages.invariant.0),
      omega (arith, so.2, c.messages.invariant.1),
      subst (λ bytes. Hears old bytes (c.messages.count + taken.count) new) (sym (take-add used taken.used piece))
          (hears_joined old mid new (take used piece) (take taken.used (drop used piece)) c.messages.count taken.count c.messages.invariant.2 so.3),
      so.4,
    )

pub returns-clause-feeds : goal.returns-clause-feeds
returns-clause-feeds c =
    let so = c.messages.invariant in
    (subst (λ bytes. Hears c.args.self.now bytes c.messages.count c.messages.self) (take_all c.messages.used c.args.piece.now (omega arith)) so.2, so.3)

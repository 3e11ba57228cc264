-- The first message of the piece is heard, or nothing.
use Rattle.std.proofs.Common.{◌≡◌, ◌⊎◌, [], ◌∷◌, map, Err, None, refl, ap, sym, subst, ◌∙◌, arith}
use Rattle.byte_message.specs.First.{FeedsFirst, LeadsOn, TurnsBad}
use Rattle.mirror_rules.specs.Moves.{Broken}
use Rattle.pide_mirror.specs.Feeding.{HearsAt, HearsReply}
use Rattle.pide_mirror.specs.Hearing.{Hearing}
use Rattle.pide_mirror.specs.Mirroring.{as_move}
use Rattle.pide_mirror.proofs.First.{broken_heard, ended_heard, first_heard, first_passed, none_heard, stopped}
use Rattle.pide_mirror.proofs.mirror.Mirror.feed_first.Goals as goal

pub returns-in_err-hear-in-Some : goal.returns-in_err-hear-in-Some
returns-in_err-hear-in-Some c =
    let old = c.args.self.now in
    let new = c.hear.new.self in
    let piece = c.args.piece.now in
    let used = c.in-Ok.used in
    let mid = c.feed_first.new.self in
    let after = c.next.new.self in
    let at = c.place-at.result in
    let message = c.in-Some.message in
    let error = c.in_err-hear-in-Some.field-0.0 in
    let view = c.self.view_is in
    let waiting : old.frames.waiting ≡ [] = ap (λ (h : Hearing). h.frames.waiting) (sym view) ∙ c.self.invariant.waiting (ap (λ (h : Hearing). h.ended) view ∙ c.requires) in
    let leads : LeadsOn old.frames piece mid used = subst (λ (h : Hearing). LeadsOn h.frames piece mid used) view c.in-Ok.ensures.feeds.0 in
    first_passed old new piece error
    (ended_heard old new piece used mid after c.requires waiting leads at message c.in-Some.ensures.takes (c.place-at.ensures ∙ ap (λ (h : Hearing). h.frames.at) view) error
    (subst (λ (h : Hearing). HearsReply (record h { frames = after }) at message new (Err error)) view c.in_err-hear-in-Some.ensures))
    c.from_residual.result c.from_residual.ensures.1

pub returns-in_ok-hear-in-Some : goal.returns-in_ok-hear-in-Some
returns-in_ok-hear-in-Some c =
    let old = c.args.self.now in
    let new = c.hear.new.self in
    let piece = c.args.piece.now in
    let used = c.in-Ok.used in
    let mid = c.feed_first.new.self in
    let after = c.next.new.self in
    let view = c.self.view_is in
    let waiting : old.frames.waiting ≡ [] = ap (λ (h : Hearing). h.frames.waiting) (sym view) ∙ c.self.invariant.waiting (ap (λ (h : Hearing). h.ended) view ∙ c.requires) in
    let leads : LeadsOn old.frames piece mid used = subst (λ (h : Hearing). LeadsOn h.frames piece mid used) view c.in-Ok.ensures.feeds.0 in
    let hears : HearsAt (record old { frames = after }) c.place-at.result c.in-Some.message new None
    = subst (λ (h : Hearing). HearsAt (record h { frames = after }) c.place-at.result c.in-Some.message new None) view c.in_ok-hear-in-Some.ensures in
    let f = first_heard old new piece used mid after c.requires waiting leads c.place-at.result c.in-Some.message c.in-Some.ensures.takes
    (c.place-at.ensures ∙ ap (λ (h : Hearing). h.frames.at) view) None hears in
    (leads.0, (λ some. f.0), f.0, f.1, ap (λ (h : Hearing). h.ended) hears.new_is)

pub returns-in-None : goal.returns-in-None
returns-in-None c =
    let old = c.args.self.now in
    let piece = c.args.piece.now in
    let used = c.in-Ok.used in
    let mid = c.feed_first.new.self in
    let after = c.next.new.self in
    let view = c.self.view_is in
    let waiting : old.frames.waiting ≡ [] = ap (λ (h : Hearing). h.frames.waiting) (sym view) ∙ c.self.invariant.waiting (ap (λ (h : Hearing). h.ended) view ∙ c.requires) in
    let leads : LeadsOn old.frames piece mid used = subst (λ (h : Hearing). LeadsOn h.frames piece mid used) view c.in-Ok.ensures.feeds.0 in
    let n = none_heard old _ piece used mid after c.requires waiting leads c.in-None.ensures.takes.0 c.in-Ok.ensures.feeds.1 c.in-None.ensures.takes.1
    (ap (λ (h : Hearing). record h { frames = after }) view) in
    (leads.0, n.0, omega arith, n.1, ap (λ (h : Hearing). h.ended) view ∙ c.requires)

pub returns-in-Err-Frame : goal.returns-in-Err-Frame
returns-in-Err-Frame c =
    let old = c.args.self.now in
    let view = c.self.view_is in
    let frames = c.feed_first.new.self in
    let fault = c.in-Err-Frame.fault in
    let clear : old.frames.fault ≡ None = ap (λ (h : Hearing). h.frames.fault) (sym view) ∙ c.self.invariant.fault (ap (λ (h : Hearing). h.ended) view ∙ c.requires) in
    let feeds = subst (λ e. FeedsFirst c.self.inside.frames c.args.piece.now frames (Err e)) c.in-Err-Frame.field-0-is c.in-Err-Frame.ensures.feeds in
    let turns = subst (λ (h : Hearing). (frames ≡ h.frames) ⊎ TurnsBad h.frames c.args.piece.now frames) view feeds.1 in (
      broken_heard old _ c.args.piece.now frames fault c.requires clear feeds.0 turns (ap (λ (h : Hearing). h.mode) view)
          (ap (map as_move) c.with-self-inside.ensures ∙ ap (λ (h : Hearing). Broken fault ∷ h.moves) view) (λ still. absurd (cc)),
      refl,
    )

pub returns-in-Err-NoMemory : goal.returns-in-Err-NoMemory
returns-in-Err-NoMemory c =
    let view = c.self.view_is in
    (stopped c.args.self.now _ c.args.piece.now c.requires (λ still. absurd (cc)) (ap (λ (h : Hearing). h.mode) view) (ap (λ (h : Hearing). h.moves) view), refl)

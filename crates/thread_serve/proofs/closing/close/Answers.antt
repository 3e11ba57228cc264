-- All passes are joined, and so the list has just what each caller made.
use Rattle.hist_lock.specs.Passes.{view}
use Rattle.thread_serve.proofs.Closings.{all_joined, closed, free}
use Rattle.thread_serve.proofs.closing.close.Goals as goal

pub close-requires-clause-all : goal.close-requires-clause-all
close-requires-clause-all g c =
    all_joined g.L.Language.lang c.args.count (view c.args.reader) (view c.gather_workers-is_short.new.reader) (view c.join.new.pass) (view c.args.writer)
    c.gather_workers-is_short.ensures.gathered c.join.ensures.rest c.requires.made c.requires.writer c.gather_workers-is_short.ensures.joined

pub returns-clause-closed : goal.returns-clause-closed
returns-clause-closed g c =
    let fits = c.close.ensures.fits in
    closed g.L.Language.lang c.args.count (view c.args.reader) (view c.gather_workers-is_short.new.reader) (view c.join.new.pass) (view c.args.writer)
    c.gather_workers-is_short.ensures.gathered c.join.ensures.rest c.into_session.result c.close.result.log c.into_session.ensures.items c.into_session.ensures.service
    fits.is_legal fits.mine c.close.ensures.theirs c.requires.reader c.requires.writer c.requires.opened c.gather_workers-is_short.ensures.seen c.join.ensures.seen fits.seen

pub returns-clause-free : goal.returns-clause-free
returns-clause-free g c = λ long.
    let fits = c.close.ensures.fits in
    free g.L.Language.lang c.args.count (view c.args.reader) (view c.gather_workers-is_short.new.reader) (view c.join.new.pass) (view c.args.writer)
    c.gather_workers-is_short.ensures.gathered c.join.ensures.rest c.into_session.result c.close.result.log c.into_session.ensures.items c.into_session.ensures.service
    fits.is_legal fits.mine c.close.ensures.theirs c.requires.reader (c.gather_workers-is_short.ensures.free long)

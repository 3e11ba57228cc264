-- Why the reply isn't heard.
use Rattle.std.proofs.Common.{◌≡◌, None, rules}
use Rattle.mirror_serve.proofs.EarHears.{hears_not}
use Rattle.mirror_serve.proofs.ear.EarListener.hear.Goals as goal

pub returns-in-Err : goal.returns-in-Err
returns-in-Err c =
    let none : c.args.self.now.unheard ≡ None = search rules in
    hears_not c.args.self.now.unheard c.in-Err.unheard c.args.self.now.mirror c.hear_one.new.mirror _ none c.in-Err.ensures.err

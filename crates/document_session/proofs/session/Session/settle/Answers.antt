use Rattle.std.proofs.Common.{refl}
use Rattle.document_session.proofs.Settles.{waits_so, refused_so, look_so}
use Rattle.document_session.proofs.session.Session.settle.Goals as goal

pub returns-in-Waits-clause-taken : goal.returns-in-Waits-clause-taken
returns-in-Waits-clause-taken g c =
    let now = c.args.self.now in (
      refl,
      refl,
      waits_so g.L.Language.lang now.service now.items c.args.message c.args.version c.in_ok-settling.field-0 c.requires.read
          c.in_ok-settling.ensures.settles c.in-Waits.is,
    )

pub refuse-requires-clause-refused : goal.refuse-requires-clause-refused
refuse-requires-clause-refused g c =
    let now = c.args.self.now in
    refused_so g.L.Language.lang now.service now.items c.args.message c.args.version c.in_ok-settling.field-0 c.requires.read
    c.in_ok-settling.ensures.settles c.in-Refused.reason c.in-Refused.is

pub tell-requires-clause-told : goal.tell-requires-clause-told
tell-requires-clause-told g c =
    let now = c.args.self.now in
    look_so g.L.Language.lang now.service now.items c.args.message c.args.version c.in_ok-settling.field-0 c.requires.read
    c.in_ok-settling.ensures.settles c.in-Told.reply c.in-Told.is

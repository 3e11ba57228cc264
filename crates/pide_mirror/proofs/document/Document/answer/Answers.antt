-- Other answers change nothing.
use Rattle.std.proofs.Common.{not, ap, sym, subst}
use Rattle.pide_mirror.specs.Knowing.{IsDocument}
use Rattle.pide_mirror.proofs.ByKind.{changes_assigns, other_kind, not_wrong, after_same}
use Rattle.pide_mirror.proofs.document.Document.answer.Goals as goal

pub returns-in_default : goal.returns-in_default
returns-in_default c =
    let other = other_kind c.args.told (λ id listed is. c.in_default.not-Assign _ _ is) (λ ids is. c.in_default.not-Removed _ is) (λ protocol is. c.in_default.not-Protocol _ is) in
    record {
      expected = λ m is. sym (ap not (not_wrong m c.args.read.now c.args.told (changes_assigns c.args.told other)));
      known = λ m is yes. subst (IsDocument c.args.self.now) (sym (after_same m c.args.read.now c.args.told other)) is;
      err = tt;
    }

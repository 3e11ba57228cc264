-- A name is plain.
use Rattle.std.proofs.Common.{sym, subst, ◌∙◌, arith}
use Rattle.yxml.specs.Normal.{IsPlain}
use Rattle.made_document.specs.Texts.{name}
use Rattle.made_document.proofs.Printable.{name_printable, plain}
use Rattle.made_document.proofs.bodies.name_body.Goals as goal

pub put_string-requires : goal.put_string-requires
put_string-requires c = subst IsPlain (sym (c.as_str.ensures.value ∙ c.in_ok-text.ensures))
    (plain (name c.args.number) (name_printable c.args.number (omega (arith, c.requires.few))))

-- UTF-8 without the bytes that mark up.
use Rattle.std.proofs.Common.{rules, ◌≡◌, sym, ap, subst, ◌∙◌}
use Rattle.std.specs.Str.{IsUtf8, is_utf8}
use Rattle.std.proofs.lemmas.Str.{IsUtf8-from_is_utf8, is_utf8-from_IsUtf8}
use Rattle.yxml.specs.Normal.{IsPlain}
use Rattle.reply_messages.proofs.text.text_at.Goals as goal

pub returns-in_default : goal.returns-in_default
returns-in_default c = λ text plain e. c.in_default.ensures.cases.0 (subst IsUtf8 e (IsUtf8-from_is_utf8 text plain.utf8))

pub returns : goal.returns
returns c =
    let same : c.in_ok-from_str.field-0 ≡ c.args.bytes.now = c.in_ok-from_str.ensures ∙ c.in-Ok.ensures.cases.0 in
    let plain : IsPlain c.in-Ok.text.now = search rules in (
      record {
        utf8 = ap is_utf8 same ∙ is_utf8-from_IsUtf8 _ c.in-Ok.ensures.cases.1;
        plain = subst IsPlain (sym c.in_ok-from_str.ensures) plain;
      },
      same,
    )

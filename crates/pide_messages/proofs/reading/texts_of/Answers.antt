-- Chunk by chunk.
use Rattle.std.proofs.Common.{rules, ◌≡◌, ◌<◌, ◌+◌, ◌++◌, ◌∷◌, [], drop, length, ap, ◌∙◌, arith}
use Rattle.pide_messages.specs.Texts.{texts}
use Rattle.pide_messages.proofs.Steps.{utf8_stops, utf8_goes_on, texts_go_on}
use Rattle.pide_messages.proofs.reading.texts_of.Goals as goal

pub returns-in_default : goal.returns-in_default
returns-in_default c =
    let within : c.chunks.number < length c.args.message.now = omega (arith, c.chunks-test.true, c.count-number-end.ensures) in
    c.chunks.invariant.same ∙ utf8_stops c.args.message.now c.chunks.number _ within c.chunk.ensures c.in_default.ensures.cases.0

pub chunks-preserved : goal.chunks-preserved
chunks-preserved c =
    let within : c.chunks.number < length c.args.message.now = omega (arith, c.chunks-test.true, c.count-number-end.ensures) in
    let pushed : c.push.new.self.items ≡ c.chunks.arguments.items ++ c.in-Ok.text ∷ [] = search rules in
    let is = c.in-Ok.ensures.cases in
    record {
      told = ap (λ ts. texts ts ++ drop (c.chunks.number + 1) c.args.message.now) pushed
          ∙ texts_go_on c.chunks.arguments.items c.in-Ok.text c.args.message.now _ c.chunks.number within (is.0 ∙ c.chunk.ensures) c.chunks.invariant.told;
      same = c.chunks.invariant.same ∙ utf8_goes_on c.args.message.now c.chunks.number _ within c.chunk.ensures is.1;
    }

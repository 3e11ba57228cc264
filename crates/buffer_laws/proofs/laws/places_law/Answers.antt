use Rattle.std.proofs.Common.{refl}
use Rattle.command_spans.specs.Cutting.{spans_in}
use Rattle.buffer_rules.specs.Nodes.{uncut_all}
use Rattle.buffer_laws.proofs.RisingSpans.{all_rise}
use Rattle.buffer_laws.proofs.laws.places_law.Goals as goal

pub returns : goal.returns
returns c = λ tip sheets next.
    all_rise (λ text aliases. (c.one_list.ensures.just text aliases (spans_in text aliases)).1 refl) tip (uncut_all sheets) 0 sheets next

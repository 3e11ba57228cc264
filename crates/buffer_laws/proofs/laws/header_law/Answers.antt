use Rattle.std.proofs.Common.{refl}
use Rattle.command_spans.specs.Cutting.{spans_in}
use Rattle.buffer_rules.specs.Nodes.{uncut_all}
use Rattle.buffer_laws.proofs.HeaderSame.{first_header}
use Rattle.buffer_laws.proofs.HeaderNodes.{all_own}
use Rattle.buffer_laws.proofs.laws.header_law.Goals as goal

pub returns : goal.returns
returns c = λ tip sheets next. all_own
    (first_header (λ names text tokens. (c.one_list-2.ensures.under names text tokens).0)
    (λ text h. (c.one_header.ensures.just text h).1) (λ text h. (c.one_header.ensures.just text h).0)
    (λ text aliases. (c.one_list.ensures.just text aliases (spans_in text aliases)).1 refl))
    tip (uncut_all sheets) 0 sheets next

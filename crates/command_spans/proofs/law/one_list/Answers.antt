use Rattle.std.proofs.Common.{sym, subst}
use Rattle.command_spans.specs.Spans.{AreSpansOf, AreSpans}
use Rattle.command_spans.specs.Cutting.{spans_of, spans_in}
use Rattle.command_spans.proofs.SpanLaws.{one-cut, joined-all}
use Rattle.command_spans.proofs.CuttingLemmas.{are-spans, spans-are, one-spans}
use Rattle.command_spans.proofs.law.one_list.Goals as goal

pub returns : goal.returns
returns c = record {
  cut = λ ts ss. (λ is. one-cut ts ss (spans_of ts) is (are-spans ts), λ e. subst (AreSpansOf ts) (sym e) (are-spans ts));
  just = λ text aliases ss. (λ is. one-spans text aliases ss (spans_in text aliases) is (spans-are text aliases), λ e. subst (AreSpans text aliases) (sym e) (spans-are text aliases));
  joins = joined-all;
}

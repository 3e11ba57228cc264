-- What the history is, what its messages come to by it, and why the run ended so.
use Rattle.std.proofs.Common.{ap, subst, ◌∙◌}
use Rattle.pide_base.specs.declared.status.Status.{Status}
use Rattle.reply_outbox.specs.Items.{entries}
use Rattle.isar_rules.specs.Isar.{isar}
use Rattle.session_rules.specs.Services.{free_workers}
use Rattle.thread_serve.specs.keeping_rules_below.Items.{heard_in}
use Rattle.thread_serve.specs.document_serve_below.Headline.{AloneSo}
use Rattle.pide_program.proofs.running.serve_mirrored.Goals as goal

pub returns-clause-headline : goal.returns-clause-headline
returns-clause-headline g c =
    let run = c.serve-status in let s = run.result.session in
    let legal = run.ensures.one_legal_history.legal in
    let made = run.ensures.alone in
    let free = ap free_workers (run.ensures.service ∙ c.in-Ok-new.ensures.service) in
    record {
      bytes_written = run.ensures.bytes_written;
      one_legal_history = run.ensures.one_legal_history;
      messages_read = run.ensures.messages_read;
      shows_and_lists = c.headline_law.ensures.shows s.service (heard_in s.service s.items) legal;
      covers = c.headline_law.ensures.covers s.service (heard_in s.service s.items) legal;
      alone = λ none. made;
      nobody_holds = λ done who holds. c.holders_law.ensures s.service (entries s.items) who free legal
          (subst (λ (how : Status). AloneSo isar how made.0 s) done made.2) holds;
      cause = record {
        bad_frame = run.ensures.bad_frame;
        truncated = run.ensures.truncated;
        long_input = run.ensures.long_input;
        done = run.ensures.done;
        no_text = run.ensures.no_text;
        no_words = run.ensures.not_usage;
      };
    }

-- A state of the language may go to other threads; what the history is, what its messages come to by
-- it, and why the run ended so.
use denote.Param.Send.{sendable}
use Rattle.std.proofs.Common.{ap, sym, ◌∙◌}
use Rattle.session_rules.specs.Services.{free_workers}
use Rattle.thread_serve.specs.keeping_rules_below.Items.{heard_in}
use Rattle.toplevel.proofs.Crossing.{crosses}
use Rattle.pide_program.proofs.running.serve_beside.Goals as goal

pub serve-served-requires-send-L-State : goal.serve-served-requires-send-L-State
serve-served-requires-send-L-State g c κs within = search (crosses, sendable)

pub serve-served-requires-sync-L-State : goal.serve-served-requires-sync-L-State
serve-served-requires-sync-L-State g c κs within = search (crosses, sendable)

pub returns-clause-headline : goal.returns-clause-headline
returns-clause-headline g c =
    let run = c.serve-served in let s = run.result.session in
    let legal = run.ensures.one_legal_history.legal in
    let workers = ap free_workers (run.ensures.service ∙ c.in-Ok.ensures.service) in
    record {
      bytes_written = run.ensures.bytes_written;
      one_legal_history = run.ensures.one_legal_history;
      messages_read = run.ensures.messages_read;
      shows_and_lists = c.headline_law.ensures.shows s.service (heard_in s.service s.items) legal;
      covers = c.headline_law.ensures.covers s.service (heard_in s.service s.items) legal;
      alone = λ none. absurd (c.requires.beside (sym workers ∙ none));
      nobody_holds = λ done who holds. absurd (holds (run.ensures.free done who));
      cause = record {
        bad_frame = run.ensures.bad_frame;
        truncated = run.ensures.truncated;
        long_input = run.ensures.long_input;
        done = run.ensures.done;
        no_text = run.ensures.no_text;
        no_words = run.ensures.not_usage;
      };
    }

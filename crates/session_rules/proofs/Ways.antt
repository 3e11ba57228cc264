-- Whole runs of one thread.
use Rattle.std.proofs.Common.{◌≡◌, List, ◌∷◌, length, map, None, Some, sym, ap, subst, ◌∙◌, arith}
use Rattle.pide_base.specs.declared.part.Part.{Part}
use Rattle.language.specs.Lang.{Lang}
use Rattle.message_values.specs.Asked.{asked}
use Rattle.core_rules.specs.declared.event.Event.{Event}
use Rattle.core_rules.specs.Alone.{alone}
use Rattle.core_rules.specs.Ready.{IsFirst, first_ready}
use Rattle.session_rules.specs.declared.entry.Entry.{Entry}
use Rattle.session_rules.specs.declared.entry.Entry.TheVariants as entry
use Rattle.session_rules.specs.declared.service.Service.{Service}
use Rattle.session_rules.specs.Services.{free_workers, mode_of}
use Rattle.session_rules.specs.Heard.{all_heard}
use Rattle.session_rules.specs.Legal.{IsLegal}
use Rattle.session_rules.specs.Alone.{IsAlone}
use Rattle.session_rules.specs.OneThread.{reads, thread}
use Rattle.session_rules.specs.Runs.{IsWholeRun, called}
use Rattle.session_rules.proofs.Entries.{reads_are, same_entries}
use Rattle.session_rules.proofs.KnownNamed.{AskedLaw}
use Rattle.session_rules.proofs.KnownResting.{made}
use Rattle.session_rules.proofs.OneWay.{all_same}
use Rattle.session_rules.proofs.Stripped.{IsRest}

module _ {S : Type 0} (l : Lang S) (law : AskedLaw) (service : Service) (none : free_workers service ≡ 0)
    (firsts : (h : List Event) (p : Part) → IsFirst l h p → first_ready l h ≡ Some p)
    (ends : (h : List Event) → first_ready l (alone l 0 (made l h) h) ≡ None) (h : List Entry) (is : IsWholeRun l service h) where
  -- before its end it rests
  rests : IsRest l service is.before
  rests =
      let legal : IsLegal l service (all_heard service (entry.Ended ∷ is.before)) = subst (λ (es : List Entry). IsLegal l service (all_heard service es)) is.ended is.legal in
      let a : IsAlone l service None (all_heard service (entry.Ended ∷ is.before)) = subst (λ (es : List Entry). IsAlone l service None (all_heard service es)) is.ended is.alone in
      record { legal = legal.0; alone = a; rest = legal.1.1; going = legal.1.0 }

  pub way_is : all_heard service is.before ≡ thread l service (reads (all_heard service is.before))
  way_is = all_same l service law none firsts ends (length is.before) is.before (omega arith) rests

module _ {S : Type 0} (l : Lang S) (law : AskedLaw) (service : Service) (none : free_workers service ≡ 0)
    (firsts : (h : List Event) (p : Part) → IsFirst l h p → first_ready l h ≡ Some p)
    (ends : (h : List Event) → first_ready l (alone l 0 (made l h) h) ≡ None) (h : List Entry) (is : IsWholeRun l service h)
    (k : List Entry) (other : IsWholeRun l service k) (calls : called h ≡ called k) where
  same_calls : called is.before ≡ called other.before
  same_calls = sym (ap called is.ended) ∙ calls ∙ ap called other.ended

  same_reads : reads (all_heard service is.before) ≡ reads (all_heard service other.before)
  same_reads = reads_are service is.before ∙ ap (map (asked (mode_of service))) same_calls ∙ sym (reads_are service other.before)

  same_heard : all_heard service is.before ≡ all_heard service other.before
  same_heard = way_is l law service none firsts ends h is ∙ ap (thread l service) same_reads ∙ sym (way_is l law service none firsts ends k other)

  -- the same messages make the same run
  pub one_run : h ≡ k
  one_run = is.ended ∙ ap (λ (es : List Entry). entry.Ended ∷ es) (same_entries service is.before other.before same_heard same_calls) ∙ sym other.ended

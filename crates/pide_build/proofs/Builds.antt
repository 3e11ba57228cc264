-- What is built behind an input that ends between messages.
use Rattle.std.proofs.Common.{◌≢◌, [], List, ℕ, Option, Result, Ok, Err, OnOk, IfErr, refl, subst, inr, arith}
use Rattle.std.specs.Io.KnownBytes.{Appends, IsAtEnd}
use Rattle.std.proofs.KnownBytes.{Appends-trans}
use Rattle.pide_base.specs.Moves.{AppendsFront}
use Rattle.pide_base.proofs.Known.{AppendsFront-after}
use Rattle.pide_base.specs.declared.status.Status.TheVariants as status
use Rattle.byte_message.specs.Stream.Ending.{Whole}
use Rattle.language.specs.Lang.{Lang}
use Rattle.message_input.specs.Causes.{HasCause}
use Rattle.message_input.specs.Counts.{CountsSo}
use Rattle.message_input.specs.declared.answering.Halt.{Halt}
use Rattle.message_input.specs.declared.answering.Halt.TheVariants as halt
use Rattle.pide_build.specs.Answers.{status_of}
use Rattle.pide_build.specs.Replies.{build_replies, refusals}
use Rattle.pide_build.specs.Runs.{IsBuild, WritesSo, all_replies}
use Rattle.pide_build.specs.Theories.{TheoryList, theories_after}
use Rattle.pide_build.proofs.Came.{CameWhole}

-- it is written behind the refusals
module _ {S : Type 0} (l : Lang S) (left left' held mid held' : Option (List ℕ)) (theories : TheoryList)
    (came : CameWhole left left' held mid theories) (at_end : IsAtEnd left')
    (front : AppendsFront mid held' (build_replies l theories)) where
  -- all of it, or a front
  all_written : Appends mid held' (build_replies l theories) → Appends held held' (all_replies l came.messages)
  all_written all =
      Appends-trans held mid held' (refusals came.messages []) (build_replies l (theories_after came.messages [])) came.writes
      (subst (λ ts. Appends mid held' (build_replies l ts)) came.theories_are all)

  some_written : AppendsFront held held' (all_replies l came.messages)
  some_written =
      AppendsFront-after held mid held' (refusals came.messages []) (build_replies l (theories_after came.messages [])) came.writes
      (subst (λ ts. AppendsFront mid held' (build_replies l ts)) came.theories_are front)

  pub builds : (before now : ℕ) (built : Result (Unit {0}) Halt) → OnOk built (Appends mid held' (build_replies l theories))
      → IfErr built (λ h. CountsSo h before now) → IsBuild l (status_of built) left left' held held'
  builds before now built ok counts = record {
    taken = came.taken;
    consumes = came.consumes;
    messages = came.messages;
    ending = Whole;
    read = came.read;
    writes = written built ok counts;
  }
    where
      written : (r : Result (Unit {0}) Halt) → OnOk r (Appends mid held' (build_replies l theories)) → IfErr r (λ h. CountsSo h before now)
          → WritesSo l (status_of r) came.messages Whole left' held held'
      written (Ok done) all counts = all_written all
      written (Err halt.WriteFault) all counts = inr (at_end, refl, some_written)
      written (Err halt.NoMemory) all counts = inr (at_end, refl, some_written)
      written (Err (halt.BadReply len)) all counts = absurd (counts)

-- the cause of the status behind a build
pub causes : (limit : ℕ) (left left' : Option (List ℕ)) (before now : ℕ) (built : Result (Unit {0}) Halt) → IfErr built (λ h. CountsSo h before now)
    → HasCause limit status.Done left left' → HasCause limit (status_of built) left left'
causes limit left left' before now (Ok done) counts cause = cause
causes limit left left' before now (Err halt.WriteFault) counts cause = record {
  bad_frame = λ at e. absurd (cc);
  truncated = λ at e. absurd (cc);
  long_input = (let long = cause.long_input in (long.0, long.1, omega (arith, long.2)));
  done = λ e. absurd (cc);
  no_text = λ at e. cc;
  no_words = λ e. cc;
}
causes limit left left' before now (Err halt.NoMemory) counts cause = record {
  bad_frame = λ at e. absurd (cc);
  truncated = λ at e. absurd (cc);
  long_input = (let long = cause.long_input in (long.0, long.1, omega (arith, long.2)));
  done = λ e. absurd (cc);
  no_text = λ at e. cc;
  no_words = λ e. cc;
}
causes limit left left' before now (Err (halt.BadReply len)) counts cause = absurd (counts)

-- it isn't that of a long reply
pub never_long : (before now : ℕ) (built : Result (Unit {0}) Halt) → IfErr built (λ h. CountsSo h before now) → (len : ℕ) → status_of built ≢ status.BadReply len
never_long before now (Ok done) counts len e = let no : ⊥ = cc in no
never_long before now (Err halt.WriteFault) counts len e = let no : ⊥ = cc in no
never_long before now (Err halt.NoMemory) counts len e = let no : ⊥ = cc in no
never_long before now (Err (halt.BadReply long)) counts len e = absurd (counts)

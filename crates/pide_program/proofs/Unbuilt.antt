-- A build that could not begin: nothing is taken or written.
use Rattle.std.proofs.Common.{◌≡◌, [], ℕ, ◌≤◌, List, Option, refl, sym, subst, inl, arith}
use Rattle.std.proofs.KnownBytes.{Appends-nil, Consumes-nil}
use Rattle.pide_base.specs.declared.status.Status.{Status}
use Rattle.pide_base.specs.declared.status.Status.TheVariants as status
use Rattle.byte_message.specs.Stream.Ending.{Whole}
use Rattle.language.specs.Lang.{Lang}
use Rattle.message_input.specs.Causes.{HasCause}
use Rattle.pide_build.specs.Runs.{IsBuild}

none_built : {S : Type 0} (l : Lang S) (left held : Option (List ℕ)) → IsBuild l status.NoMemory left left held held
none_built l left held = record {
  taken = [];
  consumes = Consumes-nil left;
  messages = [];
  ending = Whole;
  read = record { front = []; rest = []; whole = refl; spelled = refl; ends = refl };
  writes = inl ([], [], refl, Appends-nil held);
}

pub nothing_built : {S : Type 0} (l : Lang S) (left left' held held' : Option (List ℕ)) (s : Status) → s ≡ status.NoMemory → left' ≡ left → held' ≡ held
    → IsBuild l s left left' held held'
nothing_built l left left' held held' s short same kept =
    subst (λ (t : Status). IsBuild l t left left' held held') (sym short)
    (subst (λ (m : Option (List ℕ)). IsBuild l status.NoMemory left m held held') (sym same)
    (subst (λ (m : Option (List ℕ)). IsBuild l status.NoMemory left left held m) (sym kept) (none_built l left held)))

none_caused : (limit : ℕ) (left : Option (List ℕ)) → HasCause limit status.NoMemory left left
none_caused limit left = record {
  bad_frame = λ at e. absurd (cc);
  truncated = λ at e. absurd (cc);
  long_input = ([], Consumes-nil left, omega arith);
  done = λ e. absurd (cc);
  no_text = λ at e. cc;
  no_words = λ e. cc;
}

pub nothing_caused : (limit : ℕ) (left left' : Option (List ℕ)) (s : Status) → s ≡ status.NoMemory → left' ≡ left → HasCause limit s left left'
nothing_caused limit left left' s short same =
    subst (λ (t : Status). HasCause limit t left left') (sym short)
    (subst (λ (m : Option (List ℕ)). HasCause limit status.NoMemory left m) (sym same) (none_caused limit left))

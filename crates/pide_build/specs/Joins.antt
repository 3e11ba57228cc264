-- Messages that are answered one after the other (this project's own).
use Rattle.std.specs.Prelude.{◌≡◌, ℕ, List, [], ◌∷◌, ◌++◌, Option}
use Rattle.std.proofs.Common.{refl, sym, ap, subst, ◌∙◌, append_assoc, arith}
use Rattle.std.specs.Io.KnownBytes.{Appends}
use Rattle.std.proofs.KnownBytes.{Appends-nil, Appends-trans}
use Rattle.pide_base.specs.Moves.{AppendsFront}
use Rattle.pide_base.proofs.Known.{AppendsFront-after}
use Rattle.message_input.specs.declared.answering.Halt.{Halt}
use Rattle.message_input.specs.declared.answering.Halt.TheVariants as halt
use Rattle.message_input.proofs.KnownHalting.{counts_later}
use Rattle.pide_build.specs.Answers.{GoesOn, Stops}
use Rattle.pide_build.specs.Replies.{refusal_of, refusals}
use Rattle.pide_build.specs.Theories.{TheoryList, kept_by, next_theories, theories_after}

-- some messages after others
theories_both : (first then : List (List (List ℕ))) (theories : TheoryList)
    → theories_after (first ++ then) theories ≡ theories_after then (theories_after first theories)
theories_both [] then theories = refl
theories_both (message ∷ first) then theories =
    theories_both first then (kept_by (next_theories message theories) theories)

pub refusals_both : (first then : List (List (List ℕ))) (theories : TheoryList)
    → refusals (first ++ then) theories
    ≡ refusals first theories ++ refusals then (theories_after first theories)
refusals_both [] then theories = refl
refusals_both (message ∷ first) then theories =
    let after = kept_by (next_theories message theories) theories in
    ap (λ bytes. refusal_of (next_theories message theories) ++ bytes)
    (refusals_both first then after)
    ∙ sym (append_assoc (refusal_of (next_theories message theories)) (refusals first after)
    (refusals then (theories_after first after)))

-- where no message came nothing is done
pub none_yet : (held : Option (List ℕ)) (faults : ℕ) (theories : TheoryList)
    → GoesOn held held faults faults theories theories []
none_yet held faults theories = record {
  theories = refl;
  writes = Appends-nil held;
  steady = omega arith;
}

-- memory is short before the next one is there
pub short_of : (held : Option (List ℕ)) (faults : ℕ) (theories : TheoryList)
    → Stops held held faults faults theories [] halt.NoMemory
short_of held faults theories =
    record { writes = ([], [], refl, Appends-nil held); counts = omega arith }

module _ (held mid held' : Option (List ℕ)) (faults between faults' : ℕ) where
  -- some messages are answered after others
  pub goes_later : (old then_old new : TheoryList) (first then : List (List (List ℕ)))
      → GoesOn held mid faults between old then_old first
      → GoesOn mid held' between faults' then_old new then
      → GoesOn held held' faults faults' old new (first ++ then)
  goes_later old then_old new first then one more = record {
    theories = more.theories ∙ ap (theories_after then) one.theories
        ∙ sym (theories_both first then old);
    writes = subst (Appends held held') (sym (refusals_both first then old
        ∙ ap (λ theories. refusals first old ++ refusals then theories) (sym one.theories)))
        (Appends-trans held mid held' (refusals first old) (refusals then then_old) one.writes
        more.writes);
    steady = let s = one.steady in let t = more.steady in omega arith;
  }

  -- and it stops among later ones
  pub stops_later : (old then_old : TheoryList) (first then : List (List (List ℕ))) (how : Halt)
      → GoesOn held mid faults between old then_old first
      → Stops mid held' between faults' then_old then how
      → Stops held held' faults faults' old (first ++ then) how
  stops_later old then_old first then how one more = record {
    writes = subst (AppendsFront held held') (sym (refusals_both first then old
        ∙ ap (λ theories. refusals first old ++ refusals then theories) (sym one.theories)))
        (AppendsFront-after held mid held' (refusals first old) (refusals then then_old)
        one.writes more.writes);
    counts = counts_later how faults between faults' one.steady more.counts;
  }

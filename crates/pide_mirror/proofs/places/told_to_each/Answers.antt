-- The next command takes what is told, or stays as it is.
use Rattle.std.proofs.Common.{◌≡◌, ◌∷◌, ◌++◌, [], ap, sym, subst, ◌∙◌, append_assoc, Some, ℕ}
use Rattle.std.specs.List.{list_any}
use Rattle.std.proofs.lemmas.List.{append-nil}
use Rattle.std.specs.Ordering.{nat_cmp, is_eq}
use Rattle.std.specs.Prelude.{if◌then◌else◌}
use Rattle.shared_map.specs.Pairs.{IsSorted, found}
use Rattle.pide_mirror.specs.Places.{takes, told_at}
use Rattle.pide_mirror.specs.Tables.{as_report}
use Rattle.pide_mirror.specs.declared.place.Place.{Place}
use Rattle.pide_mirror.proofs.Telling.{IsToldUpTo, takes_next, passes_next}
use Rattle.pide_mirror.proofs.AnyTold.{took, left_out, any_now, any_still, any_takes, taken_any}
use Rattle.pide_mirror.proofs.places.told_to_each.Goals as goal

pub commands-preserved-in-Some-2 : goal.commands-preserved-in-Some-2
commands-preserved-in-Some-2 c =
    let told = as_report c.args.told.now in
    let k = c.in-Some.command.now in
    let v = c.in-Some.place.now in
    let rest = c.next.new.self in
    let inv = c.commands.invariant in
    let steps = c.in-Some.ensures.steps in
    let here : c.args.commands.now ≡ inv.0 ++ (k, v) ∷ rest = inv.1 ∙ ap (λ r. inv.0 ++ r) steps in
    let sorted : IsSorted nat_cmp (inv.0 ++ (k, v) ∷ rest) = subst (λ all. IsSorted nat_cmp all) (c.iter-rest.ensures.all ∙ here) c.iter-rest.ensures.sorted in
    let so : IsToldUpTo told inv.0 ((k, v) ∷ rest) c.commands.places = subst (λ r. IsToldUpTo told inv.0 r c.commands.places) steps inv.2 in
    let is = took (takes told v) (told_at told v) c.in-Some-2.place c.in_ok-place.field-0 c.in_ok-place.ensures c.in-Some-2.is in (
      inv.0 ++ (k, v) ∷ [],
      here ∙ sym (append_assoc inv.0 ((k, v) ∷ []) rest),
      takes_next told k v inv.0 rest c.commands.places sorted so c.set.new.self
          (λ d. c.in_ok-set.ensures.found d ∙ ap (λ p. if is_eq (nat_cmp k d) then Some p else found nat_cmp d c.commands.places) is.1),
      any_now told k v inv.0 is.0,
    )

pub commands-preserved : goal.commands-preserved
commands-preserved c =
    let told = as_report c.args.told.now in
    let k = c.in-Some.command.now in
    let v = c.in-Some.place.now in
    let rest = c.next.new.self in
    let inv = c.commands.invariant in
    let steps = c.in-Some.ensures.steps in
    let here : c.args.commands.now ≡ inv.0 ++ (k, v) ∷ rest = inv.1 ∙ ap (λ r. inv.0 ++ r) steps in
    let so : IsToldUpTo told inv.0 ((k, v) ∷ rest) c.commands.places = subst (λ r. IsToldUpTo told inv.0 r c.commands.places) steps inv.2 in
    let out = left_out (takes told v) (told_at told v) c.in_ok-place.field-0 c.in_ok-place.ensures c.in_default-2.is in (
      inv.0 ++ (k, v) ∷ [],
      here ∙ sym (append_assoc inv.0 ((k, v) ∷ []) rest),
      passes_next told k v inv.0 rest c.commands.places so out,
      any_still told k v inv.0 c.commands.taken inv.3 out,
    )

pub returns-clause-taken : goal.returns-clause-taken
returns-clause-taken c =
    let told = as_report c.args.told.now in
    let inv = c.commands.invariant in
    let none = c.in_default.ensures.steps in
    let whole : c.args.commands.now ≡ inv.0 = inv.1 ∙ ap (λ r. inv.0 ++ r) none.0 ∙ append-nil inv.0 in
    let sorted : IsSorted nat_cmp c.args.commands.now = subst (λ all. IsSorted nat_cmp all) c.iter-rest.ensures.all c.iter-rest.ensures.sorted in
    let is : c.commands.taken ≡ list_any (λ (pair : ℕ × Place). takes told pair.1) c.args.commands.now = inv.3 ∙ ap (list_any (λ (pair : ℕ × Place). takes told pair.1)) (sym whole) in (
      λ yes. any_takes told c.args.commands.now sorted (sym is ∙ yes),
      λ one. is ∙ taken_any told c.args.commands.now one.0 one.1 one.2 one.3,
    )

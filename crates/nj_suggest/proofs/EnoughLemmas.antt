-- Facts are gone through one by one, until enough are chosen or none is left.
use Rattle.std.proofs.Common.{◌≡◌, ◌≤◌, ◌<◌, ◌+◌, ◌-◌, Bool, true, false, List, [], ◌∷◌, ◌++◌, length, take, cond, ap, sym, subst, ◌∙◌, arith, length-append}
use Rattle.std.proofs.lemmas.List.{take_all, take-append-le}
use Rattle.theory_ctx.specs.declared.local.Local.{Local}
use Rattle.suggest_rules.specs.Names.{unhidden, is_name_of, most_cited}
use Rattle.nj_suggest.specs.Chosen.{with_next}
use Rattle.nj_suggest.proofs.ChosenLemmas.{IsChosen, remaining, chosen_none, chosen_more, chosen_all}

with_length : (chosen : List Local) (local : Local) → length (with_next chosen local) ≤ length chosen + 1
with_length chosen local = go (is_name_of chosen local.name)
  where
    go : (b : Bool) → length (cond b chosen (chosen ++ local ∷ [])) ≤ length chosen + 1
    go true = omega arith
    go false = omega (arith, length-append chosen (local ∷ []))

-- what is chosen where these are left, and that is not too much
abbrev pub AreChosen : List Local → List Local → List Local → Type 0
AreChosen all left chosen = IsChosen all chosen left × (length chosen ≤ most_cited)

pub none_chosen : (all : List Local) → AreChosen all all []
none_chosen all = (chosen_none all, omega arith)

module _ (all left chosen : List Local) (are : AreChosen all left chosen) where
  pub next_chosen : (local : Local) (rest new : List Local) → left ≡ local ∷ rest → length chosen < most_cited → new ≡ with_next chosen local → AreChosen all rest new
  next_chosen local rest new at few is =
      let before : IsChosen all chosen (local ∷ rest) = subst (λ l. IsChosen all chosen l) at are.0 in
      let more : IsChosen all (with_next chosen local) rest = chosen_more all chosen local rest before in
      (subst (λ l. IsChosen all l rest) (sym is) more, omega (arith, ap length is, with_length chosen local, few))

  pub all_chosen : left ≡ [] → chosen ≡ take most_cited (unhidden all)
  all_chosen at =
      let is : unhidden all ≡ chosen = chosen_all all chosen (subst (λ l. IsChosen all chosen l) at are.0) in
      sym (ap (take most_cited) is ∙ take_all most_cited chosen are.1)

  pub enough_chosen : most_cited ≤ length chosen → chosen ≡ take most_cited (unhidden all)
  enough_chosen many =
      sym (ap (take most_cited) are.0 ∙ (take-append-le most_cited chosen (remaining chosen (unhidden left)) many ∙ take_all most_cited chosen are.1))

-- Places whose facts all follow, and how facts are put together.
use Rattle.std.proofs.Common.{Bool, true, false, List, [], ◌∷◌, ◌++◌}
use Rattle.std.specs.Prelude.{cond, filter, fold}
use Rattle.nj_formula.specs.Statement.{Statement}
use Rattle.shared_map.specs.Pairs.{Each}
use Rattle.shared_map.specs.Changes.{united}
use Rattle.shared_map.specs.Cuts.{before, behind, at_key}
use Rattle.theory_ctx.specs.Facts.{Fact}
use Rattle.theory_ctx.specs.Order.{by_name}
use Rattle.theory_ctx.specs.Merged.{extended_facts, merged_facts}
use Rattle.proof_state.specs.Worth.{IsWorth}
use Rattle.isar_rules.specs.declared.state.Place.{Place}
use Rattle.isar_rules.specs.declared.state.Place.TheVariants as place
use Rattle.isar_rules.specs.declared.state.Given.{Given}
use Rattle.isar_rules.specs.declared.state.Given.TheVariants.{Facts, Bad}
use Rattle.isar_rules.specs.declared.state.State.{State}
use Rattle.soundness_laws.specs.Facts.{AllFollow, FactsFollow}

-- what a node has from its imports
abbrev pub GivenFollow : (Statement → Type 0) → Given → Type 0
GivenFollow P (Facts facts) = AllFollow P facts
GivenFollow P (Bad name) = Unit {0}

-- all facts that are seen there follow, and an open proof is worth its goal
abbrev pub IsSound : (Statement → Type 0) → Place → Type 0
IsSound P (place.Start node given keyword) = GivenFollow P given
IsSound P place.Outside = Unit {0}
IsSound P (place.Theory theory) = AllFollow P theory.facts
IsSound P (place.Proof theory name goal levels) = AllFollow P theory.facts × ∥ IsWorth theory.facts goal levels ∥₁
IsSound P (place.End theory) = AllFollow P theory.facts

pub facts_follow : (P : Statement → Type 0) (state : State) → IsSound P state.place → FactsFollow P state
facts_follow P state sound = go state.place sound
  where
    go : (p : Place) → IsSound P p → FactsFollow P (record state { place = p })
    go (place.Start node given keyword) sound = tt
    go place.Outside sound = tt
    go (place.Theory theory) sound = sound
    go (place.Proof theory name goal levels) sound = sound.0
    go (place.End theory) sound = sound

module _ {X : Type 0} (P : X → Type 0) where
  each_filter : (test : X → Bool) (xs : List X) → Each P xs → Each P (filter test xs)
  each_filter test [] each = tt
  each_filter test (x ∷ xs) each = go (each_filter test xs each.1) (test x)
    where
      go : Each P (filter test xs) → (b : Bool) → Each P (cond b (x ∷ filter test xs) (filter test xs))
      go rest true = (each.0, rest)
      go rest false = rest

  pub each_both : (xs ys : List X) → Each P xs → Each P ys → Each P (xs ++ ys)
  each_both [] ys all each = each
  each_both (x ∷ xs) ys all each = (all.0, each_both xs ys all.1 each)

module _ (P : Fact → Type 0) where
  pub each_added : (fact : Fact) (facts : List Fact) → P fact → Each P facts
      → Each P (extended_facts fact facts)
  each_added fact facts this each =
      each_both P (before (at_key by_name fact.0) facts) (fact ∷ behind (at_key by_name fact.0) facts)
      (each_filter P _ facts each) (this, each_filter P _ facts each)

  each_united : (xs ys : List Fact) → Each P xs → Each P ys → Each P (united by_name xs ys)
  each_united [] ys all each = each
  each_united (x ∷ xs) ys all each =
      each_both P (before (at_key by_name x.0) ys) (x ∷ united by_name xs (behind (at_key by_name x.0) ys))
      (each_filter P _ ys each) (all.0, each_united xs (behind (at_key by_name x.0) ys) all.1 (each_filter P _ ys each))

  each_fold : (parts : List (List Fact)) (all : List Fact) → Each P all → Each (Each P) parts → Each P (fold (united by_name) all parts)
  each_fold [] all each parts = each
  each_fold (part ∷ more) all each parts = each_fold more (united by_name all part) (each_united all part each parts.0) parts.1

  pub each_merged : (parts : List (List Fact)) → Each (Each P) parts → Each P (merged_facts parts)
  each_merged parts each = each_fold parts [] tt each

-- What an update gives a node: its rows go by what stands beside them.
use Rattle.std.proofs.Common.{◌≡◌, ℕ, zero, suc, ◌+◌, ◌≤◌, List, [], ◌∷◌, ◌++◌, length, map, take, Some, sym, subst, arith, add-one}
use Rattle.std.specs.Prelude.{⊤}
use Rattle.std.specs.List.{zip, range_with_len}
use Rattle.doc_nodes.specs.declared.node.Entry.{Entry}
use Rattle.doc_nodes.specs.declared.node.Node.{Node}
use Rattle.exec_rules.specs.declared.home.Input.{Input}
use Rattle.exec_rules.specs.declared.home.Input.TheVariants as input
use Rattle.exec_rules.specs.declared.home.Home.{Home}
use Rattle.exec_rules.specs.Kept.{BlobList}
use Rattle.exec_rules.specs.Homes.{home}
use Rattle.core_rules.specs.Numbered.{numbered, grown}
use Rattle.core_rules.specs.Parts.{sources_of}
use Rattle.core_rules.proofs.KnownNumbers.{numbered_newest, numbered_grown}
use Rattle.core_rules.proofs.Tables.{AtMost, OlderFrom}
use Rattle.core_rules.proofs.HomedRows.{Homes, EvalsHomed}

-- these have the numbers from one on
abbrev pub Numbered : Homes → ℕ → List Home → Type 0
Numbered at n [] = ⊤
Numbered at n (h ∷ hs) = (at n ≡ Some h) × Numbered at (suc n) hs

pub numbered_all : (xs ys : List Home) → Numbered (numbered (grown xs ys)) (suc (length xs)) ys
numbered_all xs [] = tt
numbered_all xs (y ∷ ys) =
    (numbered_grown (y ∷ xs) ys y (suc (length xs)) (numbered_newest xs y), numbered_all (y ∷ xs) ys)

pub numbered_front : (at : Homes) (n : ℕ) (xs ys : List Home) → Numbered at n (xs ++ ys) → Numbered at n xs
numbered_front at n [] ys all = tt
numbered_front at n (x ∷ xs) ys all = (all.0, numbered_front at (suc n) xs ys all.1)

pub numbered_back : (at : Homes) (n m : ℕ) (xs ys : List Home) → n + length xs ≡ m → Numbered at n (xs ++ ys) → Numbered at m ys
numbered_back at n m [] ys e all = let same : n ≡ m = omega (arith, e) in subst (λ k. Numbered at k ys) same all
numbered_back at n m (x ∷ xs) ys e all = numbered_back at (suc n) m xs ys (omega (arith, e)) all.1

module _ (node : Node) (blobs : BlobList) where
  -- the homes of evaluations, of which the first takes up this
  abbrev pub homes_from : List Entry → List ℕ → Input → List Home
  homes_from es vs i = map (λ pair. home node blobs pair.0 pair.1) (zip (take (length vs) es) (i ∷ map input.Next vs))

  -- evaluations that have the next numbers
  pub range_homed : (at : Homes) (n d : ℕ) (es : List Entry) (i : Input) → d ≤ length es
      → Numbered at n (homes_from es (range_with_len n d) i) → EvalsHomed at node blobs es (range_with_len n d) i
  range_homed at n zero es i le all = tt
  range_homed at n (suc d) [] i le all = absurd (omega arith)
  range_homed at n (suc d) (e ∷ es) i le all =
      let next : Numbered at (n + 1) (homes_from es (range_with_len (n + 1) d) (input.Next n)) =
      subst (λ k. Numbered at k (homes_from es (range_with_len (n + 1) d) (input.Next n))) (sym (add-one n)) all.1 in
      (all.0, range_homed at (n + 1) d es (input.Next n) (omega arith) next)

  pub range_older : (n m d : ℕ) (es : List Entry) (i : Input) → n ≡ suc m → AtMost m (sources_of i)
      → OlderFrom m (homes_from es (range_with_len n d) i)
  range_older n m zero es i e all = range_none es i
    where
      range_none : (es : List Entry) (i : Input) → OlderFrom m (homes_from es [] i)
      range_none es i = tt
  range_older n m (suc d) [] i e all = tt
  range_older n m (suc d) (x ∷ es) i e all = (
    all,
    range_older (n + 1) (suc m) d es (input.Next n) (omega (arith, e)) (omega (arith, e), tt),
  )

-- What a command adds to the facts of a theory: what it states, and the lemma whose last goal it
-- closes.
use Rattle.std.proofs.Common.{if◌then◌else◌, ◌≡◌, ℕ, false, List, [], ◌∷◌, ◌++◌, Option, Ok, Err, subst}
use Rattle.std.specs.List.{cons_option}
use Rattle.std.specs.Option.{option_map_or}
use Rattle.shared_map.specs.Pairs.{IsSorted}
use Rattle.theory_ctx.specs.Facts.{Fact}
use Rattle.theory_ctx.specs.Order.{by_name}
use Rattle.proof_state.specs.Steps.{proof}
use Rattle.isar_rules.specs.declared.shape.Shape.{Shape}
use Rattle.isar_rules.specs.declared.shape.Shape.TheVariants as shape
use Rattle.isar_rules.specs.declared.state.Place.{Place}
use Rattle.isar_rules.specs.declared.state.Place.TheVariants as place
use Rattle.isar_rules.specs.BlobLines.{Listed}
use Rattle.isar_rules.specs.Effects.{Effect}
use Rattle.isar_rules.specs.Errors.{Tried}
use Rattle.isar_rules.specs.Proofs.{stands}
use Rattle.isar_rules.specs.Theories.{has_fact}
use Rattle.isar_rules.proofs.KnownTried.{IfTried}
use Rattle.soundness_laws.specs.Stated.{are_closed, stated_before}
use Rattle.soundness_laws.proofs.Goals.{open_goals, IsOpen}
use Rattle.soundness_laws.proofs.Grown.{Grows, no_more}

-- the lemma whose proof is open at a place, where later commands close its goals
abbrev pub due : Place → List Shape → List Listed
due (place.Proof theory name goal levels) later = if are_closed (open_goals levels) later then (name, goal) ∷ [] else []
due other later = []

-- the facts at a place in or behind a theory
abbrev pub seen : Place → List Fact
seen (place.Theory theory) = theory.facts
seen (place.Proof theory name goal levels) = theory.facts
seen (place.End theory) = theory.facts
seen other = []

-- the place is in or behind the theory of a node, and a lemma that is open has a new name
abbrev pub Goes : List ℕ → Place → Type 0
Goes node (place.Theory theory) = theory.name ≡ node
Goes node (place.Proof theory name goal levels) = (theory.name ≡ node) × (has_fact name theory ≡ false) × IsOpen levels
Goes node (place.End theory) = theory.name ≡ node
Goes node other = ⊥

-- a place behind another, and what stands to be added before and behind
pub record Adds (node : List ℕ) (old new : Place) (before after : List Listed) : Type 0 where
  pub goes : Goes node new
  pub more : List Listed
  pub grows : Grows node (seen old) more (seen new)
  pub sorted : IsSorted by_name (seen old) → IsSorted by_name (seen new)
  pub split : before ≡ more ++ after

pub tried_so : {A : Type 0} (P Q : A → Type 0) (t : Tried A) → ((a : A) → P a → Q a) → IfTried P t → IfTried Q t
tried_so P Q (Ok a) so p = so a p
tried_so P Q (Err text) so p = tt

module _ (node : List ℕ) (later : List Shape) (rest : List Listed) (blob : Option (List ℕ)) where
  abbrev pub before_at : Place → Option Shape → List Listed
  before_at p o = due p (cons_option o later) ++ (option_map_or (stated_before later blob) o [] ++ rest)

  abbrev pub after_at : Place → List Listed
  after_at p = due p later ++ rest

  abbrev pub AddsAt : Place → Option Shape → Effect → Type 0
  AddsAt p o e = Adds node p e.place (before_at p o) (after_at e.place)

  -- nothing is added
  pub still : (old new : Place) (before : List Listed) → Goes node new → seen old ≡ seen new → before ≡ after_at new → Adds node old new before (after_at new)
  still old new before goes same split = record {
    goes = goes;
    more = [];
    grows = subst (Grows node (seen old) []) same (no_more node (seen old));
    sorted = subst (IsSorted by_name) same;
    split = split;
  }

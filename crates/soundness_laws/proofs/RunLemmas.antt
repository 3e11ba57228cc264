-- A node's commands by their sources alone.
use Rattle.std.proofs.Common.{◌≡◌, ℕ, zero, suc, ◌+◌, List, [], ◌∷◌, ◌++◌, length, take, map, slice_get, Option, Some, Ok, Err, refl, sym, ap, ◌∙◌, add-one}
use Rattle.std.proofs.lemmas.Option.{same_Some}
use Rattle.outer_syntax.specs.declared.token.Token.{Token}
use Rattle.exec_rules.specs.Kept.{BlobList, blob_of}
use Rattle.doc_nodes.specs.Needs.{AliasList, needs, source_tokens}
use Rattle.core_rules.specs.Settings.{Setting, state_behind}
use Rattle.isar_rules.specs.declared.state.State.{State}
use Rattle.isar_rules.specs.Effects.{Effect}
use Rattle.isar_rules.specs.Errors.{Tried}
use Rattle.isar_rules.specs.Isar.{isar}
use Rattle.isar_rules.specs.Shapes.{shape_of}
use Rattle.isar_rules.specs.Steps.{made_effect, tried, aliases_at, step}

-- each command keeps the aliases
made_aliases : (source : List ℕ) (tokens : List Token) (before : State) (t : Tried Effect) → (made_effect source tokens before t).state.aliases ≡ before.aliases
made_aliases source tokens before (Ok e) = refl
made_aliases source tokens before (Err text) = refl

pub step_aliases : (source : List ℕ) (blob : Option (List ℕ)) (before : State) → (step source blob before).state.aliases ≡ before.aliases
step_aliases source blob before =
    let aliases = aliases_at before.place before.aliases in
    made_aliases source (source_tokens aliases source) before (tried blob before.place (shape_of aliases source (source_tokens aliases source)))

module _ (blobs : BlobList) (aliases : AliasList) where
  -- a command of a source, in a state
  abbrev pub set : List ℕ → State → Setting State
  set x state = record { source = x; blob = blob_of blobs (needs x aliases); state = state }

  abbrev pub runs : List (List ℕ) → State → List (Setting State)
  runs [] state = []
  runs (x ∷ xs) state = set x state ∷ runs xs (state_behind isar (set x state))

  -- the state behind commands of these sources
  abbrev pub after : List (List ℕ) → State → State
  after [] state = state
  after (x ∷ xs) state = after xs (state_behind isar (set x state))

  pub sources_run : (xs : List (List ℕ)) (state : State) → map (λ (s : Setting State). s.source) (runs xs state) ≡ xs
  sources_run [] state = refl
  sources_run (x ∷ xs) state = ap (λ ys. x ∷ ys) (sources_run xs (state_behind isar (set x state)))

  -- what is behind a command is what is behind the sources up to it
  behind_next : (xs : List (List ℕ)) (state : State) (k : ℕ) (s : Setting State) → slice_get (runs xs state) k ≡ Some s → after (take (suc k) xs) state ≡ state_behind isar s
  behind_next [] state k s e = cc
  behind_next (x ∷ xs) state zero s e = ap (state_behind isar) (same_Some (set x state) s e)
  behind_next (x ∷ xs) state (suc k) s e = behind_next xs (state_behind isar (set x state)) k s e

  pub behind_at : (xs : List (List ℕ)) (state : State) (k : ℕ) (s : Setting State) → slice_get (runs xs state) k ≡ Some s → after (take (k + 1) xs) state ≡ state_behind isar s
  behind_at xs state k s e = ap (λ n. after (take n xs) state) (add-one k) ∙ behind_next xs state k s e

  -- the command between others
  pub at_place : (ys zs : List (List ℕ)) (w : List ℕ) (state : State) → slice_get (runs (ys ++ w ∷ zs) state) (length ys) ≡ Some (set w (after ys state))
  at_place [] zs w state = refl
  at_place (y ∷ ys) zs w state = at_place ys zs w (state_behind isar (set y state))

  within_next : (xs : List (List ℕ)) (state : State) (k : ℕ) (s : Setting State) → slice_get (runs xs state) k ≡ Some s → length (take (suc k) xs) ≡ suc k
  within_next [] state k s e = cc
  within_next (x ∷ xs) state zero s e = refl
  within_next (x ∷ xs) state (suc k) s e = ap suc (within_next xs (state_behind isar (set x state)) k s e)

  pub within_run : (xs : List (List ℕ)) (state : State) (k : ℕ) (s : Setting State) → slice_get (runs xs state) k ≡ Some s → length (take (k + 1) xs) ≡ k + 1
  within_run xs state k s e = ap (λ n. length (take n xs)) (add-one k) ∙ (within_next xs state k s e ∙ sym (add-one k))

  -- what each command keeps, all of them keep
  pub after_kept : (P : State → Type 0) → ((source : List ℕ) (blob : Option (List ℕ)) (state : State) → P state → P (step source blob state).state)
      → (xs : List (List ℕ)) (state : State) → P state → P (after xs state)
  after_kept P each [] state p = p
  after_kept P each (x ∷ xs) state p = after_kept P each xs (state_behind isar (set x state)) (each x (blob_of blobs (needs x aliases)) state p)

  pub after_aliases : (xs : List (List ℕ)) (state : State) → (after xs state).aliases ≡ state.aliases
  after_aliases [] state = refl
  after_aliases (x ∷ xs) state = after_aliases xs (state_behind isar (set x state)) ∙ step_aliases x (blob_of blobs (needs x aliases)) state

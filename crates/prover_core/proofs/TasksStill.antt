-- Tasks of executions that an event does not touch.
use Rattle.std.proofs.Common.{◌≡◌, ℕ, Bool, true, false, cond, not, ◌&&◌, ◌||◌, List, [], ◌∷◌, Option, Some, None, refl, ap, sym, ◌∙◌}
use Rattle.std.proofs.lemmas.Bool.{eqb-true, eq-eqb}
use Rattle.std.specs.Prelude.{◌==◌}
use Rattle.std.specs.Option.{option_map, option_map_or}
use Rattle.text_words.specs.Members.{has}
use Rattle.pide_base.specs.declared.part.Part.{Part}
use Rattle.pide_base.specs.declared.part.PartKind.{PartKind}
use Rattle.core_tables.specs.declared.task.Standing.{Standing as Task}
use Rattle.core_tables.specs.Changes.{removed, without}
use Rattle.exec_rules.specs.declared.home.Home.{Home}
use Rattle.exec_rules.specs.declared.version.Version.{Version}
use Rattle.core_rules.specs.Parts.{waits_for, evaluation}
use Rattle.core_rules.specs.Standing.{Standing, is_done}
use Rattle.prover_core.specs.Progress.{part}
use Rattle.prover_core.specs.Tasks.{is_held, AreTasks}

-- where there is none
pub still_none : (old new : Part → Standing) (tip : Version) (homes : List Home) (e : ℕ) (k : Option PartKind) (o : Option Task)
    → k ≡ None → AreTasks old tip homes e k o → AreTasks new tip homes e k o
still_none old new tip homes e None None none are = are
still_none old new tip homes e None (Some t) none are = absurd (are)
still_none old new tip homes e (Some k) o none are = absurd (cc)

module _ (old new : Part → Standing) (tip : Version) (homes : List Home) (e : ℕ)
    (stands : (k : PartKind) → new (part e k) ≡ old (part e k)) where
  -- where the same evaluations are finished
  pub still : ((f : ℕ) → is_done (new (evaluation f)) ≡ is_done (old (evaluation f))) → (k : Option PartKind) (o : Option Task)
      → AreTasks old tip homes e k o → AreTasks new tip homes e k o
  still done None None are = are
  still done None (Some t) are = absurd (are)
  still done (Some k) None are = absurd (are)
  still done (Some k) (Some t) are = record {
    same_kind = are.same_kind;
    urgent = are.urgent;
    waits = λ f. are.waits f ∙ ap (λ b. has (waits_for homes (part e k)) f && not b) (sym (done f));
    held = are.held ∙ ap is_held (sym (stands k));
  }

  removed_others : (x f : ℕ) → (x == f) ≡ false → (es : List ℕ) → has (removed x es) f ≡ has es f
  removed_others x f apart [] = refl
  removed_others x f apart (y ∷ es) = go (x == y) refl (removed_others x f apart es)
    where
      others : (b : Bool) → (f == y) ≡ b → x ≡ y → false ≡ b
      others false is same = refl
      others true is same = sym apart ∙ eq-eqb x f (same ∙ sym (eqb-true f y is))

      go : (b : Bool) → (x == y) ≡ b → has (removed x es) f ≡ has es f
          → has (cond b es (y ∷ removed x es)) f ≡ has (y ∷ es) f
      go true same rest = ap (λ c. c || has es f) (others (f == y) refl (eqb-true x y same))
      go false same rest = ap (λ c. (f == y) || c) rest

  -- where the evaluation of x is finished as well, for which nobody waits any more
  module _ (x : ℕ) (done : (f : ℕ) → is_done (new (evaluation f)) ≡ cond (x == f) true (is_done (old (evaluation f)))) where
    waits_no_more : (t : Task) (ws : List ℕ) → has (without x t).inputs x ≡ false
        → ((f : ℕ) → has t.inputs f ≡ (has ws f && not (is_done (old (evaluation f)))))
        → (f : ℕ) → has (without x t).inputs f ≡ (has ws f && not (is_done (new (evaluation f))))
    waits_no_more t ws free waits f = go (x == f) refl ∙ ap (λ b. has ws f && not b) (sym (done f))
      where
        nothing : (b : Bool) → false ≡ (b && false)
        nothing true = refl
        nothing false = refl

        go : (b : Bool) → (x == f) ≡ b → has (without x t).inputs f ≡ (has ws f && not (cond b true (is_done (old (evaluation f)))))
        go true same = ap (has (without x t).inputs) (sym (eqb-true x f same)) ∙ free ∙ nothing (has ws f)
        go false same = removed_others x f same t.inputs ∙ waits f

    pub still_behind : (k : Option PartKind) (o : Option Task) → AreTasks old tip homes e k o
        → option_map_or (λ (t : Task). has t.inputs x) (option_map (without x) o) false ≡ false
        → AreTasks new tip homes e k (option_map (without x) o)
    still_behind None None are free = are
    still_behind None (Some t) are free = absurd (are)
    still_behind (Some k) None are free = absurd (are)
    still_behind (Some k) (Some t) are free = record {
      same_kind = are.same_kind;
      urgent = are.urgent;
      waits = waits_no_more t (waits_for homes (part e k)) free are.waits;
      held = are.held ∙ ap is_held (sym (stands k));
    }

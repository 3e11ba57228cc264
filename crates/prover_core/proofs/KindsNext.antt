-- Which part of an execution comes next, by what is finished: it is one of its parts, and unfinished.
use Rattle.std.proofs.Common.{◌≡◌, ℕ, Bool, true, false, cond, not, ◌&&◌, ◌||◌, List, [], ◌∷◌, map, Some, None, refl, ap, sym, ◌∙◌}
use Rattle.std.proofs.lemmas.Bool.{eq-eqb}
use Rattle.std.specs.Prelude.{◌==◌}
use Rattle.std.specs.List.{list_any}
use Rattle.pide_base.specs.declared.part.PartKind.{PartKind}
use Rattle.pide_base.specs.declared.part.PartKind.TheVariants as kind
use Rattle.exec_rules.specs.declared.home.Input.{Input}
use Rattle.exec_rules.specs.declared.home.Input.TheVariants as input
use Rattle.core_rules.specs.declared.event.Event.{Event}
use Rattle.core_rules.specs.Parts.{same_kind, same_part, kinds_by}
use Rattle.core_rules.specs.Standing.{is_finished}
use Rattle.prover_core.specs.Progress.{Completed, part, completed_in, next_kind}

-- whether the part of this kind is finished
abbrev pub is_in : PartKind → Completed → Bool
is_in kind.Eval c = c.eval
is_in kind.Fork c = c.fork
is_in kind.Print c = c.print

pub finished_is : (h : List Event) (e : ℕ) (k : PartKind) → is_finished h (part e k) ≡ is_in k (completed_in h e)
finished_is h e kind.Eval = refl
finished_is h e kind.Fork = refl
finished_is h e kind.Print = refl

evaluates : (f a b : Bool) (k : PartKind) (c : Completed) → a ≡ c.eval → b ≡ c.fork
    → cond a (cond (f && not b) (Some kind.Fork) None) (Some kind.Eval) ≡ Some k → is_in k c ≡ false
evaluates f false b kind.Eval c x y next = sym x
evaluates f false b kind.Fork c x y next = absurd (cc)
evaluates f false b kind.Print c x y next = absurd (cc)
evaluates true true false kind.Fork c x y next = sym y
evaluates true true false kind.Eval c x y next = absurd (cc)
evaluates true true false kind.Print c x y next = absurd (cc)
evaluates true true true k c x y next = absurd (cc)
evaluates false true b k c x y next = absurd (cc)

prints : (a : Bool) (k : PartKind) (c : Completed) → a ≡ c.print → cond a None (Some kind.Print) ≡ Some k → is_in k c ≡ false
prints true k c x next = absurd (cc)
prints false kind.Print c x next = sym x
prints false kind.Eval c x next = absurd (cc)
prints false kind.Fork c x next = absurd (cc)

-- it is unfinished
pub next_unfinished : (taken : Input) (f : Bool) (c : Completed) (k : PartKind) → next_kind taken f c ≡ Some k → is_in k c ≡ false
next_unfinished (input.First head) f c k next = evaluates f c.eval c.fork k c refl refl next
next_unfinished (input.Next e) f c k next = evaluates f c.eval c.fork k c refl refl next
next_unfinished (input.Print e) f c k next = prints c.print k c refl next

module _ (e : ℕ) (k : PartKind) where
  by_kind : (same : Bool) → (e == e) ≡ same → (ks : List PartKind)
      → list_any (same_part (part e k)) (map (λ x. part e x) ks) ≡ list_any (λ x. same && same_kind k x) ks
  by_kind same is [] = refl
  by_kind same is (x ∷ ks) = ap (λ b. (b && same_kind k x) || list_any (same_part (part e k)) (map (λ y. part e y) ks)) is
      ∙ ap (λ b. (same && same_kind k x) || b) (by_kind same is ks)

  -- a part of the execution goes by its kind
  pub among_kinds : (ks : List PartKind) → list_any (same_part (part e k)) (map (λ x. part e x) ks) ≡ list_any (same_kind k) ks
  among_kinds ks = by_kind true (eq-eqb e e refl) ks

evaluation_among : (f a b : Bool) (k : PartKind) → cond a (cond (f && not b) (Some kind.Fork) None) (Some kind.Eval) ≡ Some k
    → list_any (same_kind k) (kind.Eval ∷ cond f (kind.Fork ∷ []) []) ≡ true
evaluation_among f false b kind.Eval next = refl
evaluation_among f false b kind.Fork next = absurd (cc)
evaluation_among f false b kind.Print next = absurd (cc)
evaluation_among true true false kind.Fork next = refl
evaluation_among true true false kind.Eval next = absurd (cc)
evaluation_among true true false kind.Print next = absurd (cc)
evaluation_among true true true k next = absurd (cc)
evaluation_among false true b k next = absurd (cc)

print_among : (a : Bool) (k : PartKind) → cond a None (Some kind.Print) ≡ Some k → list_any (same_kind k) (kind.Print ∷ []) ≡ true
print_among true k next = absurd (cc)
print_among false kind.Print next = refl
print_among false kind.Eval next = absurd (cc)
print_among false kind.Fork next = absurd (cc)

-- it is one of the parts
pub next_among : (taken : Input) (f : Bool) (c : Completed) (k : PartKind) → next_kind taken f c ≡ Some k
    → list_any (same_kind k) (kinds_by taken f) ≡ true
next_among (input.First head) f c k next = evaluation_among f c.eval c.fork k next
next_among (input.Next x) f c k next = evaluation_among f c.eval c.fork k next
next_among (input.Print x) f c k next = print_among c.print k next

evaluation_next : (f : Bool) (c : Completed) (k : PartKind) → list_any (same_kind k) (kind.Eval ∷ cond f (kind.Fork ∷ []) []) ≡ true
    → is_in k c ≡ false → (k ≡ kind.Fork → c.eval ≡ true)
    → cond c.eval (cond (f && not c.fork) (Some kind.Fork) None) (Some kind.Eval) ≡ Some k
evaluation_next f c kind.Eval is open_ behind = ap (λ a. cond a (cond (f && not c.fork) (Some kind.Fork) None) (Some kind.Eval)) open_
evaluation_next true c kind.Fork is open_ behind =
    ap (λ a. cond a (cond (not c.fork) (Some kind.Fork) None) (Some kind.Eval)) (behind refl)
    ∙ ap (λ b. cond (not b) (Some kind.Fork) None) open_
evaluation_next false c kind.Fork is open_ behind = absurd (cc)
evaluation_next true c kind.Print is open_ behind = absurd (cc)
evaluation_next false c kind.Print is open_ behind = absurd (cc)

print_next : (c : Completed) (k : PartKind) → list_any (same_kind k) (kind.Print ∷ []) ≡ true → is_in k c ≡ false
    → cond c.print None (Some kind.Print) ≡ Some k
print_next c kind.Print is open_ = ap (λ a. cond a None (Some kind.Print)) open_
print_next c kind.Eval is open_ = absurd (cc)
print_next c kind.Fork is open_ = absurd (cc)

-- an unfinished part is the first one, where the evaluation of a fork is finished
pub is_next : (taken : Input) (f : Bool) (c : Completed) (k : PartKind) → list_any (same_kind k) (kinds_by taken f) ≡ true
    → is_in k c ≡ false → (k ≡ kind.Fork → c.eval ≡ true) → next_kind taken f c ≡ Some k
is_next (input.First head) f c k is open_ behind = evaluation_next f c k is open_ behind
is_next (input.Next x) f c k is open_ behind = evaluation_next f c k is open_ behind
is_next (input.Print x) f c k is open_ behind = print_next c k is open_

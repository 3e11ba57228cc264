-- A term by itself has no bound place.
use Rattle.std.proofs.Common.{◌≡◌, ℕ, Bool, true, false, ◌&&◌, IsTrue, List, [], map, refl, ap, sym, ◌∙◌}
use Rattle.std.specs.List.{list_all}
use Rattle.nj_formula.specs.declared.argument.Argument.{Argument, fold-roll-Argument}
use Rattle.nj_formula.specs.declared.argument.Argument.TheOpen.{Argument-F}
use Rattle.nj_formula.specs.declared.argument.Argument.TheVariants.{Free, Apply, rolls-Free, rolls-Apply}
use Rattle.nj_formula.specs.Closed.{closed_layer, is_closed}
use Rattle.nj_syntax.specs.Terms.{Deep, named_term, AreArguments, name, apply, comma}
use Rattle.nj_syntax.specs.Answers.{IsTerm, SaysWhole}

abbrev all_closed : List Argument → Bool
all_closed arguments = list_all (λ closed. closed) (map is_closed arguments)

both : (a b : Bool) → (a && true) ≡ true → b ≡ true → (a && b) ≡ true
both true b h k = k
both false b h k = h

one : (a : Bool) → a ≡ true → (a && true) ≡ true
one true h = refl
one false h = h

closed_free : (x : List ℕ) → is_closed (Free x) ≡ true
closed_free x = ap is_closed (sym (rolls-Free x)) ∙ fold-roll-Argument Bool closed_layer (Argument-F.Free x)

closed_apply : (f : List ℕ) (arguments : List Argument) → is_closed (Apply f arguments) ≡ all_closed arguments
closed_apply f arguments = ap is_closed (sym (rolls-Apply f arguments)) ∙ fold-roll-Argument Bool closed_layer (Argument-F.Apply f arguments)

closed_arguments : {bound : List (List ℕ)} {d : ℕ} {deep : List Deep} {arguments : List Argument} → bound ≡ []
    → AreArguments bound d deep arguments → all_closed arguments ≡ true
closed_arguments none (name {x = x}) = one (is_closed (named_term _ x)) (ap (λ b. is_closed (named_term b x)) none ∙ closed_free x)
closed_arguments none (apply {f = f} {arguments = inside} h) = one (is_closed (Apply f inside)) (closed_apply f inside ∙ closed_arguments none h)
closed_arguments none (comma {t = t} {more = more} h k) = both (is_closed t) (all_closed more) (closed_arguments none h) (closed_arguments none k)

from_both : (a : Bool) → (a && true) ≡ true → a ≡ true
from_both true h = refl
from_both false h = h

pub closed_term : (text : List ℕ) (t : Argument) → SaysWhole IsTerm text t → IsTrue (is_closed t)
closed_term text t says = from_both (is_closed t) (closed_arguments refl says.is)

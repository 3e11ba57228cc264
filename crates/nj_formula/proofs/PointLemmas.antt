-- Lists of arguments that are the same points.
use Rattle.std.proofs.Common.{◌≡◌, ◌≢◌, ℕ, zero, suc, Bool, true, false, ◌||◌, List, [], ◌∷◌, ◌++◌, length, map, get_or, refl, ap, ◌∙◌}
use Rattle.std.specs.List.{list_all, list_any}
use Rattle.std.specs.Cmp.{first_so, second_so}
use Rattle.nj_formula.specs.declared.argument.Argument.{Argument}
use Rattle.nj_formula.proofs.KnownArguments.{Each}

pub neither_left : (x y : Bool) → (x || y) ≡ false → x ≡ false
neither_left true y h = h
neither_left false y h = refl

pub neither_right : (x y : Bool) → (x || y) ≡ false → y ≡ false
neither_right true y h = cc
neither_right false y h = h

-- one more point at the end is read at that end alone
pub elsewhere : {D : Type 0} (bound : List D) (w : D) (m : ℕ) (d : D) → m ≢ length bound → get_or bound m d ≡ get_or (bound ++ w ∷ []) m d
elsewhere [] w zero d other = absurd (other refl)
elsewhere [] w (suc m) d other = refl
elsewhere (b ∷ bound) w zero d other = refl
elsewhere (b ∷ bound) w (suc m) d other = elsewhere bound w m d (λ e. other (ap (λ i. suc i) e))

-- the laws of points, where a list's law is that of each of its arguments
module _ {D : Type 0} (f g : Argument → D) (test : Argument → Bool) where
  abbrev pub AgreesWhere : Bool → Argument → Type 0
  AgreesWhere b a = test a ≡ b → f a ≡ g a

  pub all_agree : (args : List Argument) → Each (AgreesWhere true) args → list_all (λ c. c) (map test args) ≡ true → map f args ≡ map g args
  all_agree [] tt h = refl
  all_agree (a ∷ args) e h =
      ap (λ d. d ∷ map f args) (e.0 (first_so (test a) (list_all (λ c. c) (map test args)) h))
      ∙ ap (λ ds. g a ∷ ds) (all_agree args e.1 (second_so (test a) (list_all (λ c. c) (map test args)) h))

  pub none_agree : (args : List Argument) → Each (AgreesWhere false) args → list_any (λ c. c) (map test args) ≡ false → map f args ≡ map g args
  none_agree [] tt h = refl
  none_agree (a ∷ args) e h =
      ap (λ d. d ∷ map f args) (e.0 (neither_left (test a) (list_any (λ c. c) (map test args)) h))
      ∙ ap (λ ds. g a ∷ ds) (none_agree args e.1 (neither_right (test a) (list_any (λ c. c) (map test args)) h))

-- What is told to each of some commands.
use Rattle.std.proofs.Common.{◌≡◌, ℕ, Bool, true, false, cond, List, [], ◌∷◌, ◌++◌, map, Option, Some, None, refl, ap, sym, ◌∙◌}
use Rattle.std.specs.Prelude.{find, if◌then◌else◌}
use Rattle.std.specs.Option.{option_map, option_or}
use Rattle.std.specs.Ordering.{nat_cmp, is_eq}
use Rattle.std.specs.Cmp.{unsigned_tied}
use Rattle.std.specs.declared.cmp.Ordering.TheVariants.{Less}
use Rattle.std.proofs.lemmas.Bool.{eqb-true}
use Rattle.std.proofs.lemmas.List.Folds.{find-append}
use Rattle.shared_map.specs.Pairs.{Each, IsSorted, has_key, found}
use Rattle.mirror_rules.specs.Reports.{PartReport, in_scalars}
use Rattle.pide_mirror.specs.Places.{takes, told_at, with_reports}
use Rattle.pide_mirror.specs.declared.place.Place.{Place}

abbrev pub Commands : Type 0
Commands = List (ℕ × Place)

map_or : {A B : Type 0} (f : A → B) (a b : Option A) → option_map f (option_or a b) ≡ option_or (option_map f a) (option_map f b)
map_or f None b = refl
map_or f (Some a) b = refl

found_append : (c : ℕ) (xs ys : Commands) → found nat_cmp c (xs ++ ys) ≡ option_or (found nat_cmp c xs) (found nat_cmp c ys)
found_append c xs ys = ap (option_map (λ pair. pair.1)) (find-append (has_key nat_cmp c) xs ys)
    ∙ map_or (λ pair. pair.1) (find (has_key nat_cmp c) xs) (find (has_key nat_cmp c) ys)

each_middle : (P : ℕ × Place → Type 0) (xs ys : Commands) (x : ℕ × Place) → Each P (xs ++ x ∷ ys) → P x
each_middle P [] ys x all = all.0
each_middle P (y ∷ xs) ys x all = each_middle P xs ys x all.1

-- no key comes twice
pub none_before : (k : ℕ) (v : Place) (xs ys : Commands) → IsSorted nat_cmp (xs ++ (k, v) ∷ ys) → found nat_cmp k xs ≡ None
none_before k v [] ys sorted = refl
none_before k v (x ∷ xs) ys sorted =
    ap (λ o. option_map (λ (pair : ℕ × Place). pair.1) (cond (is_eq o) (Some x) (find (has_key nat_cmp k) xs)))
    (each_middle (λ other. nat_cmp x.0 other.0 ≡ Less) xs ys (k, v) sorted.0)
    ∙ none_before k v xs ys sorted.1

or_some : {A : Type 0} (a b : Option A) (x : A) → a ≡ Some x → option_or a b ≡ Some x
or_some a b x e = ap (λ o. option_or o b) e

-- the commands of the front have what is told, and the others are as they were
abbrev pub IsToldUpTo : PartReport → Commands → Commands → Commands → Type 0
IsToldUpTo told front rest places = (c : ℕ) → found nat_cmp c places
    ≡ option_or (option_map (told_at told) (found nat_cmp c front)) (found nat_cmp c rest)

module _ (told : PartReport) (k : ℕ) (v : Place) (front rest places : Commands) where
  abbrev told_front : ℕ → Option Place
  told_front c = option_map (told_at told) (found nat_cmp c front)

  -- what the command that is next makes of what is found
  one_more : (c : ℕ) → option_or (option_map (told_at told) (found nat_cmp c (front ++ (k, v) ∷ []))) (found nat_cmp c rest)
      ≡ option_or (option_or (told_front c) (cond (is_eq (nat_cmp k c)) (Some (told_at told v)) None)) (found nat_cmp c rest)
  one_more c = ap (λ o. option_or (option_map (told_at told) o) (found nat_cmp c rest)) (found_append c front ((k, v) ∷ []))
      ∙ ap (λ o. option_or o (found nat_cmp c rest)) (map_or (told_at told) (found nat_cmp c front) (found nat_cmp c ((k, v) ∷ [])))
      ∙ ap (λ o. option_or (option_or (told_front c) o) (found nat_cmp c rest)) (go (is_eq (nat_cmp k c)))
    where
      go : (b : Bool) → option_map (told_at told) (option_map (λ (pair : ℕ × Place). pair.1) (cond b (Some (k, v)) None)) ≡ cond b (Some (told_at told v)) None
      go true = refl
      go false = refl

  pub takes_next : IsSorted nat_cmp (front ++ (k, v) ∷ rest) → IsToldUpTo told front ((k, v) ∷ rest) places → (after : Commands)
      → ((c : ℕ) → found nat_cmp c after ≡ (if is_eq (nat_cmp k c) then Some (told_at told v) else found nat_cmp c places))
      → IsToldUpTo told (front ++ (k, v) ∷ []) rest after
  takes_next sorted so after is = λ c. is c ∙ go c (is_eq (nat_cmp k c)) refl ∙ sym (one_more c)
    where
      go : (c : ℕ) (b : Bool) → is_eq (nat_cmp k c) ≡ b → (if b then Some (told_at told v) else found nat_cmp c places)
          ≡ option_or (option_or (told_front c) (cond b (Some (told_at told v)) None)) (found nat_cmp c rest)
      go c true same =
          let e : k ≡ c = eqb-true k c (sym (unsigned_tied k c) ∙ same) in
          let none : found nat_cmp c front ≡ None = ap (λ d. found nat_cmp d front) (sym e) ∙ none_before k v front rest sorted in
          sym (ap (λ o. option_or (option_or (option_map (told_at told) o) (Some (told_at told v))) (found nat_cmp c rest)) none)
      go c false other =
          so c ∙ ap (λ b. option_or (told_front c) (option_map (λ (pair : ℕ × Place). pair.1) (cond b (Some (k, v)) (find (has_key nat_cmp c) rest)))) other
          ∙ ap (λ o. option_or o (found nat_cmp c rest)) (or_none (told_front c))
        where
          or_none : (o : Option Place) → o ≡ option_or o None
          or_none None = refl
          or_none (Some x) = refl

  pub passes_next : IsToldUpTo told front ((k, v) ∷ rest) places → takes told v ≡ false → IsToldUpTo told (front ++ (k, v) ∷ []) rest places
  passes_next so out = λ c. so c ∙ go c (is_eq (nat_cmp k c)) (told_front c) ∙ sym (one_more c)
    where
      same : told_at told v ≡ v
      same = ap (λ b. if b then with_reports told.part.kind (map (in_scalars told.protocol v.source) told.reports) v else v) out

      go : (c : ℕ) (b : Bool) (o : Option Place) → option_or o (option_map (λ (pair : ℕ × Place). pair.1) (cond b (Some (k, v)) (find (has_key nat_cmp c) rest)))
          ≡ option_or (option_or o (cond b (Some (told_at told v)) None)) (found nat_cmp c rest)
      go c true None = ap (λ x. Some x) (sym same)
      go c true (Some x) = refl
      go c false None = refl
      go c false (Some x) = refl

pub told_whole : (told : PartReport) (all places : Commands) → IsToldUpTo told all [] places
    → (c : ℕ) → found nat_cmp c places ≡ option_map (told_at told) (found nat_cmp c all)
told_whole told all places so c = so c ∙ go (option_map (told_at told) (found nat_cmp c all))
  where
    go : (o : Option Place) → option_or o None ≡ o
    go None = refl
    go (Some x) = refl

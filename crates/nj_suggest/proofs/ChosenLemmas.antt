-- Facts are chosen one after the other, but for those that one further in hides.
use Rattle.std.proofs.Common.{◌≡◌, ℕ, Bool, true, false, not, ◌||◌, List, [], ◌∷◌, ◌++◌, filter, cond, bytes_eq, refl, ap, sym, ◌∙◌, append_assoc, append-nil}
use Rattle.std.proofs.lemmas.Slice.Eq.{bytes_eq-Decides}
use Rattle.std.proofs.Math.Bool.{or-false}
use Rattle.theory_ctx.specs.declared.local.Local.{Local}
use Rattle.suggest_rules.specs.Names.{others, unhidden, is_name_of}
use Rattle.nj_suggest.specs.Chosen.{with_next}

-- the facts that none of the chosen ones hides
abbrev pub remaining : List Local → List Local → List Local
remaining chosen facts = filter (λ local. not (is_name_of chosen local.name)) facts

remaining-none : (facts : List Local) → remaining [] facts ≡ facts
remaining-none [] = refl
remaining-none (local ∷ facts) = ap (λ more. local ∷ more) (remaining-none facts)

flipped : (x y : List ℕ) → bytes_eq x y ≡ bytes_eq y x
flipped x y = go (bytes_eq x y) (bytes_eq y x) refl refl
  where
    go : (a b : Bool) → bytes_eq x y ≡ a → bytes_eq y x ≡ b → a ≡ b
    go true true e h = refl
    go true false e h = sym ((bytes_eq-Decides y x).1 (sym ((bytes_eq-Decides x y).0 e))) ∙ h
    go false true e h = sym e ∙ (bytes_eq-Decides x y).1 (sym ((bytes_eq-Decides y x).0 h))
    go false false e h = refl

-- the facts of a name that is hidden are left out twice
left_out : (chosen : List Local) (name : List ℕ) (facts : List Local) → is_name_of chosen name ≡ true → remaining chosen (others name facts) ≡ remaining chosen facts
left_out chosen name [] hidden = refl
left_out chosen name (m ∷ facts) hidden = go (left_out chosen name facts hidden) (bytes_eq m.name name) refl
  where
    go : remaining chosen (others name facts) ≡ remaining chosen facts → (b : Bool) → bytes_eq m.name name ≡ b
        → remaining chosen (cond (not b) (m ∷ others name facts) (others name facts)) ≡ cond (not (is_name_of chosen m.name)) (m ∷ remaining chosen facts) (remaining chosen facts)
    go more true e =
        more ∙ ap (λ h. cond (not h) (m ∷ remaining chosen facts) (remaining chosen facts))
        (sym (ap (is_name_of chosen) ((bytes_eq-Decides m.name name).0 e) ∙ hidden))
    go more false e = ap (λ l. cond (not (is_name_of chosen m.name)) (m ∷ l) l) more

-- one more is chosen
also : (chosen : List Local) (local : Local) (name : List ℕ) → is_name_of (chosen ++ local ∷ []) name ≡ (is_name_of chosen name || bytes_eq local.name name)
also [] local name = or-false (bytes_eq local.name name)
also (c ∷ chosen) local name = ap (λ b. bytes_eq c.name name || b) (also chosen local name) ∙ go (bytes_eq c.name name)
  where
    go : (b : Bool) → (b || (is_name_of chosen name || bytes_eq local.name name)) ≡ ((b || is_name_of chosen name) || bytes_eq local.name name)
    go true = refl
    go false = refl

taken_in : (chosen : List Local) (local : Local) (facts : List Local) → remaining chosen (others local.name facts) ≡ remaining (chosen ++ local ∷ []) facts
taken_in chosen local [] = refl
taken_in chosen local (m ∷ facts) =
    go (taken_in chosen local facts) (bytes_eq m.name local.name) (is_name_of chosen m.name) refl
    ∙ ap (λ h. cond (not h) (m ∷ remaining (chosen ++ local ∷ []) facts) (remaining (chosen ++ local ∷ []) facts))
    (ap (λ b. is_name_of chosen m.name || b) (flipped m.name local.name) ∙ sym (also chosen local m.name))
  where
    go : remaining chosen (others local.name facts) ≡ remaining (chosen ++ local ∷ []) facts → (b h : Bool) → is_name_of chosen m.name ≡ h
        → remaining chosen (cond (not b) (m ∷ others local.name facts) (others local.name facts))
        ≡ cond (not (h || b)) (m ∷ remaining (chosen ++ local ∷ []) facts) (remaining (chosen ++ local ∷ []) facts)
    go more true true e = more
    go more true false e = more
    go more false true e = ap (λ h. cond (not h) (m ∷ remaining chosen (others local.name facts)) (remaining chosen (others local.name facts))) e ∙ more
    go more false false e =
        ap (λ h. cond (not h) (m ∷ remaining chosen (others local.name facts)) (remaining chosen (others local.name facts))) e ∙ ap (λ l. m ∷ l) more

-- what is chosen so far, and what is left, are all
abbrev pub IsChosen : List Local → List Local → List Local → Type 0
IsChosen all chosen rest = unhidden all ≡ chosen ++ remaining chosen (unhidden rest)

pub chosen_none : (all : List Local) → IsChosen all [] all
chosen_none all = sym (remaining-none (unhidden all))

pub chosen_more : (all chosen : List Local) (local : Local) (rest : List Local) → IsChosen all chosen (local ∷ rest) → IsChosen all (with_next chosen local) rest
chosen_more all chosen local rest is = is ∙ go (is_name_of chosen local.name) refl
  where
    go : (b : Bool) → is_name_of chosen local.name ≡ b
        → chosen ++ cond (not (is_name_of chosen local.name)) (local ∷ remaining chosen (others local.name (unhidden rest))) (remaining chosen (others local.name (unhidden rest)))
        ≡ cond b chosen (chosen ++ local ∷ []) ++ remaining (cond b chosen (chosen ++ local ∷ [])) (unhidden rest)
    go true e =
        ap (λ h. chosen ++ cond (not h) (local ∷ remaining chosen (others local.name (unhidden rest))) (remaining chosen (others local.name (unhidden rest)))) e
        ∙ ap (λ l. chosen ++ l) (left_out chosen local.name (unhidden rest) e)
    go false e =
        ap (λ h. chosen ++ cond (not h) (local ∷ remaining chosen (others local.name (unhidden rest))) (remaining chosen (others local.name (unhidden rest)))) e
        ∙ (ap (λ l. chosen ++ local ∷ l) (taken_in chosen local (unhidden rest)) ∙ sym (append_assoc chosen (local ∷ []) (remaining (chosen ++ local ∷ []) (unhidden rest))))

pub chosen_all : (all chosen : List Local) → IsChosen all chosen [] → unhidden all ≡ chosen
chosen_all all chosen is = is ∙ append-nil chosen

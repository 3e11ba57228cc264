-- Keys that are the same.
use Rattle.std.proofs.Common.{◌≡◌, true, List, [], ◌∷◌, refl, ap, sym, ◌∙◌}
use Rattle.std.proofs.lemmas.Bool.{eqb-true, eq-eqb, and_parts, and_from}
use Rattle.doc_nodes.proofs.KnownNames.{name_is, name_itself}
use Rattle.exec_rules.specs.declared.key.Last.{Last}
use Rattle.exec_rules.specs.declared.key.Last.TheVariants.{Empty, Open, Made}
use Rattle.exec_rules.specs.declared.key.Key.{Key}
use Rattle.exec_rules.specs.declared.key.Key.TheVariants.{Lasts, BadImport}
use Rattle.exec_rules.specs.Keys.{same_last, same_lasts, same_key}

last_is : (a b : Last) → same_last a b ≡ true → a ≡ b
last_is Empty Empty e = refl
last_is Empty Open e = absurd (cc)
last_is Empty (Made f) e = absurd (cc)
last_is Open Empty e = absurd (cc)
last_is Open Open e = refl
last_is Open (Made f) e = absurd (cc)
last_is (Made d) Empty e = absurd (cc)
last_is (Made d) Open e = absurd (cc)
last_is (Made d) (Made f) e = ap Made (eqb-true d f e)

last_itself : (a : Last) → same_last a a ≡ true
last_itself Empty = refl
last_itself Open = refl
last_itself (Made d) = eq-eqb d d refl

lasts_are : (xs ys : List Last) → same_lasts xs ys ≡ true → xs ≡ ys
lasts_are [] [] e = refl
lasts_are [] (y ∷ ys) e = absurd (cc)
lasts_are (x ∷ xs) [] e = absurd (cc)
lasts_are (x ∷ xs) (y ∷ ys) e =
    ap (λ z. z ∷ xs) (last_is x y ((and_parts (same_last x y) (same_lasts xs ys) e).0))
    ∙ ap (λ zs. y ∷ zs) (lasts_are xs ys ((and_parts (same_last x y) (same_lasts xs ys) e).1))

lasts_themselves : (xs : List Last) → same_lasts xs xs ≡ true
lasts_themselves [] = refl
lasts_themselves (x ∷ xs) = and_from (same_last x x) (same_lasts xs xs) (last_itself x) (lasts_themselves xs)

pub key_is : (a b : Key) → same_key a b ≡ true → a ≡ b
key_is (Lasts xs) (Lasts ys) e = ap Lasts (lasts_are xs ys e)
key_is (Lasts xs) (BadImport y) e = absurd (cc)
key_is (BadImport x) (Lasts ys) e = absurd (cc)
key_is (BadImport x) (BadImport y) e = ap BadImport (name_is x y e)

key_itself : (a : Key) → same_key a a ≡ true
key_itself (Lasts xs) = lasts_themselves xs
key_itself (BadImport x) = name_itself x

pub is_key : (a b : Key) → a ≡ b → same_key a b ≡ true
is_key a b e = ap (same_key a) (sym e) ∙ key_itself a

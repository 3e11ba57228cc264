-- Blobs that did not change.
use Rattle.std.proofs.Common.{◌≡◌, ◌==◌, ℕ, Bool, true, false, List, [], ◌∷◌, length, Option, Some, None, refl, sym, ap, ◌∙◌, arith}
use Rattle.std.proofs.lemmas.Bool.{eqb-true}
use Rattle.std.specs.Prelude.{not, is_some, ◌&&◌}
use Rattle.std.specs.Borrow.{Bor}
use Rattle.std.specs.Option.{option_copied}
use Rattle.shared_map.specs.Pairs.{found}
use Rattle.doc_nodes.specs.Names.{in_order, equal}
use Rattle.doc_nodes.proofs.KnownNames.{name_is}
use Rattle.exec_rules.specs.Kept.{BlobList, Times, agree, same_blob}
use Rattle.exec_assign.specs.Untouched.{AreChanged}

not_not : (a b : Bool) → a ≡ not b → b ≡ not a
not_not true true e = absurd (cc)
not_not true false e = refl
not_not false true e = refl
not_not false false e = absurd (cc)

same_by : (times : Times) (now before : List ℕ) (b : Bool) → equal now before ≡ b
    → (b && agree (found in_order now times.now) (found in_order now times.before)) ≡ same_blob times (Some now) (Some before)
same_by times now before true e =
    let same : now ≡ before = name_is now before e in
    ap (λ n. agree (found in_order now times.now) (found in_order n times.before)) same
    ∙ ap (λ b. b && agree (found in_order now times.now) (found in_order before times.before)) (sym e)
same_by times now before false e =
    ap (λ b. b && agree (found in_order now times.now) (found in_order before times.before)) (sym e)

-- the same name, which is none of those that changed
pub same_blob_is : (changed : List (List ℕ × Unit {0})) (times : Times) (now before : List ℕ)
    → AreChanged changed times.before times.now
    → (equal now before && not (is_some (found in_order now changed))) ≡ same_blob times (Some now) (Some before)
same_blob_is changed times now before are =
    ap (λ b. equal now before && b) (sym (are now)) ∙ same_by times now before (equal now before) refl

-- where nothing is found, by what is lent of it
pub none_found : {X : Type 0} (lent : Option (Bor X)) (f : Option X) (b : Bool) → option_copied lent ≡ f → is_some lent ≡ not b
    → b ≡ not (is_some f)
none_found None f b e n = not_not false b n ∙ ap (λ o. not (is_some o)) e
none_found (Some x) f b e n = not_not true b n ∙ ap (λ o. not (is_some o)) e

-- where no name is told, no blob changed
pub none_changed : (changed : List (List ℕ × Unit {0})) (before now : BlobList) → (length changed == 0) ≡ true → AreChanged changed before now
    → (name : List ℕ) → agree (found in_order name now) (found in_order name before) ≡ true
none_changed [] before now none are name = are name
none_changed (x ∷ xs) before now none are name = let empty : length (x ∷ xs) ≡ 0 = eqb-true (length (x ∷ xs)) 0 none in absurd (omega (arith, empty))

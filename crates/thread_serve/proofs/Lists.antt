-- Lists of items that grow by one.
use Rattle.std.proofs.Common.{◌≡◌, ◌≢◌, ◌⊎◌, ℕ, List, [], ◌∷◌, ◌++◌, reverse, inl, inr, refl, sym, ap, ◌∙◌, length, length-append, arith}
use Rattle.std.proofs.lemmas.List.{append_cancel_left, reverse-reverse}
use mathlib.Core.List.{IsPrefix, reverse-cons}
use Rattle.language.specs.Lang.{Lang}
use Rattle.document_session.specs.keeping_rules_below.Items.{SessionItem}
use Rattle.view_laws.specs.Callers.{whose}
use Rattle.view_laws.specs.Histories.{IsLegalLog}

-- an item that stands newest where the list is read backwards is the last one
pub grown_by : (x : SessionItem) (old new : List SessionItem) → reverse new ≡ x ∷ reverse old → new ≡ old ++ x ∷ []
grown_by x old new is = sym (reverse-reverse new) ∙ (ap (λ (xs : List SessionItem). reverse xs) is
    ∙ (reverse-cons x (reverse old) ∙ ap (λ (xs : List SessionItem). xs ++ x ∷ []) (reverse-reverse old)))

pub not_grown : (old new : List SessionItem) → reverse new ≡ reverse old → new ≡ old
not_grown old new is = sym (reverse-reverse new) ∙ (ap (λ (xs : List SessionItem). reverse xs) is ∙ reverse-reverse old)

-- the list is as it was, or has one item more, of this caller
abbrev pub OneOf : ℕ → List SessionItem → List SessionItem → Type 0
OneOf who old new = (new ≡ old) ⊎ ((x : SessionItem) × (whose x ≡ who) × (new ≡ old ++ x ∷ []))

-- an item more is that caller's
pub its_own : (who : ℕ) (old new : List SessionItem) (e : SessionItem) → OneOf who old new → new ≡ old ++ e ∷ [] → whose e ≡ who
its_own who old new e (inl same) is = absurd (let n = ap (λ (xs : List SessionItem). length xs) (sym same ∙ is) in omega (arith, length-append old (e ∷ [])))
its_own who old new e (inr one) is =
    let rest : e ∷ [] ≡ one.0 ∷ [] = append_cancel_left old (e ∷ []) (one.0 ∷ []) (sym is ∙ one.2) in
    let one_is : e ≡ one.0 = cc in
    ap whose one_is ∙ one.1

pub begins : (x : SessionItem) (old new : List SessionItem) → new ≡ old ++ x ∷ [] → IsPrefix old new
begins x old new is = (x ∷ [], sym is)

-- a legal list has items
pub some_legal : {S : Type 0} (l : Lang S) (log : List SessionItem) → IsLegalLog l log → log ≢ []
some_legal l [] are = absurd (are)
some_legal l (x ∷ log) are = λ e. absurd (let no : ⊥ = cc in no)

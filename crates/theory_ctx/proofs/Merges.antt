-- What merged contexts have, and that their order doesn't matter where they agree.
use Rattle.std.proofs.Common.{◌≡◌, ℕ, List, [], ◌∷◌, Option, Some, None, ◌⊎◌, inl, inr, refl, sym, ◌∙◌, ap}
use Rattle.std.specs.Prelude.{find, fold}
use Rattle.std.specs.Option.{option_or}
use Rattle.std.proofs.lemmas.List.Folds.{find-append}
use Rattle.std.proofs.lemmas.Option.{none-some}
use Rattle.shared_map.specs.Pairs.{Each, IsSorted, has_key}
use Rattle.shared_map.specs.Changes.{united}
use Rattle.shared_map.proofs.KnownSorted.{IsSorted-united}
use Rattle.shared_map.proofs.KnownFound.{find_united}
use Rattle.shared_map.proofs.KnownAlike.{same_pairs}
use Rattle.theory_ctx.specs.declared.fact_name.FactName.{FactName}
use Rattle.theory_ctx.specs.Facts.{Fact, is_called, fact_of}
use Rattle.theory_ctx.specs.Order.{by_name, by_name_total}
use Rattle.theory_ctx.specs.Merged.{merged_facts, all_of}
use Rattle.theory_ctx.specs.Agreement.{IsPart, DoAgree, AreSame}
use Rattle.theory_ctx.proofs.Named.{fact_of_first}

-- the key of a theory and a name
abbrev key_of : List ℕ → List ℕ → FactName
key_of t n = record { name = n; theory = t }

pub fact_of-united : (t n : List ℕ) (xs ys : List Fact) → IsSorted by_name xs
    → fact_of t n (united by_name xs ys) ≡ option_or (fact_of t n xs) (fact_of t n ys)
fact_of-united t n xs ys sorted =
    sym (fact_of_first t n (united by_name xs ys))
    ∙ find_united by_name_total xs ys sorted (key_of t n)
    ∙ ap (λ o. option_or o (find (has_key by_name (key_of t n)) ys)) (fact_of_first t n xs)
    ∙ ap (option_or (fact_of t n xs)) (fact_of_first t n ys)

or_none : (o : Option Fact) → o ≡ option_or o None
or_none None = refl
or_none (Some x) = refl

or_assoc : (o p q : Option Fact) → option_or (option_or o p) q ≡ option_or o (option_or p q)
or_assoc None p q = refl
or_assoc (Some x) p q = refl

fact_of-fold : (t n : List ℕ) (parts : List (List Fact)) (all : List Fact) → IsSorted by_name all → Each (IsSorted by_name) parts
    → fact_of t n (fold (united by_name) all parts) ≡ option_or (fact_of t n all) (fact_of t n (all_of parts))
fact_of-fold t n [] all sorted each = or_none (fact_of t n all)
fact_of-fold t n (part ∷ parts) all sorted each =
    fact_of-fold t n parts (united by_name all part) (IsSorted-united by_name_total all part sorted each.0) each.1
    ∙ ap (λ o. option_or o (fact_of t n (all_of parts))) (fact_of-united t n all part sorted)
    ∙ or_assoc (fact_of t n all) (fact_of t n part) (fact_of t n (all_of parts))
    ∙ ap (option_or (fact_of t n all)) (sym (find-append (is_called t n) part (all_of parts)))

pub fact_of-merged : (t n : List ℕ) (parts : List (List Fact)) → Each (IsSorted by_name) parts → fact_of t n (merged_facts parts) ≡ fact_of t n (all_of parts)
fact_of-merged t n parts each = fact_of-fold t n parts [] tt each

IsSorted-fold : (parts : List (List Fact)) (all : List Fact) → IsSorted by_name all → Each (IsSorted by_name) parts → IsSorted by_name (fold (united by_name) all parts)
IsSorted-fold [] all sorted each = sorted
IsSorted-fold (part ∷ parts) all sorted each = IsSorted-fold parts (united by_name all part) (IsSorted-united by_name_total all part sorted each.0) each.1

pub IsSorted-merged : (parts : List (List Fact)) → Each (IsSorted by_name) parts
    → IsSorted by_name (merged_facts parts)
IsSorted-merged parts each = IsSorted-fold parts [] tt each

-- what is found in the parts is a fact of one of them
part_of : (t n : List ℕ) (parts : List (List Fact)) (f : Fact) → fact_of t n (all_of parts) ≡ Some f
    → (part : List Fact) × IsPart part parts × (fact_of t n part ≡ Some f)
part_of t n [] f some = absurd (none-some f some)
part_of t n (part ∷ parts) f some =
    go (fact_of t n part) refl (sym (find-append (is_called t n) part (all_of parts)) ∙ some) (part_of t n parts f)
  where
    go : (o : Option Fact) → fact_of t n part ≡ o → option_or (fact_of t n part) (fact_of t n (all_of parts)) ≡ Some f
        → (fact_of t n (all_of parts) ≡ Some f → (p : List Fact) × IsPart p parts × (fact_of t n p ≡ Some f))
        → (p : List Fact) × IsPart p (part ∷ parts) × (fact_of t n p ≡ Some f)
    go None e is rest =
        let more = rest (sym (ap (λ o. option_or o (fact_of t n (all_of parts))) e) ∙ is) in
        (more.0, inr more.1, more.2)
    go (Some x) e is rest = (part, inl refl, e ∙ sym (ap (λ o. option_or o (fact_of t n (all_of parts))) e) ∙ is)

-- and a fact of a part keeps the parts from having none
none_of : (t n : List ℕ) (parts : List (List Fact)) (part : List Fact) (f : Fact) → IsPart part parts → fact_of t n part ≡ Some f
    → fact_of t n (all_of parts) ≡ None → ⊥
none_of t n [] part f none_there some none = none_there
none_of t n (first ∷ parts) part f is some none = go is (fact_of t n first) refl (none_of t n parts part f)
  where
    joined : option_or (fact_of t n first) (fact_of t n (all_of parts)) ≡ None
    joined = sym (find-append (is_called t n) first (all_of parts)) ∙ none

    go : (part ≡ first) ⊎ IsPart part parts → (o : Option Fact) → fact_of t n first ≡ o
        → (IsPart part parts → fact_of t n part ≡ Some f → fact_of t n (all_of parts) ≡ None → ⊥) → ⊥
    go which (Some x) e rest = none-some x (sym (sym (ap (λ o. option_or o (fact_of t n (all_of parts))) e) ∙ joined))
    go (inl same) None e rest = none-some f (sym e ∙ sym (ap (fact_of t n) same) ∙ some)
    go (inr more) None e rest = rest more some (sym (ap (λ o. option_or o (fact_of t n (all_of parts))) e) ∙ joined)

-- parts that agree give what others give that are the same
same_facts : (t n : List ℕ) (parts others : List (List Fact)) → DoAgree parts → AreSame parts others
    → fact_of t n (all_of parts) ≡ fact_of t n (all_of others)
same_facts t n parts others agree same = go (fact_of t n (all_of parts)) refl (fact_of t n (all_of others)) refl
  where
    go : (o : Option Fact) → fact_of t n (all_of parts) ≡ o → (p : Option Fact) → fact_of t n (all_of others) ≡ p → o ≡ p
    go None e None h = refl
    go None e (Some g) h =
        let there = part_of t n others g h in
        absurd (none_of t n parts there.0 g ((same there.0).1 there.1) there.2 e)
    go (Some f) e None h =
        let here = part_of t n parts f e in
        absurd (none_of t n others here.0 f ((same here.0).0 here.1) here.2 h)
    go (Some f) e (Some g) h =
        let here = part_of t n parts f e in
        let there = part_of t n others g h in
        ap Some (agree here.0 there.0 t n f g here.1 ((same there.0).1 there.1) here.2 there.2)

pub same_merged : (parts others : List (List Fact)) → Each (IsSorted by_name) parts → Each (IsSorted by_name) others
    → DoAgree parts → AreSame parts others → merged_facts parts ≡ merged_facts others
same_merged parts others each more agree same =
    same_pairs by_name_total (merged_facts parts) (merged_facts others)
    (IsSorted-merged parts each) (IsSorted-merged others more)
    (λ key.
    fact_of_first key.theory key.name (merged_facts parts)
    ∙ fact_of-merged key.theory key.name parts each
    ∙ same_facts key.theory key.name parts others agree same
    ∙ sym (fact_of-merged key.theory key.name others more)
    ∙ sym (fact_of_first key.theory key.name (merged_facts others)))

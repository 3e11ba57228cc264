-- Rows that fit their commands, at all places.
use Rattle.std.proofs.Common.{◌≡◌, ℕ, zero, suc, Bool, true, false, List, [], ◌∷◌, get_or, eqb, Option, Some, None, refl, sym, ap, subst, ◌∙◌, arith}
use Rattle.std.proofs.lemmas.Bool.Decides.{nat_tests}
use Rattle.std.specs.Prelude.{slice_get}
use Rattle.std.specs.Option.{option_map_or, option_and_then}
use Rattle.doc_nodes.specs.declared.node.Entry.{Entry}
use Rattle.doc_nodes.specs.declared.node.Node.{Node}
use Rattle.doc_nodes.specs.Imports.{place_of}
use Rattle.exec_rules.specs.declared.key.Key.{Key}
use Rattle.exec_rules.specs.declared.row.Row.{Row}
use Rattle.exec_rules.specs.declared.row.Assigned.{Assigned}
use Rattle.exec_rules.specs.Keys.{nothing_assigned, assigned_at, key_of}
use Rattle.exec_rules.specs.Assigning.{Update, Work, entries_at, given, assign_one, assign_all}
use Rattle.exec_assign.specs.Found.{AreAssigned}
use Rattle.exec_assign.specs.Fitting.{Fit, RowsFit}
use Rattle.exec_assign.specs.Telling.{update_version}
use Rattle.exec_assign.proofs.WorkLemmas.{at_more, one_none, one_some}

abbrev AllFit : Update → List (ℕ × Assigned) → Type 0
AllFit u done = (p : ℕ) → Fit (entries_at u.nodes p) (assigned_at done p).rows

abbrev GivenFit : Update → Type 0
GivenFit u = (p : ℕ) (pair : List ℕ × Node) (key : Key) (next : ℕ) → Fit pair.1.entries (given u p pair key next).assigned.rows

-- at one place more
fit_more : (u : Update) (done : List (ℕ × Assigned)) (p : ℕ) (pair : List ℕ × Node) (a : Assigned) → slice_get u.nodes p ≡ Some pair
    → Fit pair.1.entries a.rows → AllFit u done → AllFit u ((p, a) ∷ done)
fit_more u done p pair a at here fit = λ q. go q (eqb p q) refl
  where
    go : (q : ℕ) (b : Bool) → eqb p q ≡ b → Fit (entries_at u.nodes q) (assigned_at ((p, a) ∷ done) q).rows
    go q true e =
        let same : p ≡ q = grind (arith, nat_tests) in
        let entries : entries_at u.nodes q ≡ pair.1.entries =
        ap (λ (r : ℕ). entries_at u.nodes r) (sym same) ∙ ap (λ (o : Option (List ℕ × Node)). option_map_or (λ pair. pair.1.entries) o []) at in
        subst (λ (x : Assigned). Fit (entries_at u.nodes q) x.rows) (sym (at_more done p q a true e))
        (subst (λ (es : List Entry). Fit es a.rows) (sym entries) here)
    go q false e = subst (λ (x : Assigned). Fit (entries_at u.nodes q) x.rows) (sym (at_more done p q a false e)) (fit q)

one_fits : (u : Update) → GivenFit u → (work : Work) (p : ℕ) → AllFit u work.done → AllFit u (assign_one u work p).done
one_fits u gives work p fit = go (slice_get u.nodes p) refl
  where
    go : (o : Option (List ℕ × Node)) → slice_get u.nodes p ≡ o → AllFit u (assign_one u work p).done
    go None at = subst (λ (w : Work). AllFit u w.done) (sym (one_none u work p at)) fit
    go (Some pair) at =
        subst (λ (w : Work). AllFit u w.done) (sym (one_some u work p pair at))
        (fit_more u work.done p pair (given u p pair (key_of u.nodes work.done pair.1) work.next).assigned at
        (gives p pair (key_of u.nodes work.done pair.1) work.next) fit)

all_fits : (u : Update) → GivenFit u → (ps : List ℕ) (work : Work) → AllFit u work.done → AllFit u (assign_all u ps work).done
all_fits u gives [] work fit = fit
all_fits u gives (p ∷ ps) work fit = all_fits u gives ps (assign_one u work p) (one_fits u gives work p fit)

none_fit : (es : List Entry) → Fit es []
none_fit es i row at = absurd (cc)

pub got : {X : Type 0} (xs : List X) (p : ℕ) (d x : X) → slice_get xs p ≡ Some x → get_or xs p d ≡ x
got [] p d x e = absurd (cc)
got (y ∷ ys) zero d x e = let same : y ≡ x = cc in same
got (y ∷ ys) (suc p) d x e = got ys p d x e

-- the rows of the version that an update makes fit
pub rows_fit : (u : Update) → GivenFit u → (ps : List ℕ) (next : ℕ) (all : List Assigned) (done : List (ℕ × Assigned)) → AreAssigned all done
    → done ≡ (assign_all u ps (record { done = []; homes = []; next = next })).done
    → RowsFit (update_version u all)
rows_fit u gives ps next all done are same = λ name. go (place_of u.nodes name)
  where
    fit : AllFit u done
    fit = subst (AllFit u) (sym same) (all_fits u gives ps (record { done = []; homes = []; next = next }) (λ p. none_fit (entries_at u.nodes p)))

    rows_of : Option Assigned → List Row
    rows_of o = option_map_or (λ assigned. assigned.rows) o []

    some : (p : ℕ) (o : Option Assigned) → slice_get all p ≡ o → Fit (entries_at u.nodes p) (rows_of o)
    some p None e = none_fit (entries_at u.nodes p)
    some p (Some a) e =
        let it : assigned_at done p ≡ a = sym (are p) ∙ got all p nothing_assigned a e in
        subst (λ (x : Assigned). Fit (entries_at u.nodes p) x.rows) it (fit p)

    go : (o : Option ℕ) → Fit (option_map_or (entries_at u.nodes) o []) (rows_of (option_and_then (slice_get all) o))
    go None = none_fit []
    go (Some p) = some p (slice_get all p) refl

-- Rows that fit their commands, made again.
use Rattle.std.proofs.Common.{◌≡◌, ℕ, zero, suc, ◌≤◌, true, false, cond, List, [], ◌∷◌, ◌++◌, length, map, Option, Some, None, refl, ap, ◌∙◌, arith}
use Rattle.std.proofs.lemmas.Bool.{eq-eqb}
use Rattle.std.specs.Prelude.{slice_get, is_some, not, ◌&&◌}
use Rattle.shared_map.specs.Pairs.{found}
use Rattle.text_words.specs.Members.{has}
use Rattle.doc_nodes.specs.declared.node.Entry.{Entry}
use Rattle.doc_nodes.specs.declared.node.Node.{Node}
use Rattle.doc_nodes.specs.Names.{in_order}
use Rattle.doc_nodes.proofs.KnownNames.{name_itself}
use Rattle.exec_rules.specs.declared.row.Row.{Row}
use Rattle.exec_rules.specs.Kept.{BlobList, Times, agree, same_blob, keeps, kept_count}
use Rattle.exec_rules.specs.Rows.{live_print, print_of, takes_print, with_prints, behind_prints}
use Rattle.exec_rules.specs.declared.home.Input.TheVariants.{Print}
use Rattle.exec_rules.specs.Homes.{home, print_homes}
use Rattle.exec_assign.specs.Fitting.{Fit}
use Rattle.exec_assign.specs.Untouched.{IsAlive}

-- where no blob changed, a command finds what it found
blob_itself : (t : Times) → ((name : List ℕ) → agree (found in_order name t.now) (found in_order name t.before) ≡ true)
    → (n : Option (List ℕ)) → same_blob t n n ≡ true
blob_itself t agrees None = refl
blob_itself t agrees (Some name) =
    ap (λ b. b && agree (found in_order name t.now) (found in_order name t.before)) (name_itself name) ∙ agrees name

keeps_itself : (t : Times) → ((name : List ℕ) → agree (found in_order name t.now) (found in_order name t.before) ≡ true)
    → (e : Entry) (r : Row) → has t.cancelled r.evaluation ≡ false → keeps t e e r ≡ true
keeps_itself t agrees e r alive =
    ap (λ b. b && (not (has t.cancelled r.evaluation) && same_blob t e.needs e.needs)) (eq-eqb e.command e.command refl)
    ∙ ap (λ b. not b && same_blob t e.needs e.needs) alive
    ∙ blob_itself t agrees e.needs

-- all commands with rows keep their evaluations
pub kept_whole : (t : Times) → ((name : List ℕ) → agree (found in_order name t.now) (found in_order name t.before) ≡ true)
    → (es : List Entry) (rs : List Row) → Fit es rs
    → ((i : ℕ) (row : Row) → slice_get rs i ≡ Some row → IsAlive t.cancelled row)
    → kept_count t es es rs ≡ length rs
kept_whole t agrees [] [] fit alive = refl
kept_whole t agrees [] (r ∷ rs) fit alive = let none = fit zero r refl in absurd (cc)
kept_whole t agrees (e ∷ es) [] fit alive = refl
kept_whole t agrees (e ∷ es) (r ∷ rs) fit alive =
    ap (λ b. cond b (suc (kept_count t es es rs)) 0)
    (keeps_itself t agrees e r (alive zero r refl).evaluation)
    ∙ ap suc (kept_whole t agrees es rs (λ i row at. fit (suc i) row at) (λ i row at. alive (suc i) row at))

-- rows that fit are no more than the commands
pub fit_long : (es : List Entry) (rs : List Row) → Fit es rs → length rs ≤ length es
fit_long es [] fit = omega arith
fit_long [] (r ∷ rs) fit = let none = fit zero r refl in absurd (cc)
fit_long (e ∷ es) (r ∷ rs) fit = omega (arith, fit_long es rs (λ i row at. fit (suc i) row at))

abbrev pub evaluations_of : List Row → List ℕ
evaluations_of rs = map (λ row. row.evaluation) rs

abbrev pub prints_of : List Row → List (Option ℕ)
prints_of rs = map (λ row. row.print) rs

print_is : (e : Entry) (print : Option ℕ) (m : ℕ) → e.visible ≡ is_some print → print_of e print m ≡ print
print_is e None m seen = ap (λ v. cond v (Some m) None) seen
print_is e (Some print) m seen = ap (λ v. cond v (Some print) None) seen

takes_none : (e : Entry) (print : Option ℕ) → e.visible ≡ is_some print → takes_print e print ≡ false
takes_none e None seen = ap (λ v. v && true) seen
takes_none e (Some print) seen = ap (λ v. v && false) seen

seen_first : (e : Entry) (es : List Entry) (r : Row) (rs : List Row) → Fit (e ∷ es) (r ∷ rs) → e.visible ≡ is_some r.print
seen_first e es r rs fit = let first = fit zero r refl in cc

-- their rows are the same again, no number is taken, and no print is new
pub rows_again : (es : List Entry) (rs : List Row) (m : ℕ) → Fit es rs → with_prints es (evaluations_of rs) (prints_of rs) m ≡ rs
rows_again [] [] m fit = refl
rows_again [] (r ∷ rs) m fit = let none = fit zero r refl in absurd (cc)
rows_again (e ∷ es) [] m fit = refl
rows_again (e ∷ es) (r ∷ rs) m fit =
    let seen : e.visible ≡ is_some r.print = seen_first e es r rs fit in
    ap (λ p. record { evaluation = r.evaluation; print = p }
    ∷ with_prints es (evaluations_of rs) (prints_of rs) (cond (takes_print e r.print) (suc m) m)) (print_is e r.print m seen)
    ∙ ap (λ b. r ∷ with_prints es (evaluations_of rs) (prints_of rs) (cond b (suc m) m)) (takes_none e r.print seen)
    ∙ ap (λ xs. r ∷ xs) (rows_again es rs m (λ i row at. fit (suc i) row at))

pub none_taken : (es : List Entry) (rs : List Row) (m : ℕ) → Fit es rs → behind_prints es (evaluations_of rs) (prints_of rs) m ≡ m
none_taken [] rs m fit = refl
none_taken (e ∷ es) [] m fit = refl
none_taken (e ∷ es) (r ∷ rs) m fit =
    ap (λ b. behind_prints es (evaluations_of rs) (prints_of rs) (cond b (suc m) m)) (takes_none e r.print (seen_first e es r rs fit))
    ∙ none_taken es rs m (λ i row at. fit (suc i) row at)

pub no_homes : (node : Node) (blobs : BlobList) (es : List Entry) (rs : List Row) → Fit es rs
    → print_homes node blobs es (evaluations_of rs) (prints_of rs) ≡ []
no_homes node blobs [] rs fit = refl
no_homes node blobs (e ∷ es) [] fit = refl
no_homes node blobs (e ∷ es) (r ∷ rs) fit =
    ap (λ b. cond b (home node blobs e (Print r.evaluation) ∷ []) [] ++ print_homes node blobs es (evaluations_of rs) (prints_of rs)) (takes_none e r.print (seen_first e es r rs fit))
    ∙ no_homes node blobs es rs (λ i row at. fit (suc i) row at)

pub live_all : (cancelled : List ℕ) (rs : List Row) → ((i : ℕ) (row : Row) → slice_get rs i ≡ Some row → IsAlive cancelled row)
    → map (λ row. live_print cancelled row.print) rs ≡ prints_of rs
live_all cancelled [] alive = refl
live_all cancelled (r ∷ rs) alive =
    ap (λ p. p ∷ map (λ row. live_print cancelled row.print) rs) (alive zero r refl).print
    ∙ ap (λ ps. r.print ∷ ps) (live_all cancelled rs (λ i row at. alive (suc i) row at))

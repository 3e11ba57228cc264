-- What is told of commands, one by one.
use Rattle.std.proofs.Common.{◌≡◌, ◌≢◌, ℕ, zero, suc, ◌+◌, ◌<◌, ◌≤◌, Bool, true, false, List, [], ◌∷◌, ◌++◌, length, drop, get_or, Option, Some, None, refl, sym, ap, ◌∙◌, append_assoc}
use Rattle.std.proofs.lemmas.List.{drop_more, drop_all}
use Rattle.std.proofs.lemmas.Bool.{eq-eqb}
use Rattle.std.specs.Prelude.{slice_get, ◌&&◌, ◌==◌}
use Rattle.std.proofs.Math.Bool.{and-false}
use Rattle.doc_nodes.specs.declared.node.Entry.{Entry}
use Rattle.exec_rules.specs.declared.row.Row.{Row}
use Rattle.exec_rules.specs.Listed.{Told, told_commands, same_by, same_told}
use Rattle.exec_assign.specs.Told.{told_row}
use Rattle.exec_assign.proofs.RowSteps.{drop_one}

abbrev first_of : List Row → Option Row
first_of [] = None
first_of (r ∷ rs) = Some r

first_at : (rs : List Row) (i : ℕ) → first_of (drop i rs) ≡ slice_get rs i
first_at [] zero = refl
first_at [] (suc i) = refl
first_at (r ∷ rs) zero = refl
first_at (r ∷ rs) (suc i) = first_at rs i

told_one : (e : Entry) (es : List Entry) (rs : List Row)
    → told_commands (e ∷ es) rs ≡ (e.command, told_row (first_of rs)) ∷ told_commands es
    (drop 1 rs)
told_one e es [] = refl
told_one e es (r ∷ rs) = refl

-- the next command
told_step : (es : List Entry) (rs : List Row) (i : ℕ) (d : Entry) → i < length es
    → told_commands (drop i es) (drop i rs)
    ≡ ((get_or es i d).command, told_row (slice_get rs i)) ∷ told_commands (drop (i + 1) es)
    (drop (i + 1) rs)
told_step es rs i d lt =
    ap (λ xs. told_commands xs (drop i rs)) (drop_more es i d lt)
    ∙ told_one (get_or es i d) (drop (i + 1) es) (drop i rs)
    ∙ ap (λ (o : Option Row). ((get_or es i d).command, told_row o) ∷ told_commands (drop (i + 1) es) (drop 1 (drop i rs))) (first_at rs i)
    ∙ ap (λ xs. ((get_or es i d).command, told_row (slice_get rs i)) ∷ told_commands
    (drop (i + 1) es) xs) (drop_one rs i)

-- none are left
pub told_over : (es : List Entry) (rs : List Row) (i : ℕ) → length es ≤ i
    → told_commands (drop i es) rs ≡ []
told_over es rs i le = ap (λ xs. told_commands xs rs) (drop_all i es le)

-- one command more
pub told_next : (es : List Entry) (rs : List Row) (i : ℕ) (e : Entry) (row : Option Row) (before more all : List Told) → i < length es
    → e ≡ get_or es i e → row ≡ slice_get rs i → more ≡ before ++ (e.command, told_row row) ∷ []
    → before ++ told_commands (drop i es) (drop i rs) ≡ all
    → more ++ told_commands (drop (i + 1) es) (drop (i + 1) rs) ≡ all
told_next es rs i e row before more all lt ee er em done =
    let rest = told_commands (drop (i + 1) es) (drop (i + 1) rs) in
    let here : told_commands (drop i es) (drop i rs) ≡ (e.command, told_row row) ∷ rest =
    told_step es rs i e lt
    ∙ ap (λ (x : Entry). (x.command, told_row (slice_get rs i)) ∷ rest) (sym ee)
    ∙ ap (λ (o : Option Row). (e.command, told_row o) ∷ rest) (sym er) in
    ap (λ (xs : List Told). xs ++ rest) em
    ∙ append_assoc before ((e.command, told_row row) ∷ []) rest
    ∙ ap (λ (xs : List Told). before ++ xs) (sym here) ∙ done

told_long : (es : List Entry) (rs : List Row) → length (told_commands es rs) ≡ length es
told_long [] rs = refl
told_long (e ∷ es) [] = ap suc (told_long es [])
told_long (e ∷ es) (r ∷ rs) = ap suc (told_long es rs)

lengths_differ : {A : Type 0} (same : A → A → Bool) (xs ys : List A) → length xs ≢ length ys → same_by same xs ys ≡ false
lengths_differ same [] [] differ = absurd (differ refl)
lengths_differ same [] (y ∷ ys) differ = refl
lengths_differ same (x ∷ xs) [] differ = refl
lengths_differ same (x ∷ xs) (y ∷ ys) differ =
    ap (λ b. same x y && b) (lengths_differ same xs ys (λ e. differ (ap suc e))) ∙ and-false (same x y)

-- other numbers of commands are told otherwise
pub told_differ : (es bs : List Entry) (rs qs : List Row) → length es ≢ length bs → same_by same_told (told_commands es rs) (told_commands bs qs) ≡ false
told_differ es bs rs qs differ =
    lengths_differ same_told (told_commands es rs) (told_commands bs qs) (λ e. differ (sym (told_long es rs) ∙ e ∙ told_long bs qs))

-- what is told of two nodes from a place on is the same
abbrev pub same_from : List Entry → List Row → List Entry → List Row → ℕ → Bool
same_from es rs bs qs i = same_by same_told (told_commands (drop i es) (drop i rs))
    (told_commands (drop i bs) (drop i qs))

-- the next two commands
pub other_step : (es bs : List Entry) (rs qs : List Row) (i : ℕ) (e b : Entry) (row had : Option Row) → i < length es → i < length bs
    → e ≡ get_or es i e → b ≡ get_or bs i b → row ≡ slice_get rs i → had ≡ slice_get qs i
    → same_from es rs bs qs i ≡ (same_told (e.command, told_row row) (b.command, told_row had) && same_from es rs bs qs (i + 1))
other_step es bs rs qs i e b row had le lb ee eb er eh =
    let more = told_commands (drop (i + 1) es) (drop (i + 1) rs) in
    let rest = told_commands (drop (i + 1) bs) (drop (i + 1) qs) in
    ap (λ (xs : List Told). same_by same_told xs (told_commands (drop i bs) (drop i qs)))
    (told_step es rs i e le)
    ∙ ap (λ (ys : List Told). same_by same_told (((get_or es i e).command, told_row (slice_get rs i)) ∷ more) ys) (told_step bs qs i b lb)
    ∙ ap (λ (x : Entry). same_told (x.command, told_row (slice_get rs i)) ((get_or bs i b).command, told_row (slice_get qs i)) && same_by same_told more rest) (sym ee)
    ∙ ap (λ (y : Entry). same_told (e.command, told_row (slice_get rs i)) (y.command, told_row (slice_get qs i)) && same_by same_told more rest) (sym eb)
    ∙ ap (λ (o : Option Row). same_told (e.command, told_row o) (b.command, told_row (slice_get qs i)) && same_by same_told more rest) (sym er)
    ∙ ap (λ (o : Option Row). same_told (e.command, told_row row) (b.command, told_row o) && same_by same_told more rest) (sym eh)

same_itself : {A : Type 0} (same : A → A → Bool) → ((x : A) → same x x ≡ true) → (xs : List A) → same_by same xs xs ≡ true
same_itself same each [] = refl
same_itself same each (x ∷ xs) = ap (λ b. b && same_by same xs xs) (each x) ∙ same_itself same each xs

told_itself : (x : Told) → same_told x x ≡ true
told_itself x = ap (λ b. b && same_by (λ e f. e == f) x.1 x.1) (eq-eqb x.0 x.0 refl) ∙ same_itself (λ e f. e == f) (λ e. eq-eqb e e refl) x.1

-- the same is not told otherwise
pub same_tells : (xs ys : List Told) → xs ≡ ys → same_by same_told xs ys ≡ true
same_tells xs ys e = ap (λ zs. same_by same_told xs zs) (sym e) ∙ same_itself same_told told_itself xs

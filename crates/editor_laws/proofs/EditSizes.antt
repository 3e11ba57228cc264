-- Edits move no place further, and make no text longer, than by what they put in.
use Rattle.std.proofs.Common.{◌≡◌, ℕ, ◌+◌, ◌-◌, ◌≤◌, max, Bool, true, false, cond, List, [], ◌∷◌, ◌++◌, length, take, drop, Result, Ok, Err, refl, ap, subst, nat_lt, arith}
use Rattle.std.proofs.lemmas.Bool.{ltb-false}
use Rattle.std.proofs.lemmas.List.{length-append, length-drop, length-take}
use Rattle.std.specs.Prelude.{if◌then◌else◌}
use Rattle.text_edits.specs.declared.edit.Edit.{Edit}
use Rattle.text_edits.specs.declared.edit.Edit.TheVariants.{Insert, Remove}
use Rattle.text_edits.specs.Offsets.{convert, convert_list, earlier, later}
use Rattle.message_values.specs.declared.refusal.Refusal.{Refusal}
use Rattle.message_values.specs.declared.refusal.Refusal.TheVariants.{EditOutOfRange, RemoveDiffers}
use Rattle.buffer_rules.specs.Trying.{◌>>=◌}
use Rattle.buffer_rules.specs.Texts.{differs, edit_all, edit_once, edited, is_out_of_range}

-- how many scalars an edit tells
abbrev pub size : Edit → ℕ
size (Insert start x) = length x
size (Remove start x) = length x

-- how many edits tell
abbrev pub sizes : List Edit → ℕ
sizes [] = 0
sizes (e ∷ es) = size e + sizes es

later_most : (start n i : ℕ) → later start n i ≤ i + n
later_most start n i = go (nat_lt i start)
  where
    go : (b : Bool) → cond b i (i + n) ≤ i + n
    go true = omega arith
    go false = omega arith

earlier_most : (start n i : ℕ) → earlier start n i ≤ i + n
earlier_most start n i = go (nat_lt i start) refl
  where
    go : (b : Bool) → nat_lt i start ≡ b → cond b i (max (i - n) start) ≤ i + n
    go true e = omega arith
    go false e = let le = ltb-false i start e in omega (arith, le)

one_most : (e : Edit) (i : ℕ) → convert e i ≤ i + size e
one_most (Insert start x) i = later_most start (length x) i
one_most (Remove start x) i = earlier_most start (length x) i

pub convert_most : (es : List Edit) (i : ℕ) → convert_list es i ≤ i + sizes es
convert_most [] i = omega arith
convert_most (e ∷ es) i =
    let one = one_most e i in
    let rest = convert_most es (convert e i) in omega (arith, one, rest)

edited_most : (e : Edit) (text : List ℕ) → length (edited e text) ≤ length text + size e
edited_most (Insert start x) text =
    let is : length (edited (Insert start x) text) ≡ length
    ((take start text ++ x) ++ drop start text) = refl in
    let all = length-append (take start text ++ x) (drop start text) in
    let back = length-append (take start text) x in
    let front = length-take start text in
    let rest = length-drop start text in omega (arith, is, all, back, front, rest)
edited_most (Remove start x) text =
    let is : length (edited (Remove start x) text) ≡ length
    (take start text ++ drop (start + length x) text) = refl in
    let all = length-append (take start text) (drop (start + length x) text) in
    let front = length-take start text in
    let rest = length-drop (start + length x) text in omega (arith, is, all, front, rest)

once_most : (e : Edit) (text after : List ℕ) → edit_once e text ≡ Ok after
    → length after ≤ length text + size e
once_most e text after is = go (is_out_of_range e text) (differs e text) is
  where
    go : (a b : Bool) → ◌≡◌ {A = Result (List ℕ) Refusal}
        (if a then Err EditOutOfRange else if b then Err RemoveDiffers else Ok (edited e text))
        (Ok after)
        → length after ≤ length text + size e
    go true b is = absurd (cc)
    go false true is = absurd (cc)
    go false false is = let same : edited e text ≡ after = cc in
        subst (λ t. length t ≤ length text + size e) same (edited_most e text)

pub edited_all : (es : List Edit) (text after : List ℕ) → edit_all es text ≡ Ok after
    → length after ≤ length text + sizes es
edited_all [] text after is =
    let same : text ≡ after = cc in
    let long = ap length same in omega (arith, long)
edited_all (e ∷ es) text after is = go (edit_once e text) refl is
    (λ middle. edited_all es middle after)
  where
    go : (r : Result (List ℕ) Refusal) → edit_once e text ≡ r → (r >>= edit_all es) ≡ Ok after
        → ((middle : List ℕ) → edit_all es middle ≡ Ok after
        → length after ≤ length middle + sizes es) → length after ≤ length text + sizes (e ∷ es)
    go (Err reason) one is rest = absurd (cc)
    go (Ok middle) one is rest =
        let first = once_most e text middle one in
        let more = rest middle is in omega (arith, first, more)

-- The items of one caller.
use Rattle.std.proofs.Common.{◌≡◌, ◌⊎◌, ℕ, Bool, true, false, cond, List, [], ◌∷◌, ◌++◌, reverse, filter, Contains, inl, inr, ⊎_elim, refl, sym, ap, subst, ◌∙◌, arith, eq-eqb}
use Rattle.std.specs.Prelude.{◌==◌}
use Rattle.std.proofs.lemmas.List.{reverse-append, reverse-reverse}
use Rattle.std.proofs.lemmas.List.Elements.{Contains-append_cases, Contains-append_left, Contains-append_right, Contains-push, Contains-push_cases, filter-append}
use mathlib.Core.List.{reverse-cons}
use Rattle.hist_lock.specs.Entries.{own}
use Rattle.reply_outbox.specs.declared.item.Item.TheVariants as item
use Rattle.reply_outbox.specs.Items.{entries}
use Rattle.session_rules.specs.declared.entry.Entry.{Entry}
use Rattle.session_rules.specs.declared.entry.Entry.TheVariants as entry
use Rattle.session_rules.specs.Runs.{called}
use Rattle.keeping_rules.specs.Items.{SessionItem}
use Rattle.view_laws.specs.Callers.{maker, whose}
use Rattle.view_laws.specs.Histories.{history}

-- what holds where the newest item is taken off the front holds of a list
pub on_log : (P : List SessionItem → List SessionItem → Type 0) → ((items : List SessionItem) → P items (reverse items))
    → (log : List SessionItem) → P (reverse log) log
on_log P each log = subst (P (reverse log)) (reverse-reverse log) (each (reverse log))

-- one item more
pub own_more : (c : ℕ) (x : SessionItem) (items : List SessionItem)
    → own whose c (reverse (x ∷ items)) ≡ own whose c (reverse items) ++ cond (whose x == c) (x ∷ []) []
own_more c x items = ap (own whose c) (reverse-cons x items) ∙ filter-append (λ e. whose e == c) (reverse items) (x ∷ [])

-- a caller's items, the newest first
pub own_reversed : (c : ℕ) (items : List SessionItem) → reverse (own whose c (reverse items)) ≡ filter (λ e. whose e == c) items
own_reversed c [] = refl
own_reversed c (x ∷ items) = ap (λ (xs : List SessionItem). reverse xs) (own_more c x items)
    ∙ (reverse-append (own whose c (reverse items)) (cond (whose x == c) (x ∷ []) [])
    ∙ (go (whose x == c) (reverse (own whose c (reverse items))) ∙ ap (λ (xs : List SessionItem). cond (whose x == c) (x ∷ xs) xs) (own_reversed c items)))
  where
    go : (b : Bool) (r : List SessionItem) → reverse (cond b (x ∷ []) []) ++ r ≡ cond b (x ∷ r) r
    go true r = refl
    go false r = refl

nowhere : (x : SessionItem) → Contains [] x → ⊥
nowhere x has = absurd (omega (arith, has.1))

-- what stands in the list stands in its caller's items
pub own_has : (log : List SessionItem) (x : SessionItem) → Contains log x → Contains (own whose (whose x) log) x
own_has [] x has = absurd (nowhere x has)
own_has (y ∷ log) x has = go (own_has log x) (Contains-append_cases (y ∷ []) log x has)
  where
    rest : List SessionItem
    rest = own whose (whose x) log

    further : (b : Bool) → Contains rest x → Contains (cond b (y ∷ rest) rest) x
    further true at = Contains-append_right (y ∷ []) rest x at
    further false at = at

    first : Contains (y ∷ []) x → y ≡ x → Contains (cond (whose y == whose x) (y ∷ rest) rest) x
    first at is = subst (λ b. Contains (cond b (y ∷ rest) rest) x) (sym (eq-eqb (whose y) (whose x) (ap whose is)))
        (Contains-append_left (y ∷ []) rest x at)

    go : (Contains log x → Contains rest x) → Contains (y ∷ []) x ⊎ Contains log x → Contains (own whose (whose x) (y ∷ log)) x
    go more (inl at) = first at (⊎_elim (λ none. absurd (nowhere x none)) (λ is. is) (Contains-push_cases [] y x at))
    go more (inr at) = further (whose y == whose x) (more at)

-- an item more of a list
pub has_more : (x y : SessionItem) (items : List SessionItem) → Contains (reverse items) y → Contains (reverse (x ∷ items)) y
has_more x y items has = subst (λ xs. Contains xs y) (sym (reverse-cons x items)) (Contains-append_left (reverse items) (x ∷ []) y has)

pub has_last : (x : SessionItem) (items : List SessionItem) → Contains (reverse (x ∷ items)) x
has_last x items = subst (λ xs. Contains xs x) (sym (reverse-cons x items)) (Contains-push (reverse items) x)

pub has_cases : (x y : SessionItem) (items : List SessionItem) → Contains (reverse (x ∷ items)) y → Contains (reverse items) y ⊎ (x ≡ y)
has_cases x y items has = Contains-push_cases (reverse items) x y (subst (λ xs. Contains xs y) (reverse-cons x items) has)

pub has_none : (y : SessionItem) → Contains (reverse []) y → ⊥
has_none y has = nowhere y has

-- whichever of two is taken, where both give the same
pub either : {A B : Type 0} (f : A → B) (b : Bool) (x y : A) → f x ≡ f y → f (cond b x y) ≡ f y
either f true x y same = same
either f false x y same = refl

-- of one of two
pub spread : {A B : Type 0} (f : A → B) (b : Bool) (x y : A) → f (cond b x y) ≡ cond b (f x) (f y)
spread f true x y = refl
spread f false x y = refl

-- a caller's entries are those of its items
module _ (c : ℕ) where
  abbrev of_caller : List SessionItem → List SessionItem
  of_caller items = filter (λ e. whose e == c) items

  abbrev made_by : List Entry → List Entry
  made_by es = filter (λ entry. maker entry == c) es

  own_entries : (items : List SessionItem) → entries (of_caller items) ≡ made_by (entries items)
  own_entries [] = refl
  own_entries (item.Opened service ∷ items) =
      either (λ (xs : List SessionItem). entries xs) (0 == c) (item.Opened service ∷ of_caller items) (of_caller items) refl ∙ own_entries items
  own_entries (item.Sent writer len ∷ items) =
      either (λ (xs : List SessionItem). entries xs) (writer == c) (item.Sent writer len ∷ of_caller items) (of_caller items) refl ∙ own_entries items
  own_entries (item.Lost writer ∷ items) =
      either (λ (xs : List SessionItem). entries xs) (writer == c) (item.Lost writer ∷ of_caller items) (of_caller items) refl ∙ own_entries items
  own_entries (item.Made made ∷ items) =
      spread (λ (xs : List SessionItem). entries xs) (maker made == c) (item.Made made ∷ of_caller items) (of_caller items)
      ∙ ap (λ (es : List Entry). cond (maker made == c) (made ∷ es) es) (own_entries items)

pub own_history : (log : List SessionItem) (c : ℕ) → history (own whose c log) ≡ filter (λ entry. maker entry == c) (history log)
own_history log c = on_log (λ items xs. entries (reverse (own whose c xs)) ≡ filter (λ entry. maker entry == c) (entries items))
    (λ items. ap (λ (xs : List SessionItem). entries xs) (own_reversed c items) ∙ own_entries c items) log

-- the calls are the reader's
abbrev reader_made : List Entry → List Entry
reader_made es = filter (λ entry. maker entry == 0) es

own_called : (es : List Entry) → called (reader_made es) ≡ called es
own_called [] = refl
own_called (entry.Call message ∷ es) = ap (λ (ms : List (List (List ℕ))). message ∷ ms) (own_called es)
own_called (entry.Ended ∷ es) = own_called es
own_called (entry.Claimed who part ∷ es) =
    either (λ (xs : List Entry). called xs) (who == 0) (entry.Claimed who part ∷ reader_made es) (reader_made es) refl ∙ own_called es
own_called (entry.Finished who part ∷ es) =
    either (λ (xs : List Entry). called xs) (who == 0) (entry.Finished who part ∷ reader_made es) (reader_made es) refl ∙ own_called es
own_called (entry.Dropped who part ∷ es) =
    either (λ (xs : List Entry). called xs) (who == 0) (entry.Dropped who part ∷ reader_made es) (reader_made es) refl ∙ own_called es

pub own_calls : (log : List SessionItem) → called (history (own whose 0 log)) ≡ called (history log)
own_calls log = ap (λ (es : List Entry). called es) (own_history log 0) ∙ own_called (history log)

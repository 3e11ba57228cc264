-- Reports that a markup tree can have stay so: moved, converted and put in order.
use Rattle.std.proofs.Common.{◌≡◌, ℕ, ◌+◌, ◌≤◌, Bool, true, false, List, [], ◌∷◌, ◌++◌, map, inl, inr, ap, arith, nat_lt, if◌then◌else◌, Some, None}
use Rattle.std.specs.List.{AllByRecursion, flat_map}
use Rattle.std.proofs.ByRecursion.{All-append}
use Rattle.text_words.proofs.KnownLists.{each-so}
use Rattle.pide_base.specs.declared.range.Range.{Range}
use Rattle.text_edits.specs.declared.edit.Edit.{Edit}
use Rattle.text_edits.specs.Offsets.{convert_list}
use Rattle.report_markup.specs.declared.report.Report.{Report}
use Rattle.report_markup.specs.Ranges.{AreTreelike, IsTreelike, moved_range, moved}
use Rattle.report_markup.specs.Sorting.{ordered_reports}
use Rattle.report_markup.proofs.KnownOrders.{All-order}
use Rattle.snapshots.specs.declared.part.AssignedPart.{AssignedPart}
use Rattle.snapshots.specs.Converted.{converted, left_range, at_range, left_by}
use Rattle.snapshots.specs.Gathered.{reported, gathered, snapshot_reports}
use Rattle.snapshots.specs.Nested.{LieInside, Agree, StandSo, AreNested}

All-flat_map : {X Y : Type 0} (P : Y → Type 0) (f : X → List Y) (xs : List X)
    → AllByRecursion (λ x. AllByRecursion P (f x)) xs → AllByRecursion P (flat_map f xs)
All-flat_map P f [] all = tt
All-flat_map P f (x ∷ xs) all = All-append P (f x) (flat_map f xs) all.0 (All-flat_map P f xs all.1)

All-mapped : {X Y : Type 0} (P : Y → Type 0) (f : X → Y) (xs : List X)
    → AllByRecursion (λ x. P (f x)) xs → AllByRecursion P (map f xs)
All-mapped P f [] all = tt
All-mapped P f (x ∷ xs) all = (all.0, All-mapped P f xs all.1)

module _ (mono : (edits : List Edit) (i j : ℕ) → i ≤ j → convert_list edits i ≤ convert_list edits j) where
  stays : (edits : List Edit) (r s : Range) → AreTreelike r s → AreTreelike (converted edits r) (converted edits s)
  stays edits r s (inl h) = inl (mono edits r.stop s.start h)
  stays edits r s (inr (inl h)) = inr (inl (mono edits s.stop r.start h))
  stays edits r s (inr (inr (inl h))) = inr (inr (inl (mono edits s.start r.start h.0, mono edits r.stop s.stop h.1)))
  stays edits r s (inr (inr (inr h))) = inr (inr (inr (mono edits r.start s.start h.0, mono edits s.stop r.stop h.1)))

-- what holds of a report where its range is converted holds of all that is left of it
All-piece : (P : Report → Type 0) (edits : List Edit) (r : Report)
    → P (record r { range = converted edits r.range }) → AllByRecursion P (at_range r (left_range edits r.range))
All-piece P [] r h = (h, tt)
All-piece P (e ∷ es) r h = go (nat_lt (convert_list (e ∷ es) r.range.start) (convert_list (e ∷ es) r.range.stop)) where
  go : (b : Bool) → AllByRecursion P (at_range r (if b then Some (converted (e ∷ es) r.range) else None))
  go true = (h, tt)
  go false = tt

All-left : (P : Report → Type 0) (edits : List Edit) (xs : List Report)
    → AllByRecursion (λ r. P (record r { range = converted edits r.range })) xs → AllByRecursion P (left_by edits xs)
All-left P edits xs all =
    All-flat_map P (λ r. at_range r (left_range edits r.range)) xs
    (each-so _ _ (λ r h. All-piece P edits r h) xs all)

-- two reports of two parts, at their places
shifted : (p q : AssignedPart) (a b : Report) → StandSo p q
    → p.span.start + a.range.stop ≤ p.span.stop → q.span.start + b.range.stop ≤ q.span.stop
    → (Agree p q → AreTreelike a.range b.range)
    → AreTreelike (moved_range p.span.start a.range) (moved_range q.span.start b.range)
shifted p q a b (inl h) ina inb agree = inl (omega arith)
shifted p q a b (inr (inl h)) ina inb agree = inr (inl (omega arith))
shifted p q a b (inr (inr h)) ina inb agree =
    let same : p.span.start ≡ q.span.start = ap (λ (s : Range). s.start) h.0 in
    along same (agree h.1) where
      along : p.span.start ≡ q.span.start → AreTreelike a.range b.range → AreTreelike (moved_range p.span.start a.range) (moved_range q.span.start b.range)
      along same (inl k) = inl (omega arith)
      along same (inr (inl k)) = inr (inl (omega arith))
      along same (inr (inr (inl k))) = inr (inr (inl (omega arith, omega arith)))
      along same (inr (inr (inr k))) = inr (inr (inr (omega arith, omega arith)))

-- any report of the one list and any of the other
abbrev Between : List Report → List Report → Type 0
Between xs ys = AllByRecursion (λ a. AllByRecursion (λ b. AreTreelike a.range b.range) ys) xs

both : {X : Type 0} (P Q : X → Type 0) (xs : List X) → AllByRecursion P xs → AllByRecursion Q xs → AllByRecursion (λ x. P x × Q x) xs
both P Q [] a b = tt
both P Q (x ∷ xs) a b = ((a.0, b.0), both P Q xs a.1 b.1)

-- of each, the one, and the other where it is given
given : {X : Type 0} (P Q : X → Type 0) (G : Type 0) (xs : List X) → AllByRecursion P xs → (G → AllByRecursion Q xs)
    → AllByRecursion (λ x. P x × (G → Q x)) xs
given P Q G [] a b = tt
given P Q G (x ∷ xs) a b = ((a.0, λ g. (b g).0), given P Q G xs a.1 (λ g. (b g).1))

-- a part's reports, at the places of the text
abbrev placed : AssignedPart → List Report
placed p = map (moved p.span.start) (reported p.reports)

between_parts : (p q : AssignedPart) → StandSo p q → LieInside p → LieInside q → Between (placed p) (placed q)
between_parts p q so inp inq =
    All-mapped (λ a. AllByRecursion (λ b. AreTreelike a.range b.range) (placed q)) (moved p.span.start) (reported p.reports)
    (each-so
    (λ a. (p.span.start + a.range.stop ≤ p.span.stop) × (Agree p q → AllByRecursion (λ b. AreTreelike a.range b.range) (reported q.reports)))
    (λ a. AllByRecursion (λ b. AreTreelike (moved_range p.span.start a.range) b.range) (placed q))
    (λ a ha. All-mapped (λ b. AreTreelike (moved_range p.span.start a.range) b.range) (moved q.span.start) (reported q.reports)
    (each-so
    (λ b. (q.span.start + b.range.stop ≤ q.span.stop) × (Agree p q → AreTreelike a.range b.range))
    (λ b. AreTreelike (moved_range p.span.start a.range) (moved_range q.span.start b.range))
    (λ b hb. shifted p q a b so ha.0 hb.0 hb.1)
    (reported q.reports)
    (given (λ b. q.span.start + b.range.stop ≤ q.span.stop) (λ b. AreTreelike a.range b.range) (Agree p q) (reported q.reports) inq ha.1)))
    (reported p.reports)
    (given (λ a. p.span.start + a.range.stop ≤ p.span.stop) (λ a. AllByRecursion (λ b. AreTreelike a.range b.range) (reported q.reports))
    (Agree p q) (reported p.reports) inp (λ g. g)))

between_none : (xs : List Report) → Between xs []
between_none [] = tt
between_none (x ∷ xs) = (tt, between_none xs)

between_append : (xs ys zs : List Report) → Between xs ys → Between xs zs → Between xs (ys ++ zs)
between_append [] ys zs h k = tt
between_append (x ∷ xs) ys zs h k =
    (All-append (λ b. AreTreelike x.range b.range) ys zs h.0 k.0, between_append xs ys zs h.1 k.1)

between_all : (xs : List Report) (parts : List AssignedPart) → AllByRecursion (λ q. Between xs (placed q)) parts
    → Between xs (flat_map placed parts)
between_all xs [] all = between_none xs
between_all xs (q ∷ qs) all = between_append xs (placed q) (flat_map placed qs) all.0 (between_all xs qs all.1)

gathered_so : (parts : List AssignedPart) → AreNested parts → Between (gathered parts) (gathered parts)
gathered_so parts n =
    All-flat_map (λ a. AllByRecursion (λ b. AreTreelike a.range b.range) (gathered parts)) placed parts
    (each-so (λ p. LieInside p × AllByRecursion (StandSo p) parts) (λ p. Between (placed p) (gathered parts))
    (λ p hp. between_all (placed p) parts
    (each-so (λ q. LieInside q × StandSo p q) (λ q. Between (placed p) (placed q))
    (λ q hq. between_parts p q hq.1 hp.0 hq.0)
    parts (both LieInside (StandSo p) parts n.inside hp.1)))
    parts (both LieInside (λ p. AllByRecursion (StandSo p) parts) parts n.inside n.so))

ordered_so : (xs : List Report) → Between xs xs → Between (ordered_reports xs) (ordered_reports xs)
ordered_so xs h =
    All-order (λ a. AllByRecursion (λ b. AreTreelike a.range b.range) (ordered_reports xs)) xs
    (each-so (λ a. AllByRecursion (λ b. AreTreelike a.range b.range) xs) (λ a. AllByRecursion (λ b. AreTreelike a.range b.range) (ordered_reports xs))
    (λ a row. All-order (λ b. AreTreelike a.range b.range) xs row) xs h)

module _ (mono : (edits : List Edit) (i j : ℕ) → i ≤ j → convert_list edits i ≤ convert_list edits j) where
  left_so : (edits : List Edit) (xs : List Report) → Between xs xs → Between (left_by edits xs) (left_by edits xs)
  left_so edits xs h =
      All-left (λ a. AllByRecursion (λ b. AreTreelike a.range b.range) (left_by edits xs)) edits xs
      (each-so (λ a. AllByRecursion (λ b. AreTreelike a.range b.range) xs)
      (λ a. AllByRecursion (λ b. AreTreelike (converted edits a.range) b.range) (left_by edits xs))
      (λ a row. All-left (λ b. AreTreelike (converted edits a.range) b.range) edits xs
      (each-so (λ b. AreTreelike a.range b.range) (λ b. AreTreelike (converted edits a.range) (converted edits b.range))
      (λ b k. stays mono edits a.range b.range k) xs row))
      xs h)

  pub shown_so : (edits : List Edit) (parts : List AssignedPart) → AreNested parts
      → IsTreelike (snapshot_reports edits parts)
  shown_so edits parts n = ordered_so (left_by edits (gathered parts)) (left_so edits (gathered parts) (gathered_so parts n))

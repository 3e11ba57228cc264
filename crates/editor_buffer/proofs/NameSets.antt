-- Sets of names, and changes of blobs one by one.
use Rattle.std.proofs.Common.{◌≡◌, ◌↔◌, ℕ, suc, ◌-◌, ◌<◌, ◌≤◌, length, take, drop, get_or, drop-cons, Bool, true, false, ◌||◌, cond, List, [], ◌∷◌, ◌++◌, map, Option, Some, None, Result, Ok, Err, refl, sym, ap, subst, ◌∙◌, arith}
use Rattle.std.specs.Prelude.{IfOk}
use Rattle.std.specs.Option.{is_some}
use Rattle.std.specs.Ordering.{is_eq, ordering_reverse}
use Rattle.std.specs.declared.cmp.Ordering.{Ordering}
use Rattle.std.specs.declared.cmp.Ordering.TheVariants.{Less, Equal, Greater}
use Rattle.std.specs.Cmp.Lexicographic.{nat_list_cmp_total}
use Rattle.std.proofs.lemmas.List.{take-append-drop}
use Rattle.std.proofs.Math.Bool.{or-true}
use Rattle.shared_map.specs.Pairs.{found}
use Rattle.doc_nodes.specs.Names.{in_order, equal}
use Rattle.doc_nodes.proofs.KnownNames.{name_is}
use Rattle.message_values.specs.declared.item.Item.{Item}
use Rattle.message_values.specs.declared.item.BlobChange.{BlobChange}
use Rattle.message_values.specs.declared.refusal.Refusal.{Refusal}
use Rattle.message_values.specs.declared.refusal.Refusal.TheVariants.{BlobTwice, UnknownBlob}
use Rattle.buffer_rules.specs.Trying.{◌>>=◌}
use Rattle.buffer_rules.specs.Updates.{BlobList, is_among, names_twice, removes_none, blob_once, blobs_after}
use Rattle.editor_buffer.specs.NameSets.{NameSet, AreNames, AreChanged}
use Rattle.editor_buffer.specs.BlobSteps.{blob_step}

turned : (o : Ordering) → is_eq (ordering_reverse o) ≡ is_eq o
turned Less = refl
turned Equal = refl
turned Greater = refl

equal_sym : (xs ys : List ℕ) → equal xs ys ≡ equal ys xs
equal_sym xs ys = ap is_eq (nat_list_cmp_total.antisymm xs ys) ∙ turned (in_order ys xs)

-- the set with one name more
pub names_more : (set new : NameSet) (names : List (List ℕ)) (name : List ℕ) → AreNames set names
    → ((other : List ℕ) → found in_order other new ≡ cond (is_eq (in_order name other)) (Some tt) (found in_order other set))
    → AreNames new (name ∷ names)
names_more set new names name are with_it other =
    ap (λ (o : Option (Unit {0})). is_some o) (with_it other) ∙ go (equal name other) refl
  where
    go : (b : Bool) → equal name other ≡ b → is_some (cond b (Some tt) (found in_order other set)) ≡ (equal other name || is_among names other)
    go true e = sym (ap (λ c. c || is_among names other) (equal_sym other name ∙ e))
    go false e = are other ∙ sym (ap (λ c. c || is_among names other) (equal_sym other name ∙ e))

-- the same where a call made it
pub names_marked : {E : Type 0} (set new : NameSet) (made : Result NameSet E) (names : List (List ℕ)) (name : List ℕ) → AreNames set names
    → made ≡ Ok new
    → IfOk made (λ more. (other : List ℕ) → found in_order other more ≡ cond (is_eq (in_order name other)) (Some tt) (found in_order other set))
    → AreNames new (name ∷ names)
names_marked {E} set new made names name are e told =
    let With : NameSet → Type 0 = λ more. (other : List ℕ) → found in_order other more ≡ cond (is_eq (in_order name other)) (Some tt) (found in_order other set) in
    names_more set new names name are (subst (λ (r : Result NameSet E). IfOk r With) e told)

-- one change and then the others
pub blobs_more : (before : BlobList) (names : List (List ℕ)) (c : BlobChange) (cs : List BlobChange) (blobs : BlobList)
    → blobs_after before names (c ∷ cs) blobs ≡ (blob_step before names c blobs >>= blobs_after before (c.name ∷ names) cs)
blobs_more before names c cs blobs = go (is_among names c.name) (removes_none before c)
  where
    go : (twice none : Bool) → cond twice (Err BlobTwice) (cond none (Err UnknownBlob) (blobs_after before (c.name ∷ names) cs (blob_once c.name c.text blobs)))
        ≡ (cond twice (Err BlobTwice) (cond none (Err UnknownBlob) (Ok (blob_once c.name c.text blobs))) >>= blobs_after before (c.name ∷ names) cs)
    go true none = refl
    go false true = refl
    go false false = refl

-- one change is made, and then the others
pub next_change : (before : BlobList) (names : List (List ℕ)) (c : BlobChange) (cs : List BlobChange) (blobs after : BlobList) (whole : Result BlobList Refusal)
    → blobs_after before names (c ∷ cs) blobs ≡ whole → blob_step before names c blobs ≡ Ok after → blobs_after before (c.name ∷ names) cs after ≡ whole
next_change before names c cs blobs after whole same once =
    sym (ap (λ r. r >>= blobs_after before (c.name ∷ names) cs) once) ∙ sym (blobs_more before names c cs blobs) ∙ same

marked_so : (b : Bool) → let m : Option (Unit {0}) = cond b (Some tt) None in is_some m ≡ b
marked_so true = refl
marked_so false = refl

-- what is told of changes after one more
pub changed_more : (set new : NameSet) (before blobs after : BlobList) (name : List ℕ) (text : Option (List ℕ)) (other : Bool)
    → AreChanged set before blobs
    → ((q : List ℕ) → found in_order q after ≡ cond (is_eq (in_order name q)) text (found in_order q blobs))
    → ((q : List ℕ) → found in_order q new ≡ cond (is_eq (in_order name q)) (cond other (Some tt) None) (found in_order q set))
    → ((other ≡ false) ↔ (found in_order name before ≡ text))
    → AreChanged new before after
changed_more set new before blobs after name text other are texts marks differ q = go (equal name q) refl
  where
    go : (b : Bool) → equal name q ≡ b → (is_some (found in_order q new) ≡ false) ↔ (found in_order q after ≡ found in_order q before)
    go true e =
        let same : name ≡ q = name_is name q e in
        let mark : is_some (found in_order q new) ≡ other =
        ap (λ (o : Option (Unit {0})). is_some o) (marks q ∙ ap (λ b. cond b (cond other (Some tt) None) (found in_order q set)) e) ∙ marked_so other in
        let is : found in_order q after ≡ text = texts q ∙ ap (λ b. cond b text (found in_order q blobs)) e in
        let was : found in_order name before ≡ found in_order q before = ap (λ n. found in_order n before) same in (
          λ f. is ∙ sym (differ.0 (sym mark ∙ f)) ∙ was,
          λ f. mark ∙ differ.1 (was ∙ sym f ∙ is),
        )
    go false e =
        let mark : found in_order q new ≡ found in_order q set = marks q ∙ ap (λ b. cond b (cond other (Some tt) None) (found in_order q set)) e in
        let is : found in_order q after ≡ found in_order q blobs = texts q ∙ ap (λ b. cond b text (found in_order q blobs)) e in (
          λ f. is ∙ (are q).0 (sym (ap (λ (o : Option (Unit {0})). is_some o) mark) ∙ f),
          λ f. ap (λ (o : Option (Unit {0})). is_some o) mark ∙ (are q).1 (sym is ∙ f),
        )

-- the same where calls made them
pub changed_marked : {E : Type 0} (set new : NameSet) (made : Result NameSet E) (before blobs after : BlobList) (once : Result BlobList E)
    (name : List ℕ) (text : Option (List ℕ)) (other : Bool)
    → AreChanged set before blobs
    → once ≡ Ok after
    → IfOk once (λ bs. (q : List ℕ) → found in_order q bs ≡ cond (is_eq (in_order name q)) text (found in_order q blobs))
    → made ≡ Ok new
    → IfOk made (λ more. (q : List ℕ) → found in_order q more ≡ cond (is_eq (in_order name q)) (cond other (Some tt) None) (found in_order q set))
    → ((other ≡ false) ↔ (found in_order name before ≡ text))
    → AreChanged new before after
changed_marked {E} set new made before blobs after once name text other are e texts f marks differ =
    let With : BlobList → Type 0 = λ bs. (q : List ℕ) → found in_order q bs ≡ cond (is_eq (in_order name q)) text (found in_order q blobs) in
    let Marked : NameSet → Type 0 = λ more. (q : List ℕ) → found in_order q more ≡ cond (is_eq (in_order name q)) (cond other (Some tt) None) (found in_order q set) in
    changed_more set new before blobs after name text other are
    (subst (λ (r : Result BlobList E). IfOk r With) e texts) (subst (λ (r : Result NameSet E). IfOk r Marked) f marks) differ

-- a name that comes twice behind a front comes twice
pub twice_behind : (front items : List Item) → names_twice items ≡ true → names_twice (front ++ items) ≡ true
twice_behind [] items e = e
twice_behind (x ∷ front) items e =
    ap (λ b. is_among (map (λ (i : Item). i.node) (front ++ items)) x.node || b) (twice_behind front items e)
    ∙ or-true (is_among (map (λ (i : Item). i.node) (front ++ items)) x.node)

-- an item before those from a place on
split_before : (items : List Item) (at : ℕ) (item : Item) → 0 < at → at ≤ length items → item ≡ get_or items (at - 1) item → drop (at - 1) items ≡ item ∷ drop at items
split_before items at item some within is =
    let up : suc (at - 1) ≡ at = omega arith in
    drop-cons items (at - 1) item (omega arith)
    ∙ ap (λ (x : Item). x ∷ drop (suc (at - 1)) items) (sym is)
    ∙ ap (λ n. item ∷ drop n items) up

-- an item whose node comes again
pub twice_here : (items : List Item) (at : ℕ) (item : Item) → 0 < at → at ≤ length items → item ≡ get_or items (at - 1) item
    → is_among (map (λ (i : Item). i.node) (drop at items)) item.node ≡ true → names_twice items ≡ true
twice_here items at item some within is again =
    let here : names_twice (item ∷ drop at items) ≡ true = ap (λ b. b || names_twice (drop at items)) again in
    ap names_twice (sym (take-append-drop (at - 1) items))
    ∙ twice_behind (take (at - 1) items) (drop (at - 1) items) (ap names_twice (split_before items at item some within is) ∙ here)

-- an item whose node doesn't come again
pub twice_none : (items : List Item) (at : ℕ) (item : Item) → 0 < at → at ≤ length items → item ≡ get_or items (at - 1) item
    → is_among (map (λ (i : Item). i.node) (drop at items)) item.node ≡ false → names_twice (drop at items) ≡ false → names_twice (drop (at - 1) items) ≡ false
twice_none items at item some within is other none =
    ap names_twice (split_before items at item some within is)
    ∙ ap (λ b. b || names_twice (drop at items)) other ∙ none

-- the names of the items from one place earlier on
pub names_before : (items : List Item) (at : ℕ) (item : Item) (set : NameSet) → 0 < at → at ≤ length items → item ≡ get_or items (at - 1) item
    → AreNames set (item.node ∷ map (λ (i : Item). i.node) (drop at items)) → AreNames set (map (λ (i : Item). i.node) (drop (at - 1) items))
names_before items at item set some within is are =
    let P : List Item → Type 0 = λ rest. AreNames set (map (λ (i : Item). i.node) rest) in
    subst P (sym (split_before items at item some within is)) are

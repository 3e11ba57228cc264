-- What edits make of texts, as a function and as a relation.
use Rattle.std.proofs.Common.{◌≡◌, ℕ, ◌+◌, ◌≤◌, Bool, true, false, not, if◌then◌else◌, List, [], ◌∷◌, ◌++◌, length, take, drop, sym, refl, ap, ◌∙◌, subst, arith, Result, Ok, Err, ◌↔◌}
use Rattle.std.proofs.lemmas.Bool.{cond-false, ltb-false, le-ltb, not-false}
use Rattle.std.proofs.lemmas.List.{take-append-drop, drop-drop, append_assoc, length-append, length-take-le}
use Rattle.std.proofs.Math.Seq.{take-append_seam, drop-append_seam}
use Rattle.text_edits.specs.declared.edit.Edit.{Edit}
use Rattle.text_edits.specs.declared.edit.Edit.TheVariants.{Insert, Remove}
use Rattle.text_edits.specs.Edits.{Applies, AppliesList}
use Rattle.doc_nodes.specs.Names.{equal}
use Rattle.doc_nodes.proofs.KnownNames.{name_is, name_itself}
use Rattle.message_values.specs.declared.refusal.Refusal.{Refusal}
use Rattle.message_values.specs.declared.refusal.Refusal.TheVariants.{EditOutOfRange, RemoveDiffers}
use Rattle.buffer_rules.specs.Trying.{◌>>=◌}
use Rattle.buffer_rules.specs.Texts.{is_out_of_range, differs, edited, edit_once, edit_all}

-- what is there where there was no refusal
abbrev taken : List ℕ → Result (List ℕ) Refusal → List ℕ
taken d (Ok text) = text
taken d (Err refusal) = d

-- an edit that is made is in range, and removes what is there
pub record IsMade (edit : Edit) (text after : List ℕ) : Type 0 where
  pub reaches : is_out_of_range edit text ≡ false
  pub agrees : differs edit text ≡ false
  pub gives : edited edit text ≡ after

made : (edit : Edit) (text after : List ℕ) → edit_once edit text ≡ Ok after → IsMade edit text after
made edit text after e = go (is_out_of_range edit text) refl (differs edit text) refl where
  go : (b : Bool) → is_out_of_range edit text ≡ b → (d : Bool) → differs edit text ≡ d → IsMade edit text after
  go true out d h = absurd (cc (e, out))
  go false in_range true h = absurd (cc (e, in_range, h))
  go false in_range false h = record {
    reaches = in_range;
    agrees = h;
    gives = ap (taken text) (sym (cond-false (is_out_of_range edit text) (Err EditOutOfRange)
        (if differs edit text then Err RemoveDiffers else Ok (edited edit text)) in_range
        ∙ cond-false (differs edit text) (Err RemoveDiffers) (Ok (edited edit text)) h) ∙ e);
  }

makes : (edit : Edit) (text after : List ℕ) → IsMade edit text after → edit_once edit text ≡ Ok after
makes edit text after m =
    cond-false (is_out_of_range edit text) (Err EditOutOfRange)
    (if differs edit text then Err RemoveDiffers else Ok (edited edit text)) m.reaches
    ∙ cond-false (differs edit text) (Err RemoveDiffers) (Ok (edited edit text)) m.agrees
    ∙ ap Ok m.gives

-- what is made is what the edit says
pub applies : (edit : Edit) (text after : List ℕ) → IsMade edit text after → Applies edit text after
applies (Insert start x) text after m =
    let within : start ≤ length text = ltb-false (length text) start m.reaches in (
      take start text,
      drop start text,
      length-take-le start text within,
      sym (take-append-drop start text),
      sym m.gives,
    )
applies (Remove start x) text after m =
    let within : start + length x ≤ length text = ltb-false (length text) (start + length x) m.reaches in
    let there : x ≡ take (length x) (drop start text) =
    name_is x (take (length x) (drop start text)) (not-false _ m.agrees) in
    let rest : drop start text ≡ x ++ drop (start + length x) text =
    sym (take-append-drop (length x) (drop start text))
    ∙ ap (λ y. y ++ drop (length x) (drop start text)) (sym there)
    ∙ ap (λ q. x ++ q) (drop-drop (length x) start text)
    in (
      take start text,
      drop (start + length x) text,
      length-take-le start text (omega (arith, within)),
      sym m.gives,
      sym (take-append-drop start text) ∙ ap (λ q. take start text ++ q) rest
          ∙ sym (append_assoc (take start text) x (drop (start + length x) text)),
    )

-- an insert that is said is made
inserts : (x p q : List ℕ) → IsMade (Insert (length p) x) (p ++ q) (p ++ x ++ q)
inserts x p q = record {
  reaches = le-ltb (length (p ++ q)) (length p) (omega (arith, length-append p q));
  agrees = refl;
  gives = ap (λ front. front ++ x ++ drop (length p) (p ++ q)) (take-append_seam p q)
      ∙ ap (λ back. p ++ x ++ back) (drop-append_seam p q);
}

-- and a remove
removes : (x p q : List ℕ) → IsMade (Remove (length p) x) (p ++ x ++ q) (p ++ q)
removes x p q =
    let inner : drop (length p) (p ++ x ++ q) ≡ x ++ q =
    ap (drop (length p)) (append_assoc p x q) ∙ drop-append_seam p (x ++ q) in
    record {
      reaches = le-ltb (length (p ++ x ++ q)) (length p + length x)
          (omega (arith, length-append (p ++ x) q, length-append p x));
      agrees = ap not (ap (λ y. equal x y) (ap (take (length x)) inner ∙ take-append_seam x q) ∙ name_itself x);
      gives = ap (λ front. front ++ drop (length p + length x) (p ++ x ++ q))
          (ap (take (length p)) (append_assoc p x q) ∙ take-append_seam p (x ++ q))
          ∙ ap (λ back. p ++ back) (sym (drop-drop (length x) (length p) (p ++ x ++ q))
          ∙ ap (drop (length x)) inner ∙ drop-append_seam x q);
    }

-- what the edit says is made
pub applied : (edit : Edit) (text after : List ℕ) → Applies edit text after → IsMade edit text after
applied (Insert start x) text after (p, q, at, before, longer) =
    subst (λ n. IsMade (Insert n x) text after) at
    (subst (λ t. IsMade (Insert (length p) x) t after) (sym before)
    (subst (λ a. IsMade (Insert (length p) x) (p ++ q) a) (sym longer) (inserts x p q)))
applied (Remove start x) text after (p, q, at, shorter, before) =
    subst (λ n. IsMade (Remove n x) text after) at
    (subst (λ t. IsMade (Remove (length p) x) t after) (sym before)
    (subst (λ a. IsMade (Remove (length p) x) (p ++ x ++ q) a) (sym shorter) (removes x p q)))

-- one edit after the other
forth : (edits : List Edit) (text after : List ℕ) → edit_all edits text ≡ Ok after → AppliesList edits text after
forth [] text after e = sym (ap (taken text) e)
forth (edit ∷ edits) text after e = go (edit_once edit text) refl e (λ between. forth edits between after) where
  go : (r : Result (List ℕ) Refusal) → edit_once edit text ≡ r → (r >>= edit_all edits) ≡ Ok after
      → ((between : List ℕ) → edit_all edits between ≡ Ok after → AppliesList edits between after)
      → AppliesList (edit ∷ edits) text after
  go (Ok between) here later more =
      (between, applies edit text between (made edit text between here), more between later)
  go (Err refusal) here later more = absurd (cc (later))

back : (edits : List Edit) (text after : List ℕ) → AppliesList edits text after → edit_all edits text ≡ Ok after
back [] text after same = ap Ok (sym same)
back (edit ∷ edits) text after (between, first, more) =
    ap (λ r. r >>= edit_all edits) (makes edit text between (applied edit text between first))
    ∙ back edits between after more

pub edits_so : (edits : List Edit) (text after : List ℕ)
    → (edit_all edits text ≡ Ok after) ↔ AppliesList edits text after
edits_so edits text after = (forth edits text after, back edits text after)

-- Front, middle and back are all tokens of the edited text.
use Rattle.std.proofs.Common.{◌≡◌, ◌⊎◌, ℕ, zero, suc, ◌<◌, ◌≤◌, ◌==◌, ◌&&◌, Bool, true, false, List, [], ◌∷◌, ◌++◌, length, get_or, take, drop, sym, ap, ◌∙◌, subst, arith, length-take-le, get_or-take, ◌^◌}
use Rattle.std.specs.Prelude.{All, nat_le, find}
use Rattle.std.specs.List.{list_any}
use Rattle.std.proofs.lemmas.Bool.{lt-leb}
use Rattle.std.proofs.Math.Seq.{take-append_seam, drop-append_seam}
use Rattle.outer_syntax.specs.Lexing.{tokens_of}
use Rattle.outer_syntax.specs.Stages.{after_tokens}
use Rattle.outer_syntax.specs.declared.stage.Stage.{Stage}
use Rattle.outer_syntax.specs.declared.stage.Stage.TheVariants.{Start}
use Rattle.outer_syntax.specs.declared.token.Token.{Token}
use Rattle.outer_syntax.proofs.KnownLexing.{AreStaged, are-tokens, same-lexed, staged-append, staged-tokens}
use Rattle.command_spans.specs.Spans.{Is}
use Rattle.command_spans.specs.CutTexts.{Rising, boundaries, boundary_at}
use Rattle.command_spans.specs.Reparsing.{is_space_below, moved, is_meeting, past}
use Rattle.command_spans.specs.Keeping.{IsChange, restaged, ArePassed}
use Rattle.command_spans.proofs.PlaceLemmas.{rising-order, staged-rising, rising-split, text-rising, past-append, found-first}
use Rattle.command_spans.proofs.EdgeLemmas.{restart-place}

-- no boundary before the new end is a meeting
pub early-none : (old_end new_end : ℕ) (olds : List ℕ) (from to : ℕ) (ts : List Token) → Rising from to ts → to ≤ new_end → All (λ t. is_meeting old_end new_end olds t.range.start ≡ false) ts
early-none old_end new_end olds from to [] is upto k d lt = absurd (omega arith)
early-none old_end new_end olds from to (t ∷ ts) (starts, some, rest) upto zero d lt =
    let low : nat_le new_end t.range.start ≡ false = lt-leb new_end t.range.start (omega (arith, some, upto, rising-order t.range.stop to ts rest)) in
    ap (λ b. b && list_any (λ o. nat_le old_end o && moved old_end new_end o == t.range.start) olds) low
early-none old_end new_end olds from to (t ∷ ts) (starts, some, rest) upto (suc k) d lt = early-none old_end new_end olds t.range.stop to ts rest upto k d (omega arith)

-- each of the tokens begins before their end, and ends by it
pub each-below : (from to : ℕ) (ts : List Token) → Rising from to ts → (k : ℕ) (d : Token) → k < length ts → (from ≤ (get_or ts k d).range.start) × ((get_or ts k d).range.start < (get_or ts k d).range.stop) × ((get_or ts k d).range.stop ≤ to)
each-below from to [] is k d lt = absurd (omega arith)
each-below from to (t ∷ ts) (starts, some, rest) zero d lt = (omega arith, some, rising-order t.range.stop to ts rest)
each-below from to (t ∷ ts) (starts, some, rest) (suc k) d lt =
    let more = each-below t.range.stop to ts rest k d (omega arith) in (omega (arith, starts, some, more.0), more.1, more.2)

-- what holds of the front as the lexing begins
pub record Begins (old_end new_end front place len : ℕ) (new : List ℕ) (kept items : List Token) : Type 0 where
  pub within : place ≤ length new
  pub passed : ArePassed (moved new_end old_end place) kept front
  pub none : All (λ t. is_meeting old_end new_end (boundaries len kept) t.range.start ≡ false) items

pub begins : (start old_end new_end : ℕ) (old new : List ℕ) (under : List (List ℕ)) → IsChange start old_end new_end old new → (front : ℕ) → front ≤ length (tokens_of old under) → (front ≡ 0) ⊎ Is (is_space_below start) true (tokens_of old under) front → (items : List Token) → Rising 0 (boundary_at (length old) (tokens_of old under) front) items → Begins old_end new_end front (boundary_at (length old) (tokens_of old under) front) (length old) new (tokens_of old under) items
begins start old_end new_end old new under change front within found items rises =
    let place : ℕ = boundary_at (length old) (tokens_of old under) front in
    let low : place ≤ start = (restart-place start old_end new_end old new under change front within found).0 in
    let split = (rising-split 0 (length old) (tokens_of old under) front within (text-rising old under)).0 in
    record {
      within = omega (arith, low, change.new_order);
      passed = (
        within,
        λ k d from below.
            let inside : k < length (take front (tokens_of old under)) = omega (arith, below, length-take-le front (tokens_of old under) within) in
            let here = each-below 0 place (take front (tokens_of old under)) split k d inside in
            let same : get_or (take front (tokens_of old under)) k d ≡ get_or (tokens_of old under) k d = get_or-take front (tokens_of old under) k d below in
            let before : (get_or (tokens_of old under) k d).range.start < place = subst (λ (t : Token). t.range.start < place) same (omega (arith, here.1, here.2)) in
            omega (arith, before, low, change.old_order, change.new_order),
      );
      none = early-none old_end new_end (boundaries (length old) (tokens_of old under)) 0 place items rises (omega (arith, low, change.new_order));
    }

-- the tokens can be moved
abbrev pub CanMove : ℕ → ℕ → List Token → Type 0
CanMove old_end new_end = All (λ t. (old_end ≤ t.range.start) × (old_end ≤ t.range.stop) × (moved old_end new_end t.range.start < 2 ^ 64) × (moved old_end new_end t.range.stop < 2 ^ 64))

-- those from a meeting on can
pub can-move : (old_end new_end from old_len new_len : ℕ) (ts : List Token) → old_end ≤ from → moved old_end new_end old_len ≡ new_len → new_len < 2 ^ 64 → Rising from old_len ts → CanMove old_end new_end ts
can-move old_end new_end from old_len new_len ts behind same small is k d lt =
    let here = each-below from old_len ts is k d lt in
    (omega (arith, here.0, behind), omega (arith, here.0, here.1, behind), omega (arith, here, behind, same, small), omega (arith, here, behind, same, small))

-- tokens whose last ones are renamed
pub renamed-last : (aliases : List (List ℕ)) (text : List ℕ) (s : Stage) (xs ys all : List Token) (n : ℕ) → n ≡ length xs → all ≡ xs ++ ys → take n all ++ restaged aliases text s (drop n all) ≡ xs ++ restaged aliases text s ys
renamed-last aliases text s xs ys all n size e =
    let first : take n all ≡ xs = (λ i. take (size i) (e i)) ∙ take-append_seam xs ys in
    let last : drop n all ≡ ys = (λ i. drop (size i) (e i)) ∙ drop-append_seam xs ys in
    λ i. first i ++ restaged aliases text s (last i)

-- the tokens read so far and those of the rest are all
pub all-read : (aliases : List (List ℕ)) (text : List ℕ) (place : ℕ) (ts rest : List Token) → AreStaged aliases text Start 0 place ts → AreStaged aliases text (after_tokens text Start ts) place (length text) rest → ts ++ rest ≡ tokens_of text aliases
all-read aliases text place ts rest is more =
    same-lexed text aliases (ts ++ rest) (tokens_of text aliases) (staged-tokens text aliases (ts ++ rest) (staged-append aliases text Start 0 place (length text) ts rest is more)) (are-tokens text aliases)

-- and the rest is what follows the meeting
pub all-past : (test : ℕ → Bool) (aliases : List (List ℕ)) (text : List ℕ) (place : ℕ) (ts rest : List Token) → AreStaged aliases text Start 0 place ts → AreStaged aliases text (after_tokens text Start ts) place (length text) rest → All (λ t. test t.range.start ≡ false) ts → test place ≡ true → length rest ≡ past (find test (boundaries (length text) (tokens_of text aliases))) (tokens_of text aliases)
all-past test aliases text place ts rest is more none passes =
    let first = staged-rising aliases text Start 0 place ts is in
    let later = staged-rising aliases text (after_tokens text Start ts) place (length text) rest more in
    subst (λ zs. length rest ≡ past (find test (boundaries (length text) zs)) zs) (all-read aliases text place ts rest is more)
    (sym (ap (λ o. past o (ts ++ rest)) (found-first test place (length text) ts rest none passes later) ∙ past-append 0 place (length text) ts rest first later))

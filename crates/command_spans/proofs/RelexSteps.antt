-- The lexing of an edited text, by the tokens and the length that were kept of the old one.
use Rattle.std.proofs.Common.{◌≡◌, ◌⊎◌, ℕ, ◌<◌, ◌≤◌, ◌-◌, ◌^◌, true, false, List, length, take, drop, map, sym, ◌∙◌, subst, arith, length-drop}
use Rattle.std.specs.Prelude.{All, find}
use Rattle.std.proofs.lemmas.List.{length-map}
use Rattle.outer_syntax.specs.Lexing.{tokens_of}
use Rattle.outer_syntax.specs.Stages.{after_tokens}
use Rattle.outer_syntax.specs.declared.stage.Stage.{Stage}
use Rattle.outer_syntax.specs.declared.stage.Stage.TheVariants.{Start}
use Rattle.outer_syntax.specs.declared.token.Token.{Token}
use Rattle.outer_syntax.proofs.KnownLexing.{AreStaged}
use Rattle.command_spans.specs.declared.change.Change.{Change}
use Rattle.command_spans.specs.Spans.{Is}
use Rattle.command_spans.specs.CutTexts.{CutText, Rising, tokens_in, boundaries, boundary_at}
use Rattle.command_spans.specs.Reparsing.{is_space_below, moved, is_meeting, past}
use Rattle.command_spans.specs.Keeping.{moved_token, IsChange, restaged}
use Rattle.command_spans.proofs.PlaceLemmas.{staged-rising, rising-split, text-rising}
use Rattle.command_spans.proofs.MeetingLemmas.{end-meets, meets-behind}
use Rattle.command_spans.proofs.KeepLemmas.{restaged-length}
use Rattle.command_spans.proofs.EdgeLemmas.{same-lengths, front-same, front-other, back-same, back-other}
use Rattle.command_spans.proofs.RelexLemmas.{Begins, begins, CanMove, can-move, all-past}

-- a text of this length was lexed as these tokens, and the change makes another of it
pub record IsRelexed (change : Change) (was : CutText) (len : ℕ) (kept : List Token) (text : List ℕ) : Type 0 where
  pub len_is : len ≡ length was.text
  pub kept_is : kept ≡ tokens_in was
  pub change_is : IsChange change.start change.old_end change.new_end was.text text

module _ {change : Change} {was : CutText} {len : ℕ} {kept : List Token} {text : List ℕ} (e : IsRelexed change was len kept text) where
  by_text : (P : ℕ → List Token → Type 0) → P (length was.text) (tokens_in was) → P len kept
  by_text P holds =
      let both : ℕ × List Token → Type 0 = λ p. P p.0 p.1 in
      subst both (λ i. (sym e.len_is i, sym e.kept_is i)) holds

  of_text : (P : ℕ → List Token → Type 0) → P len kept → P (length was.text) (tokens_in was)
  of_text P holds =
      let both : ℕ × List Token → Type 0 = λ p. P p.0 p.1 in
      subst both (λ i. (e.len_is i, e.kept_is i)) holds

  pub rises : Rising 0 len kept
  rises = by_text (Rising 0) (text-rising was.text was.aliases)

  -- both texts are equally long behind the change
  same_length : moved change.old_end change.new_end len ≡ length text
  same_length = by_text (λ n ts. moved change.old_end change.new_end n ≡ length text)
      (same-lengths change.start change.old_end change.new_end was.text text was.aliases e.change_is)

  pub within_old : (place : ℕ) → place ≤ length text → moved change.new_end change.old_end place ≤ len
  within_old place within = omega (arith, e.len_is, within, e.change_is.old_order, e.change_is.new_order, same_length)

  -- where the text ends the texts meet
  pub meets_last : is_meeting change.old_end change.new_end (boundaries len kept) (length text) ≡ true
  meets_last =
      end-meets change.old_end change.new_end 0 len (length text) kept (omega (arith, e.len_is, e.change_is.old_order))
      (omega (arith, e.change_is.new_order)) same_length

  -- the tokens up to the restart
  module _ (front : ℕ) (within : front ≤ length kept) (found : (front ≡ 0) ⊎ Is (is_space_below change.start) true kept front) where
    inside : front ≤ length (tokens_in was)
    inside = of_text (λ n ts. front ≤ length ts) within

    behind_space : (front ≡ 0) ⊎ Is (is_space_below change.start) true (tokens_in was) front
    behind_space = of_text (λ n ts. (front ≡ 0) ⊎ Is (is_space_below change.start) true ts front) found

    pub front_kept : (aliases : List (List ℕ)) → was.aliases ≡ aliases → AreStaged aliases text Start 0 (boundary_at len kept front) (take front kept)
    front_kept aliases same =
        let first = front-same change.start change.old_end change.new_end was.text text was.aliases e.change_is front inside behind_space in
        subst (λ names. AreStaged names text Start 0 (boundary_at len kept front) (take front kept)) same
        (by_text (λ n ts. AreStaged was.aliases text Start 0 (boundary_at n ts front) (take front ts)) first)

    pub front_renamed : (aliases : List (List ℕ)) → AreStaged aliases text Start 0 (boundary_at len kept front) (restaged aliases text Start (take front kept))
    front_renamed aliases =
        by_text (λ n ts. AreStaged aliases text Start 0 (boundary_at n ts front) (restaged aliases text Start (take front ts)))
        (front-other change.start change.old_end change.new_end was.text text was.aliases e.change_is front inside behind_space aliases)

    pub front_begins : (aliases : List (List ℕ)) (items : List Token) → AreStaged aliases text Start 0 (boundary_at len kept front) items
        → Begins change.old_end change.new_end front (boundary_at len kept front) len text kept items
    front_begins aliases items staged =
        let rising = staged-rising aliases text Start 0 (boundary_at len kept front) items staged in
        by_text (λ n ts. Begins change.old_end change.new_end front (boundary_at n ts front) n text ts items)
        (begins change.start change.old_end change.new_end was.text text was.aliases e.change_is front inside behind_space items
        (of_text (λ n ts. Rising 0 (boundary_at n ts front) items) rising))

  -- the tokens from a meeting on
  module _ (place next : ℕ) (meets : is_meeting change.old_end change.new_end (boundaries len kept) place ≡ true)
      (within : next ≤ length kept) (there : boundary_at len kept next ≡ moved change.new_end change.old_end place) where
    behind : change.new_end ≤ place
    behind = meets-behind change.old_end change.new_end (boundaries len kept) place meets

    next_inside : next ≤ length (tokens_in was)
    next_inside = of_text (λ n ts. next ≤ length ts) within

    stood_there : boundary_at (length was.text) (tokens_in was) next ≡ moved change.new_end change.old_end place
    stood_there = of_text (λ n ts. boundary_at n ts next ≡ moved change.new_end change.old_end place) there

    pub back_moves : length text < 2 ^ 64 → CanMove change.old_end change.new_end (drop next kept)
    back_moves small =
        can-move change.old_end change.new_end (boundary_at len kept next) len (length text) (drop next kept)
        (omega (arith, there, behind)) same_length small (rising-split 0 len kept next within rises).1

    pub back_kept : (aliases : List (List ℕ)) (s : Stage) → was.aliases ≡ aliases → s ≡ after_tokens was.text Start (take next kept)
        → AreStaged aliases text s place (length text) (map (moved_token change.old_end change.new_end) (drop next kept))
    back_kept aliases s same is =
        let reached = of_text (λ n ts. s ≡ after_tokens was.text Start (take next ts)) is in
        let last = back-same change.start change.old_end change.new_end was.text text was.aliases e.change_is place next next_inside behind stood_there s reached in
        subst (λ names. AreStaged names text s place (length text) (map (moved_token change.old_end change.new_end) (drop next kept))) same
        (by_text (λ n ts. AreStaged was.aliases text s place (length text) (map (moved_token change.old_end change.new_end) (drop next ts))) last)

    pub back_renamed : (aliases : List (List ℕ)) (s : Stage)
        → AreStaged aliases text s place (length text) (restaged aliases text s (map (moved_token change.old_end change.new_end) (drop next kept)))
    back_renamed aliases s =
        by_text (λ n ts. AreStaged aliases text s place (length text) (restaged aliases text s (map (moved_token change.old_end change.new_end) (drop next ts))))
        (back-other change.start change.old_end change.new_end was.text text was.aliases e.change_is place next next_inside behind stood_there aliases s)

    -- as many follow the meeting
    pub back_count : (aliases : List (List ℕ)) (ts : List Token) → AreStaged aliases text Start 0 place ts
        → All (λ t. is_meeting change.old_end change.new_end (boundaries len kept) t.range.start ≡ false) ts
        → length kept - next
        ≡ past (find (is_meeting change.old_end change.new_end (boundaries len kept)) (boundaries (length text) (tokens_of text aliases))) (tokens_of text aliases)
    back_count aliases ts staged none =
        let s : Stage = after_tokens text Start ts in
        let moves : List Token = map (moved_token change.old_end change.new_end) (drop next kept) in
        let size : length (restaged aliases text s moves) ≡ length kept - next =
        restaged-length aliases text s moves ∙ length-map (drop next kept) (moved_token change.old_end change.new_end) ∙ length-drop next kept in
        sym size
        ∙ all-past (is_meeting change.old_end change.new_end (boundaries len kept)) aliases text place ts (restaged aliases text s moves) staged
        (back_renamed aliases s) none meets

use Rattle.std.proofs.Common.{◌≡◌, ◌≤◌, ℕ, Bool, false, List, ◌++◌, length, take, drop, map, sym, ap, ◌∙◌, subst, arith, length-drop}
use Rattle.std.specs.Prelude.{All, find}
use Rattle.std.specs.Bool.{OnTrue}
use Rattle.std.proofs.lemmas.Bool.{both_ways}
use Rattle.std.proofs.lemmas.List.{take_rest}
use Rattle.std.proofs.lemmas.List.Elements.{All-push}
use Rattle.outer_syntax.specs.Words.{is_in_force}
use Rattle.outer_syntax.specs.Tokens.{IsTokenAt}
use Rattle.outer_syntax.specs.Stages.{after_token, after_tokens, given}
use Rattle.outer_syntax.specs.Lexing.{tokens_of}
use Rattle.outer_syntax.specs.declared.token.Token.{Token}
use Rattle.outer_syntax.specs.declared.stage.Stage.{Stage}
use Rattle.outer_syntax.specs.declared.stage.Stage.TheVariants.{Start}
use Rattle.outer_syntax.proofs.KnownLexing.{AreStaged, staged-push, after-push}
use Rattle.command_spans.specs.CutTexts.{Cuts, boundaries, boundary_at}
use Rattle.command_spans.specs.Reparsing.{moved, is_meeting, past}
use Rattle.command_spans.specs.Keeping.{moved_token, restaged, ArePassed}
use Rattle.command_spans.proofs.ChangeLemmas.{is-change}
use Rattle.command_spans.proofs.RelexLemmas.{renamed-last, all-read}
use Rattle.command_spans.proofs.RelexSteps.{IsRelexed, rises, within_old, meets_last, front_kept, front_renamed, front_begins, back_moves, back_kept, back_renamed, back_count}
use Rattle.command_spans.proofs.edited.relex.Goals as goal
use Rattle.command_spans.proofs.edited.relex.Goals.{After-of-change, then-not-same, else-not-same, then-not-same-2, else-not-same-2+else-not-is_reached}

relexed : (c : After-of-change) → IsRelexed c.of-change.result (record { text = c.requires.edited.text; aliases = c.args.old.now.aliases }) c.args.was.len c.tokens-kept.result.now c.args.text.now
relexed c = record {
  len_is = c.requires.edited.len_is;
  kept_is = c.tokens-kept.ensures ∙ ap (λ (x : Cuts). x.tokens) c.requires.edited.are_cuts;
  change_is = is-change c.args.edit.now c.of-change.result c.requires.edited.text c.args.text.now c.requires.edited.applied
      c.of-change.ensures.start c.of-change.ensures.old_end c.of-change.ensures.new_end;
}

pub front_len-front-requires : goal.front_len-front-requires
front_len-front-requires c = record { rising = (c.args.was.len, rises (relexed (goal.at.front_len-front-requires c).After-of-change)) }

pub lexed-init : goal.lexed-init
lexed-init c =
    let e = relexed (goal.at.lexed-init c).After-of-change in
    let text : List ℕ = c.args.text.now in
    let aliases : List (List ℕ) = c.args.aliases.now in
    let kept : List Token = c.tokens-kept.result.now in
    let front : ℕ = c.front_len-front.result in
    let within = c.front_len-front.ensures.within in
    let found = c.front_len-front.ensures.found in
    let first : c.extend_from_slice.new.self.items ≡ take front kept = c.in_ok-extend_from_slice.ensures.items ∙ ap (λ (ts : List Token). ts ++ take front kept) c.in_ok-tokens.ensures in
    let staged : AreStaged aliases text Start 0 (boundary_at c.args.was.len kept front) c.if-not-same.tokens.items = elim c.if-not-same.branch [
      | then-not-same w ↦ rw (w.tokens-is, w.rename.ensures, first) (front_renamed e front within found aliases)
      | else-not-same w ↦
          let same : c.args.old.now.aliases ≡ aliases = subst (λ (b : Bool). OnTrue b (c.args.old.now.aliases ≡ aliases)) w.if-not-same.false c.requires.same in
          rw (w.tokens-is, first) (front_kept e front within found aliases same)
    ] in
    let facts = front_begins e front within found aliases c.if-not-same.tokens.items staged in
    let place = sym c.boundary_at-place.ensures in
    record {
      within = subst (λ (p : ℕ). p ≤ length text) place facts.within;
      staged = subst (λ (p : ℕ). AreStaged aliases text Start 0 p c.if-not-same.tokens.items) place staged;
      stage = c.stage_after-stage.ensures ∙ ap (after_tokens text Start) c.deref.ensures.value;
      passed = subst (λ (p : ℕ). ArePassed (moved c.of-change.result.new_end c.of-change.result.old_end p) kept front) place facts.passed;
      none = facts.none;
    }

pub meets-requires-clause-rising : goal.meets-requires-clause-rising
meets-requires-clause-rising c = rises (relexed (goal.at.meets-requires-clause-rising c).After-of-change)

pub meets-requires-clause-within : goal.meets-requires-clause-within
meets-requires-clause-within c = within_old (relexed (goal.at.meets-requires-clause-within c).After-of-change) c.lexed.place c.lexed.invariant.within

pub unreachable-requires : goal.unreachable-requires
unreachable-requires c =
    let test : ℕ → Bool = is_meeting c.of-change.result.old_end c.of-change.result.new_end (boundaries c.args.was.len c.tokens-kept.result.now) in
    both_ways (test (length c.args.text.now)) (ap test (sym c.in_default.ensures) ∙ sym c.meets.ensures.told ∙ c.lexed-test.true)
    (meets_last (relexed (goal.at.unreachable-requires c).After-of-change))

pub lexed-preserved : goal.lexed-preserved
lexed-preserved c =
    let text : List ℕ = c.args.text.now in
    let aliases : List (List ℕ) = c.args.aliases.now in
    let before : List Token = c.lexed.tokens.items in
    let t : Token = c.in-Some.token in
    let at : IsTokenAt (is_in_force (given (after_tokens text Start before) aliases)) text c.lexed.place t =
    subst (λ (s : Stage). IsTokenAt (is_in_force (given s aliases)) text c.lexed.place t) c.lexed.invariant.stage
    (subst (λ (ns : List (List ℕ)). IsTokenAt (is_in_force ns) text c.lexed.place t) c.given.ensures c.in-Some.ensures) in
    let test : ℕ → Bool = is_meeting c.of-change.result.old_end c.of-change.result.new_end (boundaries c.args.was.len c.tokens-kept.result.now) in
    let none : Token → Type 0 = λ u. test u.range.start ≡ false in
    let here : test t.range.start ≡ false = ap test at.0 ∙ sym c.meets.ensures.told ∙ c.lexed-test.true in
    record {
      within = omega (arith, at.0, at.1.1, at.1.2.longest.within, length-drop t.range.start text, c.lexed.invariant.within);
      staged = subst (AreStaged aliases text Start 0 t.range.stop) (sym c.in_ok-push.ensures.items) (staged-push aliases text Start 0 c.lexed.place before t c.lexed.invariant.staged at);
      stage = c.after_token-stage.ensures ∙ ap (λ (s : Stage). after_token text s t) c.lexed.invariant.stage ∙ sym (after-push text Start before t) ∙ ap (after_tokens text Start) (sym c.in_ok-push.ensures.items);
      passed = (c.meets.ensures.passed.0, λ k d low lt. omega (arith, c.meets.ensures.passed.1 k d low lt, at.0, at.1.1));
      none = subst (All none) (sym c.in_ok-push.ensures.items) (All-push none before t c.lexed.invariant.none here);
    }

pub push_moved-requires : goal.push_moved-requires
push_moved-requires c =
    let e = relexed (goal.at.push_moved-requires c).After-of-change in
    let meets = sym c.meets.ensures.told ∙ c.lexed-test.false in
    let moves = back_moves e c.lexed.place c.meets.new.next meets c.meets.ensures.passed.0 c.lexed-test.ensures.met (omega arith) in
    record { behind = rw (take_rest c.tokens-kept.result.now c.meets.new.next) moves }

pub returns-clause-tokens : goal.returns-clause-tokens
returns-clause-tokens c =
    let e = relexed (goal.at.returns-clause-tokens c).After-of-change in
    let text : List ℕ = c.args.text.now in
    let aliases : List (List ℕ) = c.args.aliases.now in
    let kept : List Token = c.tokens-kept.result.now in
    let next : ℕ = c.meets.new.next in
    let place : ℕ = c.lexed.place in
    let ts : List Token = c.lexed.tokens.items in
    let s : Stage = after_tokens text Start ts in
    let move : List Token → List Token = map (moved_token c.of-change.result.old_end c.of-change.result.new_end) in
    let meets = sym c.meets.ensures.told ∙ c.lexed-test.false in
    let within = c.meets.ensures.passed.0 in
    let pushed : c.push_moved.new.tokens.items ≡ ts ++ move (drop next kept) = c.in_ok-push_moved.ensures ∙ ap (λ (xs : List Token). ts ++ move xs) (take_rest kept next) in
    elim c.if-not-same-2.branch [
      | then-not-same-2 w ↦
          let last = renamed-last aliases text c.lexed.stage ts (move (drop next kept)) c.push_moved.new.tokens.items c.len-lexed.result (c.len-lexed.ensures ∙ c.lexed.tokens.ok.0) pushed in
          let others = back_renamed e place next meets within c.lexed-test.ensures.met aliases s in
          rw (w.tokens-is, w.rename-then-not-same-2.ensures, last, c.lexed.invariant.stage)
          (all-read aliases text place ts (restaged aliases text s (move (drop next kept))) c.lexed.invariant.staged others)
      | else-not-same-2+else-not-is_reached w ↦
          let same : c.args.old.now.aliases ≡ aliases = subst (λ (b : Bool). OnTrue b (c.args.old.now.aliases ≡ aliases)) w.if-not-same-2.false c.requires.same in
          let stages : s ≡ after_tokens c.requires.edited.text Start (take next kept) =
          sym c.lexed.invariant.stage ∙ w.if-not-is_reached.ensures.1 ∙ sym (c.requires.edited.read_is next w.if-not-is_reached.ensures.0)
          ∙ ap (λ (xs : List Token). after_tokens c.requires.edited.text Start (take next xs)) (sym c.tokens-kept.ensures) in
          let mine = back_kept e place next meets within c.lexed-test.ensures.met aliases s same stages in
          rw (w.tokens-is, pushed) (all-read aliases text place ts (move (drop next kept)) c.lexed.invariant.staged mine)
    ]

pub returns-clause-back : goal.returns-clause-back
returns-clause-back c =
    let e = relexed (goal.at.returns-clause-back c).After-of-change in
    let text : List ℕ = c.args.text.now in
    let aliases : List (List ℕ) = c.args.aliases.now in
    let meets = sym c.meets.ensures.told ∙ c.lexed-test.false in
    back_count e c.lexed.place c.meets.new.next meets c.meets.ensures.passed.0 c.lexed-test.ensures.met aliases c.lexed.tokens.items
    c.lexed.invariant.staged c.lexed.invariant.none
    ∙ (λ i. past (find (is_meeting (c.of-change.ensures.old_end i) (c.of-change.ensures.new_end i) (boundaries c.args.was.len (c.tokens-kept.ensures i))) (boundaries (length text) (tokens_of text aliases))) (tokens_of text aliases))

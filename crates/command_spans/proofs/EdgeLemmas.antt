-- The front up to the restart and the back from a meeting on are tokens of the edited text.
use Rattle.std.proofs.Common.{◌≡◌, ◌⊎◌, ℕ, zero, suc, ◌<◌, ◌≤◌, Bool, true, false, List, [], ◌∷◌, length, get_or, take, drop, map, sym, refl, ap, ◌∙◌, subst, inl, inr, ⊎_elim, arith, length-drop}
use Rattle.std.specs.Prelude.{nat_lt}
use Rattle.std.proofs.lemmas.Bool.{both_ways, and_parts, ltb-true}
use Rattle.std.proofs.Math.Seq.{drop-cons}
use Rattle.text_words.specs.Blanks.{is_blank}
use Rattle.outer_syntax.specs.Tokens.{AreTokensBetween}
use Rattle.outer_syntax.specs.Headings.{names_at}
use Rattle.outer_syntax.specs.Lexing.{tokens_of}
use Rattle.outer_syntax.specs.Stages.{after_tokens}
use Rattle.outer_syntax.specs.declared.kind.Kind.TheVariants as kind
use Rattle.outer_syntax.specs.declared.stage.Stage.{Stage}
use Rattle.outer_syntax.specs.declared.stage.Stage.TheVariants.{Start}
use Rattle.outer_syntax.specs.declared.token.Token.{Token}
use Rattle.outer_syntax.proofs.KnownLexing.{AreStaged, are-tokens, tokens-staged}
use Rattle.outer_syntax.proofs.KnownKept.{SameUpTo}
use Rattle.command_spans.specs.Spans.{Is}
use Rattle.command_spans.specs.CutTexts.{boundary_at}
use Rattle.command_spans.specs.Reparsing.{is_space, is_space_below, moved}
use Rattle.command_spans.specs.Keeping.{moved_token, IsChange, restaged}
use Rattle.command_spans.proofs.PlaceLemmas.{between-split, staged-split, first-boundary, text-rising}
use Rattle.command_spans.proofs.ReadOn.{boundary-is}
use Rattle.command_spans.proofs.KeepLemmas.{space-blank, same-upto, front-renamed, front-kept, back-renamed, back-kept}

other_token : Token
other_token = record { kind = kind.Ident; range = record { start = 0; stop = 0 } }

other-passes-not : (place : ℕ) → is_space_below place other_token ≡ false
unfolding other_token
other-passes-not place = refl

got-within : (test : Token → Bool) (ts : List Token) (k : ℕ) (d : Token) → test (get_or ts k d) ≡ true → test d ≡ false → k < length ts
got-within test [] k d passes fails = absurd (both_ways (test d) fails passes)
got-within test (t ∷ ts) zero d passes fails = omega arith
got-within test (t ∷ ts) (suc k) d passes fails = omega (arith, got-within test ts k d passes fails)

-- the names under which the tokens of a text are so
abbrev pub own_names : List ℕ → List (List ℕ) → ℕ → List ℕ → Bool
own_names text aliases = names_at (are-tokens text aliases).1 aliases

pub text-between : (text : List ℕ) (aliases : List (List ℕ)) → AreTokensBetween (own_names text aliases) text 0 (length text) (tokens_of text aliases)
text-between text aliases = (are-tokens text aliases).4

pub text-staged : (text : List ℕ) (aliases : List (List ℕ)) → AreStaged aliases text Start 0 (length text) (tokens_of text aliases)
text-staged text aliases = tokens-staged text aliases (tokens_of text aliases) (are-tokens text aliases)

module _ (start old_end new_end : ℕ) (old new : List ℕ) (under : List (List ℕ)) (change : IsChange start old_end new_end old new) where
  -- both texts are equally long behind the edit
  pub same-lengths : moved old_end new_end (length old) ≡ length new
  same-lengths = omega (arith, change.old_order, change.new_order, ap length change.last, length-drop old_end old, length-drop new_end new)

  module _ (front : ℕ) (within : front ≤ length (tokens_of old under)) (found : (front ≡ 0) ⊎ Is (is_space_below start) true (tokens_of old under) front) where
    -- the restart is at the text's beginning, or the texts are the same up to it and a blank there
    pub restart-place : (boundary_at (length old) (tokens_of old under) front ≤ start) × ((front ≡ 0) ⊎ SameUpTo old new (boundary_at (length old) (tokens_of old under) front))
    restart-place = ⊎_elim none some found where
      none : front ≡ 0 → (boundary_at (length old) (tokens_of old under) front ≤ start) × ((front ≡ 0) ⊎ SameUpTo old new (boundary_at (length old) (tokens_of old under) front))
      none e = (omega (arith, ap (boundary_at (length old) (tokens_of old under)) e, first-boundary 0 (length old) (tokens_of old under) (text-rising old under)), inl e)

      some : Is (is_space_below start) true (tokens_of old under) front → (boundary_at (length old) (tokens_of old under) front ≤ start) × ((front ≡ 0) ⊎ SameUpTo old new (boundary_at (length old) (tokens_of old under) front))
      some is =
          let t : Token = get_or (tokens_of old under) front other_token in
          let below : front < length (tokens_of old under) = got-within (is_space_below start) (tokens_of old under) front other_token (is other_token) (other-passes-not start) in
          let place : ℕ = boundary_at (length old) (tokens_of old under) front in
          let here : place ≡ t.range.start = boundary-is (length old) (tokens_of old under) front other_token below in
          let parts = and_parts (is_space t.kind) (nat_lt t.range.start start) (is other_token) in
          let low : t.range.start < start = ltb-true t.range.start start parts.1 in
          let rest = subst (AreTokensBetween (own_names old under) old place (length old)) (drop-cons (tokens_of old under) front other_token below) (between-split (own_names old under) old 0 (length old) (tokens_of old under) front within (text-between old under)).1 in
          let blank : is_blank (get_or old place 0) ≡ true = ap (λ k. is_blank (get_or old k 0)) here ∙ space-blank (own_names old under place) old t rest.1 parts.0 in
          (omega (arith, here, low), inr (same-upto start old_end new_end old new place change (omega (arith, here, low)) blank))

    -- the front under the same aliases
    pub front-same : AreStaged under new Start 0 (boundary_at (length old) (tokens_of old under) front) (take front (tokens_of old under))
    front-same = ⊎_elim
        (λ (e : front ≡ 0). subst (λ k. AreStaged under new Start 0 (boundary_at (length old) (tokens_of old under) k) (take k (tokens_of old under))) (sym e) (sym (first-boundary 0 (length old) (tokens_of old under) (text-rising old under))))
        (λ same. front-kept under old new (boundary_at (length old) (tokens_of old under) front) same Start 0 (boundary_at (length old) (tokens_of old under) front) (take front (tokens_of old under)) (omega arith) (staged-split under old Start 0 (length old) (tokens_of old under) front within (text-staged old under)).0)
        restart-place.1

    -- and under others
    pub front-other : (aliases : List (List ℕ)) → AreStaged aliases new Start 0 (boundary_at (length old) (tokens_of old under) front) (restaged aliases new Start (take front (tokens_of old under)))
    front-other aliases = ⊎_elim
        (λ (e : front ≡ 0). subst (λ k. AreStaged aliases new Start 0 (boundary_at (length old) (tokens_of old under) k) (restaged aliases new Start (take k (tokens_of old under)))) (sym e) (sym (first-boundary 0 (length old) (tokens_of old under) (text-rising old under))))
        (λ same. front-renamed aliases old new (boundary_at (length old) (tokens_of old under) front) same (own_names old under) Start 0 (boundary_at (length old) (tokens_of old under) front) (take front (tokens_of old under)) (omega arith) (between-split (own_names old under) old 0 (length old) (tokens_of old under) front within (text-between old under)).0)
        restart-place.1

  -- a meeting, and the old token that begins there
  module _ (place next : ℕ) (within : next ≤ length (tokens_of old under)) (behind : new_end ≤ place) (there : boundary_at (length old) (tokens_of old under) next ≡ moved new_end old_end place) where
    onward : moved old_end new_end (boundary_at (length old) (tokens_of old under) next) ≡ place
    onward = omega (arith, there)

    -- the back under the same aliases and at the same stage
    pub back-same : (s : Stage) → s ≡ after_tokens old Start (take next (tokens_of old under)) → AreStaged under new s place (length new) (map (moved_token old_end new_end) (drop next (tokens_of old under)))
    back-same s e =
        let from : ℕ = boundary_at (length old) (tokens_of old under) next in
        let rest : AreStaged under old s from (length old) (drop next (tokens_of old under)) = subst (λ x. AreStaged under old x from (length old) (drop next (tokens_of old under))) (sym e) (staged-split under old Start 0 (length old) (tokens_of old under) next within (text-staged old under)).1 in
        let ends : ℕ × ℕ → Type 0 = λ p. AreStaged under new s p.0 p.1 (map (moved_token old_end new_end) (drop next (tokens_of old under))) in
        subst ends (λ i. (onward i, same-lengths i)) (back-kept under old new old_end new_end change.last s from (length old) (drop next (tokens_of old under)) (omega (arith, there)) rest)

    -- and under others
    pub back-other : (aliases : List (List ℕ)) (s : Stage) → AreStaged aliases new s place (length new) (restaged aliases new s (map (moved_token old_end new_end) (drop next (tokens_of old under))))
    back-other aliases s =
        let from : ℕ = boundary_at (length old) (tokens_of old under) next in
        let rest = (between-split (own_names old under) old 0 (length old) (tokens_of old under) next within (text-between old under)).1 in
        let ends : ℕ × ℕ → Type 0 = λ p. AreStaged aliases new s p.0 p.1 (restaged aliases new s (map (moved_token old_end new_end) (drop next (tokens_of old under)))) in
        subst ends (λ i. (onward i, same-lengths i)) (back-renamed aliases old new old_end new_end change.last (own_names old under) s from (length old) (drop next (tokens_of old under)) (omega (arith, there)) rest)

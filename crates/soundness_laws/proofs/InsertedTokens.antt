-- The tokens of a text with a command put in.
use Rattle.std.proofs.Common.{◌≡◌, ℕ, ◌+◌, ◌-◌, ◌≤◌, List, [], ◌∷◌, ◌++◌, length, drop, map, sym, refl, ap, ◌∙◌, subst, arith, length-append, append_assoc}
use Rattle.std.specs.List.{prefix_len}
use Rattle.std.proofs.lemmas.List.{drop-drop}
use Rattle.std.proofs.Math.Seq.{drop-append_seam}
use Rattle.text_words.specs.Blanks.{is_blank}
use Rattle.outer_syntax.specs.Lexing.{tokens_of}
use Rattle.outer_syntax.specs.Stages.{after_tokens, given}
use Rattle.outer_syntax.specs.Tokens.{IsToken}
use Rattle.outer_syntax.specs.Words.{is_in_force}
use Rattle.outer_syntax.specs.declared.kind.Kind.TheVariants as kind
use Rattle.outer_syntax.specs.declared.stage.Stage.{Stage}
use Rattle.outer_syntax.specs.declared.stage.Stage.TheVariants.{Start}
use Rattle.outer_syntax.specs.declared.token.Token.{Token}
use Rattle.outer_syntax.proofs.KnownLexing.{AreStaged, are-tokens, same-lexed, staged-append, staged-tokens}
use Rattle.soundness_laws.specs.Insertion.{EndsWell}
use Rattle.soundness_laws.proofs.SpacedTokens.{Spaced, spaced}
use Rattle.soundness_laws.proofs.BlankLemmas.{blank-token}
use Rattle.soundness_laws.proofs.InsideLemmas.{Inside, no-blank-first}
use Rattle.soundness_laws.proofs.BehindLemmas.{Behind}
use Rattle.soundness_laws.proofs.MovedLemmas.{shifted, staged-moved, after-moved}

past : (xs ys : List ℕ) (n at j : ℕ) → length xs ≡ n → at ≡ n + j → drop at (xs ++ ys) ≡ drop j ys
past xs ys n at j size place =
    let all : at ≡ length xs + j = omega (arith, size, place) in
    ap (λ k. drop k (xs ++ ys)) all ∙ sym (drop-drop j (length xs) (xs ++ ys)) ∙ ap (drop j) (drop-append_seam xs ys)

module _ (names : List (List ℕ)) (p q w : List ℕ) where
  -- the text with the command in it, and how much further on it and what follows stand
  abbrev pub whole : List ℕ
  whole = p ++ 32 ∷ (w ++ 32 ∷ q)

  abbrev pub before : ℕ
  before = length p + 1

  abbrev pub between : ℕ
  between = length w + 2

  pub same-inside : (at : ℕ) → 0 ≤ at → drop at (w ++ 32 ∷ q) ≡ drop (at + before) whole
  same-inside at low =
      sym (ap (drop (at + before)) (sym (append_assoc p (32 ∷ []) (w ++ 32 ∷ q)))
      ∙ past (p ++ 32 ∷ []) (w ++ 32 ∷ q) before (at + before) at (length-append p (32 ∷ [])) (omega arith))

  front-size : length (p ++ 32 ∷ (w ++ 32 ∷ [])) ≡ length p + between
  front-size = omega (arith, length-append p (32 ∷ (w ++ 32 ∷ [])), length-append w (32 ∷ []))

  pub front-is : (p ++ 32 ∷ (w ++ 32 ∷ [])) ++ q ≡ whole
  front-is = append_assoc p (32 ∷ (w ++ 32 ∷ [])) q ∙ ap (λ z. p ++ 32 ∷ z) (append_assoc w (32 ∷ []) q)

  pub same-behind : (at : ℕ) → length p ≤ at → drop at (p ++ q) ≡ drop (at + between) whole
  same-behind at low =
      let j : ℕ = at - length p in
      past p q (length p) at j refl (omega (arith, low))
      ∙ sym (ap (drop (at + between)) (sym front-is)
      ∙ past (p ++ 32 ∷ (w ++ 32 ∷ [])) q (length p + between) (at + between) j front-size (omega (arith, low)))

  pub whole-size : length whole ≡ length (p ++ q) + between
  whole-size = omega (arith, ap length (sym front-is), length-append (p ++ 32 ∷ (w ++ 32 ∷ [])) q, front-size, length-append p q)

  abbrev pub gap : Token
  gap = record { kind = kind.Space; range = record { start = length p; stop = length p + (1 + 0) } }

  abbrev pub wide_gap : ℕ → Token
  wide_gap n = record { kind = kind.Space; range = record { start = length w + before; stop = length w + before + (1 + n) } }

  module _ (s next : Stage) (back : List Token) (in_it : Inside names w q s next) (later : Behind names p q s back) where
    -- what stands behind the command before
    abbrev pub tail : List Token
    tail = wide_gap later.n ∷ map (shifted between) later.rest

    abbrev pub added : List Token
    added = gap ∷ (map (shifted before) (in_it.word ∷ in_it.more) ++ tail)

    tail-staged : AreStaged names (p ++ q) next (length p + later.n) (length (p ++ q)) later.rest → AreStaged names whole next (length w + before) (length whole) tail
    tail-staged rest =
        let place : length p + later.n + between ≡ length w + before + (1 + later.n) = omega arith in
        let front : (p ++ 32 ∷ w) ++ 32 ∷ q ≡ whole = append_assoc p (32 ∷ w) (32 ∷ q) in
        let size : length (p ++ 32 ∷ w) ≡ length w + before = omega (arith, length-append p (32 ∷ w)) in (
          (
            refl,
            subst (λ t. IsToken (is_in_force (given next names)) t (wide_gap later.n)) front
                (blank-token (is_in_force (given next names)) (p ++ 32 ∷ w) q (length w + before) later.n size later.blanks),
          ),
          subst (λ a. AreStaged names whole next a (length whole) (map (shifted between) later.rest)) place
              (subst (λ b. AreStaged names whole next (length p + later.n + between) b (map (shifted between) later.rest)) (sym whole-size)
              (staged-moved between (p ++ q) whole (length p) same-behind names next (length p + later.n) (length (p ++ q)) later.rest (omega arith) rest)),
        )

    added-staged : AreStaged names (p ++ q) next (length p + later.n) (length (p ++ q)) later.rest → AreStaged names whole s (length p) (length whole) added
    added-staged rest =
        let none : prefix_len is_blank (w ++ 32 ∷ q) ≡ 0 = no-blank-first _ (w ++ 32 ∷ q) in_it.word in_it.staged.0.0 in_it.begins in_it.staged.0.1 in
        let place : 0 + before ≡ length p + (1 + 0) = omega arith in
        let comes : after_tokens whole s (map (shifted before) (in_it.word ∷ in_it.more)) ≡ next =
        after-moved before (w ++ 32 ∷ q) whole 0 same-inside names s 0 (length w) (in_it.word ∷ in_it.more) (omega arith) in_it.staged ∙ in_it.after in (
          (refl, blank-token (is_in_force (given s names)) p (w ++ 32 ∷ q) (length p) 0 refl none),
          subst (λ a. AreStaged names whole s a (length whole) (map (shifted before) (in_it.word ∷ in_it.more) ++ tail)) place
              (staged-append names whole s (0 + before) (length w + before) (length whole) (map (shifted before) (in_it.word ∷ in_it.more)) tail
              (staged-moved before (w ++ 32 ∷ q) whole 0 same-inside names s 0 (length w) (in_it.word ∷ in_it.more) (omega arith) in_it.staged)
              (subst (λ x. AreStaged names whole x (length w + before) (length whole) tail) (sym comes) (tail-staged rest))),
        )

    -- the tokens of the text
    module _ (front : List Token) (staged : AreStaged names (p ++ q) Start 0 (length p) front) (well : EndsWell front) (comes : after_tokens (p ++ q) Start front ≡ s)
        (rest : AreStaged names (p ++ q) next (length p + later.n) (length (p ++ q)) later.rest) where
      pub kept-front : Spaced names p q (w ++ 32 ∷ q) Start 0 front
      kept-front = spaced names p q (w ++ 32 ∷ q) Start 0 front staged well

      pub inserted-staged : AreStaged names whole Start 0 (length whole) (front ++ added)
      inserted-staged =
          staged-append names whole Start 0 (length p) (length whole) front added kept-front.staged
          (subst (λ x. AreStaged names whole x (length p) (length whole) added) (sym (kept-front.after ∙ comes)) (added-staged rest))

      pub inserted-tokens : front ++ added ≡ tokens_of whole names
      inserted-tokens = same-lexed whole names (front ++ added) (tokens_of whole names) (staged-tokens whole names (front ++ added) inserted-staged) (are-tokens whole names)

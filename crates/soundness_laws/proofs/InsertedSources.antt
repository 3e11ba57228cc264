-- The sources of a text with a command put in.
use Rattle.std.proofs.Common.{◌≡◌, inl, inr, ℕ, zero, ◌+◌, ◌-◌, List, [], ◌∷◌, ◌++◌, length, take, map, sym, refl, ap, ◌∙◌, arith}
use Rattle.std.proofs.lemmas.List.{map-append}
use Rattle.std.proofs.Math.Seq.{take-append_seam}
use Rattle.pide_base.specs.declared.range.Range.{Range}
use Rattle.outer_syntax.specs.declared.stage.Stage.{Stage}
use Rattle.outer_syntax.specs.declared.stage.Stage.TheVariants.{Start}
use Rattle.outer_syntax.specs.declared.token.Token.{Token}
use Rattle.outer_syntax.proofs.KnownProper.{command-proper}
use Rattle.outer_syntax.proofs.KnownLexing.{AreStaged}
use Rattle.command_spans.specs.Cutting.{spans_of}
use Rattle.buffer_rules.specs.Cuts.{source}
use Rattle.soundness_laws.proofs.SpanSizes.{EndsProper, Waits}
use Rattle.soundness_laws.proofs.SpanLemmas.{ranges, ranges-append, ranges-improper, spans-over}
use Rattle.soundness_laws.proofs.InsertedRuns.{last_end}
use Rattle.soundness_laws.proofs.MovedLemmas.{shift, shifted, ranges-moved}
use Rattle.soundness_laws.proofs.PlacedLemmas.{ranges-between, staged-end, one-range, same-sources, shifted-sources}
use Rattle.soundness_laws.proofs.InsideLemmas.{Inside}
use Rattle.soundness_laws.proofs.BehindLemmas.{Behind}
use Rattle.soundness_laws.proofs.InsertedTokens.{whole, before, between, same-inside, same-behind, gap, wide_gap, tail, added}

ends-moved : (d : ℕ) (ts : List Token) → EndsProper ts → EndsProper (map (shifted d) ts)
ends-moved d [] ends = ends
ends-moved d (t ∷ []) ends = ends
ends-moved d (t ∷ u ∷ ts) ends = ends-moved d (u ∷ ts) ends

waits-moved : (d : ℕ) (ts : List Token) → Waits ts → Waits (map (shifted d) ts)
waits-moved d [] w = w
waits-moved d (t ∷ ts) (inl command) = inl command
waits-moved d (t ∷ ts) (inr more) = inr (more.0, waits-moved d ts more.1)

-- the commands of tokens that end well, and of those that wait behind them
pub ranges-over : (xs rest : List Token) → EndsProper xs → Waits rest → ranges (spans_of (xs ++ rest)) ≡ ranges (spans_of xs) ++ ranges (spans_of rest)
ranges-over xs rest ends waits = ap ranges (spans-over zero xs rest (omega arith) (inr ends) waits) ∙ ranges-append (spans_of xs) (spans_of rest)

module _ (names : List (List ℕ)) (p q w : List ℕ) (s next : Stage) (front back : List Token) (ends : EndsProper front) (waits : Waits back)
    (staged : AreStaged names (p ++ q) Start 0 (length p) front) (staged_back : AreStaged names (p ++ q) s (length p) (length (p ++ q)) back)
    (in_it : Inside names w q s next) (later : Behind names p q s back) where
  own : Range
  own = shift (before names p q w) (record { start = 0; stop = length w })

  tail-ranges : ranges (spans_of (tail names p q w s next back in_it later)) ≡ map (shift (between names p q w)) (ranges (spans_of back))
  tail-ranges =
      ranges-improper (wide_gap names p q w later.n) (map (shifted (between names p q w)) later.rest) refl
      ∙ ranges-moved (between names p q w) later.rest ∙ ap (map (shift (between names p q w))) later.same

  inside-ranges : ranges (spans_of (in_it.word ∷ in_it.more)) ≡ record { start = 0; stop = length w } ∷ []
  inside-ranges =
      let stop : last_end (in_it.word ∷ in_it.more) ≡ length w = staged-end names (w ++ 32 ∷ q) s 0 (length w) (in_it.word ∷ in_it.more) in_it.ends in_it.staged in
      one-range in_it.word in_it.more (command-proper in_it.word.kind in_it.begins) in_it.no_other in_it.ends
      ∙ (λ i. record { start = in_it.staged.0.0 i; stop = stop i } ∷ [])

  added-ranges : ranges (spans_of (added names p q w s next back in_it later)) ≡ own ∷ map (shift (between names p q w)) (ranges (spans_of back))
  unfolding own
  added-ranges =
      let moved : List Token = map (shifted (before names p q w)) (in_it.word ∷ in_it.more) in
      let rest : List Token = tail names p q w s next back in_it later in
      ranges-improper (gap names p q w) (moved ++ rest) refl
      ∙ ranges-over moved rest (ends-moved (before names p q w) (in_it.word ∷ in_it.more) in_it.ends) (inr (refl, waits-moved (between names p q w) later.rest later.waits))
      ∙ (λ i. (ranges-moved (before names p q w) (in_it.word ∷ in_it.more) ∙ ap (map (shift (before names p q w))) inside-ranges) i ++ tail-ranges i)

  all-ranges : ranges (spans_of (front ++ added names p q w s next back in_it later)) ≡ ranges (spans_of front) ++ own ∷ map (shift (between names p q w)) (ranges (spans_of back))
  all-ranges =
      ranges-over front (added names p q w s next back in_it later) ends (inr (refl, inl in_it.begins))
      ∙ ap (λ rs. ranges (spans_of front) ++ rs) added-ranges

  own-source : source (whole names p q w) own ≡ w
  unfolding own
  own-source =
      let size : length w + before names p q w - (0 + before names p q w) ≡ length w = omega arith in
      (λ i. take (size i) (sym (same-inside names p q w 0 (omega arith)) i)) ∙ take-append_seam w (32 ∷ q)

  -- the sources are the old ones, with the command between them
  pub all-sources : map (source (whole names p q w)) (ranges (spans_of (front ++ added names p q w s next back in_it later)))
      ≡ map (source (p ++ q)) (ranges (spans_of front)) ++ w ∷ map (source (p ++ q)) (ranges (spans_of back))
  all-sources =
      let text : List ℕ = whole names p q w in
      let fs : List Range = ranges (spans_of front) in
      let bs : List Range = ranges (spans_of back) in
      ap (map (source text)) all-ranges ∙ map-append (source text) fs (own ∷ map (shift (between names p q w)) bs)
      ∙ (λ i. same-sources p (32 ∷ (w ++ 32 ∷ q)) q 0 fs (ranges-between names (p ++ q) Start 0 (length p) zero front staged) i
      ++ own-source i ∷ shifted-sources (p ++ q) text (length p) (between names p q w) (same-behind names p q w) (length (p ++ q)) bs
      (ranges-between names (p ++ q) s (length p) (length (p ++ q)) zero back staged_back) i)

-- The tokens of a text's first command: improper ones before it, and behind it none that end a header.
use Rattle.std.proofs.Common.{◌≡◌, ℕ, zero, suc, ◌+◌, ◌-◌, ◌<◌, ◌≤◌, true, false, cond, List, [], ◌∷◌, ◌++◌, length, map, filter, take, drop, get_or, Some, None, sym, ap, subst, ◌∙◌, arith, get_or-drop, length-drop}
use Rattle.std.proofs.lemmas.List.{take-append-drop, append_assoc}
use Rattle.std.specs.Prelude.{slice_get}
use Rattle.std.specs.List.{AllByRecursion, AllWithin}
use Rattle.text_words.proofs.KnownLists.{each-both}
use Rattle.pide_base.specs.declared.range.Range.{Range}
use Rattle.outer_syntax.specs.Kinds.{is_proper}
use Rattle.outer_syntax.specs.Kinds as kinds
use Rattle.outer_syntax.specs.Stages.{after_token, end_from}
use Rattle.outer_syntax.specs.declared.stage.Stage.{Stage}
use Rattle.outer_syntax.specs.declared.stage.Stage.TheVariants.{Start}
use Rattle.outer_syntax.specs.declared.token.Token.{Token}
use Rattle.outer_syntax.proofs.KnownProper.{command-proper}
use Rattle.outer_syntax.proofs.KnownReading.{IsOn}
use Rattle.outer_syntax.proofs.KnownLexing.{AreStaged, staged-rises}
use Rattle.command_spans.specs.Spans.{IsSpan, RunsTo, AreSpansOf}
use Rattle.command_spans.specs.declared.span.Span.{Span}
use Rattle.command_spans.specs.declared.span.SpanKind.{SpanKind}
use Rattle.command_spans.specs.declared.span.SpanKind.TheVariants.{Command, Malformed, Ignored}
use Rattle.buffer_rules.specs.Cuts.{is_command}
use Rattle.buffer_laws.proofs.BareTexts.{IsImproper, front_improper}
use Rattle.buffer_laws.proofs.HeaderSteps.{improper_stays, rest_none}

-- the first command's tokens among these, from a place on
pub record FirstCommand (text : List ℕ) (aliases : List (List ℕ)) (tokens : List Token) (range : Range) : Type 0 where
  pub before : List Token
  pub first : Token
  pub others : List Token
  pub rest : List Token
  pub whole : tokens ≡ before ++ (first ∷ others ++ rest)
  pub improper : AllByRecursion IsImproper before
  pub begins : is_proper first.kind ≡ true
  pub staged : AreStaged aliases text Start range.start range.stop (first ∷ others)
  pub within : range.stop ≤ length text
  pub none : (s : Stage) → IsOn s → end_from text s rest ≡ None

module _ (text : List ℕ) (aliases : List (List ℕ)) where
  -- behind improper tokens the header has not begun
  staged_drop : (n from to : ℕ) (ts : List Token) → AllByRecursion IsImproper (take n ts) → AreStaged aliases text Start from to ts
      → (middle : ℕ) × AreStaged aliases text Start middle to (drop n ts)
  staged_drop zero from to ts all is = (from, is)
  staged_drop (suc n) from to [] all is = (from, is)
  staged_drop (suc n) from to (t ∷ ts) all (at, rest) =
      staged_drop n t.range.stop to ts all.1 (subst (λ s. AreStaged aliases text s t.range.stop to ts) (improper_stays text t Start all.0) rest)

  staged_take : (k : ℕ) (s : Stage) (from to : ℕ) (ts : List Token) (last : Token) → AreStaged aliases text s from to ts
      → slice_get ts k ≡ Some last → (last.range.stop ≤ to) × AreStaged aliases text s from last.range.stop (take (suc k) ts)
  staged_take k s from to [] last is at = absurd (cc)
  staged_take zero s from to (t ∷ ts) last (first, rest) at =
      let same : t ≡ last = cc in (
        subst (λ (x : Token). x.range.stop ≤ to) same (staged-rises aliases text (after_token text s t) t.range.stop to ts rest),
        (first, ap (λ (x : Token). x.range.stop) same),
      )
  staged_take (suc k) s from to (t ∷ ts) last (first, rest) at =
      let more = staged_take k (after_token text s t) t.range.stop to ts last rest at in (more.0, (first, more.1))

  starts : (s : Stage) (from to : ℕ) (ts : List Token) (first : Token) → AreStaged aliases text s from to ts
      → slice_get ts 0 ≡ Some first → first.range.start ≡ from
  starts s from to [] first is at = absurd (cc)
  starts s from to (t ∷ ts) first (at_place, rest) at = let same : t ≡ first = cc in subst (λ (x : Token). x.range.start ≡ from) same at_place.0

  run_none : (ts : List Token) (n : ℕ) → RunsTo ts n → (s : Stage) → IsOn s → end_from text s (drop n ts) ≡ None
  run_none ts n runs s on = go runs.next
    where
      go : (m : ℕ) × (n ≤ m) × (m ≤ length ts) × AllWithin (λ t. is_proper t.kind ≡ false) ts n m
          × ((m < length ts) → (d : Token) → kinds.is_command (get_or ts m d).kind ≡ true) → end_from text s (drop n ts) ≡ None
      go (m, low, high, improper, command) =
          rest_none text (drop n ts) (m - n) (omega (arith, length-drop n ts, high, low))
          (λ i d lt. ap (λ (t : Token). is_proper t.kind) (get_or-drop n ts i d) ∙ improper (n + i) d (omega arith) (omega (arith, lt, low)))
          (λ lt d. ap (λ (t : Token). kinds.is_command t.kind) (get_or-drop n ts (m - n) d ∙ ap (λ j. get_or ts j d) (omega (arith, low)))
          ∙ command (omega (arith, lt, length-drop n ts, low)) d)
          s on

  found : (from to n : ℕ) (ts : List Token) (s : Span) → AreStaged aliases text Start from to ts → to ≤ length text
      → ((d : Token) → is_proper (get_or ts 0 d).kind ≡ true) → RunsTo ts n
      → (first last : Token) → slice_get ts 0 ≡ Some first → slice_get ts (n - 1) ≡ Some last
      → s.range.start ≡ first.range.start → s.range.stop ≡ last.range.stop → FirstCommand text aliases ts s.range
  found from to n [] s is le begins runs first last at end start stop = absurd (cc)
  found from to n (t ∷ ts) s is le begins runs first last at end start stop =
      let some = runs.some in
      let whole : suc (n - 1) ≡ n = omega (arith, some) in
      let cut = staged_take (n - 1) Start from to (t ∷ ts) last is end in
      let from_is : s.range.start ≡ from = start ∙ starts Start from to (t ∷ ts) first is at in
      record {
        before = [];
        first = t;
        others = take (n - 1) ts;
        rest = drop n (t ∷ ts);
        whole = sym (take-append-drop n (t ∷ ts)) ∙ ap (λ m. take m (t ∷ ts) ++ drop n (t ∷ ts)) (sym whole);
        improper = tt;
        begins = begins t;
        staged = subst (λ p. AreStaged aliases text Start p s.range.stop (t ∷ take (n - 1) ts)) (sym from_is)
            (subst (λ p. AreStaged aliases text Start from p (t ∷ take (n - 1) ts)) (sym stop) cut.1);
        within = omega (arith, stop, cut.0, le);
        none = run_none (t ∷ ts) n runs;
      }

  pub find_first : (from : ℕ) (ts : List Token) (spans : List Span) (r : Range) (rs : List Range) → AreStaged aliases text Start from (length text) ts
      → AreSpansOf ts spans → map (λ s. s.range) (filter (λ s. is_command s.kind) spans) ≡ r ∷ rs → FirstCommand text aliases ts r
  find_first from ts [] r rs is cut e = absurd (cc)
  find_first from ts (s ∷ ss) r rs is (n, span, (first, last, at, end, start, stop), rest) e =
      go s.kind span e (λ middle later is more. find_later later (find_first middle (drop n ts) ss r rs is rest more))
    where
      find_later : AllByRecursion IsImproper (take n ts) → FirstCommand text aliases (drop n ts) r → FirstCommand text aliases ts r
      find_later improper later = record {
        before = take n ts ++ later.before;
        first = later.first;
        others = later.others;
        rest = later.rest;
        whole = sym (take-append-drop n ts) ∙ ap (λ xs. take n ts ++ xs) later.whole ∙ sym (append_assoc (take n ts) later.before (later.first ∷ later.others ++ later.rest));
        improper = each-both IsImproper (take n ts) later.before improper later.improper;
        begins = later.begins;
        staged = later.staged;
        within = later.within;
        none = later.none;
      }

      go : (k : SpanKind) → IsSpan k ts n → map (λ s. s.range) (cond (is_command k) (s ∷ filter (λ s. is_command s.kind) ss) (filter (λ s. is_command s.kind) ss)) ≡ r ∷ rs
          → ((middle : ℕ) → AllByRecursion IsImproper (take n ts) → AreStaged aliases text Start middle (length text) (drop n ts)
          → map (λ s. s.range) (filter (λ s. is_command s.kind) ss) ≡ r ∷ rs → FirstCommand text aliases ts r)
          → FirstCommand text aliases ts r
      go Command span e later =
          let same : s.range ≡ r = cc in
          subst (FirstCommand text aliases ts) same
          (found from (length text) n ts s is (omega arith) (λ d. command-proper _ (span.0 d)) span.1 first last at end start stop)
      go Malformed span e later =
          let same : s.range ≡ r = cc in
          subst (FirstCommand text aliases ts) same
          (found from (length text) n ts s is (omega arith) span.1 span.2 first last at end start stop)
      go Ignored span e later =
          let improper = front_improper ts n span.2 span.1 in
          let next = staged_drop n from (length text) ts improper is in
          later next.0 improper next.1 e

-- The commands of a text with a command put in.
use Rattle.std.proofs.Common.{◌≡◌, ◌⊎◌, inl, inr, ℕ, zero, ◌+◌, false, List, [], ◌∷◌, ◌++◌, length, take, drop, map, Some, sym, refl, ap, ◌∙◌, subst, ⊎_elim}
use Rattle.std.specs.Prelude.{slice_get}
use Rattle.std.specs.List.{AllByRecursion}
use Rattle.std.proofs.lemmas.Bool.{both_ways}
use Rattle.std.proofs.lemmas.List.{length-map, map-append, take_at, drop_at}
use Rattle.pide_base.specs.declared.range.Range.{Range}
use Rattle.outer_syntax.specs.Lexing.{tokens_of}
use Rattle.outer_syntax.specs.Stages.{after_tokens, is_ended}
use Rattle.outer_syntax.specs.declared.stage.Stage.{Stage}
use Rattle.outer_syntax.specs.declared.stage.Stage.TheVariants.{Start, Ended as EndedStage, Absent}
use Rattle.outer_syntax.specs.declared.token.Token.{Token}
use Rattle.outer_syntax.proofs.KnownReading.{IsOn}
use Rattle.outer_syntax.proofs.KnownLexing.{AreStaged, are-tokens, tokens-staged}
use Rattle.command_spans.specs.Cutting.{spans_of}
use Rattle.buffer_rules.specs.Cuts.{command_ranges, source}
use Rattle.outer_syntax.specs.Reading.{empty_reading, header_in}
use Rattle.soundness_laws.specs.Insertion.{is_error, EndsWell, IsUnbroken, IsCommandText, sources_in}
use Rattle.soundness_laws.proofs.SpanLemmas.{ranges}
use Rattle.soundness_laws.proofs.CutLemmas.{Cut, cut-at}
use Rattle.soundness_laws.proofs.StagedLemmas.{staged-cut, ends-well, has-started, ended-or-on, restaged}
use Rattle.soundness_laws.proofs.InsideLemmas.{Inside, inside-ended, inside-on}
use Rattle.soundness_laws.proofs.BehindLemmas.{Behind, behind}
use Rattle.soundness_laws.proofs.InsertedTokens.{whole, added, kept-front, inserted-staged, inserted-tokens}
use Rattle.soundness_laws.proofs.HeaderLemmas.{waits-none, same-header, told-alike}
use Rattle.soundness_laws.proofs.ReadingLemmas.{reads-on}
use Rattle.soundness_laws.proofs.SpacedTokens.{Spaced}
use Rattle.soundness_laws.proofs.InsertedSources.{ranges-over, all-sources}

-- what becomes of a text
pub record Inserted (names : List (List ℕ)) (p q w : List ℕ) (k : ℕ) : Type 0 where
  pub sources : sources_in (whole names p q w) names ≡ take (k + 1) (sources_in (p ++ q) names) ++ w ∷ drop (k + 1) (sources_in (p ++ q) names)
  pub header : header_in (whole names p q w) ≡ header_in (p ++ q)

module _ (names : List (List ℕ)) (p q w : List ℕ) (k : ℕ) (r : Range) (size : length p ≡ r.stop) (unbroken : IsUnbroken (p ++ q) names r.stop)
    (c : Cut zero (tokens_of (p ++ q) names) k r) where
  all-staged : AreStaged names (p ++ q) Start 0 (length (p ++ q)) (c.front ++ c.back)
  all-staged =
      subst (AreStaged names (p ++ q) Start 0 (length (p ++ q))) c.is (tokens-staged (p ++ q) names (tokens_of (p ++ q) names) (are-tokens (p ++ q) names))

  s : Stage
  s = after_tokens (p ++ q) Start c.front

  parts : AreStaged names (p ++ q) Start 0 (length p) c.front × AreStaged names (p ++ q) s (length p) (length (p ++ q)) c.back
  unfolding s
  parts =
      subst (λ a. AreStaged names (p ++ q) Start 0 a c.front × AreStaged names (p ++ q) (after_tokens (p ++ q) Start c.front) a (length (p ++ q)) c.back) (c.last ∙ sym size)
      (staged-cut names (p ++ q) Start 0 (length (p ++ q)) c.front c.back c.ends all-staged)

  well : EndsWell c.front
  well = ends-well c.front c.back r.stop c.ends c.last (subst (AllByRecursion (λ t. t.range.stop ≡ r.stop → is_error t.kind ≡ false)) c.is unbroken)

  later : Behind names p q s c.back
  later = behind names p q s c.back c.waits parts.1

  old : sources_in (p ++ q) names ≡ map (source (p ++ q)) (ranges (spans_of c.front)) ++ map (source (p ++ q)) (ranges (spans_of c.back))
  old =
      ap (λ ts. map (source (p ++ q)) (ranges (spans_of ts))) c.is
      ∙ ap (map (source (p ++ q))) (ranges-over c.front c.back c.ends c.waits) ∙ map-append (source (p ++ q)) (ranges (spans_of c.front)) (ranges (spans_of c.back))

  count : length (map (source (p ++ q)) (ranges (spans_of c.front))) ≡ k + 1
  count = length-map (ranges (spans_of c.front)) (source (p ++ q)) ∙ c.count

  first : take (k + 1) (sources_in (p ++ q) names) ≡ map (source (p ++ q)) (ranges (spans_of c.front))
  first = ap (take (k + 1)) old ∙ take_at _ _ (k + 1) count

  rest : drop (k + 1) (sources_in (p ++ q) names) ≡ map (source (p ++ q)) (ranges (spans_of c.back))
  rest = ap (drop (k + 1)) old ∙ drop_at _ _ (k + 1) count

  -- where the inside and what follows are read from a stage on
  module _ (next : Stage) (in_it : Inside names w q s next) (is : AreStaged names (p ++ q) next (length p + later.n) (length (p ++ q)) later.rest) where
    finished : (s ≡ EndedStage) ⊎ IsOn s → Inserted names p q w k
    unfolding s
    finished which = record {
      sources =
          ap (λ ts. map (source (whole names p q w)) (ranges (spans_of ts))) (sym (inserted-tokens names p q w s next c.back in_it later c.front parts.0 well refl is))
          ∙ all-sources names p q w s next c.front c.back c.ends c.waits parts.0 parts.1 in_it later
          ∙ (λ i. sym first i ++ w ∷ sym rest i);
      header =
          told-alike reads-on names (whole names p q w) empty_reading (c.front ++ more) refl (inserted-staged names p q w s next c.back in_it later c.front parts.0 well refl is)
          ∙ same-header reads-on (whole names p q w) (p ++ q) empty_reading c.front more c.back
          kept.texts refl
          (λ read goes at. ⊎_elim
          (λ (ended : s ≡ EndedStage). absurd (both_ways (is_ended read.stage) goes (ap is_ended (at ∙ kept.after ∙ ended))))
          (λ (on : IsOn s).
          let here : IsOn read.stage = subst IsOn (sym (at ∙ kept.after)) on in
          waits-none reads-on (whole names p q w) read more here (inr (refl, inl in_it.begins)) ∙ sym (waits-none reads-on (p ++ q) read c.back here c.waits))
          which)
          ∙ sym (told-alike reads-on names (p ++ q) empty_reading (c.front ++ c.back) refl
          all-staged);
    } where
      more : List Token
      more = added names p q w s next c.back in_it later

      kept : Spaced names p q (w ++ 32 ∷ q) Start 0 c.front
      kept = kept-front names p q w s next c.back in_it later c.front parts.0 well refl is

  came : IsCommandText names w → IsCommandText [] w → (s ≡ EndedStage) ⊎ IsOn s → Inserted names p q w k
  came one bare (inl ended) = finished s (subst (λ x. Inside names w q x x) (sym ended) (inside-ended names w q one)) later.staged (inl ended)
  came one bare (inr on) =
      finished Absent (inside-on names w q s on bare) (restaged names (p ++ q) s (length p + later.n) (length (p ++ q)) later.rest on later.waits later.staged) (inr on)

  all_comes : IsCommandText names w → IsCommandText [] w → Inserted names p q w k
  unfolding s
  all_comes one bare = came one bare (ended-or-on (after_tokens (p ++ q) Start c.front) (has-started (p ++ q) Start c.front c.ends))

pub inserted : (names : List (List ℕ)) (p q w : List ℕ) (k : ℕ) (r : Range) → slice_get (command_ranges (p ++ q) names) k ≡ Some r → length p ≡ r.stop
    → IsUnbroken (p ++ q) names r.stop → IsCommandText names w → IsCommandText [] w → Inserted names p q w k
inserted names p q w k r found size unbroken one bare =
    let c : Cut zero (tokens_of (p ++ q) names) k r = cut-at zero (tokens_of (p ++ q) names) k r found in
    all_comes names p q w k r size unbroken c one bare

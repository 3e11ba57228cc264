-- Where a header ends, token by token.
use Rattle.std.proofs.Common.{◌≡◌, ℕ, zero, suc, ◌<◌, ◌≤◌, Bool, true, false, List, [], ◌∷◌, ◌++◌, length, get_or, Some, None, refl, ap, ◌∙◌, arith}
use Rattle.std.specs.Prelude.{if◌then◌else◌}
use Rattle.std.specs.List.{AllByRecursion}
use Rattle.outer_syntax.specs.Kinds.{is_proper, is_command}
use Rattle.outer_syntax.specs.Stages.{after_word, after_token, is_ended, end_from}
use Rattle.outer_syntax.specs.Tokens.{text_of}
use Rattle.outer_syntax.specs.declared.stage.Stage.{Stage}
use Rattle.outer_syntax.specs.declared.stage.Stage.TheVariants.{Start, Absent}
use Rattle.outer_syntax.specs.declared.token.Token.{Token}
use Rattle.outer_syntax.proofs.KnownReading.{is_start, started, IsOn, no-header, absent-stays}

module _ (text : List ℕ) where
  -- an improper token changes nothing
  pub improper_stays : (t : Token) (s : Stage) → is_proper t.kind ≡ false → after_token text s t ≡ s
  improper_stays t s e = ap (λ b. if b then after_word s (t.kind, text_of text t) else s) e

  pub skip_one : (t : Token) (s : Stage) (ts : List Token) → is_proper t.kind ≡ false → is_ended s ≡ false
      → end_from text s (t ∷ ts) ≡ end_from text s ts
  skip_one t s ts e on = ap (λ (q : Stage). if is_ended q then Some t.range.stop else end_from text q ts) (improper_stays t s e)
      ∙ ap (λ b. if b then Some t.range.stop else end_from text s ts) on

  pub skip : (s : Stage) (ts rest : List Token) → AllByRecursion (λ t. is_proper t.kind ≡ false) ts → is_ended s ≡ false
      → end_from text s (ts ++ rest) ≡ end_from text s rest
  skip s [] rest all on = refl
  skip s (t ∷ ts) rest all on = skip_one t s (ts ++ rest) all.0 on ∙ skip s ts rest all.1 on

  absent_none : (ts : List Token) → end_from text Absent ts ≡ None
  absent_none [] = refl
  absent_none (t ∷ ts) =
      ap (λ s. if is_ended s then Some t.range.stop else end_from text s ts) (absent-stays text t) ∙ absent_none ts

  command_ends : (c : Token) (s : Stage) (ts : List Token) → is_command c.kind ≡ true → IsOn s → end_from text s (c ∷ ts) ≡ None
  command_ends c s ts e on =
      ap (λ q. if is_ended q then Some c.range.stop else end_from text q ts) (no-header text s c on e) ∙ absent_none ts

  -- improper tokens, and then a command or the end: no header ends there
  pub rest_none : (ts : List Token) (k : ℕ) → k ≤ length ts → ((i : ℕ) (d : Token) → i < k → is_proper (get_or ts i d).kind ≡ false)
      → (k < length ts → (d : Token) → is_command (get_or ts k d).kind ≡ true) → (s : Stage) → IsOn s → end_from text s ts ≡ None
  rest_none [] k le improper command s on = refl
  rest_none (t ∷ ts) zero le improper command s on = command_ends t s ts (command (omega arith) t) on
  rest_none (t ∷ ts) (suc k) le improper command s on =
      skip_one t s ts (improper zero t (omega arith)) on.no_end
      ∙ rest_none ts k (omega arith) (λ i d lt. improper (suc i) d (omega arith)) (λ lt d. command (omega arith) d) s on

  next_on : (t : Token) (s : Stage) → is_start s ≡ false → is_start (after_token text s t) ≡ false
  next_on t s on = go (is_proper t.kind)
    where
      go : (b : Bool) → is_start (if b then after_word s (t.kind, text_of text t) else s) ≡ false
      go true = started s (t.kind, text_of text t)
      go false = on

  -- what ends no header behind some tokens changes nothing of what they tell
  pub keep : (ts rest : List Token) (s : Stage) → IsOn s → ((q : Stage) → IsOn q → end_from text q rest ≡ None)
      → end_from text s (ts ++ rest) ≡ end_from text s ts
  keep [] rest s on none = none s on
  keep (t ∷ ts) rest s on none =
      go (is_ended (after_token text s t)) refl (λ e. keep ts rest (after_token text s t) (record { no_start = next_on t s on.no_start; no_end = e }) none)
    where
      go : (b : Bool) → is_ended (after_token text s t) ≡ b
          → (is_ended (after_token text s t) ≡ false → end_from text (after_token text s t) (ts ++ rest) ≡ end_from text (after_token text s t) ts)
          → (if b then Some t.range.stop else end_from text (after_token text s t) (ts ++ rest))
          ≡ (if b then Some t.range.stop else end_from text (after_token text s t) ts)
      go true e more = refl
      go false e more = more e

  -- so where the first of them is proper
  pub keep_all : (t : Token) (ts rest : List Token) → is_proper t.kind ≡ true → ((q : Stage) → IsOn q → end_from text q rest ≡ None)
      → end_from text Start (t ∷ ts ++ rest) ≡ end_from text Start (t ∷ ts)
  keep_all t ts rest proper none =
      go (is_ended (after_token text Start t)) refl (λ e. keep ts rest (after_token text Start t) (record { no_start = begun; no_end = e }) none)
    where
      begun : is_start (after_token text Start t) ≡ false
      begun = ap (λ b. is_start (if b then after_word Start (t.kind, text_of text t) else Start)) proper ∙ started Start (t.kind, text_of text t)

      go : (b : Bool) → is_ended (after_token text Start t) ≡ b
          → (is_ended (after_token text Start t) ≡ false → end_from text (after_token text Start t) (ts ++ rest) ≡ end_from text (after_token text Start t) ts)
          → (if b then Some t.range.stop else end_from text (after_token text Start t) (ts ++ rest))
          ≡ (if b then Some t.range.stop else end_from text (after_token text Start t) ts)
      go true e more = refl
      go false e more = more e

-- While a header is read: that its reading has begun, what a command ends, and what no token changes.
use Rattle.std.proofs.Common.{◌≡◌, ℕ, Bool, true, false, List, refl, ◌∙◌}
use Rattle.std.specs.Prelude.{◌&&◌, codes, if◌then◌else◌}
use Rattle.outer_syntax.specs.Headings.{Word}
use Rattle.outer_syntax.specs.Kinds.{is_proper, is_command, is_name, is_sym, is_string}
use Rattle.outer_syntax.specs.Stages.{is_this_keyword, after_imports, after_word, after_token, is_ended}
use Rattle.outer_syntax.specs.Tokens.{text_of}
use Rattle.outer_syntax.specs.Words.{same}
use Rattle.outer_syntax.specs.declared.kind.Kind.TheVariants as kind
use Rattle.outer_syntax.specs.declared.stage.Stage.{Stage}
use Rattle.outer_syntax.specs.declared.stage.Stage.TheVariants.{Start, Theory, Name, Imports, Import, Keywords, PairName, Equals, Pair, Ended, Absent}
use Rattle.outer_syntax.specs.declared.token.Token.{Token}
use Rattle.outer_syntax.proofs.KnownStages.{kind-command}

-- nothing of a header has been read
abbrev pub is_start : Stage → Bool
is_start Start = true
is_start _ = false

either : (b : Bool) (x y : Stage) → is_start x ≡ false → is_start y ≡ false → is_start (if b then x else y) ≡ false
either true x y one other = one
either false x y one other = other

over-imports : (w : Word) → is_start (after_imports w) ≡ false
over-imports w =
    let end : Stage = if is_this_keyword (codes "begin") w then Ended else Absent in
    either (is_this_keyword (codes "keywords") w) Keywords end refl (either (is_this_keyword (codes "begin") w) Ended Absent refl refl)

-- behind a word the reading has begun
pub started : (s : Stage) (w : Word) → is_start (after_word s w) ≡ false
started Start w = either (is_command w.0 && same w.1 (codes "theory")) Theory Absent refl refl
started Theory w = either (is_name w.0) Name Absent refl refl
started Name w = either (is_this_keyword (codes "imports") w) Imports (after_imports w) refl (over-imports w)
started Imports w = either (is_name w.0) Import Absent refl refl
started Import w = either (is_name w.0) Import (after_imports w) refl (over-imports w)
started Keywords w = either (is_name w.0) PairName Absent refl refl
started PairName w = either (is_sym w.0 && same w.1 (codes "=")) Equals Absent refl refl
started Equals w = either (is_string w.0) Pair Absent refl refl
started Pair w =
    let end : Stage = if is_this_keyword (codes "begin") w then Ended else Absent in
    either (is_name w.0) PairName end refl (either (is_this_keyword (codes "begin") w) Ended Absent refl refl)
started Ended w = refl
started Absent w = refl

-- a header is being read, or there is none
pub record IsOn (s : Stage) : Type 0 where
  pub no_start : is_start s ≡ false
  pub no_end : is_ended s ≡ false

at-command : (s : Stage) (x : List ℕ) → IsOn s → after_word s (kind.Command, x) ≡ Absent
at-command Start x on = absurd (cc (on.no_start))
at-command Theory x on = refl
at-command Name x on = refl
at-command Imports x on = refl
at-command Import x on = refl
at-command Keywords x on = refl
at-command PairName x on = refl
at-command Equals x on = refl
at-command Pair x on = refl
at-command Ended x on = absurd (cc (on.no_end))
at-command Absent x on = refl

-- a command before the header's end says that there is none
pub no-header : (text : List ℕ) (s : Stage) (t : Token) → IsOn s → is_command t.kind ≡ true → after_token text s t ≡ Absent
no-header text s t on command =
    let is : t.kind ≡ kind.Command = kind-command t.kind command in
    (λ i. if is_proper (is i) then after_word s (is i, text_of text t) else s) ∙ at-command s (text_of text t) on

same-if : (b : Bool) (s : Stage) → (if b then s else s) ≡ s
same-if true s = refl
same-if false s = refl

-- nothing changes a stage at which the header has ended, or the text has none
pub ended-stays : (text : List ℕ) (t : Token) → after_token text Ended t ≡ Ended
ended-stays text t = same-if (is_proper t.kind) Ended

pub absent-stays : (text : List ℕ) (t : Token) → after_token text Absent t ≡ Absent
absent-stays text t = same-if (is_proper t.kind) Absent

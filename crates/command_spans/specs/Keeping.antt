-- What stays of tokens where a text is edited or read under other names (this project's own).
use Rattle.std.specs.Prelude.{◌≡◌, ◌⊎◌, ℕ, ◌-◌, ◌<◌, ◌≤◌, List, [], ◌∷◌, length, take, drop, map, IsTrue}
use Rattle.std.specs.List.{AllWithin, AllZip}
use Rattle.outer_syntax.specs.Words.{is_in_force}
use Rattle.text_edits.specs.declared.edit.Edit.{Edit}
use Rattle.text_edits.specs.Edits.{Applies}
use Rattle.outer_syntax.specs.Stages.{after_token, after_tokens, given}
use Rattle.outer_syntax.specs.Renaming.{is_word, renamed}
use Rattle.outer_syntax.specs.declared.stage.Stage.{Stage}
use Rattle.outer_syntax.specs.declared.stage.Stage.TheVariants.{Start}
use Rattle.outer_syntax.specs.declared.token.Token.{Token}
use Rattle.command_spans.specs.CutTexts.{Cuts, AreCutsOf}
use Rattle.command_spans.specs.Reparsing.{moved}

-- the token, moved by the edit
abbrev pub moved_token : ℕ → ℕ → Token → Token
moved_token old_end new_end t = record t {
  range = record {
    start = moved old_end new_end t.range.start;
    stop = moved old_end new_end t.range.stop;
  };
}

-- the same token, but that a word may be a command under the names of one of them alone
abbrev pub IsKept : Token → Token → Type 0
IsKept t u = (t.range ≡ u.range)
    × ((t.kind ≡ u.kind) ⊎ (IsTrue (is_word t.kind) × IsTrue (is_word u.kind)))

-- the first `front` new tokens are old ones, and the last `back`, which the edit moved
pub record KeepsTokens (old_end new_end front back : ℕ) (old new : List Token) : Type 0 where
  pub first : AllZip IsKept (take front old) (take front new)
  pub last : AllZip IsKept (map (moved_token old_end new_end) (drop (length old - back) old))
      (drop (length new - back) new)

-- two texts that are the same before a start, and from an old end and a new end on
pub record IsChange (start old_end new_end : ℕ) (old new : List ℕ) : Type 0 where
  pub first : take start old ≡ take start new
  pub last : drop old_end old ≡ drop new_end new
  pub old_order : (start ≤ old_end) × (old_end ≤ length old)
  pub new_order : (start ≤ new_end) × (new_end ≤ length new)

-- the tokens, with the kinds that they have from a stage of the text's header on
abbrev pub restaged : List (List ℕ) → List ℕ → Stage → List Token → List Token
restaged aliases text stage [] = []
restaged aliases text stage (t ∷ ts) = renamed (is_in_force (given stage aliases)) text t
    ∷ restaged aliases text
    (after_token text stage (renamed (is_in_force (given stage aliases)) text t)) ts

-- the first n tokens begin before the place
abbrev pub ArePassed : ℕ → List Token → ℕ → Type 0
ArePassed place tokens n =
    (n ≤ length tokens) × AllWithin (λ t. t.range.start < place) tokens 0 n

-- a text that an edit made of one that was cut so, and had this length; how far its header had been
-- read before each token from a number on
pub record IsEdited (edit : Edit) (old : Cuts) (len read : ℕ) (stage : Stage)
    (new : List ℕ) : Type 0 where
  pub text : List ℕ
  pub applied : Applies edit text new
  pub are_cuts : AreCutsOf text old
  pub len_is : len ≡ length text
  pub read_is : (n : ℕ) → read ≤ n → after_tokens text Start (take n old.tokens) ≡ stage

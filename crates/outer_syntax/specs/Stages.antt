-- How far a header has been read, word by word (this project's own).
use Rattle.std.specs.Prelude.{ℕ, ◌&&◌, Bool, true, false, if◌then◌else◌, List, [], ◌∷◌, Option, None, Some, codes}
use Rattle.outer_syntax.specs.Kinds.{is_proper, is_command, is_keyword, is_name, is_sym, is_string}
use Rattle.outer_syntax.specs.Words.{same}
use Rattle.outer_syntax.specs.Tokens.{text_of}
use Rattle.outer_syntax.specs.Headings.{Word}
use Rattle.outer_syntax.specs.declared.stage.Stage.{Stage}
use Rattle.outer_syntax.specs.declared.stage.Stage.TheVariants.{Start, Theory, Name, Imports, Import, Keywords, PairName, Equals, Pair, Ended, Absent}
use Rattle.outer_syntax.specs.declared.token.Token.{Token}

-- the word is this minor keyword
abbrev pub is_this_keyword : List ℕ → Word → Bool
is_this_keyword name w = is_keyword w.0 && same w.1 name

-- the header goes on with its pairs, or ends
abbrev pub after_imports : Word → Stage
after_imports w = if is_this_keyword (codes "keywords") w then Keywords
    else (if is_this_keyword (codes "begin") w then Ended else Absent)

-- how far a header has been read after one word more, told by what was read last
abbrev pub after_word : Stage → Word → Stage
after_word Start w = if is_command w.0 && same w.1 (codes "theory") then Theory else Absent
after_word Theory w = if is_name w.0 then Name else Absent
after_word Name w = if is_this_keyword (codes "imports") w then Imports else after_imports w
after_word Imports w = if is_name w.0 then Import else Absent
after_word Import w = if is_name w.0 then Import else after_imports w
after_word Keywords w = if is_name w.0 then PairName else Absent
after_word PairName w = if is_sym w.0 && same w.1 (codes "=") then Equals else Absent
after_word Equals w = if is_string w.0 then Pair else Absent
after_word Pair w = if is_name w.0 then PairName
    else (if is_this_keyword (codes "begin") w then Ended else Absent)
after_word Ended w = Ended
after_word Absent w = Absent

-- the header has been read to its end
abbrev pub is_ended : Stage → Bool
is_ended Ended = true
is_ended _ = false

-- how far a header has been read after one token more: improper ones don't count
abbrev pub after_token : List ℕ → Stage → Token → Stage
after_token text stage t =
    if is_proper t.kind then after_word stage (t.kind, text_of text t) else stage

-- how far a header has been read after the tokens
abbrev pub after_tokens : List ℕ → Stage → List Token → Stage
after_tokens text stage [] = stage
after_tokens text stage (t ∷ ts) = after_tokens text (after_token text stage t) ts

-- the aliases in force after what has been read: all where the header has ended, else none
abbrev pub given : Stage → List (List ℕ) → List (List ℕ)
given Ended aliases = aliases
given _ aliases = []

-- where the header ends that goes on with these tokens
abbrev pub end_from : List ℕ → Stage → List Token → Option ℕ
end_from text stage [] = None
end_from text stage (t ∷ ts) = if is_ended (after_token text stage t) then Some t.range.stop
    else end_from text (after_token text stage t) ts

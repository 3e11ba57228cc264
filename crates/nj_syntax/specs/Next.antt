-- What stands next in a text is the first of its tokens, or where they stop.
use Rattle.std.specs.Prelude.{◌<◌, ◌≤◌, ℕ, true, false, List, [], length, ⊤}
use Rattle.nj_syntax.specs.declared.token.Next.{Next}
use Rattle.nj_syntax.specs.Tokens.{Cut, placed_before, cut_from}

-- the tokens of the text from a place on, by what stands next there
abbrev pub cut_by : List ℕ → Next → Cut
cut_by text (Next.Token t behind) = placed_before t (cut_from behind text)
cut_by text (Next.Stray at) = record { tokens = []; stop = at; whole = false }
cut_by text Next.End = record { tokens = []; stop = length text; whole = true }

-- the place behind a token lies behind the place from which on it was looked for
abbrev pub IsBehind : List ℕ → ℕ → Next → Type 0
IsBehind text from (Next.Token t behind) = (from < behind) × (behind ≤ length text)
IsBehind text from (Next.Stray at) = ⊤
IsBehind text from Next.End = ⊤

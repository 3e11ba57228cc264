-- What the tokens of a source are to a proof term (this project's own).
use Rattle.std.specs.Prelude.{ℕ, Bool, ◌==◌, if◌then◌else◌, nat_lt, List, [], ◌∷◌, map}
use Rattle.std.specs.List.{list_all}
use Rattle.pide_base.specs.declared.range.Range.{Range}
use Rattle.outer_syntax.specs.Contents.{content_of}
use Rattle.outer_syntax.specs.Tokens.{text_of}
use Rattle.outer_syntax.specs.declared.kind.Kind.{Kind}
use Rattle.outer_syntax.specs.declared.kind.Kind.TheVariants.{Ident, LongIdent, String, Cartouche, Sym}
use Rattle.outer_syntax.specs.declared.token.Token.{Token}
use Rattle.proof_terms.specs.declared.mark.Mark.{Mark}
use Rattle.proof_terms.specs.declared.mark.Mark.TheVariants.{Opens, Closes, Name, Long, Quoted, Other}

-- all scalars are ASCII, as those of each identifier
abbrev pub is_ascii : List ℕ → Bool
is_ascii s = list_all (λ c. nat_lt c 128) s

-- a parenthesis, or another scalar
abbrev pub sign : List ℕ → Mark
sign (c ∷ []) = if c == 40 then Opens else (if c == 41 then Closes else Other)
sign _ = Other

-- a token of this kind and these scalars, which stands there
abbrev pub mark : Kind → List ℕ → Range → Mark
mark Ident s place = if is_ascii s then Name (record { name = s; range = place }) else Other
mark LongIdent s place = if is_ascii s then Long (record { name = s; range = place }) else Other
mark String s place = Quoted (content_of String s)
mark Cartouche s place = Quoted (content_of Cartouche s)
mark Sym s place = sign s
mark _ s place = Other

-- a token of the source
abbrev pub mark_of : List ℕ → Token → Mark
mark_of source t = mark t.kind (text_of source t) t.range

-- tokens of the source
abbrev pub marks : List ℕ → List Token → List Mark
marks source tokens = map (mark_of source) tokens

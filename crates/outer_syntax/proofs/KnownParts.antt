-- What has been read of a header at each stage.
use Rattle.std.proofs.Common.{◌≡◌, ℕ, ◌<◌, List, [], ◌∷◌, ◌++◌, length}
use Rattle.std.specs.Prelude.{codes}
use Rattle.outer_syntax.specs.Headings.{Heading, Word, flat_pairs, import_words, pair_words, words_of}
use Rattle.outer_syntax.specs.declared.kind.Kind.TheVariants as kind
use Rattle.outer_syntax.specs.declared.stage.Stage.{Stage}
use Rattle.outer_syntax.specs.declared.stage.Stage.TheVariants.{Start, Theory, Name, Imports, Import, Keywords, PairName, Equals, Pair, Ended, Absent}

-- what a header tells as far as it has been read, and the name of a pair that isn't read to its end
abbrev pub Parts : Type 0
Parts = Heading × List ℕ

-- what it tells with the word by which it comes to the stage
abbrev pub collect : Stage → List ℕ → Parts → Parts
collect Name x p = (record p.0 { name = x }, p.1)
collect Import x p = (record p.0 { imports = p.0.imports ++ x ∷ [] }, p.1)
collect PairName x p = (p.0, x)
collect Pair x p = (record p.0 { pairs = p.0.pairs ++ (p.1, x) ∷ [] }, [])
collect _ x p = p

-- `theory`, the name and the imports
abbrev pub front : Heading → List Word
front h = (kind.Command, codes "theory") ∷ (kind.Ident, h.name) ∷ import_words h.imports

-- these, and the pairs that have been read
abbrev pub paired : Heading → List Word
paired h = front h ++ (kind.Keyword, codes "keywords") ∷ flat_pairs h.pairs

-- the words that have been read
abbrev pub spelled : Stage → Parts → List Word
spelled Start p = []
spelled Theory p = (kind.Command, codes "theory") ∷ []
spelled Name p = front p.0
spelled Imports p = front p.0 ++ (kind.Keyword, codes "imports") ∷ []
spelled Import p = front p.0
spelled Keywords p = front p.0 ++ (kind.Keyword, codes "keywords") ∷ []
spelled PairName p = paired p.0 ++ (kind.Ident, p.1) ∷ []
spelled Equals p = paired p.0 ++ (kind.Ident, p.1) ∷ (kind.Sym, codes "=") ∷ []
spelled Pair p = front p.0 ++ pair_words p.0.pairs
spelled Ended p = words_of p.0
spelled Absent p = []

-- which lists are empty yet
abbrev pub Fits : Stage → Heading → Type 0
Fits Import h = (0 < length h.imports) × (h.pairs ≡ [])
Fits Keywords h = h.pairs ≡ []
Fits PairName h = Unit {0}
Fits Equals h = Unit {0}
Fits Pair h = 0 < length h.pairs
Fits Ended h = Unit {0}
Fits Absent h = Unit {0}
Fits _ h = (h.imports ≡ []) × (h.pairs ≡ [])

-- the words read so far tell these parts at this stage
abbrev pub Sofar : Stage → Parts → List Word → Type 0
Sofar Absent p ws = Unit {0}
Sofar s p ws = Fits s p.0 × (ws ≡ spelled s p)

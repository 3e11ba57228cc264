-- The names and formulas of a command's shape stand on its tokens.
use Rattle.std.proofs.Common.{ℕ, zero, suc, Bool, true, false, if◌then◌else◌, List, [], ◌∷◌, length, map, take, drop, Option, Some, None}
use Rattle.std.specs.Bool.{⊤}
use Rattle.std.specs.List.{AllByRecursion}
use Rattle.std.specs.Option.{option_and_then}
use Rattle.pide_base.specs.declared.range.Range.{Range}
use Rattle.outer_syntax.specs.Kinds.{is_command}
use Rattle.outer_syntax.specs.Tokens.{text_of}
use Rattle.outer_syntax.specs.declared.kind.Kind.{Kind}
use Rattle.outer_syntax.specs.declared.kind.Kind.TheVariants as kind
use Rattle.outer_syntax.specs.declared.token.Token.{Token}
use Rattle.doc_nodes.specs.Names.{equal}
use Rattle.outer_syntax.specs.Reading.{header_in}
use Rattle.outer_syntax.specs.declared.parts.Header.{Header}
use Rattle.doc_nodes.specs.Needs.{AliasList, meant, needs}
use Rattle.std.specs.Prelude.{codes}
use Rattle.isar_rules.specs.declared.shape.Shape.{Shape}
use Rattle.isar_rules.specs.declared.shape.Shape.TheVariants as shape
use Rattle.isar_rules.specs.declared.shape.Spot.{Spot}
use Rattle.isar_rules.specs.declared.verb.Verb.{Verb}
use Rattle.isar_rules.specs.declared.verb.Verb.TheVariants as verb
use Rattle.isar_rules.specs.Verbs.{verb_of}
use Rattle.isar_rules.specs.Words.{Word, name, quoted, colon, dash, other, word, words, spot_of}
use Rattle.isar_rules.specs.Shapes.{worded, is_header, headed, header_shape, load_shape, shape_by, shape_of}

-- of a spot that may be absent
abbrev pub IfSpot : (Range → Type 0) → Option Spot → Type 0
IfSpot P None = ⊤
IfSpot P (Some s) = P s.range

abbrev pub SpotsAre : (Range → Type 0) → Shape → Type 0
SpotsAre P (shape.Theory n imports) = P n.range × AllByRecursion (λ s. P s.range) imports
SpotsAre P (shape.Axiom n f) = P n.range × P f.range
SpotsAre P (shape.Lemma n f) = P n.range × P f.range
SpotsAre P (shape.Load n) = P n.range
SpotsAre P (shape.Fix n) = P n.range
SpotsAre P (shape.Assume n f) = IfSpot P n × P f.range
SpotsAre P (shape.Have n f) = IfSpot P n × P f.range
SpotsAre P (shape.Show f) = P f.range
SpotsAre P _ = ⊤

abbrev pub IfShape : (Range → Type 0) → Option Shape → Type 0
IfShape P None = ⊤
IfShape P (Some s) = SpotsAre P s

module _ (P : Range → Type 0) where
  WordIs : Word → Type 0
  WordIs (name s) = P s.range
  WordIs (quoted s) = P s.range
  WordIs _ = ⊤

  word-is : (source : List ℕ) (k : Kind) (text : List ℕ) (r : Range) → P r → WordIs (word k text r)
  unfolding WordIs
  word-is source kind.Ident text r p = p
  word-is source kind.String text r p = p
  word-is source kind.Cartouche text r p = p
  word-is source kind.Sym text r p = go (equal text (codes ":")) (equal text (codes "-"))
    where
      go : (b c : Bool) → WordIs (if b then colon else (if c then dash else other))
      go true c = tt
      go false true = tt
      go false false = tt
  word-is source _ text r p = tt

  words-are : (source : List ℕ) (ts : List Token) → AllByRecursion (λ t. P t.range) ts → AllByRecursion WordIs (words source ts)
  words-are source [] all = tt
  words-are source (t ∷ ts) all = (word-is source t.kind (text_of source t) t.range all.0, words-are source ts all.1)

  worded-is : (v : Verb) (ws : List Word) → AllByRecursion WordIs ws → IfShape P (worded v ws)
  unfolding WordIs
  worded-is verb.End [] all = tt
  worded-is verb.Axiom (name n ∷ colon ∷ quoted f ∷ []) all = (all.0, all.1.1.0)
  worded-is verb.Lemma (name n ∷ colon ∷ quoted f ∷ []) all = (all.0, all.1.1.0)
  worded-is verb.Proof [] all = tt
  worded-is verb.Proof (dash ∷ []) all = tt
  worded-is verb.Fix (name n ∷ []) all = all.0
  worded-is verb.Assume (quoted f ∷ []) all = (tt, all.0)
  worded-is verb.Assume (name n ∷ colon ∷ quoted f ∷ []) all = (all.0, all.1.1.0)
  worded-is verb.Have (quoted f ∷ []) all = (tt, all.0)
  worded-is verb.Have (name n ∷ colon ∷ quoted f ∷ []) all = (all.0, all.1.1.0)
  worded-is verb.Show (quoted f ∷ []) all = all.0
  worded-is verb.Next [] all = tt
  worded-is verb.Qed [] all = tt
  worded-is verb.By more all = tt
  worded-is _ _ all = tt

  dropped : (n : ℕ) (ts : List Token) → AllByRecursion (λ t. P t.range) ts → AllByRecursion (λ t. P t.range) (drop n ts)
  dropped zero ts all = all
  dropped (suc n) [] all = tt
  dropped (suc n) (t ∷ ts) all = dropped n ts all.1

  spots-are : (source : List ℕ) (n : ℕ) (ts : List Token) → AllByRecursion (λ t. P t.range) ts → AllByRecursion (λ s. P s.range) (map (spot_of source) (take n ts))
  spots-are source zero ts all = tt
  spots-are source (suc n) [] all = tt
  spots-are source (suc n) (t ∷ ts) all = (all.0, spots-are source n ts all.1)

  headed-is : (source : List ℕ) (count : ℕ) (ts : List Token) → AllByRecursion (λ t. P t.range) ts → IfShape P (headed source count ts)
  headed-is source count [] all = tt
  headed-is source count (first ∷ []) all = tt
  headed-is source count (first ∷ n ∷ more) all = (all.1.0, spots-are source count (drop 1 more) (dropped 1 more all.1.1))

  header-is : (source : List ℕ) (ts : List Token) → AllByRecursion (λ t. P t.range) ts → IfShape P (header_shape source ts)
  header-is source ts all = go (is_header source ts) (header_in source)
    where
      go : (b : Bool) (h : Option Header) → IfShape P (if b then option_and_then (λ h. headed source (length h.imports) ts) h else None)
      go true None = tt
      go true (Some h) = headed-is source (length h.imports) ts all
      go false h = tt

  load-is : (source : List ℕ) (ts : List Token) (asked : Option (List ℕ)) → AllByRecursion (λ t. P t.range) ts → IfShape P (load_shape source ts asked)
  load-is source [] asked all = tt
  load-is source (first ∷ []) asked all = tt
  load-is source (first ∷ blob ∷ more) None all = tt
  load-is source (first ∷ blob ∷ more) (Some asked) all = all.1.0

  shape-by-is : (aliases : AliasList) (source : List ℕ) (ts : List Token) (v : Verb) → AllByRecursion (λ t. P t.range) ts → IfShape P (shape_by aliases source ts v)
  shape-by-is aliases source ts verb.Theory all = header-is source ts all
  shape-by-is aliases source ts verb.Load all = load-is source ts (needs source aliases) all
  shape-by-is aliases source ts v all = worded-is v (words source (drop 1 ts)) (words-are source (drop 1 ts) (dropped 1 ts all))

  pub shape-is : (aliases : AliasList) (source : List ℕ) (ts : List Token) → AllByRecursion (λ t. P t.range) ts → IfShape P (shape_of aliases source ts)
  shape-is aliases source [] all = tt
  shape-is aliases source (t ∷ ts) all = go (is_command t.kind) (verb_of (meant aliases (text_of source t)))
    where
      go : (b : Bool) (v : Option Verb) → IfShape P (if b then option_and_then (shape_by aliases source (t ∷ ts)) v else None)
      go true None = tt
      go true (Some v) = shape-by-is aliases source (t ∷ ts) v all
      go false v = tt

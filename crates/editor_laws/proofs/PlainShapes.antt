-- The names in a command's shape are plain.
use Rattle.std.proofs.Common.{◌≡◌, ℕ, Bool, true, false, cond, List, [], ◌∷◌, drop, Option, Some}
use Rattle.std.proofs.Common.{None, IfSome, refl}
use Rattle.std.specs.Prelude.{⊤}
use Rattle.std.specs.List.{AllByRecursion}
use Rattle.std.specs.Option.{option_and_then}
use Rattle.std.proofs.lemmas.Bool.{and_parts}
use Rattle.text_words.specs.Identifier.{is_identifier}
use Rattle.pide_base.specs.NodeName.{is_node_name}
use Rattle.outer_syntax.specs.Contents.{content_of}
use Rattle.outer_syntax.specs.Kinds.{is_command}
use Rattle.outer_syntax.specs.Tokens.{text_of}
use Rattle.outer_syntax.specs.declared.token.Token.{Token}
use Rattle.doc_nodes.specs.Needs.{AliasList, meant, needs, named_by, just_two, asked_by}
use Rattle.doc_nodes.specs.Needs.{source_tokens}
use Rattle.isar_rules.specs.declared.shape.Shape.{Shape}
use Rattle.isar_rules.specs.declared.shape.Shape.TheVariants as shape
use Rattle.isar_rules.specs.declared.shape.Spot.{Spot}
use Rattle.isar_rules.specs.declared.verb.Verb.{Verb}
use Rattle.isar_rules.specs.declared.verb.Verb.TheVariants as verb
use Rattle.isar_rules.specs.Shapes.{worded, header_shape, load_shape, shape_by, shape_of}
use Rattle.isar_rules.specs.Verbs.{verb_of}
use Rattle.isar_rules.specs.Words.{Word, name, quoted, colon, dash, words}
use Rattle.editor_laws.proofs.EachPart.{each_behind}
use Rattle.editor_laws.proofs.PlainTexts.{Plain, tested_plain}
use Rattle.editor_laws.proofs.TokenNames.{TokenPlain}
use Rattle.editor_laws.proofs.WordNames.{WordPlain, words_plain}

abbrev pub SpotPlain : Spot → Type 0
SpotPlain s = Plain s.text

-- the names of a header
abbrev pub NamesPlain : Spot → List Spot → Type 0
NamesPlain n imports = SpotPlain n × AllByRecursion SpotPlain imports

-- no matter which they are
abbrev pub AnyNames : Spot → List Spot → Type 0
AnyNames n imports = ⊤

-- the blob that a command asks for has a blob's name
node_plain : (content : List ℕ) → IfSome (named_by content) Plain
node_plain content = go (is_node_name content) refl
  where
    go : (b : Bool) → is_node_name content ≡ b → IfSome (cond b (Some content) None) Plain
    go true is = tested_plain content (and_parts (is_identifier content) _ is).0
    go false is = tt

needs_plain : (source : List ℕ) (aliases : AliasList) → IfSome (needs source aliases) Plain
needs_plain source aliases = go (just_two (source_tokens aliases source))
  where
    asked : (b : Bool) (content : List ℕ) → IfSome (cond b (named_by content) None) Plain
    asked true content = node_plain content
    asked false content = tt

    go : (o : Option (Token × Token)) → IfSome (option_and_then (asked_by source aliases) o) Plain
    go None = tt
    go (Some pair) = asked _ (content_of pair.1.kind (text_of source pair.1))

module _ (Names : Spot → List Spot → Type 0) where
  abbrev pub ShapePlain : Shape → Type 0
  ShapePlain (shape.Theory n imports) = Names n imports
  ShapePlain (shape.Axiom n f) = SpotPlain n
  ShapePlain (shape.Lemma n f) = SpotPlain n
  ShapePlain (shape.Load n) = SpotPlain n
  ShapePlain (shape.Fix n) = SpotPlain n
  ShapePlain (shape.Assume n f) = IfSome n SpotPlain
  ShapePlain (shape.Have n f) = IfSome n SpotPlain
  ShapePlain _ = ⊤

  worded_plain : (v : Verb) (ws : List Word) → AllByRecursion WordPlain ws
      → IfSome (worded v ws) ShapePlain
  worded_plain verb.End [] all = tt
  worded_plain verb.Axiom (name n ∷ colon ∷ quoted f ∷ []) all = all.0
  worded_plain verb.Lemma (name n ∷ colon ∷ quoted f ∷ []) all = all.0
  worded_plain verb.Proof [] all = tt
  worded_plain verb.Proof (dash ∷ []) all = tt
  worded_plain verb.Fix (name n ∷ []) all = all.0
  worded_plain verb.Assume (quoted f ∷ []) all = tt
  worded_plain verb.Assume (name n ∷ colon ∷ quoted f ∷ []) all = all.0
  worded_plain verb.Have (quoted f ∷ []) all = tt
  worded_plain verb.Have (name n ∷ colon ∷ quoted f ∷ []) all = all.0
  worded_plain verb.Show (quoted f ∷ []) all = tt
  worded_plain verb.Next [] all = tt
  worded_plain verb.Qed [] all = tt
  worded_plain verb.By more all = tt
  worded_plain _ _ all = tt

  load_plain : (source : List ℕ) (ts : List Token) (asked : Option (List ℕ)) → IfSome asked Plain
      → IfSome (load_shape source ts asked) ShapePlain
  load_plain source (one ∷ blob ∷ more) (Some asked) plain = plain
  load_plain source _ _ plain = tt

  by_plain : (aliases : AliasList) (source : List ℕ) (ts : List Token)
      → AllByRecursion (TokenPlain source) ts → IfSome (header_shape source ts) ShapePlain
      → (v : Verb) → IfSome (shape_by aliases source ts v) ShapePlain
  by_plain aliases source ts all head verb.Theory = head
  by_plain aliases source ts all head verb.Load =
      load_plain source ts (needs source aliases) (needs_plain source aliases)
  by_plain aliases source ts all head v =
      worded_plain v (words source (drop 1 ts))
      (words_plain source (drop 1 ts) (each_behind (TokenPlain source) 1 ts all))

  pub shape_plain : (aliases : AliasList) (source : List ℕ) (ts : List Token)
      → AllByRecursion (TokenPlain source) ts → IfSome (header_shape source ts) ShapePlain
      → IfSome (shape_of aliases source ts) ShapePlain
  shape_plain aliases source [] all head = tt
  shape_plain aliases source (t ∷ ts) all head =
      go (is_command t.kind) (verb_of (meant aliases (text_of source t)))
    where
      go : (b : Bool) (v : Option Verb)
          → IfSome (cond b (option_and_then (shape_by aliases source (t ∷ ts)) v) None) ShapePlain
      go true (Some v) = by_plain aliases source (t ∷ ts) all head v
      go true None = tt
      go false v = tt

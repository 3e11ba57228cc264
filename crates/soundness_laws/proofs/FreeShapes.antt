-- The names of facts in a command's shape are free.
use Rattle.std.proofs.Common.{ℕ, Bool, true, false, cond, List, [], ◌∷◌, length, Option, Some, None, IfSome}
use Rattle.std.specs.Prelude.{⊤}
use Rattle.std.specs.List.{AllByRecursion}
use Rattle.std.specs.Option.{option_and_then}
use Rattle.outer_syntax.specs.Kinds.{is_command}
use Rattle.outer_syntax.specs.Tokens.{text_of}
use Rattle.outer_syntax.specs.declared.token.Token.{Token}
use Rattle.outer_syntax.specs.declared.parts.Header.{Header}
use Rattle.outer_syntax.specs.Reading.{header_in}
use Rattle.doc_nodes.specs.Needs.{AliasList, meant, needs}
use Rattle.isar_rules.specs.declared.shape.Shape.{Shape}
use Rattle.isar_rules.specs.declared.shape.Shape.TheVariants as shape
use Rattle.isar_rules.specs.declared.verb.Verb.{Verb}
use Rattle.isar_rules.specs.declared.verb.Verb.TheVariants as verb
use Rattle.isar_rules.specs.Shapes.{worded, is_header, headed, header_shape, load_shape, shape_by, shape_of}
use Rattle.isar_rules.specs.Verbs.{verb_of}
use Rattle.isar_rules.specs.Words.{Word, name, quoted, colon, dash}
use Rattle.soundness_laws.specs.Citable.{IsFree}
use Rattle.soundness_laws.proofs.FreeTokens.{WordFree, TokenFree, rest_free}

module _ (free : List (List ℕ)) where
  -- the name of the fact that a command of this shape makes
  abbrev pub ShapeFree : Shape → Type 0
  ShapeFree (shape.Assume (Some n) f) = IsFree free n.text
  ShapeFree (shape.Have (Some n) f) = IsFree free n.text
  ShapeFree _ = ⊤

  worded_free : (v : Verb) (ws : List Word) → AllByRecursion (WordFree free) ws → IfSome (worded v ws) ShapeFree
  worded_free verb.End [] all = tt
  worded_free verb.Axiom (name n ∷ colon ∷ quoted f ∷ []) all = tt
  worded_free verb.Lemma (name n ∷ colon ∷ quoted f ∷ []) all = tt
  worded_free verb.Proof [] all = tt
  worded_free verb.Proof (dash ∷ []) all = tt
  worded_free verb.Fix (name n ∷ []) all = tt
  worded_free verb.Assume (quoted f ∷ []) all = tt
  worded_free verb.Assume (name n ∷ colon ∷ quoted f ∷ []) all = all.0
  worded_free verb.Have (quoted f ∷ []) all = tt
  worded_free verb.Have (name n ∷ colon ∷ quoted f ∷ []) all = all.0
  worded_free verb.Show (quoted f ∷ []) all = tt
  worded_free verb.Next [] all = tt
  worded_free verb.Qed [] all = tt
  worded_free verb.By more all = tt
  worded_free _ _ all = tt

  headed_free : (source : List ℕ) (count : ℕ) (ts : List Token) → IfSome (headed source count ts) ShapeFree
  headed_free source count (first ∷ n ∷ more) = tt
  headed_free source count _ = tt

  header_free : (source : List ℕ) (ts : List Token) → IfSome (header_shape source ts) ShapeFree
  header_free source ts = go (is_header source ts) (header_in source)
    where
      go : (b : Bool) (h : Option Header) → IfSome (cond b (option_and_then (λ h. headed source (length h.imports) ts) h) None) ShapeFree
      go true (Some h) = headed_free source (length h.imports) ts
      go true None = tt
      go false h = tt

  load_free : (source : List ℕ) (ts : List Token) (asked : Option (List ℕ)) → IfSome (load_shape source ts asked) ShapeFree
  load_free source (first ∷ blob ∷ more) (Some asked) = tt
  load_free source _ _ = tt

  by_free : (aliases : AliasList) (source : List ℕ) (ts : List Token) → AllByRecursion (TokenFree free source) ts → (v : Verb) → IfSome (shape_by aliases source ts v) ShapeFree
  by_free aliases source ts all verb.Theory = header_free source ts
  by_free aliases source ts all verb.Load = load_free source ts (needs source aliases)
  by_free aliases source ts all verb.End = worded_free verb.End _ (rest_free free source ts all)
  by_free aliases source ts all verb.Axiom = worded_free verb.Axiom _ (rest_free free source ts all)
  by_free aliases source ts all verb.Lemma = worded_free verb.Lemma _ (rest_free free source ts all)
  by_free aliases source ts all verb.Proof = worded_free verb.Proof _ (rest_free free source ts all)
  by_free aliases source ts all verb.Fix = worded_free verb.Fix _ (rest_free free source ts all)
  by_free aliases source ts all verb.Assume = worded_free verb.Assume _ (rest_free free source ts all)
  by_free aliases source ts all verb.Have = worded_free verb.Have _ (rest_free free source ts all)
  by_free aliases source ts all verb.Show = worded_free verb.Show _ (rest_free free source ts all)
  by_free aliases source ts all verb.Next = worded_free verb.Next _ (rest_free free source ts all)
  by_free aliases source ts all verb.Qed = worded_free verb.Qed _ (rest_free free source ts all)
  by_free aliases source ts all verb.By = worded_free verb.By _ (rest_free free source ts all)

  pub shape_free : (aliases : AliasList) (source : List ℕ) (ts : List Token) → AllByRecursion (TokenFree free source) ts → IfSome (shape_of aliases source ts) ShapeFree
  shape_free aliases source [] all = tt
  shape_free aliases source (t ∷ ts) all = go (is_command t.kind) (verb_of (meant aliases (text_of source t)))
    where
      go : (b : Bool) (v : Option Verb) → IfSome (cond b (option_and_then (shape_by aliases source (t ∷ ts)) v) None) ShapeFree
      go true (Some v) = by_free aliases source (t ∷ ts) all v
      go true None = tt
      go false v = tt

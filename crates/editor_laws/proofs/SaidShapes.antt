-- A command has the shape of `by` just where its source says `by`.
use Rattle.std.proofs.Common.{◌≡◌, ℕ, Bool, true, false, if◌then◌else◌, List, [], ◌∷◌, length}
use Rattle.std.proofs.Common.{drop, find, codes, Option, Some, None, refl, sym, ap, ◌∙◌}
use Rattle.std.proofs.Common.{subst}
use Rattle.std.specs.Prelude.{◌&&◌, ◌||◌, not, cond}
use Rattle.std.specs.Bool.{⊤}
use Rattle.std.specs.Option.{option_map, option_map_or, option_and_then}
use Rattle.std.specs.List.{list_all}
use Rattle.std.proofs.lemmas.Bool.{and_parts, both_ways}
use Rattle.text_words.proofs.KnownLists.{found_passes}
use Rattle.shared_map.specs.Pairs.{has_key}
use Rattle.outer_syntax.specs.Kinds.{is_command}
use Rattle.outer_syntax.specs.Tokens.{text_of}
use Rattle.outer_syntax.specs.declared.token.Token.{Token}
use Rattle.outer_syntax.specs.Reading.{header_in}
use Rattle.outer_syntax.specs.declared.parts.Header.{Header}
use Rattle.doc_nodes.specs.Names.{in_order, equal}
use Rattle.doc_nodes.proofs.KnownNames.{name_is}
use Rattle.doc_nodes.specs.Needs.{AliasList, meant, needs}
use Rattle.mirror_rules.specs.Forking.{says_by}
use Rattle.isar_rules.specs.declared.shape.Shape.{Shape}
use Rattle.isar_rules.specs.declared.shape.Shape.TheVariants as shape
use Rattle.isar_rules.specs.declared.verb.Verb.{Verb}
use Rattle.isar_rules.specs.declared.verb.Verb.TheVariants as verb
use Rattle.isar_rules.specs.Verbs.{verbs, verb_of}
use Rattle.isar_rules.specs.Words.{Word, name, quoted, colon, dash, words}
use Rattle.isar_rules.specs.Shapes.{worded, is_header, headed, header_shape, load_shape, shape_by}
use Rattle.isar_rules.specs.Shapes.{shape_of}

abbrev pub by_shape : Shape → Bool
by_shape shape.By = true
by_shape _ = false

abbrev by_verb : Verb → Bool
by_verb verb.By = true
by_verb _ = false

all_find : {X : Type 0} (test p : X → Bool) (xs : List X) (x : X) → list_all p xs ≡ true
    → find test xs ≡ Some x → p x ≡ true
all_find test p [] x all is = absurd (cc (is))
all_find test p (y ∷ ys) x all is = go (test y) (and_parts (p y) (list_all p ys) all) is
    (all_find test p ys x)
  where
    go : (b : Bool) → (p y ≡ true) × (list_all p ys ≡ true)
        → cond b (Some y) (find test ys) ≡ Some x
        → (list_all p ys ≡ true → find test ys ≡ Some x → p x ≡ true) → p x ≡ true
    go true parts is more = let same : y ≡ x = cc (is) in ap p (sym same) ∙ parts.0
    go false parts is more = more parts.1 is

-- a pair of another verb, or of the word itself
abbrev fits : List ℕ × Verb → Bool
fits pair = not (by_verb pair.1) || equal pair.0 (codes "by")

-- the word of `by` is the one that means it
by_word : (word : List ℕ) → option_map_or by_verb (verb_of word) false ≡ equal word (codes "by")
by_word word = go (equal word (codes "by")) refl
  where
    of_pair : (b : Bool) (pair : List ℕ × Verb) → by_verb pair.1 ≡ b
        → (not b || equal pair.0 (codes "by")) ≡ true
        → has_key in_order word pair ≡ true → equal word (codes "by") ≡ false → b ≡ false
    of_pair false pair is fit key other = refl
    of_pair true pair is fit key other =
        absurd (both_ways (equal word (codes "by")) other
        (ap (λ w. equal w (codes "by")) (sym (name_is pair.0 word key)) ∙ fit))

    of_found : (o : Option (List ℕ × Verb)) → find (has_key in_order word) verbs ≡ o
        → equal word (codes "by") ≡ false
        → option_map_or by_verb (option_map (λ pair. pair.1) o) false ≡ false
    of_found None is other = refl
    of_found (Some pair) is other =
        of_pair (by_verb pair.1) pair refl
        (all_find (has_key in_order word) fits verbs pair refl is)
        (found_passes (has_key in_order word) verbs pair is) other

    go : (b : Bool) → equal word (codes "by") ≡ b → option_map_or by_verb (verb_of word) false ≡ b
    go true is = ap (λ w. option_map_or by_verb (verb_of w) false) (name_is word (codes "by") is)
    go false is = of_found (find (has_key in_order word) verbs) refl is

-- the shape is that of `by`, or not
abbrev pub IfSaid : Bool → Option Shape → Type 0
IfSaid b None = ⊤
IfSaid b (Some s) = by_shape s ≡ b

worded-says : (v : Verb) (ws : List Word) → IfSaid (by_verb v) (worded v ws)
worded-says verb.End [] = refl
worded-says verb.Axiom (name n ∷ colon ∷ quoted f ∷ []) = refl
worded-says verb.Lemma (name n ∷ colon ∷ quoted f ∷ []) = refl
worded-says verb.Proof [] = refl
worded-says verb.Proof (dash ∷ []) = refl
worded-says verb.Fix (name n ∷ []) = refl
worded-says verb.Assume (quoted f ∷ []) = refl
worded-says verb.Assume (name n ∷ colon ∷ quoted f ∷ []) = refl
worded-says verb.Have (quoted f ∷ []) = refl
worded-says verb.Have (name n ∷ colon ∷ quoted f ∷ []) = refl
worded-says verb.Show (quoted f ∷ []) = refl
worded-says verb.Next [] = refl
worded-says verb.Qed [] = refl
worded-says verb.By more = refl
worded-says _ _ = tt

headed-says : (source : List ℕ) (count : ℕ) (ts : List Token)
    → IfSaid false (headed source count ts)
headed-says source count [] = tt
headed-says source count (first ∷ []) = tt
headed-says source count (first ∷ n ∷ more) = refl

header-says : (source : List ℕ) (ts : List Token) → IfSaid false (header_shape source ts)
header-says source ts = go (is_header source ts) (header_in source)
  where
    go : (b : Bool) (h : Option Header)
        → IfSaid false
        (if b then option_and_then (λ h. headed source (length h.imports) ts) h else None)
    go true None = tt
    go true (Some h) = headed-says source (length h.imports) ts
    go false h = tt

load-says : (source : List ℕ) (ts : List Token) (asked : Option (List ℕ))
    → IfSaid false (load_shape source ts asked)
load-says source [] asked = tt
load-says source (first ∷ []) asked = tt
load-says source (first ∷ blob ∷ more) None = tt
load-says source (first ∷ blob ∷ more) (Some asked) = refl

verb-says : (aliases : AliasList) (source : List ℕ) (ts : List Token) (v : Verb)
    → IfSaid (by_verb v) (shape_by aliases source ts v)
verb-says aliases source ts verb.Theory = header-says source ts
verb-says aliases source ts verb.Load = load-says source ts (needs source aliases)
verb-says aliases source ts v = worded-says v (words source (drop 1 ts))

pub shape_says : (aliases : AliasList) (source : List ℕ) (ts : List Token)
    → IfSaid (says_by aliases source ts) (shape_of aliases source ts)
shape_says aliases source [] = tt
shape_says aliases source (t ∷ ts) =
    let word = meant aliases (text_of source t) in
    go (is_command t.kind) (verb_of word) (equal word (codes "by")) (by_word word)
  where
    go : (b : Bool) (v : Option Verb) (said : Bool) → option_map_or by_verb v false ≡ said
        → IfSaid (b && said)
        (if b then option_and_then (shape_by aliases source (t ∷ ts)) v else None)
    go true None said is = tt
    go true (Some v) said is = subst (λ b. IfSaid b (shape_by aliases source (t ∷ ts) v)) is
        (verb-says aliases source (t ∷ ts) v)
    go false v said is = tt

-- One word more of a header.
use Rattle.std.proofs.Common.{◌≡◌, ℕ, ◌<◌, ◌&&◌, Bool, true, false, List, [], ◌∷◌, ◌++◌, length, sym, refl, ap, ◌∙◌, arith, append_assoc, length-append}
use Rattle.std.specs.Prelude.{codes, if◌then◌else◌}
use Rattle.std.proofs.lemmas.Bool.{and_parts}
use Rattle.std.proofs.lemmas.Grind.{flat_map-append}
use Rattle.std.proofs.lemmas.List.{append-nil, map-append}
use Rattle.outer_syntax.specs.Kinds.{is_command, is_keyword, is_name, is_sym, is_string}
use Rattle.outer_syntax.specs.Words.{same}
use Rattle.outer_syntax.specs.Headings.{Word, flat_pairs, import_words, pair_words}
use Rattle.outer_syntax.specs.Stages.{is_this_keyword, after_imports, after_word, is_ended}
use Rattle.outer_syntax.specs.declared.kind.Kind.{Kind}
use Rattle.outer_syntax.specs.declared.kind.Kind.TheVariants as kind
use Rattle.outer_syntax.specs.declared.stage.Stage.{Stage}
use Rattle.outer_syntax.specs.declared.stage.Stage.TheVariants.{Start, Theory, Name, Imports, Import, Keywords, PairName, Equals, Pair, Ended, Absent}
use Rattle.outer_syntax.proofs.WordLemmas.{same-equal}
use Rattle.outer_syntax.proofs.KnownParts.{Parts, collect, front, paired, Sofar}

kind-name : (k : Kind) → is_name k ≡ true → k ≡ kind.Ident
kind-name kind.Ident e = refl
kind-name _ e = cc

kind-keyword : (k : Kind) → is_keyword k ≡ true → k ≡ kind.Keyword
kind-keyword kind.Keyword e = refl
kind-keyword _ e = cc

pub kind-command : (k : Kind) → is_command k ≡ true → k ≡ kind.Command
kind-command kind.Command e = refl
kind-command _ e = cc

kind-sym : (k : Kind) → is_sym k ≡ true → k ≡ kind.Sym
kind-sym kind.Sym e = refl
kind-sym _ e = cc

kind-string : (k : Kind) → is_string k ≡ true → k ≡ kind.String
kind-string kind.String e = refl
kind-string _ e = cc

keyword-is : (name : List ℕ) (w : Word) → is_this_keyword name w ≡ true → w ≡ (kind.Keyword, name)
keyword-is name w e =
    let parts = and_parts (is_keyword w.0) (same w.1 name) e in
    let kinds : w.0 ≡ kind.Keyword = kind-keyword w.0 parts.0 in
    let texts : w.1 ≡ name = same-equal w.1 name parts.1 in
    λ i. (kinds i, texts i)

name-is : (w : Word) → is_name w.0 ≡ true → w ≡ (kind.Ident, w.1)
name-is w e = let kinds : w.0 ≡ kind.Ident = kind-name w.0 e in λ i. (kinds i, w.1)

-- one way or another, by a test
way : (test : Bool) (one other : Stage) (x : List ℕ) (p : Parts) (ws : List Word) → (test ≡ true → Sofar one (collect one x p) ws) → Sofar other (collect other x p) ws → Sofar (if test then one else other) (collect (if test then one else other) x p) ws
way true one other x p ws passed failed = passed refl
way false one other x p ws passed failed = failed

first-import : (names : List (List ℕ)) (x : List ℕ) → names ≡ [] → (import_words names ++ (kind.Keyword, codes "imports") ∷ []) ++ (kind.Ident, x) ∷ [] ≡ import_words (names ++ x ∷ [])
first-import [] x none = refl
first-import (n ∷ ns) x none = absurd (cc (none))

more-imports : (names : List (List ℕ)) (x : List ℕ) → 0 < length names → import_words names ++ (kind.Ident, x) ∷ [] ≡ import_words (names ++ x ∷ [])
more-imports [] x some = absurd (omega arith)
more-imports (n ∷ ns) x some = ap (λ r. (kind.Keyword, codes "imports") ∷ r) (sym (map-append (λ m. (kind.Ident, m)) (n ∷ ns) (x ∷ [])))

no-pairs : (f : List Word) (ps : List (List ℕ × List ℕ)) → ps ≡ [] → f ≡ f ++ pair_words ps
no-pairs f [] none = sym (append-nil f)
no-pairs f (p ∷ ps) none = absurd (cc (none))

no-flat : (ps : List (List ℕ × List ℕ)) → ps ≡ [] → [] ≡ flat_pairs ps
no-flat [] none = refl
no-flat (p ∷ ps) none = absurd (cc (none))

some-pairs : (ps : List (List ℕ × List ℕ)) → 0 < length ps → pair_words ps ≡ (kind.Keyword, codes "keywords") ∷ flat_pairs ps
some-pairs [] some = absurd (omega arith)
some-pairs (p ∷ ps) some = refl

pair-more : (f : List Word) (ps : List (List ℕ × List ℕ)) (k x : List ℕ) → ((f ++ (kind.Keyword, codes "keywords") ∷ flat_pairs ps) ++ (kind.Ident, k) ∷ (kind.Sym, codes "=") ∷ []) ++ (kind.String, x) ∷ [] ≡ f ++ pair_words (ps ++ (k, x) ∷ [])
pair-more f ps k x =
    let head : List Word = (kind.Keyword, codes "keywords") ∷ flat_pairs ps in
    append_assoc (f ++ head) ((kind.Ident, k) ∷ (kind.Sym, codes "=") ∷ []) ((kind.String, x) ∷ [])
    ∙ append_assoc f head ((kind.Ident, k) ∷ (kind.Sym, codes "=") ∷ (kind.String, x) ∷ [])
    ∙ ap (λ r. f ++ (kind.Keyword, codes "keywords") ∷ r) (sym (flat_map-append (λ (p : List ℕ × List ℕ). (kind.Ident, p.0) ∷ (kind.Sym, codes "=") ∷ (kind.String, p.1) ∷ []) ps ((k, x) ∷ [])))
    ∙ ap (λ r. f ++ r) (sym (some-pairs (ps ++ (k, x) ∷ []) (omega (arith, length-append ps ((k, x) ∷ [])))))

-- the imports may be followed by the pairs or by the end
imports-over : (p : Parts) (ws : List Word) (w : Word) → p.0.pairs ≡ [] → ws ≡ front p.0 → Sofar (after_imports w) (collect (after_imports w) w.1 p) (ws ++ w ∷ [])
imports-over p ws w none so =
    way (is_this_keyword (codes "keywords") w) Keywords _ w.1 p (ws ++ w ∷ [])
    (λ e. (none, λ i. so i ++ keyword-is (codes "keywords") w e i ∷ []))
    (way (is_this_keyword (codes "begin") w) Ended Absent w.1 p (ws ++ w ∷ [])
    (λ e. (tt, (λ i. so i ++ keyword-is (codes "begin") w e i ∷ []) ∙ ap (λ f. f ++ (kind.Keyword, codes "begin") ∷ []) (no-pairs (front p.0) p.0.pairs none)))
    tt)

pub further : (s : Stage) (p : Parts) (ws : List Word) (w : Word) → is_ended s ≡ false → Sofar s p ws → Sofar (after_word s w) (collect (after_word s w) w.1 p) (ws ++ w ∷ [])
further Start p ws w on (fits, so) =
    way (is_command w.0 && same w.1 (codes "theory")) Theory Absent w.1 p (ws ++ w ∷ [])
    (λ e. let parts = and_parts (is_command w.0) (same w.1 (codes "theory")) e in
    let kinds : w.0 ≡ kind.Command = kind-command w.0 parts.0 in
    let texts : w.1 ≡ codes "theory" = same-equal w.1 (codes "theory") parts.1 in
    (fits, λ i. so i ++ (kinds i, texts i) ∷ []))
    tt
further Theory p ws w on (fits, so) =
    way (is_name w.0) Name Absent w.1 p (ws ++ w ∷ [])
    (λ e. (fits, (λ i. so i ++ name-is w e i ∷ []) ∙ ap (λ names. (kind.Command, codes "theory") ∷ (kind.Ident, w.1) ∷ import_words names) (sym fits.0)))
    tt
further Name p ws w on (fits, so) =
    way (is_this_keyword (codes "imports") w) Imports _ w.1 p (ws ++ w ∷ [])
    (λ e. (fits, λ i. so i ++ keyword-is (codes "imports") w e i ∷ []))
    (imports-over p ws w fits.1 so)
further Imports p ws w on (fits, so) =
    way (is_name w.0) Import Absent w.1 p (ws ++ w ∷ [])
    (λ e. (
      (omega (arith, length-append p.0.imports (w.1 ∷ [])), fits.1),
      (λ i. so i ++ name-is w e i ∷ []) ∙ ap (λ r. (kind.Command, codes "theory") ∷ (kind.Ident, p.0.name) ∷ r) (first-import p.0.imports w.1 fits.0),
    ))
    tt
further Import p ws w on (fits, so) =
    way (is_name w.0) Import _ w.1 p (ws ++ w ∷ [])
    (λ e. (
      (omega (arith, length-append p.0.imports (w.1 ∷ [])), fits.1),
      (λ i. so i ++ name-is w e i ∷ []) ∙ ap (λ r. (kind.Command, codes "theory") ∷ (kind.Ident, p.0.name) ∷ r) (more-imports p.0.imports w.1 fits.0),
    ))
    (imports-over p ws w fits.1 so)
further Keywords p ws w on (fits, so) =
    way (is_name w.0) PairName Absent w.1 p (ws ++ w ∷ [])
    (λ e. (tt, (λ i. so i ++ name-is w e i ∷ []) ∙ ap (λ r. (front p.0 ++ (kind.Keyword, codes "keywords") ∷ r) ++ (kind.Ident, w.1) ∷ []) (no-flat p.0.pairs fits)))
    tt
further PairName p ws w on (fits, so) =
    way (is_sym w.0 && same w.1 (codes "=")) Equals Absent w.1 p (ws ++ w ∷ [])
    (λ e. let parts = and_parts (is_sym w.0) (same w.1 (codes "=")) e in
    let kinds : w.0 ≡ kind.Sym = kind-sym w.0 parts.0 in
    let texts : w.1 ≡ codes "=" = same-equal w.1 (codes "=") parts.1 in
    (tt, (λ i. so i ++ (kinds i, texts i) ∷ []) ∙ append_assoc (paired p.0) ((kind.Ident, p.1) ∷ []) ((kind.Sym, codes "=") ∷ [])))
    tt
further Equals p ws w on (fits, so) =
    way (is_string w.0) Pair Absent w.1 p (ws ++ w ∷ [])
    (λ e. let kinds : w.0 ≡ kind.String = kind-string w.0 e in (
      omega (arith, length-append p.0.pairs ((p.1, w.1) ∷ [])),
      (λ i. so i ++ (kinds i, w.1) ∷ []) ∙ pair-more (front p.0) p.0.pairs p.1 w.1,
    ))
    tt
further Pair p ws w on (fits, so) =
    way (is_name w.0) PairName _ w.1 p (ws ++ w ∷ [])
    (λ e. (tt, (λ i. so i ++ name-is w e i ∷ []) ∙ ap (λ r. (front p.0 ++ r) ++ (kind.Ident, w.1) ∷ []) (some-pairs p.0.pairs fits)))
    (way (is_this_keyword (codes "begin") w) Ended Absent w.1 p (ws ++ w ∷ [])
    (λ e. (tt, λ i. so i ++ keyword-is (codes "begin") w e i ∷ []))
    tt)
further Ended p ws w on so = absurd (cc (on))
further Absent p ws w on so = tt

pub ended-is : (s : Stage) → is_ended s ≡ true → s ≡ Ended
ended-is Ended e = refl
ended-is _ e = absurd (cc (e))

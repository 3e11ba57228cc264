-- The nodes of a batch, one after the other.
use Rattle.std.proofs.Common.{◌≡◌, ℕ, ◌<◌, List, [], ◌∷◌, ◌++◌, length, set, All, Option, Some, reverse, refl, sym, ap, subst, ◌∙◌, arith}
use Rattle.std.proofs.lemmas.List.{reverse-append}
use Rattle.std.proofs.lemmas.List.Elements.{All-tail}
use Rattle.doc_nodes.specs.Imports.{NodeList}
use Rattle.language.specs.Lang.{Lang}
use Rattle.core_rules.specs.Scratch.{Runs}
use Rattle.pide_build.specs.Handed.{AreBehind}
use Rattle.pide_build.specs.declared.telling.BuiltNode.{BuiltNode}
use Rattle.pide_build.specs.declared.telling.Checked.{Checked}
use Rattle.pide_build.specs.Running.{run_batch, run_beside}
use Rattle.pide_build.specs.declared.progress.Progress.{Progress}
use Rattle.pide_build.specs.Standing.{Keeps, MakeSo}
use Rattle.pide_build.proofs.KeptStates.{kept_one}

-- none is left
pub none_left : (xs : List ℕ) → length xs < 1 → xs ≡ []
none_left [] few = refl
none_left (x ∷ xs) few = absurd (omega arith)

-- what holds of all that are left holds behind the first of them
pub still_all : (n n' : ℕ) (rest more : List ℕ) (p : ℕ) → rest ≡ p ∷ more → n' ≡ n → All (λ q. q < n) rest → All (λ q. q < n') more
still_all n n' rest more p cut same all =
    subst (λ m. All (λ q. q < m) more) (sym same) (All-tail (λ q. q < n) p more (subst (All (λ q. q < n)) cut all))

module _ {S M : Type 0} (l : Lang S) (told : BuiltNode → M) (nodes : NodeList) (before : Runs S) (behind : List (Option S)) where
  -- the nodes before the rest are done, and the rest comes to what the whole batch comes to
  pub record Stands (places : List ℕ) (rest : List ℕ) (made : List (Checked M S)) (now : Progress M S) : Type 0 where
    pub runs : Runs S
    pub keeps : Keeps l told nodes runs now
    pub makes : MakeSo l told nodes behind rest made
    pub same : run_batch l nodes [] before rest runs ≡ run_batch l nodes [] before places before

  -- so where it began with what the nodes make
  abbrev pub IsAt : List ℕ → List (Checked M S) → Progress M S → List ℕ → List (Checked M S) → Progress M S → Type 0
  IsAt places all old rest made now =
      AreBehind l before behind → MakeSo l told nodes behind places all → Keeps l told nodes before old → Stands places rest made now

  pub at_first : (places : List ℕ) (all turned : List (Checked M S)) (old : Progress M S) → reverse turned ≡ all → IsAt places all old places (reverse turned) old
  at_first places all turned old is stands makes keeps = record {
    runs = before;
    keeps = keeps;
    makes = subst (MakeSo l told nodes behind places) (sym is) makes;
    same = refl;
  }

  pub one_more : (places : List ℕ) (all : List (Checked M S)) (old : Progress M S) (p : ℕ) (rest : List ℕ) (turned left : List (Checked M S)) (made : Checked M S)
      (now new : Progress M S) → IsAt places all old (p ∷ rest) (reverse turned) now → turned ≡ left ++ made ∷ [] → p < length now.behind.items
      → new.behind.items ≡ set now.behind.items p (Some made.behind) → new.told.items ≡ set now.told.items p (Some made.told)
      → IsAt places all old rest (reverse left) new
  one_more places all old p rest turned left made now new at parts lt states tellings stands makes keeps =
      let s = at stands makes keeps in
      let turned_is : reverse turned ≡ made ∷ reverse left = ap reverse parts ∙ reverse-append left (made ∷ []) in
      let both = subst (MakeSo l told nodes behind (p ∷ rest)) turned_is s.makes in
      let few : p < length nodes = let k = s.keeps.states in omega arith in
      record {
        runs = run_beside l nodes [] before p s.runs;
        keeps = kept_one l told nodes before s.runs behind stands p made both.0 few now new s.keeps states tellings;
        makes = both.1;
        same = s.same;
      }

  pub at_last : (places : List ℕ) (all : List (Checked M S)) (old : Progress M S) (made : List (Checked M S)) (now : Progress M S) → IsAt places all old [] made now
      → AreBehind l before behind → MakeSo l told nodes behind places all → Keeps l told nodes before old
      → Keeps l told nodes (run_batch l nodes [] before places before) now
  at_last places all old made now at stands makes keeps =
      let s = at stands makes keeps in subst (λ rs. Keeps l told nodes rs now) s.same s.keeps

-- The words of kinds and keys can be names and keys in YXML.
use Rattle.std.proofs.Common.{◌≡◌, ℕ, ◌==◌, Bool, true, false, not, ◌&&◌, List, [], ◌∷◌, codes, refl}
use Rattle.yxml.specs.Normal.{Lacks, IsFilled}
use Rattle.report_markup.specs.declared.kind.ReportKind.{ReportKind}
use Rattle.report_markup.specs.declared.kind.ReportKind.TheVariants.{Command, Theory, Import, Def, Formula, Error, Proved, Ref, State, Loaded, Suggest}
use Rattle.report_markup.specs.declared.property.PropertyKey.{PropertyKey}
use Rattle.report_markup.specs.declared.property.PropertyKey.TheVariants.{Theory as TheoryKey, Name}
use Rattle.report_markup.specs.Words.{kind_word, key_word}

abbrev lacks : ℕ → List ℕ → Bool
lacks c [] = true
lacks c (b ∷ bs) = not (b == c) && lacks c bs

Lacks-if : (c : ℕ) (bytes : List ℕ) → lacks c bytes ≡ true → Lacks c bytes
Lacks-if c [] h = tt
Lacks-if c (b ∷ bs) h = go (b == c) refl h (Lacks-if c bs) where
  go : (s : Bool) → (b == c) ≡ s → (not s && lacks c bs) ≡ true → (lacks c bs ≡ true → Lacks c bs)
      → ((b == c) ≡ false) × Lacks c bs
  go true e k more = absurd (cc)
  go false e k more = (e, more k)

filled : (b : ℕ) (bs : List ℕ) → lacks 5 (b ∷ bs) ≡ true → lacks 6 (b ∷ bs) ≡ true → IsFilled (b ∷ bs)
filled b bs five six = ((λ e. cc), (Lacks-if 5 (b ∷ bs) five, Lacks-if 6 (b ∷ bs) six))

pub kind_filled : (k : ReportKind) → IsFilled (kind_word k)
kind_filled Command = filled _ _ refl refl
kind_filled Theory = filled _ _ refl refl
kind_filled Import = filled _ _ refl refl
kind_filled Def = filled _ _ refl refl
kind_filled Formula = filled _ _ refl refl
kind_filled Error = filled _ _ refl refl
kind_filled Proved = filled _ _ refl refl
kind_filled Ref = filled _ _ refl refl
kind_filled State = filled _ _ refl refl
kind_filled Loaded = filled _ _ refl refl
kind_filled Suggest = filled _ _ refl refl

-- IsAttribute is these two, and a plain value
pub key_fits : (k : PropertyKey) → IsFilled (key_word k) × Lacks 61 (key_word k)
key_fits TheoryKey = (filled _ _ refl refl, Lacks-if 61 (codes "theory") refl)
key_fits Name = (filled _ _ refl refl, Lacks-if 61 (codes "name") refl)

pub offset_fits : IsFilled (codes "offset") × Lacks 61 (codes "offset")
offset_fits = (filled _ _ refl refl, Lacks-if 61 (codes "offset") refl)

pub end_offset_fits : IsFilled (codes "end_offset") × Lacks 61 (codes "end_offset")
end_offset_fits = (filled _ _ refl refl, Lacks-if 61 (codes "end_offset") refl)

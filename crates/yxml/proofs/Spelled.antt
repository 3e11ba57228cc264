-- What a spelling says of its body.
use Rattle.std.proofs.Common.{◌≡◌, ◌≢◌, ℕ, ◌+◌, ◌≤◌, List, [], length, Option, Some, None, Result, Ok, Err, IfOk, IfErr, refl, sym, subst, ◌∙◌, arith}
use Rattle.std.specs.List.{AllByRecursion, slice_split}
use Rattle.std.proofs.lemmas.List.{append-nil}
use Rattle.yxml.specs.declared.tree.Tree.{Tree}
use Rattle.yxml.specs.Marks.{marks}
use Rattle.yxml.specs.Normal.{IsNormal, IsFit, AreApart, height, most_nested}
use Rattle.yxml.proofs.KnownNesting.{IsWithin, Nests-trees}
use Rattle.yxml.proofs.KnownRebuilt.{same_from_marks}
use Rattle.yxml.specs.declared.fault.YxmlFault.{YxmlFault}
use Rattle.yxml.specs.declared.fault.YxmlFault.TheVariants.{Unbalanced, BadTag, BadAttribute, BadText, TooDeep, NoMemory}
use Rattle.yxml.specs.Reading.{fault_in, marks_in, is_x}
use Rattle.yxml.specs.Spelling.{Spells, ReadsAs}
use Rattle.yxml.proofs.Fit.{marks-fit}
use Rattle.yxml.proofs.Joining.{merged-fit, merged-apart, merged-within}
use Rattle.yxml.proofs.Depths.{chunks-within}

pub normal_from_spells : (text : List ℕ) (body : List Tree) → Spells text body → IsNormal body
normal_from_spells text body s =
    let within : IsWithin 0 (marks body) = subst (IsWithin 0) s.same (merged-within 0 (marks_in text) (chunks-within 0 0 (slice_split is_x text) (length text) s.faultless)) in
    let low : 0 + height body ≤ most_nested = (Nests-trees body).low 0 [] (subst (IsWithin 0) (sym (append-nil (marks body))) within) (omega arith) in
    record {
      fit = subst (AllByRecursion IsFit) s.same (merged-fit _ (marks-fit text));
      apart = subst AreApart s.same (merged-apart (marks_in text));
      nested = omega arith;
    }

pub one_body : (text : List ℕ) (one other : List Tree) → Spells text one → Spells text other → one ≡ other
one_body text one other s t = same_from_marks one other (sym s.same ∙ t.same)

only_memory : (f : YxmlFault) → (f ≢ NoMemory → ⊥) → f ≡ NoMemory
only_memory NoMemory h = refl
only_memory (Unbalanced at) h = absurd (h (λ e. cc))
only_memory (BadTag at) h = absurd (h (λ e. cc))
only_memory (BadAttribute at) h = absurd (h (λ e. cc))
only_memory (BadText at) h = absurd (h (λ e. cc))
only_memory (TooDeep at) h = absurd (h (λ e. cc))

none_some : (o : Option YxmlFault) (f : YxmlFault) → o ≡ None → o ≡ Some f → ⊥
none_some o f e h = cc

-- whatever a reader answers that tells spelled bodies and first faults, it is right where a body is spelled
pub read_as : (text : List ℕ) (r : Result (List Tree) YxmlFault) → IfOk r (Spells text) → IfErr r (λ f. f ≢ NoMemory → fault_in text ≡ Some f)
    → (body : List Tree) → Spells text body → ReadsAs body r
read_as text (Ok read) t h body s = one_body text read body t s
read_as text (Err f) t h body s = only_memory f (λ ne. none_some _ f s.faultless (h ne))

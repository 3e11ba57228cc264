-- A check that could not begin: nothing is taken or written.
use Rattle.std.proofs.Common.{◌≡◌, [], ℕ, List, Option, refl, sym, subst, arith}
use Rattle.std.proofs.KnownBytes.{Appends-nil, Consumes-nil}
use Rattle.std.specs.Str.{chars}
use Rattle.pide_base.specs.declared.status.Status.{Status}
use Rattle.pide_base.specs.declared.status.Status.TheVariants as status
use Rattle.language.specs.Lang.{Lang}
use Rattle.text_check.specs.Lines.{lines}
use Rattle.std.specs.Io.KnownBytes.{Appends}
use Rattle.made_document.specs.Summary.{summary_lines}
use Rattle.pide_check.specs.Checked.{IsChecked}
use Rattle.pide_program.specs.Generated.{IsGenerated}

nothing_checked : {S : Type 0} (l : Lang S) (left held : Option (List ℕ)) → IsChecked l status.NoMemory left left held held
nothing_checked l left held = ([], Consumes-nil left, omega (arith), ([], lines l (chars []), refl, Appends-nil held))

pub nothing_done : {S : Type 0} (l : Lang S) (left left' held held' : Option (List ℕ)) (s : Status) → s ≡ status.NoMemory → left' ≡ left → held' ≡ held
    → IsChecked l s left left' held held'
nothing_done l left left' held held' s short same kept =
    subst (λ (t : Status). IsChecked l t left left' held held') (sym short)
    (subst (λ (m : Option (List ℕ)). IsChecked l status.NoMemory left m held held') (sym same)
    (subst (λ (m : Option (List ℕ)). IsChecked l status.NoMemory left left held m) (sym kept) (nothing_checked l left held)))

-- nor is a document made
pub nothing_made : {S : Type 0} (l : Lang S) (count : ℕ) (held held' : Option (List ℕ)) (s : Status) → s ≡ status.NoMemory → held' ≡ held
    → IsGenerated l count s held held'
nothing_made l count held held' s short kept =
    subst (λ (t : Status). IsGenerated l count t held held') (sym short)
    ([], summary_lines l count, refl, subst (λ (m : Option (List ℕ)). Appends held m []) (sym kept) (Appends-nil held))

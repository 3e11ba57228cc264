-- Before any update an editor has the version that there is then.
use Rattle.std.proofs.Common.{[], refl}
use Rattle.language.specs.Lang.{Lang}
use Rattle.core_rules.specs.Doc.{start_version}
use Rattle.mirror_rules.specs.Images.{start_image as mirror_start}
use Rattle.editor_laws.proofs.Known.{ImageOf}

pub start_image : {S : Type 0} (l : Lang S) → ImageOf l [] [] start_version mirror_start
start_image l = record {
  nodes = refl;
  rows = refl;
  long = refl;
  sorted = tt;
  differ = tt;
  filled = λ p i pair e stands entry. absurd (cc);
  known = λ name i e row p here at among. absurd (cc);
  unmade = λ c p late. refl;
  made = λ name i row x at among. absurd (cc);
}

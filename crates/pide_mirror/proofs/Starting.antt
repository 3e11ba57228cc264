-- Nothing is kept of the version before any update.
use Rattle.std.proofs.Common.{◌≡◌, ℕ, [], Some, None, refl, sym, ◌∙◌, arith}
use Rattle.mirror_rules.specs.Images.{start_image}
use Rattle.pide_mirror.specs.Kept.{IsKept}
use Rattle.pide_mirror.specs.Tables.{table_of}
use Rattle.pide_mirror.specs.declared.known.Known.{Known}

pub start_kept : (known : Known) → known.nodes ≡ [] → ((exec command : ℕ) → table_of known.places exec command ≡ None) → IsKept known start_image
start_kept known nodes none = record {
  nodes = nodes;
  sorted = tt;
  differ = tt;
  rows = λ p pair at. absurd (cc);
  aligned = λ p pair at. absurd (cc);
  others = λ name is. refl;
  aliases = λ p within. absurd (omega (arith, within));
  places = record {
    there = λ pair e exec s is. let at = s.node_is in absurd (cc);
    only = λ exec command place at. let both : None ≡ Some place = sym (none exec command) ∙ at in absurd (cc);
  };
  there = tt;
}

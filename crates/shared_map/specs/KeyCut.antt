-- The cut of one key is a cut.
use Rattle.std.specs.Cmp.{IsTotalOrder}
use Rattle.std.proofs.Common.{◌∙◌, ap}
use Rattle.std.specs.declared.cmp.Ordering.{Ordering}
use Rattle.std.specs.Ordering.{ordering_reverse}
use Rattle.shared_map.specs.Cuts.{IsCut, at_key}

pub is_cut-at_key : {K : Type 0} {cmp : K → K → Ordering} → IsTotalOrder cmp → (key : K)
    → IsCut cmp (at_key cmp key)
is_cut-at_key total key = record {
  before = λ one other rise less. total.trans one other key rise less;
  behind = λ one other rise greater.
      total.antisymm other key
      ∙ ap ordering_reverse
      (total.trans key one other (total.antisymm key one ∙ ap ordering_reverse greater) rise);
}

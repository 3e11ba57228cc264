-- What stays so, whatever comes.
use Rattle.std.specs.Prelude.{◌≡◌, List}
use mathlib.Core.List.{IsPrefix}
use Rattle.hist_lock.specs.declared.view.View.{View}

module _ {E : Type 0} where
  -- it is so after each legal list that begins with what was seen
  abbrev pub Stays : (List E → Type 0) → List E → (List E → Type 0) → Type 0
  Stays legal seen P = (log : List E) → IsPrefix seen log → legal log → P log

  -- the caller may have seen more, and has made no entry
  abbrev pub SeesOn : View E → View E → Type 0
  SeesOn v w = IsPrefix v.seen w.seen × (w.mine ≡ v.mine)

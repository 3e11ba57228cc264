-- Names that test as equal are.
use Rattle.std.proofs.Common.{◌≡◌, ℕ, true, List, arith}
use Rattle.std.proofs.lemmas.Map.Text.{is_eq-slice_cmp}
use Rattle.std.proofs.lemmas.Slice.Eq.{bytes_eq-Decides}
use Rattle.doc_nodes.specs.Names.{equal}

pub name_is : (xs ys : List ℕ) → equal xs ys ≡ true → xs ≡ ys
name_is xs ys e = grind (arith, bytes_eq-Decides xs ys, is_eq-slice_cmp xs ys)

pub name_itself : (xs : List ℕ) → equal xs xs ≡ true
name_itself xs = grind (arith, bytes_eq-Decides xs xs, is_eq-slice_cmp xs xs)

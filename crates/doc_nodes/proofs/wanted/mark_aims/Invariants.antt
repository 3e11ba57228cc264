use Rattle.std.proofs.Common.{◌≡◌, ℕ, ◌<◌, ◌||◌, length, take}
use Rattle.doc_nodes.specs.Looks.{marked}
use Rattle.doc_nodes.specs.Wanted.{is_aimed}
use Rattle.doc_nodes.proofs.wanted.mark_aims.Given as goal

abbrev pub invariant-aims : goal.invariant-aims
invariant-aims l = record {
  as_many : length l.marks ≡ length l.fn.marks;
  marks : (p : ℕ) → p < length l.fn.marks → marked l.marks p ≡ (is_aimed (take l.aim-index l.aims) p || marked l.fn.marks p);
}

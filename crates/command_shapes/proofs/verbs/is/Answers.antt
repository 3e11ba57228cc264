-- Names of different lengths are no same name.
use Rattle.std.proofs.Common.{rules, ◌≡◌, ℕ, false, List, length, refl, sym, ap}
use Rattle.std.specs.Ordering.{nat_cmp, is_eq}
use Rattle.std.specs.Cmp.Lexicographic.{slice_cmp}
use Rattle.std.proofs.lemmas.Map.Lookups.{exact_bytes}
use Rattle.std.specs.declared.cmp.Ordering.{Ordering}
use Rattle.std.specs.declared.cmp.Ordering.TheVariants.{Less, Equal, Greater}
use Rattle.doc_nodes.specs.Names.{equal}
use Rattle.command_shapes.proofs.verbs.is.Goals as goal

differ : (xs ys : List ℕ) → (length xs ≡ length ys → ⊥) → false ≡ equal xs ys
differ xs ys unlike = go (slice_cmp nat_cmp xs ys) refl
  where
    go : (o : Ordering) → slice_cmp nat_cmp xs ys ≡ o → false ≡ is_eq (slice_cmp nat_cmp xs ys)
    go Less e = sym (ap is_eq e)
    go Greater e = sym (ap is_eq e)
    go Equal e = absurd (unlike (ap length (exact_bytes xs ys e)))

pub returns-then-name-word : goal.returns-then-name-word
returns-then-name-word c = differ c.args.name.now c.args.word.now (λ e. search (rules, e))

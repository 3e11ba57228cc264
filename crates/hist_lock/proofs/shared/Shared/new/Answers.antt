use Rattle.std.proofs.Common.{rules, ◌≡◌, ◌∷◌, [], sym, subst, List, Option, Some}
use Rattle.atomic_table.specs.Table.{opening}
use Rattle.hist_lock.specs.Rule.{Kept, first_seat}
use Rattle.hist_lock.proofs.Bounds.{opens}
use Rattle.hist_lock.proofs.shared.Shared.new.Goals as goal

pub new-requires : goal.new-requires
new-requires g c = let S = g.row.S.Denot in let s = g.S.State in let x : S = c.args.state in
    let about : c.of-about.result.value ≡ x = search rules in
    let slots : c.push.new.self.items ≡ Some x ∷ [] = search rules in
    subst (λ (z : List (Option S) × S). Kept s.entries s.whose s.legal (opening (0 ∷ 0 ∷ c.count-count.result ∷ []) z.0 (first_seat (s.entries z.1)))) (λ i. (sym slots i, sym about i))
    (opens s.entries s.whose s.legal x c.count-count.result (search rules) (search rules) c.requires.legal c.requires.first)

use Rattle.std.proofs.Common.{arith, List, None, ap, sym, ◌∙◌, refl, subst}
use Rattle.std.specs.HashMap.{hash_map_len}
use Rattle.pide_base.specs.declared.part.Part.{Part}
use Rattle.core_tables.specs.Tasks.{standing}
use Rattle.core_tables.specs.Ready.{AreReady, with_standing}
use Rattle.core_tables.specs.Kept.{seen}
use Rattle.core_tables.proofs.Present.{Reordered, none_left, stands_here, part_left}
use Rattle.core_tables.proofs.KeptAltered.{gone_joined}
use Rattle.core_tables.proofs.queue.TaskQueue.cancel_group.Goals as goal
use Rattle.core_tables.proofs.queue.TaskQueue.cancel_group.Goals.{in-Some, in_default}

pub remove-requires : goal.remove-requires
remove-requires c =
    (stands_here c.self.inside c.args.self.now c.self.view_is c.self.invariant.ready c.number-number.result c.place_of-at.result c.in-Some.field-0
    (sym c.ready_kind.ensures ∙ c.in-Some.is) c.place_of-at.ensures).0

-- the part is taken out where it was ready
pub invariant_of-self : goal.invariant_of-self
invariant_of-self c =
    let q = c.self.inside in
    let i = c.match-ready_kind.self-inside in
    let x = c.number-number.result in
    let left : Reordered q x None i = elim c.match-ready_kind.branch [
      | in-Some w ↦
          let S : List Part → Type 0 = λ ps. AreReady (with_standing (standing (seen q)) x None) ps in
          let ready = part_left q c.args.self.now c.self.view_is c.self.invariant.ready x w.place_of-at.result w.in-Some.field-0
          (sym c.ready_kind.ensures ∙ w.in-Some.is) w.place_of-at.ensures in
          subst (Reordered q x None) (sym w.self-inside-is) (subst S (sym w.remove.ensures.parts) ready, refl, refl, w.remove.ensures.capacity)
      | in_default w ↦
          let ready = none_left q c.args.self.now c.self.view_is c.self.invariant.ready x (sym c.ready_kind.ensures ∙ w.in_default.is) in
          subst (Reordered q x None) (sym w.self-inside-is) (ready, refl, refl, refl)
    ] in
    gone_joined q i c.remove-2.new.tasks c.clear.new.self x c.self.invariant left.1 left.2 c.remove-2.ensures.tasks left.0
    (omega (arith, c.remove-2.ensures.len, c.self.invariant.room, left.3, ap (λ t. hash_map_len t) left.1))
    c.clear.ensures.all c.clear.ensures.kept

-- The last list of the rest comes in before those behind it.
use Rattle.std.proofs.Common.{[], ◌∷◌, ◌++◌, ◌-◌, length, take, refl, ap, sym, ◌∙◌, append_assoc}
use Rattle.std.specs.Prelude.{◌==◌}
use Rattle.std.specs.Option.{option_copied}
use Rattle.reply_messages.specs.declared.told.NodeRows.{NodeRows}
use Rattle.mirror_rules.specs.Rows.{is_unknown}
use Rattle.pide_mirror.specs.Listing.{listed_at}
use Rattle.pide_mirror.proofs.Listed.{known_at, unknown_at, listed_more, last_and_front, any_listed, gives_lent}
use Rattle.pide_mirror.proofs.listed_nodes.listing.Goals as goal

pub returns-in_default-2 : goal.returns-in_default-2
returns-in_default-2 c =
    let inv = c.listed.invariant in
    let rest = c.listed.rest.now in
    let one : NodeRows = c.one-item.result in
    let nodes = c.args.nodes.now in
    any_listed (is_unknown nodes) c.args.listed.now rest inv.0 one inv.1
    (last_and_front rest one c.in-len1-up.len_at_least c.one-item.is)
    (unknown_at nodes one (sym c.in_default-2.is ∙ c.in_ok-place.ensures))

pub listed-preserved : goal.listed-preserved
listed-preserved c =
    let inv = c.listed.invariant in
    let rest = c.listed.rest.now in
    let one : NodeRows = c.one-item.result in
    let nodes = c.args.nodes.now in
    let place = c.in-Some.place in
    let split = last_and_front rest one c.in-len1-up.len_at_least c.one-item.is in
    let facts = known_at nodes one place (sym c.in-Some.is ∙ c.in_ok-place.ensures) in
    let more = listed_more nodes inv.0 one place (listed_at c.listed.listing.entries) (listed_at c.insert.new.self.entries) facts.0 facts.1 inv.2 inv.3
    (λ d. ap option_copied (c.in_ok-insert.ensures.updates.0 d) ∙ gives_lent (place == d) one _ _ refl) in (
      one ∷ inv.0,
      inv.1 ∙ ap (λ r. r ++ inv.0) split ∙ append_assoc (take (length rest - 1) rest) (one ∷ []) inv.0,
      more.0,
      more.1,
    )

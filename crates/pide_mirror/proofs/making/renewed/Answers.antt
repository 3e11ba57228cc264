-- What is made is the new version.
use Rattle.std.proofs.Common.{◌≡◌, ℕ, None, subst, true, false}
use Rattle.std.specs.Prelude.{find, IfOk, MatchOption, if◌then◌else◌}
use Rattle.std.specs.Option.{option_or}
use Rattle.std.specs.List.{list_any}
use Rattle.mirror_rules.specs.Rows.{is_unknown}
use Rattle.pide_mirror.specs.InForce.{AreInForce}
use Rattle.pide_mirror.specs.Listing.{is_of, listed_at}
use Rattle.pide_mirror.specs.Renewed.{fresh_all, made_for, stale_in}
use Rattle.pide_mirror.specs.Tables.{table_of}
use Rattle.pide_mirror.proofs.Made.{renewed_kept}
use Rattle.pide_mirror.proofs.making.renewed.Goals as goal

pub returns : goal.returns
returns c = λ image buffer kept fits same.
    let nodes = c.args.nodes.now in
    let listed = c.args.listed.now in
    let tip = c.args.tip.now in
    let after = c.in_ok-known_of.field-0 in
    let facts = subst (λ o. MatchOption o (list_any (is_unknown nodes) listed ≡ true)
    (λ listing. (list_any (is_unknown nodes) listed ≡ false) × ((place : ℕ) → listed_at listing.entries place ≡ find (is_of nodes place) listed)))
    c.in-Some.is c.in_ok-listing.ensures in
    let made = c.in_ok-made.made.items in
    let of = c.in_ok-known_of.ensures in
    let places = subst (λ ms. (e d : ℕ) → table_of after.places e d ≡ option_or (if stale_in (made_for nodes ms) tip.nodes tip.rows e d
    then None else table_of tip.places e d) (fresh_all nodes ms e d)) c.deref.ensures.value
    (subst (λ r. IfOk r (λ places. (e d : ℕ) → table_of places e d ≡ option_or (if stale_in (made_for nodes c.deref.result.now) tip.nodes tip.rows e d
    then None else table_of tip.places e d) (fresh_all nodes c.deref.result.now e d))) of.3 c.all_places-places.ensures) in
    let aliases = subst (λ r. IfOk r (λ all. AreInForce nodes all)) of.2 c.all_aliases-aliases.ensures in (
      facts.0,
      renewed_kept tip image kept listed buffer nodes made c.args.untouched.now c.in-Some.listing.entries after same
          c.in_ok-made.ensures.sorted fits facts.1 c.in_ok-made.ensures.made of.0 of.1 places aliases,
    )

-- The table's answers in the words of the text's symbols.
use Rattle.std.proofs.Common.{◌≡◌, inl, inr, Some, ◌+◌, ◌≤◌, length, refl, ap, ◌∙◌, sym, subst}
use Rattle.std.specs.Prelude.{slice_get}
use Rattle.outer_syntax.specs.Boundaries.{LiesBetween}
use Rattle.symbol_markup.specs.Places.{symbol_place}
use Rattle.symbol_markup.proofs.places.SymbolPlaces.symbol_at.Goals as goal

pub returns-in-Ok : goal.returns-in-Ok
returns-in-Ok c =
    let n = c.in-Ok.symbol in
    let text = c.self.inside.text.now in
    let begins = subst (λ table. slice_get table n ≡ Some c.args.place) c.self.invariant c.in-Ok.ensures in
    let is = (c.places_are_numbered.ensures.at text n c.args.place).0 begins in
    let within : c.args.place ≤ length text = subst (λ t. c.args.place ≤ length t) (sym c.self.view_is) c.requires in
    (c.places_in_symbols.ensures.just text c.args.place (n + 1) within).0 (n, inl is, refl)
    ∙ ap (λ t. symbol_place t c.args.place) c.self.view_is

pub returns-in-Err : goal.returns-in-Err
returns-in-Err c =
    let n = c.in-Err.inside.symbol in
    let text = c.self.inside.text.now in
    let lies = subst (λ table. LiesBetween table n c.args.place) c.self.invariant c.in-Err.ensures in
    let is = (c.places_are_numbered.ensures.inside text n c.args.place).0 lies in
    let within : c.args.place ≤ length text = subst (λ t. c.args.place ≤ length t) (sym c.self.view_is) c.requires in
    (c.places_in_symbols.ensures.just text c.args.place (n + 1) within).0 (n, inr is, refl)
    ∙ ap (λ t. symbol_place t c.args.place) c.self.view_is

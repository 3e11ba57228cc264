-- The place, or the end before it.
use Rattle.std.proofs.Common.{length, ap, ◌∙◌, sym, arith}
use Rattle.symbol_markup.specs.Places.{symbol_place}
use Rattle.symbol_markup.proofs.SymbolCounts.{capped}
use Rattle.symbol_markup.proofs.places.SymbolPlaces.place.Goals as goal

pub overflow_add-result : goal.overflow_add-result
overflow_add-result c =
    omega (arith, c.symbol_at.ensures, c.places_in_symbols.ensures.within c.args.self.now c.min.result, ap length c.self.view_is)

pub returns : goal.returns
returns c =
    let text = c.self.inside.text.now in
    c.symbol_at.ensures
    ∙ ap (λ t. symbol_place t c.min.result) (sym c.self.view_is)
    ∙ ap (symbol_place text) c.min.ensures
    ∙ capped text c.args.place (c.places_in_symbols.ensures.behind text)
    ∙ ap (λ t. symbol_place t c.args.place) c.self.view_is

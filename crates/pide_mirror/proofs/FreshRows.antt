-- What comes in stands in a row.
use Rattle.std.proofs.Common.{◌≡◌, ℕ, zero, suc, Bool, true, false, List, [], ◌∷◌, Some, None, refl, ap, ◌∙◌}
use Rattle.std.specs.Prelude.{slice_get, if◌then◌else◌}
use Rattle.std.specs.Option.{option_or}
use Rattle.doc_nodes.specs.declared.node.Entry.{Entry}
use Rattle.buffer_rules.specs.Cuts.{source}
use Rattle.reply_messages.specs.declared.told.CommandRow.{CommandRow}
use Rattle.pide_mirror.specs.Places.{unreported}
use Rattle.pide_mirror.specs.Renewed.{gives, fresh_in}
use Rattle.pide_mirror.specs.declared.place.Place.{Place}

module _ (text : List ℕ) (exec c : ℕ) where
  pub fresh_from : (es : List Entry) (rows : List CommandRow) (place : Place) → fresh_in text es rows exec c ≡ Some place
      → (i : ℕ) × (e : Entry) × (row : CommandRow) × (slice_get es i ≡ Some e) × (slice_get rows i ≡ Some row) × (gives row exec c ≡ true) × (place ≡ unreported (source text e.range))
  fresh_from [] rows place is = absurd (cc)
  fresh_from (e ∷ es) [] place is = absurd (cc)
  fresh_from (e ∷ es) (row ∷ rows) place is = go (gives row exec c) refl is (fresh_from es rows place)
    where
      go : (b : Bool) → gives row exec c ≡ b → option_or (if b then Some (unreported (source text e.range)) else None) (fresh_in text es rows exec c) ≡ Some place
          → (fresh_in text es rows exec c ≡ Some place → (i : ℕ) × (d : Entry) × (r : CommandRow) × (slice_get es i ≡ Some d) × (slice_get rows i ≡ Some r) × (gives r exec c ≡ true) × (place ≡ unreported (source text d.range)))
          → (i : ℕ) × (d : Entry) × (r : CommandRow) × (slice_get (e ∷ es) i ≡ Some d) × (slice_get (row ∷ rows) i ≡ Some r) × (gives r exec c ≡ true) × (place ≡ unreported (source text d.range))
      go true gave at more = (zero, e, row, refl, refl, gave, cc)
      go false kept at more = let rest = more at in (suc rest.0, rest.1, rest.2, rest.3, rest.4, rest.5, rest.6)

  pub fresh_there : (es : List Entry) (rows : List CommandRow) (i : ℕ) (e : Entry) (row : CommandRow) → slice_get es i ≡ Some e → slice_get rows i ≡ Some row
      → gives row exec c ≡ true → (place : Place) × (fresh_in text es rows exec c ≡ Some place)
  fresh_there [] rows i e row et rt is = absurd (cc)
  fresh_there (d ∷ es) [] i e row et rt is = absurd (cc)
  fresh_there (d ∷ es) (r ∷ rows) zero e row et rt is =
      let same : r ≡ row = cc in
      (unreported (source text d.range), ap (λ b. option_or (if b then Some (unreported (source text d.range)) else None) (fresh_in text es rows exec c)) (ap (λ x. gives x exec c) same ∙ is))
  fresh_there (d ∷ es) (r ∷ rows) (suc i) e row et rt is = go (gives r exec c) (fresh_there es rows i e row et rt is)
    where
      go : (b : Bool) → (place : Place) × (fresh_in text es rows exec c ≡ Some place)
          → (place : Place) × (option_or (if b then Some (unreported (source text d.range)) else None) (fresh_in text es rows exec c) ≡ Some place)
      go true rest = (unreported (source text d.range), refl)
      go false rest = rest

-- What is told of an execution is what is shown of it.
use Rattle.std.proofs.Common.{◌≡◌, ℕ, Bool, true, false, cond, List, [], ◌∷◌, map, filter, Some, None, refl, ap, ◌∙◌}
use Rattle.std.specs.Option.{option_map, option_map_or}
use Rattle.pide_base.specs.declared.part.PartKind.{PartKind}
use Rattle.pide_base.specs.declared.range.Range.{Range}
use Rattle.doc_nodes.specs.declared.node.Entry.{Entry}
use Rattle.exec_rules.specs.declared.home.Home.{Home}
use Rattle.exec_rules.specs.declared.home.Input.{Input}
use Rattle.exec_rules.specs.declared.home.Input.TheVariants as input
use Rattle.language.specs.Lang.{Lang}
use Rattle.core_rules.specs.declared.event.Event.{Event}
use Rattle.core_rules.specs.Settings.{Setting, made_of, setting}
use Rattle.core_rules.specs.Parts.{kinds_by, parts_of, reports_in, reports_of}
use Rattle.core_rules.specs.Doc.{Doc}
use Rattle.core_rules.specs.Shown.{PartShown, shown_with}
use Rattle.prover_core.specs.Progress.{Completed, InOrder, part, completed_in, progress_by, result, execution_by}
use Rattle.prover_core.specs.Kept.{IsKnown}
use Rattle.core_jobs.specs.Parts.{parts_by}
use Rattle.prover_core.specs.Results.{is_reported}
use Rattle.prover_core.proofs.KindsNext.{is_in, finished_is}

module _ {S : Type 0} (l : Lang S) (span : Range) (e : ℕ) where
  -- a part of this kind, where it is finished or not
  abbrev pub seen : Setting S → Bool → PartKind → PartShown
  seen s done k = record { exec = e; span = span; reports = cond done (Some (reports_in l k s)) None }

  abbrev pub all_seen : Setting S → Completed → List PartKind → List PartShown
  all_seen s c ks = map (λ k. seen s (is_in k c) k) ks

  abbrev made : Bool → Bool → Bool → Completed
  made a b z = record { eval = a; fork = b; print = z }

  evaluation_seen : (s : Setting S) (f a b z : Bool) → (b ≡ true → a ≡ true) → filter is_reported (all_seen s (made a b z) (kinds_by (input.Next e) f))
      ≡ parts_by span e (progress_by (result l e s) f (input.Next e) (made a b z))
  evaluation_seen s false true b z order = refl
  evaluation_seen s false false b z order = refl
  evaluation_seen s true true true z order = refl
  evaluation_seen s true true false z order = refl
  evaluation_seen s true false false z order = refl
  evaluation_seen s true false true z order = let no : false ≡ true = order refl in absurd (cc)

  -- those that are finished
  pub finished_seen : (s : Setting S) (taken : Input) (f : Bool) (c : Completed) → InOrder c
      → filter is_reported (all_seen s c (kinds_by taken f)) ≡ parts_by span e (progress_by (result l e s) f taken c)
  finished_seen s (input.First head) f c order = evaluation_seen s f c.eval c.fork c.print order
  finished_seen s (input.Next q) f c order = evaluation_seen s f c.eval c.fork c.print order
  finished_seen s (input.Print q) f c order = by f c.eval c.fork c.print
    where
      by : (f a b z : Bool) → filter is_reported (all_seen s (made a b z) (kinds_by (input.Print q) f))
          ≡ parts_by span e (progress_by (result l e s) f (input.Print q) (made a b z))
      by f a b true = refl
      by f a b false = refl

module _ {S : Type 0} (l : Lang S) (h : List Event) (d : Doc) (entry : Entry) (e : ℕ) (x : IsKnown l d.homes e) where
  abbrev shown : PartKind → PartShown
  shown k = shown_with h entry (reports_of l d.homes (part e k)) (part e k)

  one_shown : (k : PartKind) → shown k ≡ seen l entry.range e x.works_on (is_in k (completed_in h e)) k
  one_shown k =
      ap (λ b. record { exec = e; span = entry.range; reports = cond b (reports_of l d.homes (part e k)) None }) (finished_is h e k)
      ∙ ap (λ o. record { exec = e; span = entry.range; reports = cond (is_in k (completed_in h e)) (option_map (reports_in l k) o) None }) x.setting_is

  kinds_shown : (ks : List PartKind) → map (λ p. shown_with h entry (reports_of l d.homes p) p) (map (λ k. part e k) ks)
      ≡ all_seen l entry.range e x.works_on (completed_in h e) ks
  kinds_shown [] = refl
  kinds_shown (k ∷ ks) =
      ap (λ (p : PartShown). p ∷ map (λ q. shown_with h entry (reports_of l d.homes q) q) (map (λ y. part e y) ks)) (one_shown k)
      ∙ ap (λ (ps : List PartShown). seen l entry.range e x.works_on (is_in k (completed_in h e)) k ∷ ps) (kinds_shown ks)

  its_parts : parts_of l d.homes e ≡ map (λ k. part e k) (kinds_by x.home.input (made_of l x.works_on).forks)
  its_parts =
      ap (λ o. option_map_or (λ (y : Home). map (λ k. part e k)
      (kinds_by y.input (option_map_or (λ s. (made_of l s).forks) (setting l d.homes e) false))) o []) x.homed
      ∙ ap (λ o. map (λ k. part e k) (kinds_by x.home.input (option_map_or (λ s. (made_of l s).forks) o false))) x.setting_is

  pub execution_shown : (c : Bool) → InOrder (completed_in h e)
      → filter is_reported (map (λ p. shown_with h entry (reports_of l d.homes p) p) (parts_of l d.homes e))
      ≡ parts_by entry.range e (execution_by l c e (completed_in h e) x.home x.works_on).progress
  execution_shown c order =
      ap (λ ps. filter is_reported (map (λ p. shown_with h entry (reports_of l d.homes p) p) ps)) its_parts
      ∙ ap (filter is_reported) (kinds_shown (kinds_by x.home.input (made_of l x.works_on).forks))
      ∙ finished_seen l entry.range e x.works_on x.home.input (made_of l x.works_on).forks (completed_in h e) order

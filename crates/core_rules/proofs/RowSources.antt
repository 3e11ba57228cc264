-- What the executions that a version assigns take up is assigned as well, and older.
use Rattle.std.proofs.Common.{◌≡◌, inl, inr, ℕ, ◌<◌, true, List, [], ◌∷◌, Some, refl, ap, sym, subst, ◌∙◌}
use Rattle.std.specs.List.{AllByRecursion}
use Rattle.exec_rules.specs.declared.row.Row.{Row}
use Rattle.exec_rules.specs.declared.home.Head.{Head}
use Rattle.exec_rules.specs.declared.home.Input.TheVariants as input
use Rattle.exec_rules.specs.declared.version.Version.{Version}
use Rattle.exec_rules.specs.Homes.{home}
use Rattle.language.specs.Lang.{Lang}
use Rattle.core_rules.specs.Numbered.{numbered}
use Rattle.core_rules.specs.Assigned.{assigns}
use Rattle.core_rules.specs.Settings.{setting}
use Rattle.core_rules.specs.Parts.{sources_of}
use Rattle.core_rules.specs.Doc.{Doc}
use Rattle.core_rules.specs.FromScratch.{assigned_to, head_in, input_at, PrintIs, IsFromScratch}
use Rattle.core_rules.specs.Sources.{IsSource, HasHome}
use Rattle.core_rules.proofs.Tables.{AreOlder}
use Rattle.core_rules.proofs.Facts.{NodeFacts}
use Rattle.core_rules.proofs.Sound.{IsSound}
use Rattle.core_rules.proofs.FromScratchLaw.{from_scratch}
use Rattle.core_rules.proofs.AssignedRows.{IsIn, RowAt, EvalRow, assigned_at_row, eval_assigned, eval_row}
use Rattle.core_rules.proofs.RowEvals.{sources_evals}
use Rattle.core_rules.proofs.HandedSources.{older_than, begins_from, input_evaluates}

module _ {S : Type 0} (l : Lang S) (d : Doc) (older : AreOlder d.homes) (v : Version) (facts : NodeFacts v.nodes)
    (sound : IsSound d.homes v) where
  at_row : (holds : Row → Type 0) (r : RowAt v holds) → IsFromScratch l d v r.place r.pair r.index r.row
  at_row holds r = from_scratch l d older v facts sound r.place r.index r.pair r.row r.node r.at

  source : (e f : ℕ) → f < e → EvalRow v f → IsSource d v e f
  source e f lt r =
      let so = at_row (λ row. f ≡ row.evaluation) r in record {
        older = lt;
        assigned = eval_assigned v f r;
        home = home r.pair.1 v.blobs so.command (input_at (head_in v.nodes r.place r.pair (assigned_to v r.place).key) (assigned_to v r.place).rows r.index);
        homed = ap (numbered d.homes) r.is ∙ so.homed;
        evaluates = input_evaluates (head_in v.nodes r.place r.pair (assigned_to v r.place).key) (assigned_to v r.place).rows r.index;
      }

  all_sources : (e : ℕ) (fs : List ℕ) → AllByRecursion (λ f. f < e) fs → AllByRecursion (EvalRow v) fs → AllByRecursion (IsSource d v e) fs
  all_sources e [] lt rows = tt
  all_sources e (f ∷ fs) lt rows = (source e f lt.0 rows.0, all_sources e fs lt.1 rows.1)

  pub has_home : (e : ℕ) → assigns v e ≡ true → HasHome l d v e
  has_home e is = go r.is
    where
      r : RowAt v (λ row. IsIn row e)
      r = assigned_at_row v e sound.long is

      so : IsFromScratch l d v r.place r.pair r.index r.row
      so = at_row (λ row. IsIn row e) r

      head : Head
      head = head_in v.nodes r.place r.pair (assigned_to v r.place).key

      evaluation : e ≡ r.row.evaluation → HasHome l d v e
      evaluation same =
          let homed = ap (numbered d.homes) same ∙ so.homed in record {
            home = home r.pair.1 v.blobs so.command (input_at head (assigned_to v r.place).rows r.index);
            homed = homed;
            works_on = so.works_on;
            setting_is = subst (λ n. setting l d.homes n ≡ Some so.works_on) (sym same) so.kept;
            sources = all_sources e (sources_of (input_at head (assigned_to v r.place).rows r.index))
                (older_than d.homes e _ older homed)
                (sources_evals v head r.place r.index r.pair r.row r.node r.at so.key);
            begins = begins_from v r.place r.index r.pair so.key so.closed;
          }

      go : IsIn r.row e → HasHome l d v e
      go (inl same) = evaluation same
      go (inr printed) =
          let print : PrintIs l d (Some e) (home r.pair.1 v.blobs so.command) r.row.evaluation so.works_on =
          subst (λ o. PrintIs l d o (home r.pair.1 v.blobs so.command) r.row.evaluation so.works_on) printed so.prints in
          let old = older_than d.homes e _ older print.0 in record {
            home = home r.pair.1 v.blobs so.command (input.Print r.row.evaluation);
            homed = print.0;
            works_on = _;
            setting_is = print.1;
            sources = (
              source e r.row.evaluation old.0 (eval_row r r.row.evaluation refl),
              tt,
            );
            begins = tt;
          }

-- Each assigned execution of a sound version comes to what it does from nothing.
use Rattle.std.proofs.Common.{◌≡◌, ℕ, zero, suc, List, [], ◌∷◌, Option, Some, None, refl, ap, sym, subst, ◌∙◌, arith}
use Rattle.std.proofs.lemmas.Option.{slice_get_within}
use Rattle.std.specs.Prelude.{slice_get}
use Rattle.std.specs.Option.{option_map, option_map_or}
use Rattle.doc_nodes.specs.declared.node.Entry.{Entry}
use Rattle.doc_nodes.specs.declared.node.Node.{Node}
use Rattle.exec_rules.specs.declared.row.Row.{Row}
use Rattle.exec_rules.specs.declared.home.Head.{Head}
use Rattle.exec_rules.specs.declared.home.Input.{Input}
use Rattle.exec_rules.specs.declared.home.Input.TheVariants as input
use Rattle.exec_rules.specs.declared.version.Version.{Version}
use Rattle.exec_rules.specs.Homes.{home}
use Rattle.exec_rules.specs.Kept.{BlobList, blob_of}
use Rattle.exec_rules.proofs.KnownThere.{get_there}
use Rattle.language.specs.Lang.{Lang}
use Rattle.core_rules.specs.Numbered.{numbered}
use Rattle.core_rules.specs.Settings.{Setting, state_behind, setting}
use Rattle.core_rules.specs.Doc.{Doc}
use Rattle.core_rules.specs.FromScratch.{assigned_to, head_in, input_at, PrintIs, AllFromScratch}
use Rattle.core_rules.specs.Updates.{source_in}
use Rattle.core_rules.proofs.Tables.{AreOlder}
use Rattle.core_rules.proofs.HomedRows.{Homes, evals, EvalsHomed, PrintHomed, PrintsHomed}
use Rattle.core_rules.proofs.Facts.{NodeFacts}
use Rattle.core_rules.proofs.Sound.{IsSound}
use Rattle.core_rules.proofs.SettingsBy.{setting_at}
use Rattle.core_rules.proofs.RunAgree.{agree_at}
use Rattle.core_rules.proofs.ScratchDone.{scratch_agrees}

-- what the evaluation at a place takes up, where the first takes up this
abbrev pub input_from : Input → List Row → ℕ → Input
input_from first rows zero = first
input_from first rows (suc i) = option_map_or (λ row. input.Next row.evaluation) (slice_get rows i) first

from_rest : (first : Input) (r : Row) (rs : List Row) (j : ℕ) (row : Row) → slice_get rs j ≡ Some row
    → input_from (input.Next r.evaluation) rs j ≡ input_from first (r ∷ rs) (suc j)
from_rest first r rs zero row at = refl
from_rest first r rs (suc j) row at =
    let lt = slice_get_within rs (suc j) row at in
    let there = get_there rs j (omega (arith, lt)) in
    ap (λ o. option_map_or (λ (row : Row). input.Next row.evaluation) o (input.Next r.evaluation)) there.1
    ∙ sym (ap (λ o. option_map_or (λ (row : Row). input.Next row.evaluation) o first) there.1)

-- the command at a place, with the homes of its executions
pub record HomedAt (at : Homes) (node : Node) (blobs : BlobList) (es : List Entry) (i : ℕ) (row : Row) (up : Input) : Type 0 where
  pub command : Entry
  pub stands : slice_get es i ≡ Some command
  pub homed : at row.evaluation ≡ Some (home node blobs command up)
  pub print : PrintHomed at node blobs command row.evaluation row.print

homed_at : (at : Homes) (node : Node) (blobs : BlobList) (es : List Entry) (rs : List Row) (first : Input) (i : ℕ) (row : Row)
    → EvalsHomed at node blobs es (evals rs) first → PrintsHomed at node blobs es rs → slice_get rs i ≡ Some row
    → HomedAt at node blobs es i row (input_from first rs i)
homed_at at node blobs es [] first i row evs prints is = absurd (cc)
homed_at at node blobs [] (r ∷ rs) first i row evs prints is = absurd evs
homed_at at node blobs (e ∷ es) (r ∷ rs) first zero row evs prints is =
    let same : r ≡ row = cc in
    subst (λ x. HomedAt at node blobs (e ∷ es) zero x first) same
    (record { command = e; stands = refl; homed = evs.0; print = prints.0 })
homed_at at node blobs (e ∷ es) (r ∷ rs) first (suc j) row evs prints is =
    let rest = homed_at at node blobs es rs (input.Next r.evaluation) j row evs.1 prints.1 is in
    record {
      command = rest.command;
      stands = rest.stands;
      homed = rest.homed ∙ ap (λ i. Some (home node blobs rest.command i)) (from_rest first r rs j row is);
      print = rest.print;
    }

same_input : (head : Head) (rows : List Row) (i : ℕ) → input_from (input.First head) rows i ≡ input_at head rows i
same_input head rows zero = refl
same_input head rows (suc i) = refl

evals_at : (rows : List Row) (i : ℕ) (row : Row) → slice_get rows i ≡ Some row → slice_get (evals rows) i ≡ Some row.evaluation
evals_at [] i row at = absurd (cc)
evals_at (r ∷ rows) zero row at = let same : r ≡ row = cc in ap (λ (x : Row). Some x.evaluation) same
evals_at (r ∷ rows) (suc i) row at = evals_at rows i row at

module _ {S : Type 0} (l : Lang S) where
  parts_by : (source : List ℕ) (blob : Option (List ℕ)) (o : Option S) (s : Setting S)
      → option_map (λ state. record { source = source; blob = blob; state = state }) o ≡ Some s
      → (source ≡ s.source) × (blob ≡ s.blob)
  parts_by source blob None s e = absurd (cc)
  parts_by source blob (Some state) s e =
      let same : record { source = source; blob = blob; state = state } ≡ s = cc in
      (ap (λ (x : Setting S). x.source) same, ap (λ (x : Setting S). x.blob) same)

  module _ (d : Doc) (older : AreOlder d.homes) (v : Version) (pair : List ℕ × Node) where
    -- a print works on the state behind its command
    pub print_works : (e : Entry) (i : Input) (ev : ℕ) (o : Option ℕ) (s : Setting S)
        → numbered d.homes ev ≡ Some (home pair.1 v.blobs e i) → setting l d.homes ev ≡ Some s
        → PrintHomed (numbered d.homes) pair.1 v.blobs e ev o → PrintIs l d o (home pair.1 v.blobs e) ev s
    print_works e i ev None s at works print = tt
    print_works e i ev (Some q) s at works print =
        let same = parts_by (source_in pair.1 e) (blob_of v.blobs e.needs) _ s
        (sym (setting_at l d.homes ev (home pair.1 v.blobs e i) older at) ∙ works) in (
          print,
          setting_at l d.homes q (home pair.1 v.blobs e (input.Print ev)) older print
              ∙ ap (option_map (λ state. record { source = source_in pair.1 e; blob = blob_of v.blobs e.needs; state = state }))
              (ap (option_map (state_behind l)) works)
              ∙ ap (λ x. Some (record { source = x; blob = blob_of v.blobs e.needs; state = state_behind l s })) same.0
              ∙ ap (λ x. Some (record { source = s.source; blob = x; state = state_behind l s })) same.1,
        )

  pub from_scratch : (d : Doc) (older : AreOlder d.homes) (v : Version) → NodeFacts v.nodes → IsSound d.homes v
      → AllFromScratch l d v
  from_scratch d older v facts sound p i pair row at is =
      let here = sound.each p pair at in
      let lt = slice_get_within (assigned_to v p).rows i row is in
      let head : Head = head_in v.nodes p pair (assigned_to v p).key in
      let homed = homed_at (numbered d.homes) pair.1 v.blobs pair.1.entries (assigned_to v p).rows (input.First head) i row
      here.stands.homed.evaluate here.stands.homed.print is in
      let works = agree_at l d.homes older pair.1 v.blobs (evals (assigned_to v p).rows) _ i row.evaluation
      (scratch_agrees l d.homes older v facts sound p pair at) (evals_at (assigned_to v p).rows i row is) in
      record {
        command = homed.command;
        stands = homed.stands;
        key = here.key;
        closed = here.closed (omega (arith, lt));
        homed = homed.homed ∙ ap (λ x. Some (home pair.1 v.blobs homed.command x)) (same_input head (assigned_to v p).rows i);
        works_on = works.0;
        kept = works.2;
        scratch = works.1;
        prints = print_works d older v pair homed.command _ row.evaluation row.print works.0 homed.homed works.2 homed.print;
      }

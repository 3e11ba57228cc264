-- What a version shows of an evaluation.
use Rattle.std.proofs.Common.{◌≡◌, ℕ, Bool, true, false, List, [], ◌∷◌, map, refl, ap, sym, ◌∙◌}
use Rattle.std.proofs.lemmas.Bool.{and_parts, false≢true}
use Rattle.std.specs.Prelude.{if◌then◌else◌}
use Rattle.std.specs.Option.{option_map_or}
use Rattle.pide_base.specs.declared.part.Part.{Part}
use Rattle.pide_base.specs.declared.part.PartKind.{PartKind}
use Rattle.pide_base.specs.declared.part.PartKind.TheVariants as kind
use Rattle.doc_nodes.specs.declared.node.Entry.{Entry}
use Rattle.doc_nodes.specs.declared.node.Node.{Node}
use Rattle.exec_rules.specs.declared.home.Home.{Home}
use Rattle.exec_rules.specs.declared.home.Input.{Input}
use Rattle.exec_rules.specs.declared.home.Input.TheVariants as input
use Rattle.exec_rules.specs.declared.row.Row.{Row}
use Rattle.exec_rules.specs.declared.version.Version.{Version}
use Rattle.language.specs.Lang.{Lang}
use Rattle.core_rules.specs.declared.event.Event.{Event}
use Rattle.core_rules.specs.Settings.{Setting, made_of}
use Rattle.core_rules.specs.Parts.{forks, kinds_by, reports_of}
use Rattle.core_rules.specs.Doc.{Doc}
use Rattle.core_rules.specs.FromScratch.{IsFromScratch, assigned_to, head_in, input_at}
use Rattle.core_rules.specs.Legal.{IsLegal}
use Rattle.core_rules.specs.Shown.{PartShown, shown_with}
use Rattle.core_rules.specs.Standing.{Standing, is_done, is_finished, is_unclaimed, standing}
use Rattle.editor_laws.proofs.CoreParts.{shown_parts}
use Rattle.editor_laws.proofs.Facts.{Facts}
use Rattle.editor_laws.proofs.HomeSources.{eval_input, is_eval}

eval_kinds : (i : Input) (b : Bool) → is_eval i → kinds_by i b ≡ kind.Eval ∷ (if b then kind.Fork ∷ [] else [])
eval_kinds (input.First head) b is = refl
eval_kinds (input.Next e) b is = refl
eval_kinds (input.Print e) b is = absurd is

abbrev part : PartKind → ℕ → Part
part k exec = record { exec = exec; kind = k }

module _ {S : Type 0} (l : Lang S) (h : List Event) (d : Doc) (v : Version) (p : ℕ) (pair : List ℕ × Node) (i : ℕ) (row : Row)
    (x : IsFromScratch l d v p pair i row) (e : Entry) where
  abbrev shown : Part → PartShown
  shown q = shown_with h e (reports_of l d.homes q) q

  -- its own part and, where its command forks, the fork
  pub core_eval : shown_parts l h d.homes e row.evaluation
      ≡ shown (part kind.Eval row.evaluation) ∷ (if (made_of l x.works_on).forks then shown (part kind.Fork row.evaluation) ∷ [] else [])
  core_eval =
      ap (λ o. map shown (option_map_or (λ (y : Home). map (λ k. part k row.evaluation) (kinds_by y.input (forks l d.homes row.evaluation))) o [])) x.homed
      ∙ ap (λ ks. map shown (map (λ k. part k row.evaluation) ks))
      (eval_kinds (input_at (head_in v.nodes p pair (assigned_to v p).key) (assigned_to v p).rows i) (forks l d.homes row.evaluation)
      (eval_input (head_in v.nodes p pair (assigned_to v p).key) (assigned_to v p).rows i))
      ∙ ap (λ b. map shown (map (λ k. part k row.evaluation) (kind.Eval ∷ (if b then kind.Fork ∷ [] else []))))
      (ap (λ o. option_map_or (λ (t : Setting S). (made_of l t).forks) o false) x.kept)
      ∙ go (made_of l x.works_on).forks
    where
      go : (b : Bool) → map shown (map (λ k. part k row.evaluation) (kind.Eval ∷ (if b then kind.Fork ∷ [] else [])))
          ≡ shown (part kind.Eval row.evaluation) ∷ (if b then shown (part kind.Fork row.evaluation) ∷ [] else [])
      go true = refl
      go false = refl

-- a fork is unfinished as long as its evaluation is
pub fork_waits : {S : Type 0} (l : Lang S) → Facts l → (h : List Event) → IsLegal l h → (exec : ℕ)
    → is_finished h (part kind.Eval exec) ≡ false → is_finished h (part kind.Fork exec) ≡ false
fork_waits l facts h legal exec unfinished = go (is_finished h (part kind.Fork exec)) refl
  where
    taken : (s : Standing) → is_done s ≡ true → is_unclaimed s ≡ false
    taken Standing.Free is = absurd (cc)
    taken (Standing.Held w) is = absurd (cc)
    taken Standing.Done is = refl

    go : (b : Bool) → is_finished h (part kind.Fork exec) ≡ b → is_finished h (part kind.Fork exec) ≡ false
    go false is = is
    go true is =
        let inputs = facts.begun h (part kind.Fork exec) legal (taken (standing h (part kind.Fork exec)) is) in
        absurd (false≢true (sym unfinished ∙ (and_parts (is_finished h (part kind.Eval exec)) true inputs).0))

-- What a version shows of a node is what it is from nothing.
use Rattle.std.proofs.Common.{◌≡◌, ℕ, Bool, true, false, cond, List, [], ◌∷◌, ◌++◌, map, Option, Some, None, refl, ap, ◌∙◌}
use Rattle.std.specs.Prelude.{⊤, flat_map}
use Rattle.std.specs.Option.{option_map, option_map_or}
use Rattle.pide_base.specs.declared.part.Part.{Part}
use Rattle.pide_base.specs.declared.part.PartKind.{PartKind}
use Rattle.pide_base.specs.declared.part.PartKind.TheVariants as kind
use Rattle.doc_nodes.specs.declared.node.Entry.{Entry}
use Rattle.doc_nodes.specs.declared.node.Node.{Node}
use Rattle.exec_rules.specs.declared.row.Row.{Row}
use Rattle.exec_rules.specs.declared.home.Input.{Input}
use Rattle.exec_rules.specs.declared.home.Input.TheVariants as input
use Rattle.exec_rules.specs.declared.home.Home.{Home}
use Rattle.exec_rules.specs.declared.version.Version.{Version}
use Rattle.exec_rules.specs.Homes.{home}
use Rattle.exec_rules.specs.Listed.{print_list}
use Rattle.language.specs.Lang.{Lang}
use Rattle.core_rules.specs.declared.event.Event.{Event}
use Rattle.core_rules.specs.Numbered.{numbered}
use Rattle.core_rules.specs.Settings.{Setting, made_of, forked, printed, state_behind, setting}
use Rattle.core_rules.specs.Parts.{forks, kinds_by, parts_of, reports_in, reports_of}
use Rattle.core_rules.specs.Doc.{Doc}
use Rattle.core_rules.specs.Shown.{PartShown, shown_with, command_parts, commands_parts, scratch_parts, scratches_parts}
use Rattle.core_rules.specs.FromScratch.{PrintIs}
use Rattle.core_rules.proofs.Tables.{AreOlder}
use Rattle.core_rules.proofs.HomedRows.{evals, EvalsHomed, PrintHomed, PrintsHomed}
use Rattle.core_rules.proofs.RunAgree.{Agree}
use Rattle.core_rules.proofs.FromScratchLaw.{print_works}

-- an evaluation takes this up
abbrev pub IsEval : Input → Type 0
IsEval (input.Print e) = ⊥
IsEval i = ⊤

pub eval_kinds : (i : Input) (b : Bool) → IsEval i → kinds_by i b ≡ kind.Eval ∷ cond b (kind.Fork ∷ []) []
eval_kinds (input.First head) b is = refl
eval_kinds (input.Next e) b is = refl
eval_kinds (input.Print e) b is = absurd is

module _ {S : Type 0} (l : Lang S) (h : List Event) (d : Doc) (older : AreOlder d.homes) (v : Version)
    (pair : List ℕ × Node) where
  abbrev part : ℕ → PartKind → Part
  part e k = record { exec = e; kind = k }

  abbrev shown : Entry → Part → PartShown
  shown e p = shown_with h e (reports_of l d.homes p) p

  eval_parts : (e : Entry) (i : Input) (ev : ℕ) (s : Setting S) → IsEval i
      → numbered d.homes ev ≡ Some (home pair.1 v.blobs e i) → setting l d.homes ev ≡ Some s
      → map (shown e) (parts_of l d.homes ev)
      ≡ shown_with h e (Some (made_of l s).reports) (part ev kind.Eval)
      ∷ cond (made_of l s).forks (shown_with h e (Some (forked l s)) (part ev kind.Fork) ∷ []) []
  eval_parts e i ev s is at works =
      ap (λ o. map (shown e) (option_map_or
      (λ (x : Home). map (λ k. part ev k) (kinds_by x.input (forks l d.homes ev))) o [])) at
      ∙ ap (λ ks. map (shown e) (map (λ k. part ev k) ks)) (eval_kinds i (forks l d.homes ev) is)
      ∙ ap (λ o. map (shown e) (map (λ k. part ev k) (kind.Eval ∷ cond (option_map_or (λ s. (made_of l s).forks) o false) (kind.Fork ∷ []) []))) works
      ∙ ap (λ o. shown_with h e (option_map (reports_in l kind.Eval) o) (part ev kind.Eval)
      ∷ map (shown e) (map (λ k. part ev k) (cond (made_of l s).forks (kind.Fork ∷ []) []))) works
      ∙ ap (λ xs. shown_with h e (Some (made_of l s).reports) (part ev kind.Eval) ∷ xs) (go (made_of l s).forks)
    where
      go : (b : Bool) → map (shown e) (map (λ k. part ev k) (cond b (kind.Fork ∷ []) []))
          ≡ cond b (shown_with h e (Some (forked l s)) (part ev kind.Fork) ∷ []) []
      go true = ap (λ o. shown_with h e (option_map (reports_in l kind.Fork) o) (part ev kind.Fork) ∷ []) works
      go false = refl

  print_parts : (e : Entry) (ev : ℕ) (o : Option ℕ) (s : Setting S) → PrintIs l d o (home pair.1 v.blobs e) ev s
      → flat_map (λ exec. map (shown e) (parts_of l d.homes exec)) (print_list o)
      ≡ option_map_or (λ q. shown_with h e (Some (printed l (record s { state = state_behind l s }))) (part q kind.Print) ∷ []) o []
  print_parts e ev None s is = refl
  print_parts e ev (Some q) s is =
      ap (λ o. map (shown e) (option_map_or
      (λ (x : Home). map (λ k. part q k) (kinds_by x.input (forks l d.homes q))) o []) ++ []) is.0
      ∙ ap (λ o. shown_with h e (option_map (reports_in l kind.Print) o) (part q kind.Print) ∷ []) is.1

  row_parts : (e : Entry) (i : Input) (row : Row) (s : Setting S) → IsEval i
      → numbered d.homes row.evaluation ≡ Some (home pair.1 v.blobs e i) → setting l d.homes row.evaluation ≡ Some s
      → PrintHomed (numbered d.homes) pair.1 v.blobs e row.evaluation row.print
      → command_parts l h d.homes e row ≡ scratch_parts l h e row s
  row_parts e i row s is at works print =
      ap (λ xs. xs ++ flat_map (λ exec. map (shown e) (parts_of l d.homes exec)) (print_list row.print))
      (eval_parts e i row.evaluation s is at works)
      ∙ ap (λ xs. (shown_with h e (Some (made_of l s).reports) (part row.evaluation kind.Eval)
      ∷ cond (made_of l s).forks (shown_with h e (Some (forked l s)) (part row.evaluation kind.Fork) ∷ []) []) ++ xs)
      (print_parts e row.evaluation row.print s (print_works l d older v pair e i row.evaluation row.print s at works print))

  pub all_parts : (es : List Entry) (rows : List Row) (ss : List (Setting S)) (i : Input) → IsEval i
      → EvalsHomed (numbered d.homes) pair.1 v.blobs es (evals rows) i → PrintsHomed (numbered d.homes) pair.1 v.blobs es rows
      → Agree l d.homes older pair.1 v.blobs (evals rows) ss
      → commands_parts l h d.homes es rows ≡ scratches_parts l h es rows ss
  all_parts es [] ss i is evs prints agree = none es ss
    where
      none : (es : List Entry) (ss : List (Setting S)) → commands_parts l h d.homes es [] ≡ scratches_parts l h es [] ss
      none [] ss = refl
      none (e ∷ es) ss = refl
  all_parts [] (r ∷ rows) ss i is evs prints agree = absurd evs
  all_parts (e ∷ es) (r ∷ rows) [] i is evs prints agree = absurd agree
  all_parts (e ∷ es) (r ∷ rows) (s ∷ ss) i is evs prints agree =
      ap (λ xs. xs ++ commands_parts l h d.homes es rows) (row_parts e i r s is evs.0 agree.0 prints.0)
      ∙ ap (λ xs. scratch_parts l h e r s ++ xs)
      (all_parts es rows ss (input.Next r.evaluation) tt evs.1 prints.1 agree.1)

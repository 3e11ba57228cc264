-- Each command leaves a plain place behind a plain place, and reports plain words.
use Rattle.std.proofs.Common.{◌≡◌, ℕ, Bool, true, false, cond, List, [], ◌∷◌, Option, IfSome, Ok}
use Rattle.std.proofs.Common.{Err, refl}
use Rattle.std.specs.List.{AllByRecursion}
use Rattle.text_words.proofs.KnownLists.{each-both}
use Rattle.outer_syntax.specs.Kinds.{is_command}
use Rattle.outer_syntax.specs.Tokens.{text_of}
use Rattle.outer_syntax.specs.declared.kind.Kind.{Kind}
use Rattle.outer_syntax.specs.declared.kind.Kind.TheVariants as kind
use Rattle.outer_syntax.specs.declared.token.Token.{Token}
use Rattle.report_markup.specs.declared.kind.ReportKind.TheVariants as reported
use Rattle.report_markup.specs.declared.report.Report.{Report}
use Rattle.doc_nodes.specs.Needs.{AliasList, source_tokens}
use Rattle.isar_rules.specs.declared.state.State.{State}
use Rattle.isar_rules.specs.declared.state.Place.{Place}
use Rattle.isar_rules.specs.declared.state.Place.TheVariants as place
use Rattle.isar_rules.specs.Effects.{Effect}
use Rattle.isar_rules.specs.Errors.{Tried}
use Rattle.isar_rules.specs.Reports.{report, name_is, announced}
use Rattle.isar_rules.specs.Shapes.{shape_of}
use Rattle.isar_rules.specs.Steps.{tried, made_effect, after_error, aliases_at, step}
use Rattle.isar_rules.proofs.KnownQuiet.{sorted}
use Rattle.editor_laws.proofs.PlainTexts.{Plain, spelled}
use Rattle.editor_laws.proofs.TokenNames.{IfName, TokenPlain}
use Rattle.editor_laws.proofs.WordNames.{source_plain}
use Rattle.editor_laws.proofs.HeaderNames.{HeaderLaw}
use Rattle.editor_laws.proofs.PlainStates.{ReportPlain, PlacePlain}
use Rattle.editor_laws.proofs.ToldTries.{IfTold}
use Rattle.editor_laws.proofs.PlainOrders.{EffectPlain}
use Rattle.editor_laws.proofs.HeadShapes.{any_shape, first_shape}
use Rattle.editor_laws.proofs.PlainEffects.{PlainAt, tried_plain}

error_plain : (p : Place) → PlacePlain p → PlacePlain (after_error p)
error_plain (place.Start node given keyword) plain = tt
error_plain place.Outside plain = tt
error_plain (place.Theory theory) plain = plain
error_plain (place.Proof theory name goal levels) plain = plain
error_plain (place.End theory) plain = plain

command_plain : (k : Kind) (s : List ℕ) → IfName k s → is_command k ≡ true → Plain s
command_plain kind.Command s plain is = plain
command_plain _ s plain is = cc

announced_plain : (source : List ℕ) (ts : List Token) → AllByRecursion (TokenPlain source) ts
    → AllByRecursion ReportPlain (announced source ts)
announced_plain source [] all = tt
announced_plain source (t ∷ ts) all = go (is_command t.kind) refl
  where
    go : (b : Bool) → is_command t.kind ≡ b
        → AllByRecursion ReportPlain
        (cond b (report reported.Command t.range (name_is (text_of source t) ∷ []) [] ∷ []) [])
    go true is = (((command_plain t.kind (text_of source t) all.0 is, tt), spelled refl), tt)
    go false is = tt

-- the place behind a command, and its reports
pub record IsPlainlyMade (place : Place) (reports : List Report) : Type 0 where
  pub behind : PlacePlain place
  pub told : AllByRecursion ReportPlain reports

made_plain : (source : List ℕ) (ts : List Token) (before : State) (t : Tried Effect)
    → AllByRecursion (TokenPlain source) ts → PlacePlain before.place → IfTold EffectPlain t
    → IsPlainlyMade (made_effect source ts before t).state.place
    (made_effect source ts before t).reports
made_plain source ts before (Ok e) all plain told =
    record {
      behind = told.0;
      told = sorted ReportPlain _
          (each-both ReportPlain (announced source ts) e.reports
          (announced_plain source ts all) told.1);
    }
made_plain source ts before (Err text) all plain told =
    record {
      behind = error_plain before.place plain;
      told = sorted ReportPlain _
          (each-both ReportPlain (announced source ts) _ (announced_plain source ts all)
          ((tt, told), tt));
    }

names_at : HeaderLaw → (p : Place) (all : AliasList) (source : List ℕ)
    → IfSome (shape_of (aliases_at p all) source (source_tokens (aliases_at p all) source))
    (PlainAt p)
names_at law (place.Start node given keyword) all source = first_shape law source
names_at law place.Outside all source = any_shape all source
names_at law (place.Theory theory) all source = any_shape all source
names_at law (place.Proof theory name goal levels) all source = any_shape all source
names_at law (place.End theory) all source = any_shape all source

pub step_plain : HeaderLaw → (source : List ℕ) (blob : Option (List ℕ)) (before : State)
    → PlacePlain before.place
    → IsPlainlyMade (step source blob before).state.place (step source blob before).reports
step_plain law source blob before plain =
    let aliases = aliases_at before.place before.aliases in
    made_plain source (source_tokens aliases source) before
    (tried blob before.place (shape_of aliases source (source_tokens aliases source)))
    (source_plain aliases source) plain
    (tried_plain blob before.place _ plain (names_at law before.place before.aliases source))

-- What small editors see, computed (this project's own).
use Rattle.std.specs.Prelude.{◌≡◌, ℕ, false, List, [], ◌∷◌, codes, Option, Some, Result, Ok, Err}
use Rattle.report_markup.specs.declared.kind.ReportKind.TheVariants as report
use Rattle.report_markup.specs.declared.report.Report.{Report}
use Rattle.text_edits.specs.declared.edit.Edit.TheVariants.{Insert}
use Rattle.message_values.specs.declared.editor_message.EditorMessage.TheVariants as asks
use Rattle.message_values.specs.declared.protocol.Protocol.TheVariants.{Symbols}
use Rattle.message_values.specs.declared.refusal.Refusal.{Refusal}
use Rattle.message_values.specs.declared.refusal.Refusal.TheVariants.{UnknownVersion, UnknownNode}
use Rattle.buffer_rules.specs.Examples.{opens, edits}
use Rattle.reply_messages.specs.declared.told.Told.TheVariants as tells
use Rattle.mirror_rules.specs.Moves.{Move}
use Rattle.mirror_rules.specs.Looking.{View}
use Rattle.mirror_rules.specs.Small.{said, eval, update, rows, hears, exchange, sight}

-- a view without edits
abbrev pub view : List Report → List ℕ → Option (Result View Refusal)
view reports pending =
    Some (Ok (record { reports = reports; pending = pending; outdated = false }))

-- two nodes, of which the second imports the first, with all of their commands assigned
abbrev pub opened : List Move
opened = exchange []
    (update 1 (opens (codes "A") (codes "theory A begin lemma l: \"P\" by x end")
    ∷ opens (codes "B") (codes "theory B imports A begin end") ∷ []))
    (tells.Assign 1 (rows (codes "A") ((1, 1 ∷ []) ∷ (2, 2 ∷ []) ∷ (3, 3 ∷ []) ∷ (4, 4 ∷ []) ∷ [])
    ∷ rows (codes "B") ((5, 5 ∷ []) ∷ (6, 6 ∷ []) ∷ []) ∷ []))

-- the evaluation of `by` is reported without an error
abbrev pub forking : List Move
forking = hears opened (tells.Report (eval 3) (said report.Command 0 2 ∷ []))

-- an edit of the first node's end, by which the importer is assigned anew
abbrev pub edited : List Move
edited = exchange forking
    (update 2 (edits (codes "A") (Insert 36 (codes " x") ∷ []) ∷ []))
    (tells.Assign 2 (rows (codes "A") ((1, 1 ∷ []) ∷ (2, 2 ∷ []) ∷ (3, 3 ∷ []) ∷ (7, 7 ∷ []) ∷ [])
    ∷ rows (codes "B") ((5, 8 ∷ []) ∷ (6, 9 ∷ []) ∷ []) ∷ []))

-- another evaluation is reported
abbrev pub going_on : List Move
going_on = hears opened (tells.Report (eval 2) (said report.Command 0 5 ∷ []))

-- the evaluation of `by` has an error
abbrev pub failed : List Move
failed = hears opened (tells.Report (eval 3) (said report.Error 0 4 ∷ []))

-- the older version is removed
abbrev pub left : List Move
left = exchange edited (asks.RemoveVersions (1 ∷ [])) (tells.Removed (1 ∷ []))

-- all is pending at first; a fork is, once its evaluation tells of it, unless that tells an error;
-- finished parts stay through an edit; a cancelled part stays pending; and a version goes
pub record AnEditor : Type 0 where
  pub first : sight opened 1 (codes "A") ≡ view [] (1 ∷ 2 ∷ 3 ∷ 4 ∷ [])
  pub importer : sight opened 1 (codes "B") ≡ view [] (5 ∷ 6 ∷ [])
  pub fork : sight forking 1 (codes "A")
      ≡ view (said report.Command 28 30 ∷ []) (1 ∷ 2 ∷ 3 ∷ 4 ∷ [])
  pub failure : sight failed 1 (codes "A")
      ≡ view (said report.Error 28 32 ∷ []) (1 ∷ 2 ∷ 4 ∷ [])
  pub other : sight going_on 1 (codes "A")
      ≡ view (said report.Command 15 20 ∷ []) (1 ∷ 3 ∷ 4 ∷ [])
  pub edit : sight edited 2 (codes "A")
      ≡ view (said report.Command 28 30 ∷ []) (1 ∷ 2 ∷ 3 ∷ 7 ∷ [])
  pub anew : sight edited 2 (codes "B") ≡ view [] (8 ∷ 9 ∷ [])
  pub older : sight edited 1 (codes "B") ≡ view [] (5 ∷ 6 ∷ [])
  pub cancelled : sight (exchange opened (asks.Cancel 4) (tells.Cancelled 4)) 1 (codes "A")
      ≡ view [] (1 ∷ 2 ∷ 3 ∷ 4 ∷ [])
  pub removed : sight left 1 (codes "A") ≡ Some (Err UnknownVersion)
  pub stays : sight left 2 (codes "B") ≡ view [] (8 ∷ 9 ∷ [])
  pub unknown : sight left 2 (codes "C") ≡ Some (Err UnknownNode)

-- places count symbols; a node with a formula between named symbols
abbrev pub in_symbols : List Move
in_symbols = exchange (exchange [] (asks.Protocol Symbols) (tells.Protocol Symbols))
    (update 1 (opens (codes "A") (codes "theory A begin axiom a: \\<open>P\\<close> end") ∷ []))
    (tells.Assign 1 (rows (codes "A") ((1, 1 ∷ []) ∷ (2, 2 ∷ []) ∷ (3, 3 ∷ []) ∷ []) ∷ []))

-- what is seen counts scalars all the same
pub record CountedSymbols : Type 0 where
  pub formula : sight (hears in_symbols (tells.Report (eval 2) (said report.Formula 10 13 ∷ [])))
      1 (codes "A") ≡ view (said report.Formula 24 40 ∷ []) (1 ∷ 3 ∷ [])

-- a node that loads a blob
abbrev pub loading : List Move
loading = exchange []
    (asks.Update 1 (opens (codes "A") (codes "theory A begin load \"x\" end") ∷ [])
    (record { name = codes "x"; text = Some (codes "a: P") } ∷ []))
    (tells.Assign 1 (rows (codes "A") ((1, 1 ∷ []) ∷ (2, 2 ∷ []) ∷ (3, 3 ∷ []) ∷ []) ∷ []))

-- the blob is another, and then one comes that nothing asks for
abbrev pub reloaded : List Move
reloaded = exchange (exchange (hears loading (tells.Report (eval 1) []))
    (asks.Update 2 [] (record { name = codes "x"; text = Some (codes "a: Q") } ∷ []))
    (tells.Assign 2 (rows (codes "A") ((1, 1 ∷ []) ∷ (2, 4 ∷ []) ∷ (3, 5 ∷ []) ∷ []) ∷ [])))
    (asks.Update 3 [] (record { name = codes "y"; text = Some [] } ∷ []))
    (tells.Assign 3 [])

-- a node that a reply doesn't list has the rows that it had
pub record Blobs : Type 0 where
  pub loaded : sight loading 1 (codes "A") ≡ view [] (1 ∷ 2 ∷ 3 ∷ [])
  pub again : sight reloaded 2 (codes "A") ≡ view [] (4 ∷ 5 ∷ [])
  pub kept : sight reloaded 3 (codes "A") ≡ view [] (4 ∷ 5 ∷ [])

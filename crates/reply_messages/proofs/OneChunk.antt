-- Chunks are those of one reply.
use Rattle.std.proofs.Common.{◌≡◌, ℕ, Bool, true, false, List, decimal, Some, refl, sym, ap, ◌∙◌, arith}
use Rattle.std.specs.List.{AllByRecursion, flat_map}
use Rattle.std.proofs.lemmas.Fmt.{decimal_injective}
use Rattle.pide_base.specs.Ids.{IsId}
use Rattle.pide_base.specs.declared.part.Part.{Part}
use Rattle.pide_base.specs.declared.part.PartKind.{PartKind}
use Rattle.pide_base.specs.declared.part.PartKind.TheVariants.{Eval, Fork, Print}
use Rattle.report_markup.specs.declared.report.Report.{Report}
use Rattle.report_markup.specs.Element.{element}
use Rattle.message_values.specs.ShapeBodies.{number_body}
use Rattle.message_values.specs.declared.protocol.Protocol.{Protocol}
use Rattle.message_values.specs.declared.protocol.Protocol.TheVariants as protocol
use Rattle.message_values.specs.Protocols.{protocol_number, protocol_of}
use Rattle.message_values.specs.Workers.{IsWorker}
use Rattle.reply_messages.specs.Bodies.{node_body}
use Rattle.reply_messages.specs.declared.told.NodeRows.{NodeRows}
use Rattle.reply_messages.specs.Replies.{part_word, flag_word, ids_chunk, nodes_chunk, reports_chunk}
use Rattle.reply_messages.specs.Fits.{IsWide, FitsNode, FitsReport, FitsPart}
use Rattle.reply_messages.proofs.Cuts.{differ}
use Rattle.reply_messages.proofs.Elements.{one_whole}
use Rattle.reply_messages.proofs.ReadNumbers.{id_is_wide}
use Rattle.reply_messages.proofs.ReadReports.{report_bytes, reports_are_elements}
use Rattle.reply_messages.proofs.Spelled.{list_yxml, trees_yxml, id_bytes, rows_bytes, ids_are_elements, nodes_with_rows_are_elements}

pub ids_are : (ids : List ℕ) → ids_chunk ids ≡ flat_map id_bytes ids
ids_are = list_yxml number_body

pub nodes_are : (nodes : List NodeRows) → nodes_chunk nodes ≡ flat_map rows_bytes nodes
nodes_are = list_yxml node_body

pub reports_are : (reports : List Report) → reports_chunk reports ≡ flat_map report_bytes reports
reports_are = trees_yxml element

pub one_ids : (xs ys : List ℕ) → AllByRecursion IsId xs → AllByRecursion IsId ys → ids_chunk xs ≡ ids_chunk ys → xs ≡ ys
one_ids xs ys fx fy e = one_whole id_bytes IsId ids_are_elements xs ys fx fy (sym (ids_are xs) ∙ e ∙ ids_are ys)

pub one_nodes : (xs ys : List NodeRows) → AllByRecursion FitsNode xs → AllByRecursion FitsNode ys → nodes_chunk xs ≡ nodes_chunk ys → xs ≡ ys
one_nodes xs ys fx fy e = one_whole rows_bytes FitsNode nodes_with_rows_are_elements xs ys fx fy (sym (nodes_are xs) ∙ e ∙ nodes_are ys)

pub one_reports : (xs ys : List Report) → AllByRecursion FitsReport xs → AllByRecursion FitsReport ys → reports_chunk xs ≡ reports_chunk ys → xs ≡ ys
one_reports xs ys fx fy e = one_whole report_bytes FitsReport reports_are_elements xs ys fx fy (sym (reports_are xs) ∙ e ∙ reports_are ys)

pub one_id : (x y : ℕ) → IsId x → IsId y → decimal x ≡ decimal y → x ≡ y
one_id x y fx fy e = decimal_injective x y (id_is_wide x fx) (id_is_wide y fy) e

pub worker_is_wide : (n : ℕ) → IsWorker n → IsWide n
worker_is_wide n worker = omega (arith, worker.1)

pub one_worker : (x y : ℕ) → IsWorker x → IsWorker y → decimal x ≡ decimal y → x ≡ y
one_worker x y fx fy e = decimal_injective x y (worker_is_wide x fx) (worker_is_wide y fy) e

pub one_flag : (x y : Bool) → flag_word x ≡ flag_word y → x ≡ y
one_flag true true e = refl
one_flag true false e = absurd (differ _ _ refl e)
one_flag false true e = absurd (differ _ _ refl e)
one_flag false false e = refl

pub one_part_kind : (x y : PartKind) → part_word x ≡ part_word y → x ≡ y
one_part_kind Eval Eval e = refl
one_part_kind Eval Fork e = absurd (differ _ _ refl e)
one_part_kind Eval Print e = absurd (differ _ _ refl e)
one_part_kind Fork Eval e = absurd (differ _ _ refl e)
one_part_kind Fork Fork e = refl
one_part_kind Fork Print e = absurd (differ _ _ refl e)
one_part_kind Print Eval e = absurd (differ _ _ refl e)
one_part_kind Print Fork e = absurd (differ _ _ refl e)
one_part_kind Print Print e = refl

pub same_part : (x y : Part) → x.exec ≡ y.exec → x.kind ≡ y.kind → x ≡ y
same_part x y e f =
    ap (λ (exec : ℕ). let p : Part = record { exec = exec; kind = x.kind } in p) e
    ∙ ap (λ (kind : PartKind). let p : Part = record { exec = y.exec; kind = kind } in p) f

pub one_part : (x y : Part) → FitsPart x → FitsPart y → decimal x.exec ≡ decimal y.exec → part_word x.kind ≡ part_word y.kind → x ≡ y
one_part x y fx fy e f = same_part x y (one_id x.exec y.exec fx fy e) (one_part_kind x.kind y.kind f)

pub protocol_is_known : (p : Protocol) → protocol_of (protocol_number p) ≡ Some p
protocol_is_known protocol.Scalars = refl
protocol_is_known protocol.Symbols = refl

pub protocol_is_wide : (p : Protocol) → IsWide (protocol_number p)
protocol_is_wide protocol.Scalars = omega arith
protocol_is_wide protocol.Symbols = omega arith

pub one_protocol : (x y : Protocol) → decimal (protocol_number x) ≡ decimal (protocol_number y) → x ≡ y
one_protocol x y e =
    let numbers = decimal_injective _ _ (protocol_is_wide x) (protocol_is_wide y) e in
    let same : Some x ≡ Some y = sym (protocol_is_known x) ∙ ap protocol_of numbers ∙ protocol_is_known y in cc

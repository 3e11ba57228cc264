-- Which values a reply can have.
use Rattle.std.specs.Prelude.{◌≡◌, ℕ, ◌<◌, ◌^◌, true, List}
use Rattle.std.specs.List.{AllByRecursion}
use Rattle.std.specs.Str.{is_utf8}
use Rattle.yxml.specs.Normal.{IsPlain}
use Rattle.pide_base.specs.Ids.{IsId}
use Rattle.pide_base.specs.NodeName.{is_node_name}
use Rattle.pide_base.specs.declared.part.Part.{Part}
use Rattle.pide_base.specs.declared.range.Range.{Range}
use Rattle.report_markup.specs.declared.property.Property.{Property}
use Rattle.report_markup.specs.declared.report.Report.{Report}
use Rattle.message_values.specs.Workers.{IsWorker}
use Rattle.reply_messages.specs.Forms.{IsRising}
use Rattle.reply_messages.specs.declared.told.CommandRow.{CommandRow}
use Rattle.reply_messages.specs.declared.told.NodeRows.{NodeRows}
use Rattle.reply_messages.specs.declared.told.Told.{Told}
use Rattle.reply_messages.specs.declared.told.Told.TheVariants as tells

-- any value
abbrev pub IsAny : {A : Type 0} → A → Type 0
IsAny value = Unit {0}

-- a number of 64 bits
abbrev pub IsWide : ℕ → Type 0
IsWide n = n < 2 ^ 64

-- UTF-8 without the bytes with which YXML marks up
pub record IsPlainText (bytes : List ℕ) : Type 0 where
  pub utf8 : is_utf8 bytes ≡ true
  pub plain : IsPlain bytes

-- a property with such a value
abbrev pub FitsProperty : Property → Type 0
FitsProperty p = IsPlainText p.value

-- a range of such numbers
abbrev pub FitsRange : Range → Type 0
FitsRange range = IsWide range.start × IsWide range.stop

-- a report of such parts; any kind may have any properties
pub record FitsReport (r : Report) : Type 0 where
  pub range : FitsRange r.range
  pub properties : AllByRecursion FitsProperty r.properties
  pub text : IsPlainText r.text

-- ids, each above the one before it
abbrev pub AreRisingIds : List ℕ → Type 0
AreRisingIds ids = AllByRecursion IsId ids × IsRising ids

-- a command's id and those of executions
abbrev pub FitsRow : CommandRow → Type 0
FitsRow r = IsId r.command × AllByRecursion IsId r.executions

-- a node's name
abbrev pub IsName : List ℕ → Type 0
IsName name = is_node_name name ≡ true

-- a node's name and such rows
abbrev pub FitsNode : NodeRows → Type 0
FitsNode n = IsName n.node × AllByRecursion FitsRow n.rows

-- a part of an execution
abbrev pub FitsPart : Part → Type 0
FitsPart part = IsId part.exec

-- ids, names, numbers and texts are such as their types have
abbrev pub Fits : Told → Type 0
Fits (tells.Assign version nodes) = IsId version × AllByRecursion FitsNode nodes
Fits (tells.Markup version node reports pending outdated) =
    IsId version × IsName node × AllByRecursion FitsReport reports × AllByRecursion IsId pending
Fits (tells.Cancelled exec) = IsId exec
Fits (tells.Idle exec) = IsId exec
Fits (tells.Removed versions) = AllByRecursion IsId versions
Fits (tells.Settled version stuck) = IsId version × AllByRecursion IsId stuck
Fits (tells.Protocol protocol) = Unit {0}
Fits (tells.Refused reason) = Unit {0}
Fits (tells.Claimed worker part) = IsWorker worker × FitsPart part
Fits (tells.Report part reports) = FitsPart part × AllByRecursion FitsReport reports
Fits (tells.Dropped part) = FitsPart part
Fits (tells.Built node reports) = IsName node × AllByRecursion FitsReport reports
Fits (tells.Total nodes errors) = IsWide nodes × IsWide errors

-- The version that is made of the tip is the update's.
use Rattle.std.proofs.Common.{◌≡◌, Bool, true, false, List, Option, Some, None, sym, subst}
use Rattle.std.specs.Prelude.{MatchOption}
use Rattle.std.specs.List.{list_any}
use Rattle.doc_nodes.specs.Imports.{NodeList}
use Rattle.buffer_rules.specs.Preparing.{Buffer}
use Rattle.reply_messages.specs.declared.told.NodeRows.{NodeRows}
use Rattle.mirror_rules.specs.Images.{Image}
use Rattle.mirror_rules.specs.Rows.{is_unknown}
use Rattle.mirror_rules.specs.Updates.{image_after}
use Rattle.pide_mirror.specs.Kept.{IsKept}
use Rattle.pide_mirror.specs.Making.{FitsTip}
use Rattle.pide_mirror.specs.declared.known.Known.{Known}

-- what is said of a version that was found, or of none
abbrev pub Says : List NodeRows → Image → Buffer → NodeList → Option Known → Type 0
Says listed image buffer nodes found = MatchOption found (list_any (is_unknown nodes) listed ≡ true)
    (λ known. (list_any (is_unknown nodes) listed ≡ false) × IsKept known (image_after image listed buffer))

module _ (found : Option Known) (tip : Known) (image : Image) (listed : List NodeRows) (after : Buffer) (marks told_marks : List Bool) (nodes : NodeList)
    (nodes_is : nodes ≡ after.nodes) (marks_is : told_marks ≡ marks) (fits : FitsTip image marks after.nodes) (kept : IsKept tip image)
    (so : (im : Image) (buffer : Buffer) → IsKept tip im → FitsTip im told_marks nodes → buffer.nodes ≡ nodes → Says listed im buffer nodes found) where
  says : Says listed image after after.nodes found
  says = subst (λ ns. Says listed image after ns found) nodes_is
      (so image after kept (subst (λ ms. FitsTip image ms nodes) (sym marks_is) (subst (λ ns. FitsTip image marks ns) (sym nodes_is) fits)) (sym nodes_is))

  pub some_version : (known : Known) → found ≡ Some known → (list_any (is_unknown after.nodes) listed ≡ false) × IsKept known (image_after image listed after)
  some_version known is = subst (Says listed image after after.nodes) is says

  pub no_version : found ≡ None → list_any (is_unknown after.nodes) listed ≡ true
  no_version is = subst (Says listed image after after.nodes) is says

-- What the executions of rows work on, and what is reported of it, by what is run from nothing.
use Rattle.std.proofs.Common.{◌≡◌, ◌⊎◌, ℕ, zero, suc, ◌==◌, Bool, true, false, cond, List, [], ◌∷◌, ◌++◌, length, slice_get, Option, Some, None, option_map, refl, sym, ap, ap₂, subst, ◌∙◌, inl, inr}
use Rattle.std.proofs.lemmas.Bool.{eqb-true, or_cases}
use Rattle.std.proofs.lemmas.Option.{none-some, same_Some}
use Rattle.std.specs.Option.{option_and_then, option_map_or}
use Rattle.text_words.specs.Members.{has}
use Rattle.pide_base.specs.declared.part.Part.{Part}
use Rattle.pide_base.specs.declared.part.PartKind.{PartKind}
use Rattle.pide_base.specs.declared.part.PartKind.TheVariants as kind
use Rattle.report_markup.specs.declared.report.Report.{Report}
use Rattle.doc_nodes.specs.declared.node.Node.{Node}
use Rattle.exec_rules.specs.declared.home.Head.{Head}
use Rattle.exec_rules.specs.declared.home.Home.{Home}
use Rattle.exec_rules.specs.declared.home.Input.TheVariants as input
use Rattle.exec_rules.specs.declared.row.Row.{Row}
use Rattle.exec_rules.specs.declared.version.Version.{Version}
use Rattle.exec_rules.specs.Homes.{home}
use Rattle.exec_rules.specs.Listed.{executions, print_list}
use Rattle.exec_rules.proofs.KnownListed.{in_print}
use Rattle.language.specs.Lang.{Lang}
use Rattle.reply_messages.specs.declared.told.Told.TheVariants as tells
use Rattle.core_rules.specs.declared.event.Event.{Event}
use Rattle.core_rules.specs.Doc.{Doc, doc}
use Rattle.core_rules.specs.FromScratch.{IsFromScratch, PrintIs, assigned_to, head_in, input_at}
use Rattle.core_rules.specs.Legal.{IsLegal as IsLegalList}
use Rattle.core_rules.specs.Numbered.{numbered}
use Rattle.core_rules.specs.Parts.{reports_in}
use Rattle.core_rules.specs.Ready.{is_part}
use Rattle.core_rules.specs.Settings.{Setting, setting, setting_by, settings, state_behind}
use Rattle.core_rules.proofs.KnownStays.{length_settings, setting_stays}
use Rattle.session_rules.specs.Replies.{report_of}
use Rattle.session_rules.specs.Session.{Session, document}
use Rattle.session_rules.specs.Shown.{protocol_reports}
use Rattle.session_rules.specs.Reporting.{execution_for, scratch_reports}
use Rattle.session_rules.proofs.HeldParts.{is_print, its_execution}

-- what an execution works on has its source
pub record HasSource {S : Type 0} (homes : List Home) (e : ℕ) (s : Setting S) : Type 0 where
  pub home : Home
  pub homed : numbered homes e ≡ Some home
  pub source : home.source ≡ s.source

module _ {S : Type 0} (l : Lang S) where
  taken_source : (h : Home) (o : Option S) (s : Setting S) → option_map (λ state. record { source = h.source; blob = h.blob; state = state }) o ≡ Some s → h.source ≡ s.source
  taken_source h None s e = absurd (none-some s e)
  taken_source h (Some state) s e = ap (λ (x : Setting S). x.source) (same_Some (record { source = h.source; blob = h.blob; state = state }) s e)

  setting_home : (homes : List Home) (e : ℕ) (s : Setting S) → setting l homes e ≡ Some s → HasSource homes e s
  setting_home [] e s at = absurd (none-some s at)
  setting_home (h ∷ hs) e s at =
      go (e == suc (length hs)) refl (ap (λ n. option_and_then (λ (o : Option (Setting S)). o) (cond (e == suc n) (Some (setting_by l (settings l hs) h)) (numbered (settings l hs) e))) (sym (length_settings l hs)) ∙ at)
      (setting_home hs e s)
    where
      go : (b : Bool) → (e == suc (length hs)) ≡ b → option_and_then (λ (o : Option (Setting S)). o) (cond b (Some (setting_by l (settings l hs) h)) (numbered (settings l hs) e)) ≡ Some s
          → (setting l hs e ≡ Some s → HasSource hs e s) → HasSource (h ∷ hs) e s
      go true is at rest = record { home = h; homed = ap (λ b. cond b (Some h) (numbered hs e)) is; source = taken_source h _ s at }
      go false is at rest = let r = rest at in record { home = r.home; homed = ap (λ b. cond b (Some h) (numbered hs e)) is ∙ r.homed; source = r.source }

  -- it works on the same from then on
  pub still : (more before : List Event) (e : ℕ) (s : Setting S) → setting l (doc l before).homes e ≡ Some s → setting l (doc l (more ++ before)).homes e ≡ Some s
  still [] before e s at = at
  still (x ∷ more) before e s at = setting_stays l x (more ++ before) e s (still more before e s at)

  pub legal_before : (more before : List Event) → IsLegalList l (more ++ before) → IsLegalList l before
  legal_before [] before legal = legal
  legal_before (x ∷ more) before legal = legal_before more before legal.0

  pub reported : (s : Session) (part : Part) (x : Setting S) → setting l (document l s).homes part.exec ≡ Some x
      → report_of l s part ≡ tells.Report part
      (protocol_reports s.protocol x.source (reports_in l part.kind x))
  reported s part x at =
      let h = setting_home (document l s).homes part.exec x at in
      ap₂ (λ source reports. tells.Report part (protocol_reports s.protocol source reports))
      (ap (λ o. option_map_or (λ (y : Home). y.source) o []) h.homed ∙ h.source)
      (ap (λ o. option_map_or (λ (rs : List Report). rs) (option_map (reports_in l part.kind) o) []) at)

  -- what a part works on, by what its command is run on from nothing
  pub record Works (d : Doc) (part : Part) (s : Setting S) : Type 0 where
    pub on : Setting S
    pub is : setting l d.homes part.exec ≡ Some on
    pub source : on.source ≡ s.source
    pub reports : reports_in l part.kind on ≡ scratch_reports l part.kind s

  pub works : (d : Doc) (v : Version) (p : ℕ) (pair : List ℕ × Node) (i : ℕ) (row : Row) (f : IsFromScratch l d v p pair i row) (part : Part)
      → execution_for part.kind row ≡ Some part.exec → Works d part f.works_on
  works d v p pair i row f part has_it = go part.kind refl has_it
    where
      evaluates : Some row.evaluation ≡ Some part.exec → setting l d.homes part.exec ≡ Some f.works_on
      evaluates same = ap (setting l d.homes) (sym (same_Some row.evaluation part.exec same)) ∙ f.kept

      go : (k : PartKind) → part.kind ≡ k → execution_for k row ≡ Some part.exec → Works d part f.works_on
      go kind.Eval is same = record { on = f.works_on; is = evaluates same; source = refl; reports = ap (λ k. reports_in l k f.works_on) is ∙ sym (ap (λ k. scratch_reports l k f.works_on) is) }
      go kind.Fork is same = record { on = f.works_on; is = evaluates same; source = refl; reports = ap (λ k. reports_in l k f.works_on) is ∙ sym (ap (λ k. scratch_reports l k f.works_on) is) }
      go kind.Print is same =
          let s = f.works_on in
          let behind : Setting S = record s { state = state_behind l s } in
          record {
            on = behind;
            is = (subst (λ o. PrintIs l d o (home pair.1 v.blobs f.command) row.evaluation s) same f.prints).1;
            source = refl;
            reports = ap (λ k. reports_in l k behind) is ∙ sym (ap (λ k. scratch_reports l k s) is);
          }

  -- the execution of a row that has a part has it as it is
  pub in_row : (row : Row) (e : ℕ) → has (executions row) e ≡ true → (e ≡ row.evaluation) ⊎ (row.print ≡ Some e)
  in_row row e there = by (or_cases (e == row.evaluation) (has (print_list row.print) e) there)
    where
      by : ((e == row.evaluation) ≡ true) ⊎ (has (print_list row.print) e ≡ true) → (e ≡ row.evaluation) ⊎ (row.print ≡ Some e)
      by (inl same) = inl (eqb-true e row.evaluation same)
      by (inr printed) = inr (in_print row.print e printed)

  evaluates : (head : Head) (rows : List Row) (i : ℕ) → is_print (input_at head rows i) ≡ false
  evaluates head rows zero = refl
  evaluates head rows (suc i) = by (slice_get rows i)
    where
      by : (o : Option Row) → is_print (option_map_or (λ (row : Row). input.Next row.evaluation) o (input.First head)) ≡ false
      by None = refl
      by (Some row) = refl

  pub executes : (d : Doc) (v : Version) (p i : ℕ) (pair : List ℕ × Node) (row : Row) (f : IsFromScratch l d v p pair i row) (part : Part) → is_part l d.homes part ≡ true
      → (part.exec ≡ row.evaluation) ⊎ (row.print ≡ Some part.exec) → execution_for part.kind row ≡ Some part.exec
  executes d v p i pair row f part is (inl same) =
      let head : Head = head_in v.nodes p pair (assigned_to v p).key in
      let rows : List Row = (assigned_to v p).rows in
      its_execution l d.homes part (home pair.1 v.blobs f.command (input_at head rows i)) row is (ap (numbered d.homes) same ∙ f.homed)
      ∙ ap (λ b. cond b row.print (Some row.evaluation)) (evaluates head rows i) ∙ ap Some (sym same)
  executes d v p i pair row f part is (inr printed) =
      its_execution l d.homes part (home pair.1 v.blobs f.command (input.Print row.evaluation)) row is
      (subst (λ o. PrintIs l d o (home pair.1 v.blobs f.command) row.evaluation f.works_on) printed f.prints).0 ∙ printed

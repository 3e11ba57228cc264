-- What the parts of a row's executions report is among what the language reports of the command.
use Rattle.std.proofs.Common.{◌≡◌, ◌⊎◌, inl, inr, ℕ, Bool, true, false, List, [], ◌∷◌, ◌++◌, map, Option, Some, None, refl, ap, sym, subst, ◌∙◌}
use Rattle.std.proofs.lemmas.Bool.{eqb-true, or_cases}
use Rattle.text_words.proofs.KnownLists.{each-part}
use Rattle.std.specs.Prelude.{◌==◌, if◌then◌else◌}
use Rattle.std.specs.Option.{option_map, option_map_or}
use Rattle.std.specs.List.{AllByRecursion, list_any}
use Rattle.text_words.specs.Members.{has}
use Rattle.pide_base.specs.declared.part.Part.{Part}
use Rattle.pide_base.specs.declared.part.PartKind.{PartKind}
use Rattle.pide_base.specs.declared.part.PartKind.TheVariants as kind
use Rattle.report_markup.specs.declared.report.Report.{Report}
use Rattle.doc_nodes.specs.declared.node.Node.{Node}
use Rattle.exec_rules.specs.declared.home.Home.{Home}
use Rattle.exec_rules.specs.declared.home.Input.{Input}
use Rattle.exec_rules.specs.declared.home.Input.TheVariants as input
use Rattle.exec_rules.specs.declared.row.Row.{Row}
use Rattle.exec_rules.specs.declared.version.Version.{Version}
use Rattle.exec_rules.specs.Homes.{home}
use Rattle.exec_rules.specs.Listed.{executions, print_list}
use Rattle.exec_rules.proofs.KnownListed.{in_print}
use Rattle.language.specs.Lang.{Lang}
use Rattle.language.specs.Laws as laws
use Rattle.core_rules.specs.Numbered.{numbered}
use Rattle.core_rules.specs.Settings.{Setting, made_of, forked, printed, state_behind, setting}
use Rattle.core_rules.specs.Parts.{same_part, forks, kinds_by, parts_of, reports_in, reports_of}
use Rattle.core_rules.specs.Doc.{Doc}
use Rattle.core_rules.specs.FromScratch.{IsFromScratch, PrintIs, assigned_to, head_in, input_at}
use Rattle.core_rules.specs.Ready.{is_part}
use Rattle.core_rules.proofs.KnownParts.{part_is}
use Rattle.editor_laws.proofs.HomeSources.{eval_input, is_eval}

-- what a part reports, of all of which something holds
pub record PartFacts {S : Type 0} (l : Lang S) (homes : List Home) (Q : Report → Type 0) (p : Part) : Type 0 where
  pub reports : List Report
  pub are : reports_of l homes p ≡ Some reports
  pub all : AllByRecursion Q reports

module _ {S : Type 0} (l : Lang S) (homes : List Home) (Q : Report → Type 0) (s : Setting S)
    (all : AllByRecursion Q (laws.reports_of l s.source s.blob s.state)) where
  abbrev own : List Report
  own = (made_of l s).reports

  abbrev later : List Report
  later = if (made_of l s).forks then forked l s else []

  own_all : AllByRecursion Q own
  own_all = (each-part Q own later (each-part Q (own ++ later) (l.print s.source (made_of l s).state) all).0).0

  later_all : AllByRecursion Q later
  later_all = (each-part Q own later (each-part Q (own ++ later) (l.print s.source (made_of l s).state) all).0).1

  print_all : AllByRecursion Q (l.print s.source (made_of l s).state)
  print_all = (each-part Q (own ++ later) (l.print s.source (made_of l s).state) all).1

  abbrev kinds_among : ℕ → List PartKind → Part → Bool
  kinds_among e ks p = list_any (same_part p) (map (λ k. record { exec = e; kind = k }) ks)

  part_among : (e : ℕ) (x : Home) (p : Part) → p.exec ≡ e → numbered homes e ≡ Some x → is_part l homes p ≡ true
      → kinds_among e (kinds_by x.input (forks l homes e)) p ≡ true
  part_among e x p same at is =
      ap (λ (o : Option Home). list_any (same_part p) (option_map_or (λ h. map (λ k. record { exec = e; kind = k }) (kinds_by h.input (forks l homes e))) o [])) (sym at)
      ∙ ap (λ n. list_any (same_part p) (parts_of l homes n)) (sym same) ∙ is

  facts : (p : Part) (k : PartKind) (reports : List Report) → p.kind ≡ k → option_map (reports_in l k) (setting l homes p.exec) ≡ Some reports
      → AllByRecursion Q reports → PartFacts l homes Q p
  facts p k reports is are every = record {
    reports = reports;
    are = ap (λ c. option_map (reports_in l c) (setting l homes p.exec)) is ∙ are;
    all = every;
  }

  eval_facts : (e : ℕ) (p : Part) → p.exec ≡ e → setting l homes e ≡ Some s
      → kinds_among e (kind.Eval ∷ (if forks l homes e then kind.Fork ∷ [] else [])) p ≡ true → PartFacts l homes Q p
  eval_facts e p same works among = go (forks l homes e) refl among
    where
      set : setting l homes p.exec ≡ Some s
      set = ap (setting l homes) same ∙ works

      evaluated : same_part p (record { exec = e; kind = kind.Eval }) ≡ true → PartFacts l homes Q p
      evaluated is = facts p kind.Eval own (ap (λ (q : Part). q.kind) (part_is p (record { exec = e; kind = kind.Eval }) is))
          (ap (option_map (reports_in l kind.Eval)) set) own_all

      later_is : forks l homes e ≡ true → later ≡ forked l s
      later_is so = ap (λ b. if b then forked l s else [])
          (ap (λ o. option_map_or (λ (t : Setting S). (made_of l t).forks) o false) (sym works) ∙ so)

      forking : forks l homes e ≡ true → same_part p (record { exec = e; kind = kind.Fork }) ≡ true → PartFacts l homes Q p
      forking so is = facts p kind.Fork (forked l s) (ap (λ (q : Part). q.kind) (part_is p (record { exec = e; kind = kind.Fork }) is))
          (ap (option_map (reports_in l kind.Fork)) set) (subst (AllByRecursion Q) (later_is so) later_all)

      either : (b : Bool) → forks l homes e ≡ b → list_any (same_part p) (map (λ k. record { exec = e; kind = k }) (if b then kind.Fork ∷ [] else [])) ≡ true
          → PartFacts l homes Q p
      either false is among = absurd (cc)
      either true is among = go (or_cases (same_part p (record { exec = e; kind = kind.Fork })) false among)
        where
          go : (same_part p (record { exec = e; kind = kind.Fork }) ≡ true) ⊎ (false ≡ true) → PartFacts l homes Q p
          go (inl same) = forking is same
          go (inr bad) = absurd (cc)

      go : (b : Bool) → forks l homes e ≡ b → kinds_among e (kind.Eval ∷ (if b then kind.Fork ∷ [] else [])) p ≡ true → PartFacts l homes Q p
      go b is among = by (or_cases (same_part p (record { exec = e; kind = kind.Eval }))
          (list_any (same_part p) (map (λ k. record { exec = e; kind = k }) (if b then kind.Fork ∷ [] else []))) among)
        where
          by : (same_part p (record { exec = e; kind = kind.Eval }) ≡ true)
              ⊎ (list_any (same_part p) (map (λ k. record { exec = e; kind = k }) (if b then kind.Fork ∷ [] else [])) ≡ true) → PartFacts l homes Q p
          by (inl same) = evaluated same
          by (inr more) = either b is more

  input_facts : (e : ℕ) (i : Input) (p : Part) → is_eval i → p.exec ≡ e → setting l homes e ≡ Some s
      → kinds_among e (kinds_by i (forks l homes e)) p ≡ true → PartFacts l homes Q p
  input_facts e (input.Print f) p is same works among = absurd is
  input_facts e (input.First head) p is same works among = eval_facts e p same works among
  input_facts e (input.Next f) p is same works among = eval_facts e p same works among

  print_facts : (q f : ℕ) (p : Part) → p.exec ≡ q → setting l homes q ≡ Some (record s { state = state_behind l s })
      → kinds_among q (kinds_by (input.Print f) (forks l homes q)) p ≡ true → PartFacts l homes Q p
  print_facts q f p same works among = go (or_cases (same_part p (record { exec = q; kind = kind.Print })) false among)
    where
      go : (same_part p (record { exec = q; kind = kind.Print }) ≡ true) ⊎ (false ≡ true) → PartFacts l homes Q p
      go (inl is) = facts p kind.Print (l.print s.source (made_of l s).state)
          (ap (λ (r : Part). r.kind) (part_is p (record { exec = q; kind = kind.Print }) is))
          (ap (option_map (reports_in l kind.Print)) (ap (setting l homes) same ∙ works)) print_all
      go (inr bad) = absurd (cc)

-- a part of an execution of a row
pub row_facts : {S : Type 0} (l : Lang S) (d : Doc) (v : Version) (p : ℕ) (pair : List ℕ × Node) (i : ℕ) (row : Row)
    (x : IsFromScratch l d v p pair i row) (Q : Report → Type 0)
    → AllByRecursion Q (laws.reports_of l x.works_on.source x.works_on.blob x.works_on.state)
    → (part : Part) → has (executions row) part.exec ≡ true → is_part l d.homes part ≡ true → PartFacts l d.homes Q part
row_facts {S} l d v p pair i row x Q all part is real =
    go (or_cases (part.exec == row.evaluation) (has (print_list row.print) part.exec) is)
  where
    begins : Input
    begins = input_at (head_in v.nodes p pair (assigned_to v p).key) (assigned_to v p).rows i

    printing : (o : Option ℕ) → o ≡ Some part.exec → PrintIs l d o (home pair.1 v.blobs x.command) row.evaluation x.works_on
        → PartFacts l d.homes Q part
    printing None same prints = absurd (cc)
    printing (Some q) same prints =
        let e : part.exec ≡ q = cc in
        print_facts l d.homes Q x.works_on all q row.evaluation part e prints.1
        (part_among l d.homes Q x.works_on all q (home pair.1 v.blobs x.command (input.Print row.evaluation)) part e prints.0 real)

    go : ((part.exec == row.evaluation) ≡ true) ⊎ (has (print_list row.print) part.exec ≡ true) → PartFacts l d.homes Q part
    go (inl same) =
        let e : part.exec ≡ row.evaluation = eqb-true part.exec row.evaluation same in
        input_facts l d.homes Q x.works_on all row.evaluation begins part
        (eval_input (head_in v.nodes p pair (assigned_to v p).key) (assigned_to v p).rows i) e x.kept
        (part_among l d.homes Q x.works_on all row.evaluation (home pair.1 v.blobs x.command begins) part e x.homed real)
    go (inr printed) = printing row.print (in_print row.print part.exec printed) x.prints

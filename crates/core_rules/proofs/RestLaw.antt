-- Where nothing is ready and nothing held, all live versions are settled.
use Rattle.std.proofs.Common.{◌≡◌, ℕ, zero, suc, ◌≤◌, Bool, true, false, not, cond, ◌&&◌, ◌||◌, List, [], ◌∷◌, map, Some, None, refl, ap, sym, subst, ◌∙◌, arith}
use Rattle.std.proofs.lemmas.Bool.{and_from, or_left}
use Rattle.std.specs.Prelude.{slice_get}
use Rattle.std.specs.List.{list_any, list_all, AllByRecursion}
use Rattle.text_words.specs.Members.{has}
use Rattle.pide_base.specs.declared.part.Part.{Part}
use Rattle.pide_base.specs.declared.part.PartKind.TheVariants as kind
use Rattle.doc_nodes.specs.declared.node.Node.{Node}
use Rattle.exec_rules.specs.declared.home.Home.{Home}
use Rattle.exec_rules.specs.declared.home.Head.{Head}
use Rattle.exec_rules.specs.declared.home.Input.{Input}
use Rattle.exec_rules.specs.declared.row.Row.{Row}
use Rattle.exec_rules.specs.declared.version.Version.{Version}
use Rattle.exec_rules.specs.Homes.{home}
use Rattle.language.specs.Lang.{Lang}
use Rattle.core_rules.specs.declared.event.Event.{Event}
use Rattle.core_rules.specs.Numbered.{numbered}
use Rattle.core_rules.specs.Assigned.{assigns, is_assigned}
use Rattle.core_rules.specs.FromScratch.{assigned_to, head_in, input_at, IsFromScratch}
use Rattle.core_rules.specs.Parts.{same_part, forks, parts_of, sources_of, evaluation}
use Rattle.core_rules.specs.Standing.{is_finished, held}
use Rattle.core_rules.specs.Doc.{Doc, doc}
use Rattle.core_rules.specs.Legal.{IsLegal}
use Rattle.core_rules.specs.Ready.{is_ready}
use Rattle.core_rules.specs.Stuck.{is_stuck}
use Rattle.core_rules.proofs.Tables.{AtMost}
use Rattle.core_rules.proofs.Facts.{Facts}
use Rattle.core_rules.proofs.Sound.{IsSound}
use Rattle.core_rules.proofs.SoundDoc.{IsSoundDoc, doc_sound}
use Rattle.core_rules.proofs.FromScratchLaw.{from_scratch}
use Rattle.core_rules.proofs.ShownLaw.{IsEval}
use Rattle.core_rules.proofs.KnownParts.{part_itself}
use Rattle.core_rules.proofs.KnownMarks.{sources_below, marked_at}
use Rattle.core_rules.proofs.AssignedRows.{EvalRow, eval_assigned}
use Rattle.core_rules.proofs.RowEvals.{sources_evals}
use Rattle.core_rules.proofs.EvalParts.{made, eval_input, eval_parts, eval_part, waits_so}
use Rattle.core_rules.proofs.Blocked.{marked, IsOver, blocked}

module _ {S : Type 0} (facts : Facts) (l : Lang S) (h : List Event) (legal : IsLegal l h)
    (nothing : (p : Part) → is_ready l h p ≡ false) (idle : (w : ℕ) → held h w ≡ None) (v : Version)
    (sound : IsSound (doc l h).homes v) (live : (e : ℕ) → assigns v e ≡ true → is_assigned (doc l h).live e ≡ true) where
  abbrev pub d : Doc
  d = doc l h

  pub so : IsSoundDoc d
  so = doc_sound facts l h legal

  abbrev pub Over : ℕ → Type 0
  Over e = IsOver l h legal nothing idle e

  abbrev pub P : Part → Bool
  P p = is_finished h p || is_stuck h d p

  pub from : (p i : ℕ) (pair : List ℕ × Node) (row : Row) → slice_get v.nodes p ≡ Some pair
      → slice_get (assigned_to v p).rows i ≡ Some row → IsFromScratch l d v p pair i row
  from = from_scratch l d so.base.older v (facts.nodes v.nodes) sound

  over_stuck : (e : ℕ) (x : Home) → numbered d.homes e ≡ Some x → P (evaluation e) ≡ true → Over e
  over_stuck e x at over =
      ap (λ b. is_finished h (evaluation e) || b)
      (marked_at h d.cancelled d.homes e x so.base.older at
      ∙ ap (λ es. not (is_finished h (evaluation e)) && (has d.cancelled e || list_any (marked l h legal nothing idle) es))
      (sym (waits_so l d.homes e x at))) ∙ over

  all_over : (m : ℕ) → ((e : ℕ) → e ≤ m → EvalRow v e → Over e) → (es : List ℕ) → AtMost m es
      → AllByRecursion (EvalRow v) es → AllByRecursion Over es
  all_over m rest [] within all = tt
  all_over m rest (e ∷ es) within all = (rest e within.0 all.0, all_over m rest es within.1 all.1)

  -- an evaluation is finished or stuck, where all that are older are
  module _ (e : ℕ) (r : EvalRow v e) where
    abbrev head : Head
    head = head_in v.nodes r.place r.pair (assigned_to v r.place).key

    abbrev up : Input
    up = input_at head (assigned_to v r.place).rows r.index

    here : IsFromScratch l d v r.place r.pair r.index r.row
    here = from r.place r.index r.pair r.row r.node r.at

    abbrev its_home : Home
    its_home = home r.pair.1 v.blobs here.command up

    homed : numbered d.homes e ≡ Some its_home
    homed = ap (numbered d.homes) r.is ∙ here.homed

    is_eval : IsEval up
    is_eval = eval_input l d.homes head (assigned_to v r.place).rows r.index

    eval_over : ((m : ℕ) → e ≡ suc m → (s : ℕ) → s ≤ m → EvalRow v s → Over s) → Over e
    eval_over rest =
        let below = sources_below d.homes e its_home so.base.older homed in
        let sources = sources_evals v head r.place r.index r.pair r.row r.node r.at here.key in
        over_stuck e its_home homed
        (blocked l h legal nothing idle (evaluation e) (eval_part l d.homes e its_home homed is_eval) (live e (eval_assigned v e r))
        (subst (AllByRecursion Over) (sym (waits_so l d.homes e its_home homed))
        (all_over below.0 (rest below.0 below.1) (sources_of up) below.2 sources)))

  upto : (n e : ℕ) → e ≤ n → EvalRow v e → Over e
  upto zero e le r =
      let below = sources_below d.homes e (its_home e r) so.base.older (homed e r) in absurd (omega (arith, le, below.1))
  upto (suc n) e le r = eval_over e r (λ m same s less row. upto n s (omega (arith, le, same, less)) row)

  pub over : (e : ℕ) → EvalRow v e → Over e
  over e r = upto e e (omega arith) r

  -- its parts, the fork among them
  pub eval_parts_over : (e : ℕ) (r : EvalRow v e) → list_all P (parts_of l d.homes e) ≡ true
  eval_parts_over e r =
      let parts = eval_parts l d.homes e (its_home e r) (homed e r) (is_eval e r) in
      ap (list_all P) parts ∙ and_from _ _ first (rest (forks l d.homes e) refl parts)
    where
      first : P (evaluation e) ≡ true
      first = ap (λ b. is_finished h (evaluation e) || b)
          (ap (λ es. not (is_finished h (evaluation e)) && (has d.cancelled e || list_any (marked l h legal nothing idle) es))
          (waits_so l d.homes e (its_home e r) (homed e r))
          ∙ sym (marked_at h d.cancelled d.homes e (its_home e r) so.base.older (homed e r))) ∙ over e r

      rest : (b : Bool) → forks l d.homes e ≡ b → parts_of l d.homes e ≡ made l d.homes e (forks l d.homes e)
          → list_all P (map (λ k. record { exec = e; kind = k }) (cond b (kind.Fork ∷ []) [])) ≡ true
      rest false same parts = refl
      rest true same parts = and_from _ _
          (blocked l h legal nothing idle (record { exec = e; kind = kind.Fork })
          (ap (λ ps. list_any (same_part (record { exec = e; kind = kind.Fork })) ps) (parts ∙ ap (made l d.homes e) same)
          ∙ last (same_part (record { exec = e; kind = kind.Fork }) (evaluation e))
          (part_itself (record { exec = e; kind = kind.Fork })))
          (live e (eval_assigned v e r)) (over e r, tt))
          refl
        where
          last : (a : Bool) → same_part (record { exec = e; kind = kind.Fork }) (record { exec = e; kind = kind.Fork }) ≡ true
              → (a || (same_part (record { exec = e; kind = kind.Fork }) (record { exec = e; kind = kind.Fork }) || false)) ≡ true
          last true is = refl
          last false is = or_left _ false is

-- What an update leaves of executions, and what it makes of them.
use Rattle.std.proofs.Common.{◌≡◌, ℕ, ◌<◌, ◌≤◌, Bool, true, false, not, ◌&&◌, ◌||◌, List, [], ◌∷◌, ◌++◌, length, filter, refl, ap, sym, ◌∙◌, arith}
use mathlib.Core.Bool.{or_assoc}
use Rattle.std.proofs.lemmas.Bool.{false≢true}
use Rattle.std.proofs.Math.Bool.{or-false}
use Rattle.text_words.specs.Members.{has}
use Rattle.doc_nodes.specs.Imports.{NodeList}
use Rattle.core_tables.specs.declared.versions.Live.{Live}
use Rattle.exec_rules.specs.declared.version.Version.{Version}
use Rattle.exec_rules.specs.Kept.{BlobList}
use Rattle.language.specs.Lang.{Lang}
use Rattle.core_rules.specs.declared.event.Event.{Event}
use Rattle.core_rules.specs.Numbered.{numbered}
use Rattle.core_rules.specs.Assigned.{executions_of, assigns, is_assigned}
use Rattle.core_rules.specs.Settings.{setting}
use Rattle.core_rules.specs.Standing.{standing, is_done, is_open}
use Rattle.core_rules.specs.Doc.{assignment_of}
use Rattle.pide_base.specs.declared.part.PartKind.TheVariants as kind
use Rattle.prover_core.specs.Progress.{Completed, part, completed_in}
use Rattle.text_words.proofs.KnownMembers.{has_both, has_passing}
use Rattle.core_rules.proofs.KnownStays.{number_grown, setting_grown}
use Rattle.prover_core.specs.Kept.{Tables}
use Rattle.prover_core.proofs.UpdateFacts.{Updating, d, more, now, new}

pub pushed : (live : List (Live Version)) (one : Live Version) (e : ℕ)
    → is_assigned (live ++ one ∷ []) e ≡ (is_assigned live e || assigns one.version e)
pushed [] one e = or-false (assigns one.version e)
pushed (x ∷ live) one e = ap (λ b. assigns x.version e || b) (pushed live one e)
    ∙ sym (or_assoc (assigns x.version e) (is_assigned live e) (assigns one.version e))

abbrev pub three : Bool → Bool → Bool → Completed
three a b c = record { eval = a; fork = b; print = c }

module _ {S : Type 0} {l : Lang S} {h : List Event} {t : Tables S} {id : ℕ} {nodes : NodeList} {blobs : BlobList} (u : Updating l h t id nodes blobs) where
  pub same_home : (e : ℕ) → e ≤ length (d u).homes → numbered (now u).homes e ≡ numbered (d u).homes e
  same_home e le = number_grown l (d u).homes (assignment_of (d u) nodes blobs).homes e le

  pub same_setting : (e : ℕ) → e ≤ length (d u).homes → setting l (now u).homes e ≡ setting l (d u).homes e
  same_setting e le = setting_grown l (d u).homes (assignment_of (d u) nodes blobs).homes e le

  pub old_live : (e : ℕ) → e ≤ length (d u).homes → is_assigned (now u).live e ≡ is_assigned (d u).live e
  old_live e le = pushed (d u).live (record { id = id; version = new u }) e ∙ go (assigns (new u) e) refl (is_assigned (d u).live e) refl
    where
      go : (a : Bool) → assigns (new u) e ≡ a → (b : Bool) → is_assigned (d u).live e ≡ b → (b || a) ≡ b
      go false is true live = refl
      go false is false live = refl
      go true is true live = refl
      go true is false live = absurd (false≢true (sym live ∙ u.tip_live e (u.laws.kept e is le)))

  pub new_live : (e : ℕ) → length (d u).homes < e → is_assigned (now u).live e ≡ assigns (new u) e
  new_live e past = pushed (d u).live (record { id = id; version = new u }) e ∙ go (is_assigned (d u).live e) refl
    where
      go : (b : Bool) → is_assigned (d u).live e ≡ b → (b || assigns (new u) e) ≡ assigns (new u) e
      go false is = refl
      go true is = absurd (omega (arith, past, u.laws.within e is))

  -- what is dropped is the tip's, unfinished, and not the new version's
  pub cancelled_now : (e : ℕ) → has (now u).cancelled e
      ≡ (((is_open l h (d u).homes e && not (assigns (new u) e)) && assigns (d u).tip e) || has (d u).cancelled e)
  cancelled_now e = has_both (filter (λ x. is_open l h (d u).homes x && not (assigns (new u) x)) (executions_of (d u).tip)) (d u).cancelled e
      ∙ ap (λ b. b || has (d u).cancelled e) (has_passing (λ x. is_open l h (d u).homes x && not (assigns (new u) x)) (executions_of (d u).tip) e)

  pub not_cancelled : (e : ℕ) → assigns (new u) e ≡ true → has (now u).cancelled e ≡ false
  not_cancelled e is = cancelled_now e
      ∙ ap (λ b. ((is_open l h (d u).homes e && not b) && assigns (d u).tip e) || has (d u).cancelled e) is
      ∙ go (is_open l h (d u).homes e) (assigns (d u).tip e) (has (d u).cancelled e) refl
    where
      go : (a b c : Bool) → has (d u).cancelled e ≡ c → (((a && false) && b) || c) ≡ false
      go true b false x = refl
      go false b false x = refl
      go a b true x = absurd (false≢true (sym (u.laws.not_again e x) ∙ is))

  -- nothing of a new execution is done
  pub nothing_done : (e : ℕ) → length (d u).homes < e → completed_in (more u) e ≡ three false false false
  nothing_done e past =
      ap (λ s. three (is_done s) (is_done (standing h (part e kind.Fork))) (is_done (standing h (part e kind.Print))))
      (u.laws.unmade (part e kind.Eval) past)
      ∙ ap (λ s. three false (is_done s) (is_done (standing h (part e kind.Print)))) (u.laws.unmade (part e kind.Fork) past)
      ∙ ap (λ s. three false false (is_done s)) (u.laws.unmade (part e kind.Print) past)

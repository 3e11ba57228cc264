-- How far a live version is, by what is ready and held below its number.
use Rattle.std.proofs.Common.{◌≡◌, ◌↔◌, ℕ, ◌<◌, ◌≤◌, true, false, not, ◌&&◌, ◌||◌, List, filter, Option, Some, ap, sym, subst, ◌∙◌}
use Rattle.std.specs.Prelude.{is_some, slice_get}
use Rattle.std.specs.List.Sorted.{IsStrictlyIncreasing}
use Rattle.text_words.specs.Members.{has}
use Rattle.pide_base.specs.Ids.{IsId}
use Rattle.pide_base.specs.declared.part.Part.{Part}
use Rattle.core_tables.specs.Ready.{IsReadyPart}
use Rattle.core_tables.specs.declared.versions.Live.{Live}
use Rattle.core_tables.specs.Live.{version_of}
use Rattle.exec_rules.specs.declared.version.Version.{Version}
use Rattle.core_jobs.specs.Parts.{is_unfinished}
use Rattle.language.specs.Lang.{Lang}
use Rattle.core_rules.specs.declared.event.Event.{Event}
use Rattle.core_rules.specs.Numbered.{next_number}
use Rattle.core_rules.specs.Assigned.{assigns, is_assigned}
use Rattle.core_rules.specs.Standing.{Held, standing, is_unclaimed, held, is_open}
use Rattle.core_rules.specs.Doc.{doc}
use Rattle.core_rules.specs.Legal.{IsLegal}
use Rattle.core_rules.specs.Ready.{is_wanted, has_inputs}
use Rattle.core_rules.specs.Sources.{HasHome}
use Rattle.core_rules.specs.Stuck.{is_settled, stuck_in}
use Rattle.prover_core.specs.Kept.{Tables, IsKept, IsBehind}
use Rattle.prover_core.specs.Settling.{IsLeft, IsSettled, is_looked_at}
use Rattle.version_losses.specs.Losses.{number_of, AreLosses}
use Rattle.prover_core.proofs.LossesBehind.{behind_of, version_there}
use Rattle.prover_core.proofs.TipLive.{Laws, laws_of}
use Rattle.prover_core.proofs.NodeShown.{found_assigns}
use Rattle.prover_core.proofs.LiveIds.{live_place}
use Rattle.prover_core.proofs.LeftParts.{ready_left, held_left, settled_so}
use Rattle.prover_core.proofs.StuckSince.{stuck_since}

same_number : (o : Option ℕ) (m n : ℕ) → o ≡ Some m → o ≡ Some n → m ≡ n
same_number o m n one other = cc

module _ {S : Type 0} (l : Lang S) (h : List Event) (t : Tables S) (k : IsKept l h t)
    (tip : (h : List Event) (e : ℕ) → IsLegal l h → is_wanted (doc l h) e ≡ true → is_open l h (doc l h).homes e ≡ true
    → assigns (doc l h).tip e ≡ true)
    (told : (h : List Event) (who : ℕ) (p : Part) → IsLegal l h → (held h who ≡ Some p) ↔ (standing h p ≡ Held who))
    (begun : (h : List Event) (p : Part) → IsLegal l h → is_unclaimed (standing h p) ≡ false → has_inputs h (doc l h).homes p ≡ true)
    (id : ℕ) (n : ℕ) (number : number_of t.losses id ≡ Some n) where
  laws : Laws l h
  laws = laws_of l h t k tip told

  -- the version of this number
  abbrev there : (v : Version) × (version_of (doc l h).live id ≡ Some v)
  there = version_there (doc l h) 0 t.losses (doc l h).live k.losses id n number

  abbrev v : Version
  v = there.0

  behind : IsBehind (doc l h) v n
  behind = let found = behind_of (doc l h) 0 t.losses (doc l h).live k.losses id v there.1 in
      subst (IsBehind (doc l h) v) (same_number (number_of t.losses id) found.0 n found.1 number) found.2

  assigned : (e : ℕ) → assigns v e ≡ true → is_assigned (doc l h).live e ≡ true
  assigned e is = found_assigns (doc l h).live id e v there.1 is

  pub ready_is_left : (p : Part) → p.exec < n → IsReadyPart t.tasks p
      → (w : Version) × (version_of (doc l h).live id ≡ Some w) × IsLeft l h w p
  ready_is_left p lt ready = (v, there.1, ready_left l h t k laws (λ q. begun h q k.legal) v n behind p lt ready)

  pub held_is_left : (p : Part) (who : ℕ) → p.exec < n → is_some (t.tasks p.exec) ≡ true → t.holders who ≡ Some p
      → (w : Version) × (version_of (doc l h).live id ≡ Some w) × IsLeft l h w p
  held_is_left p who lt task holder = (v, there.1, held_left l h t k laws (λ q. begun h q k.legal) v n behind p who lt task holder)

  module _ (homes : (h : List Event) (i : ℕ) (one : Live Version) (e : ℕ) → IsLegal l h → slice_get (doc l h).live i ≡ Some one
      → assigns one.version e ≡ true → HasHome l (doc l h) one.version e)
      (no_ready : (p : Part) → IsReadyPart t.tasks p → n ≤ p.exec)
      (no_held : (who : ℕ) (p : Part) → t.holders who ≡ Some p → p.exec < n → is_some (t.tasks p.exec) ≡ false) where
    home : (e : ℕ) → assigns v e ≡ true → HasHome l (doc l h) v e
    home e is =
        let at = live_place (doc l h).live id v there.1 in
        subst (λ (w : Version). HasHome l (doc l h) w e) at.3
        (homes h at.0 at.1 e k.legal at.2 (subst (λ (w : Version). assigns w e ≡ true) (sym at.3) is))

    settled_here : is_settled l h (doc l h) v ≡ true
    settled_here = settled_so l h t k laws (λ q. begun h q k.legal) v n behind home assigned no_ready no_held

    pub is_settled_so : IsSettled l h id
    is_settled_so = record { version = v; live = there.1; is_settled = settled_here }

    -- with what is open among what was looked at
    pub stuck_is : ((h : List Event) (e : ℕ) → IsLegal l h → assigns (doc l h).tip e ≡ true → HasHome l (doc l h) (doc l h).tip e)
        → (cancelled all kept : List ℕ) → cancelled ≡ t.cancelled
        → ((tip : Version) (top : ℕ) (live : List (Live Version)) (version : Version) → AreLosses tip top 0 t.losses live
        → version_of live id ≡ Some version → (e : ℕ) → IsId e
        → has all e ≡ ((assigns version e && not (assigns tip e)) || is_looked_at cancelled t.tasks n e))
        → IsStrictlyIncreasing kept → ((e : ℕ) → has kept e ≡ has (filter (λ m. is_unfinished (t.rows m)) all) e)
        → (x : IsSettled l h id) × (kept ≡ stuck_in l h (doc l h) x.version)
    stuck_is tip_homes cancelled all kept noted are rises same = (
      record { version = v; live = there.1; is_settled = settled_here },
      stuck_since l h t k v assigned settled_here n behind (λ e is. tip_homes h e k.legal is) all kept
          (λ e is. are (doc l h).tip (next_number (doc l h).homes) (doc l h).live v k.losses there.1 e is
          ∙ ap (λ cs. (assigns v e && not (assigns (doc l h).tip e)) || is_looked_at cs t.tasks n e) noted) rises same,
    )

-- What is kept once versions are removed.
use Rattle.std.proofs.Common.{◌≡◌, ℕ, Bool, true, false, cond, not, ◌&&◌, List, ◌∷◌, Option, None, refl, ap, sym, ◌∙◌}
use Rattle.std.proofs.lemmas.Bool.{false≢true}
use Rattle.std.specs.Prelude.{◌==◌}
use Rattle.std.specs.Option.{option_map}
use Rattle.std.specs.List.{list_any}
use Rattle.text_words.specs.Members.{has}
use Rattle.core_tables.specs.declared.execution.Execution.{Execution}
use Rattle.core_tables.specs.declared.versions.Live.{Live}
use Rattle.core_tables.specs.declared.versions.Removing.TheVariants as answer
use Rattle.core_tables.specs.Live.{History, tip_of}
use Rattle.core_tables.specs.Removal.{removing, left}
use Rattle.exec_rules.specs.declared.home.Home.{Home}
use Rattle.exec_rules.specs.declared.version.Version.{Version}
use Rattle.language.specs.Lang.{Lang}
use Rattle.core_rules.specs.declared.event.Event.{Event}
use Rattle.core_rules.specs.declared.event.Event.TheVariants.{Remove}
use Rattle.core_rules.specs.Numbered.{numbered, next_number}
use Rattle.core_rules.specs.Assigned.{is_assigned}
use Rattle.core_rules.specs.Settings.{setting}
use Rattle.core_rules.specs.Standing.{has_ended}
use Rattle.core_rules.specs.Doc.{Doc, doc}
use Rattle.core_jobs.specs.declared.done.Done.{Done}
use Rattle.update_plans.specs.declared.known.Known.{Known}
use Rattle.version_losses.specs.declared.leaving.Leaving.{Leaving}
use Rattle.version_losses.specs.Losses.{AreLosses}
use Rattle.version_losses.specs.Leaving.{Leaves}
use Rattle.prover_core.specs.Progress.{completed_in, row_by, row_of}
use Rattle.prover_core.specs.Kept.{Tables, IsKept, home_of}
use Rattle.prover_core.proofs.HasTurned.{has_turned}

-- without what goes
without : {A : Type 0} (goes was : Bool) (x : Option A) → cond goes None (cond was x None) ≡ cond (was && not goes) x None
without true true x = refl
without true false x = refl
without false true x = refl
without false false x = refl

module _ {S : Type 0} (l : Lang S) (h : List Event) (t : Tables S) (k : IsKept l h t) (ids : List ℕ) (leaving : Leaving)
    (removed : removing t.versions.live ids ≡ answer.Removed)
    (leaves : (tip : Version) (top : ℕ) (live : List (Live Version)) → AreLosses tip top 0 t.losses live → removing live ids ≡ answer.Removed
    → Leaves tip top ids live leaving) where
  abbrev d : Doc
  d = doc l h

  abbrev more : List Event
  more = Remove ids ∷ h

  abbrev gone : List ℕ
  gone = leaving.gone.items

  removed_live : removing d.live ids ≡ answer.Removed
  removed_live = ap (λ live. removing live ids) (sym k.live) ∙ removed

  so : Leaves d.tip (next_number d.homes) ids d.live leaving
  so = leaves d.tip (next_number d.homes) d.live k.losses removed_live

  was_live : (e : ℕ) → is_assigned (doc l more).live e ≡ true → is_assigned d.live e ≡ true
  was_live e is = go (is_assigned d.live e) (sym (so.gone e) ∙ is)
    where
      go : (b : Bool) → (b && not (has gone e)) ≡ true → b ≡ true
      go true is = refl
      go false is = absurd (false≢true is)

  rows_so : (rows : ℕ → Option (Execution (Done S))) → ((e : ℕ) → rows e ≡ cond (list_any (λ id. id == e) gone) None (t.rows e))
      → (e : ℕ) → rows e ≡ row_of l more (doc l more) e
  rows_so rows forgot e = forgot e ∙ ap (λ b. cond b None (t.rows e)) (has_turned gone e)
      ∙ ap (cond (has gone e) None) (k.rows e)
      ∙ without (has gone e) (is_assigned d.live e)
      (row_by l (has d.cancelled e) e (completed_in h e) (numbered d.homes e) (setting l d.homes e))
      ∙ ap (λ b. cond b (row_by l (has d.cancelled e) e (completed_in h e) (numbered d.homes e) (setting l d.homes e)) None) (sym (so.gone e))

  homes_so : (old now : ℕ → Option Known) → ((e : ℕ) → t.homes e ≡ option_map (λ (x : Known). x.home) (old e))
      → ((e : ℕ) → now e ≡ cond (has gone e) None (old e)) → (e : ℕ) → option_map (λ (x : Known). x.home) (now e) ≡ home_of (doc l more) e
  homes_so old now homes forgot e = ap home (forgot e) ∙ go (has gone e) ∙ ap (cond (has gone e) None) (sym (homes e) ∙ k.homes e)
      ∙ without (has gone e) (is_assigned d.live e) (numbered d.homes e)
      ∙ ap (λ b. cond b (numbered d.homes e) None) (sym (so.gone e))
    where
      home : Option Known → Option Home
      home o = option_map (λ (x : Known). x.home) o

      go : (b : Bool) → option_map (λ (x : Known). x.home) (cond b None (old e)) ≡ cond b None (option_map (λ (x : Known). x.home) (old e))
      go true = refl
      go false = refl

  pub removed_kept : (rows : ℕ → Option (Execution (Done S))) → ((e : ℕ) → rows e ≡ cond (list_any (λ id. id == e) gone) None (t.rows e))
      → (old now : ℕ → Option Known) → ((e : ℕ) → t.homes e ≡ option_map (λ (x : Known). x.home) (old e))
      → ((e : ℕ) → now e ≡ cond (has gone e) None (old e)) → (versions : History Version) → has_ended h ≡ false
      → versions.start ≡ t.versions.start → versions.live ≡ left answer.Removed ids t.versions.live → tip_of versions ≡ tip_of t.versions
      → IsKept l more (record t {
        versions = versions;
        losses = leaving.losses.losses;
        rows = rows;
        homes = λ e. option_map (λ (x : Known). x.home) (now e);
      })
  removed_kept rows forgot old now homes forgotten versions going start live tip = record {
    legal = (k.legal, (going, removed_live));
    start_is = start ∙ k.start_is;
    live = live ∙ ap (left answer.Removed ids) k.live;
    tip = tip ∙ k.tip;
    rows_fit = k.rows_fit;
    losses = so.losses;
    next_is = k.next_is;
    within = k.within;
    rows = rows_so rows forgot;
    homes = homes_so old now homes forgotten;
    known = λ e is. k.known e (was_live e is);
    in_order = k.in_order;
    holders = k.holders;
    held_next = k.held_next;
    tasks = k.tasks;
    ended = k.ended;
    cancelled = k.cancelled;
    room = k.room;
    spare = k.spare;
  }

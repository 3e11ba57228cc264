-- The inputs of new executions, counted, and what is kept once there is room for them.
use Rattle.std.proofs.Common.{◌≡◌, ℕ, ◌+◌, ◌-◌, ◌<◌, ◌≤◌, List, [], ◌∷◌, ◌++◌, length, take, get_or, reverse, map, Option, refl, ap, sym, subst, ◌∙◌, arith}
use Rattle.std.proofs.lemmas.List.{take_more, length-append, reverse-append, length-reverse, length-map}
use Rattle.std.proofs.lemmas.List.Concat.{flat_map-append}
use Rattle.std.specs.Prelude.{flat_map, min}
use Rattle.text_words.specs.Members.{has}
use Rattle.core_tables.specs.Live.{History, tip_of}
use Rattle.core_tables.specs.declared.execution.Execution.{Execution}
use Rattle.core_tables.specs.declared.task.Standing.{Standing}
use Rattle.core_tables.specs.declared.task.Task.{Task}
use Rattle.exec_rules.specs.declared.home.Home.{Home}
use Rattle.exec_rules.specs.declared.version.Version.{Version}
use Rattle.language.specs.Lang.{Lang}
use Rattle.core_rules.specs.declared.event.Event.{Event}
use Rattle.core_rules.specs.Doc.{doc}
use Rattle.core_jobs.specs.declared.done.Done.{Done}
use Rattle.update_plans.specs.declared.beginning.Fresh.{Fresh}
use Rattle.core_rules.specs.Numbered.{next_number}
use Rattle.version_losses.specs.declared.losses.Loss.{Loss}
use Rattle.version_losses.specs.Losses.{AreLosses}
use Rattle.prover_core.specs.Plans.{PlanState, HasRoom}
use Rattle.prover_core.specs.States.{Room}
use Rattle.prover_core.proofs.FreshAll.{links_of}
use Rattle.prover_core.specs.Tasks.{HasTask}
use Rattle.prover_core.specs.Kept.{Tables, IsKept}
use Rattle.prover_core.proofs.UpdateFacts.{tables_with}

abbrev pub inputs_of : Fresh → List ℕ
inputs_of one = one.task.inputs

pub links_next : (fresh : List Fresh) (i : ℕ) (one : Fresh) (n m : ℕ) → i < length fresh → one ≡ get_or fresh i one
    → m ≡ n + length (inputs_of one) → n ≡ length (flat_map inputs_of (take i fresh)) → m ≡ length (flat_map inputs_of (take (i + 1) fresh))
links_next fresh i one n m lt is more count =
    let front = take i fresh in
    let both : flat_map inputs_of (take (i + 1) fresh) ≡ flat_map inputs_of front ++ flat_map inputs_of (one ∷ []) =
    ap (flat_map inputs_of) (take_more fresh i one lt)
    ∙ ap (λ (x : Fresh). flat_map inputs_of (front ++ x ∷ [])) (sym is)
    ∙ flat_map-append inputs_of front (one ∷ []) in
    omega (
      arith,
      more,
      count,
      ap (λ (xs : List ℕ). length xs) both,
      length-append (flat_map inputs_of front) (flat_map inputs_of (one ∷ [])),
      length-append (inputs_of one) [],
    )

-- as many in any order
pub links_turned : (fresh : List Fresh) → length (flat_map inputs_of (reverse fresh)) ≡ length (flat_map inputs_of fresh)
links_turned [] = refl
links_turned (one ∷ fresh) =
    let turned : flat_map inputs_of (reverse (one ∷ fresh)) ≡ flat_map inputs_of (reverse fresh) ++ flat_map inputs_of (one ∷ []) =
    ap (flat_map inputs_of) (reverse-append (one ∷ []) fresh) ∙ flat_map-append inputs_of (reverse fresh) (one ∷ []) in
    omega (
      arith,
      ap (λ (xs : List ℕ). length xs) turned,
      length-append (flat_map inputs_of (reverse fresh)) (flat_map inputs_of (one ∷ [])),
      length-append (inputs_of one) [],
      length-append (inputs_of one) (flat_map inputs_of fresh),
      links_turned fresh,
    )

-- more room changes nothing of what is kept
pub roomy_tables : {S : Type 0} (l : Lang S) (h : List Event) (t : Tables S) → IsKept l h t
    → (versions : History Version) (losses : List Loss) (rows : ℕ → Option (Execution (Done S))) (homes : ℕ → Option Home) (tasks : ℕ → Option Standing) (room count : ℕ) (cancelled : List ℕ) (spare : ℕ)
    → versions.start ≡ t.versions.start → versions.live ≡ t.versions.live → losses ≡ t.losses → ((e : ℕ) → rows e ≡ t.rows e) → ((e : ℕ) → homes e ≡ t.homes e)
    → ((e : ℕ) → tasks e ≡ t.tasks e) → t.room ≤ room → count ≡ t.count → cancelled ≡ t.cancelled → t.spare ≤ spare
    → IsKept l h (tables_with t versions losses t.next rows homes tasks room count cancelled spare)
roomy_tables l h t k versions losses rows homes tasks room count cancelled spare begins lives same_losses same_rows same_homes same_tasks more
    as_many same_cancelled sparer = record {
      legal = k.legal;
      start_is = begins ∙ k.start_is;
      live = lives ∙ k.live;
      tip = ap (λ (v : History Version). tip_of v) alike ∙ k.tip;
      rows_fit = k.rows_fit;
      losses = subst (λ xs. AreLosses (doc l h).tip (next_number (doc l h).homes) 0 xs (doc l h).live) (sym same_losses) k.losses;
      next_is = k.next_is;
      within = k.within;
      rows = λ e. same_rows e ∙ k.rows e;
      homes = λ e. same_homes e ∙ k.homes e;
      known = k.known;
      in_order = k.in_order;
      holders = k.holders;
      held_next = k.held_next;
      tasks = λ e. subst (HasTask l h (doc l h) e) (sym (same_tasks e)) (k.tasks e);
      ended = k.ended;
      cancelled = λ e. ap (λ es. has es e) same_cancelled ∙ k.cancelled e;
      room = omega (arith, more, k.room);
      spare = omega (arith, as_many, sparer, k.spare);
    }
  where
    alike : record { start = versions.start; live = versions.live; room = t.versions.room } ≡ t.versions
    alike = ap (λ s. record { start = s; live = versions.live; room = t.versions.room }) begins
        ∙ ap (λ ls. record { start = t.versions.start; live = ls; room = t.versions.room }) lives

-- the room is enough for a plan with these new executions
pub room_for : (p : PlanState) (fresh all : List Fresh) (versions losses execs known queue held links count spare : ℕ)
    → map (λ (x : Fresh). x.task) (reverse all) ≡ p.tasks → fresh ≡ all
    → 1 ≤ versions → 1 ≤ losses → length fresh ≤ execs → length fresh ≤ known → length fresh + held ≤ queue → length (flat_map inputs_of fresh) ≤ links
    → length fresh + count ≤ spare
    → HasRoom (record { versions = min versions losses; executions = min (min execs known) (spare - count); tasks = queue - held; links = links }) p
room_for p fresh all versions losses execs known queue held links count spare tasks are some one fit stay wait link note = record {
  versions = le-min 1 versions losses some one;
  executions = le-min (length p.tasks) (min execs known) (spare - count)
      (le-min (length p.tasks) execs known (omega (arith, as_many, fit)) (omega (arith, as_many, stay)))
      (omega (arith, as_many, note));
  tasks = omega (arith, as_many, wait);
  links = omega (
    arith,
    ap (λ (ts : List Task). length (flat_map (λ (t : Task). t.inputs) ts)) tasks,
    links_of (reverse all),
    links_turned all,
    ap (λ (xs : List Fresh). length (flat_map inputs_of xs)) are,
    link,
  );
}
  where
    as_many : length p.tasks ≡ length fresh
    as_many = ap (λ (ts : List Task). length ts) (sym tasks) ∙ length-map (reverse all) (λ (x : Fresh). x.task) ∙ length-reverse all
        ∙ sym (ap (λ (xs : List Fresh). length xs) are)

    le-min : (n a b : ℕ) → n ≤ a → n ≤ b → n ≤ min a b
    le-min n a b x y = omega (arith, x, y)

-- room for a plan is room for the same
pub room_same : (room : Room) (p q : PlanState) → p ≡ q → HasRoom room p → HasRoom room q
room_same room p q same = subst (HasRoom room) same

-- The tables that a planned update leaves.
use Rattle.std.proofs.Common.{◌≡◌, ℕ, ◌<◌, ◌≤◌, Bool, true, false, cond, not, ◌&&◌, ◌||◌, List, [], ◌∷◌, length, Option, Some, None, refl, ap, sym, subst, ◌∙◌, arith}
use Rattle.std.proofs.lemmas.Bool.{false≢true, ne_eqb}
use Rattle.std.specs.List.{AllByRecursion}
use Rattle.std.specs.Option.{option_map_or}
use Rattle.text_words.specs.Members.{has}
use Rattle.pide_base.specs.declared.part.PartKind.{PartKind}
use Rattle.pide_base.specs.declared.part.PartKind.TheVariants as kind
use Rattle.core_tables.specs.declared.task.Standing.{Standing as Task}
use Rattle.exec_rules.specs.declared.home.Home.{Home}
use Rattle.language.specs.Lang.{Lang}
use Rattle.core_rules.specs.declared.event.Event.{Event}
use Rattle.core_rules.specs.Numbered.{numbered}
use Rattle.core_rules.specs.Assigned.{assigns, is_assigned}
use Rattle.core_rules.specs.Settings.{setting}
use Rattle.core_rules.specs.Parts.{waits_by, sources_of, evaluation}
use Rattle.core_rules.specs.Standing.{standing, is_done}
use Rattle.core_rules.specs.Sources.{IsSource}
use Rattle.prover_core.specs.Progress.{completed_in, next_of, row_by}
use Rattle.prover_core.specs.Tasks.{present_kind, AreTasks}
use Rattle.prover_core.specs.Kept.{Tables}
use Rattle.doc_nodes.specs.Imports.{NodeList}
use Rattle.exec_rules.specs.Kept.{BlobList}
use Rattle.prover_core.proofs.UpdateFacts.{Updating, d}

has_none : (P : ℕ → Type 0) (xs : List ℕ) (e : ℕ) → AllByRecursion P xs → (P e → ⊥) → has xs e ≡ false
has_none P [] e all never = refl
has_none P (x ∷ xs) e all never =
    ap (λ b. b || has xs e) (ne_eqb e x (λ same. never (subst P (sym same) all.0))) ∙ has_none P xs e all.1 never

module _ {S : Type 0} {l : Lang S} {h : List Event} {t : Tables S} {id : ℕ} {nodes : NodeList} {blobs : BlobList} (u : Updating l h t id nodes blobs) where
  not_live : (e : ℕ) → length (d u).homes < e → is_assigned (d u).live e ≡ false
  not_live e past = go (is_assigned (d u).live e) refl
    where
      go : (b : Bool) → is_assigned (d u).live e ≡ b → b ≡ false
      go false is = refl
      go true is = let le = u.laws.within e is in absurd (omega (arith, past, le))

  pub not_tip : (e : ℕ) → length (d u).homes < e → assigns (d u).tip e ≡ false
  not_tip e past = go (assigns (d u).tip e) refl
    where
      go : (b : Bool) → assigns (d u).tip e ≡ b → b ≡ false
      go false is = refl
      go true is = absurd (false≢true (sym (not_live e past) ∙ u.tip_live e is))

  -- nothing is there of what was not made
  pub no_row : (e : ℕ) → length (d u).homes < e → t.rows e ≡ None
  no_row e past = u.kept.rows e
      ∙ ap (λ b. cond b (row_by l (has (d u).cancelled e) e (completed_in h e) (numbered (d u).homes e) (setting l (d u).homes e)) None) (not_live e past)

  pub no_home : (e : ℕ) → length (d u).homes < e → t.homes e ≡ None
  no_home e past = u.kept.homes e ∙ ap (λ b. cond b (numbered (d u).homes e) None) (not_live e past)

  pub no_task : (e : ℕ) → length (d u).homes < e → t.tasks e ≡ None
  no_task e past = go (t.tasks e) refl (subst (λ o. AreTasks (standing h) (d u).tip (d u).homes e o (t.tasks e))
      (ap (λ b. cond (b && not (has (d u).cancelled e)) (next_of l h (d u) e) None) (not_tip e past)) (u.kept.tasks e))
    where
      go : (o : Option Task) → t.tasks e ≡ o → AreTasks (standing h) (d u).tip (d u).homes e None o → o ≡ None
      go None is are = refl
      go (Some s) is are = absurd (are)

  -- no task waits for it
  pub nobody_waits : (e f : ℕ) → length (d u).homes < e → option_map_or (λ (s : Task). has s.inputs e) (t.tasks f) false ≡ false
  nobody_waits e f past = go (t.tasks f) refl (u.kept.tasks f)
    where
      present : (x : PartKind) → present_kind l h (d u) f ≡ Some x → assigns (d u).tip f ≡ true
      present x is = by (assigns (d u).tip f) is
        where
          by : (b : Bool) → cond (b && not (has (d u).cancelled f)) (next_of l h (d u) f) None ≡ Some x → b ≡ true
          by true is = refl
          by false is = absurd (cc)

      old : assigns (d u).tip f ≡ true → f ≤ length (d u).homes
      old is = u.laws.within f (u.tip_live f is)

      waits : (x : PartKind) → assigns (d u).tip f ≡ true → has (waits_by (d u).homes x f) e ≡ false
      waits kind.Fork is = has_none (λ q. q ≤ length (d u).homes) (f ∷ []) e (old is, tt) (λ le. omega (arith, le, past))
      waits kind.Eval is = sources is
        where
          sources : assigns (d u).tip f ≡ true → has (option_map_or (λ (y : Home). sources_of y.input) (numbered (d u).homes f) []) e ≡ false
          sources is =
              let x = u.tip_homes f is in
              ap (λ o. has (option_map_or (λ (y : Home). sources_of y.input) o []) e) x.homed
              ∙ has_none (IsSource (d u) (d u).tip f) (sources_of x.home.input) e x.sources
              (λ so. (let le = old is in omega (arith, le, past, so.older)))
      waits kind.Print is =
          let x = u.tip_homes f is in
          ap (λ o. has (option_map_or (λ (y : Home). sources_of y.input) o []) e) x.homed
          ∙ has_none (IsSource (d u) (d u).tip f) (sources_of x.home.input) e x.sources
          (λ so. (let le = old is in omega (arith, le, past, so.older)))

      by_kind : (o : Option PartKind) → present_kind l h (d u) f ≡ o → (s : Task) → AreTasks (standing h) (d u).tip (d u).homes f o (Some s)
          → has s.inputs e ≡ false
      by_kind None is s are = absurd (are)
      by_kind (Some x) is s are =
          are.waits e ∙ ap (λ b. b && not (is_done (standing h (evaluation e)))) (waits x (present x is))

      go : (o : Option Task) → t.tasks f ≡ o → AreTasks (standing h) (d u).tip (d u).homes f (present_kind l h (d u) f) (t.tasks f)
          → option_map_or (λ (s : Task). has s.inputs e) o false ≡ false
      go None is are = refl
      go (Some s) is are = by_kind (present_kind l h (d u) f) refl s
          (subst (λ o. AreTasks (standing h) (d u).tip (d u).homes f (present_kind l h (d u) f) o) is are)

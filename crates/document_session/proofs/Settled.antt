-- What is answered to a settle.
use Rattle.std.proofs.Common.{◌≡◌, ℕ, Bool, true, false, List, [], ◌∷◌, map, Option, Some, None, Result, Ok, Err, refl, sym, ap, subst, ◌∙◌}
use Rattle.std.proofs.lemmas.Bool.{eqb-true}
use Rattle.std.specs.Prelude.{◌==◌, ◌||◌, ◌&&◌, if◌then◌else◌}
use Rattle.std.specs.List.{list_any, list_all}
use Rattle.pide_base.specs.declared.part.Part.{Part}
use Rattle.core_tables.specs.Live.{version_of}
use Rattle.exec_rules.specs.declared.version.Version.{Version}
use Rattle.language.specs.Lang.{Lang}
use Rattle.message_values.specs.declared.editor_message.EditorMessage.TheVariants as asks
use Rattle.message_values.specs.declared.refusal.Refusal.{Refusal}
use Rattle.message_values.specs.declared.refusal.Refusal.TheVariants.{UnknownVersion, StepHeld}
use Rattle.message_values.specs.Asked.{or_refused}
use Rattle.buffer_rules.specs.Trying.{◌>>=◌}
use Rattle.core_rules.specs.declared.event.Event.{Event}
use Rattle.core_rules.specs.Assigned.{executions_of}
use Rattle.core_rules.specs.Doc.{doc}
use Rattle.core_rules.specs.Parts.{same_part, parts_of}
use Rattle.core_rules.specs.Standing.{is_finished}
use Rattle.core_rules.specs.Stuck.{is_stuck, is_over, is_settled, stuck_in}
use Rattle.core_rules.proofs.KnownParts.{part_is}
use Rattle.prover_core.specs.Settling.{IsLeft}
use Rattle.reply_messages.specs.declared.told.Told.TheVariants as tells
use Rattle.session_rules.specs.declared.service.Service.{Service}
use Rattle.session_rules.specs.Services.{is_held_by_script}
use Rattle.session_rules.specs.Session.{Session, document}
use Rattle.session_rules.specs.Accepting.{taken}
use Rattle.session_rules.specs.Legal.{IsSettledIn, awaited_by, awaited_of}
use Rattle.session_rules.specs.Looking.{settles}
use Rattle.session_rules.specs.Replies.{or_refusal}
use Rattle.keeping_rules.specs.session_replies_below.Spelling.{reply_spelling}
use Rattle.keeping_rules.specs.Looks.{IsLook}
use Rattle.keeping_rules.proofs.KnownNothingDue.{nothing_due}

none_fails : {A : Type 0} (p q : A → Bool) (xs : List A) → list_any p xs ≡ true → ((x : A) → p x ≡ true → q x ≡ false) → list_all q xs ≡ false
none_fails p q [] some each = absurd (cc)
none_fails p q (x ∷ xs) some each = go (p x) (q x) refl refl some (λ more. none_fails p q xs more each)
  where
    go : (a b : Bool) → p x ≡ a → q x ≡ b → (a || list_any p xs) ≡ true → (list_any p xs ≡ true → list_all q xs ≡ false)
        → (b && list_all q xs) ≡ false
    go true true e f some rest = let no : q x ≡ false = each x e in absurd (cc)
    go true false e f some rest = refl
    go false true e f some rest = rest some
    go false false e f some rest = refl

module _ {S : Type 0} (l : Lang S) (h : List Event) (version : Version) (p : Part) (left : IsLeft l h version p) where
  neither : (is_finished h p || is_stuck h (doc l h) p) ≡ false
  neither = ap (λ b. b || is_stuck h (doc l h) p) left.unfinished ∙ left.not_stuck

  not_over : is_over l h (doc l h) p.exec ≡ false
  not_over = none_fails (same_part p) (λ q. is_finished h q || is_stuck h (doc l h) q) (parts_of l (doc l h).homes p.exec) left.made
      (λ q same. subst (λ r. (is_finished h r || is_stuck h (doc l h) r) ≡ false) (part_is p q same) neither)

  -- a version of which a part is left isn't settled
  pub unsettled : is_settled l h (doc l h) version ≡ false
  unsettled = none_fails (λ e. p.exec == e) (is_over l h (doc l h)) (executions_of version) left.assigned
      (λ e same. subst (λ n. is_over l h (doc l h) n ≡ false) (eqb-true p.exec e same) not_over)

abbrev settles_by : Bool → Option Version → Result Version Refusal
settles_by is_held o = or_refused UnknownVersion o >>= λ version. if is_held then Err StepHeld else Ok version

module _ {S : Type 0} (l : Lang S) (service : Service) (s : Session) (id : ℕ) where
  abbrev after : Result Version Refusal → Result Session Refusal
  after r = r >>= λ settling. Ok s

  pub no_version : version_of (document l s).live id ≡ None → taken l service s (Ok (asks.Settle id)) ≡ Err UnknownVersion
  no_version none = ap (λ (o : Option Version). after (settles_by (is_held_by_script service s.events) o)) none

  module _ (version : Version) (live : version_of (document l s).live id ≡ Some version) where
    settles_is : (b : Bool) → is_held_by_script service s.events ≡ b → settles l service s id ≡ settles_by b (Some version)
    settles_is b held = ap (settles_by (is_held_by_script service s.events)) live ∙ ap (λ c. settles_by c (Some version)) held

    pub step_held : is_held_by_script service s.events ≡ true → taken l service s (Ok (asks.Settle id)) ≡ Err StepHeld
    step_held held = ap after (settles_is true held)

    module _ (free : is_held_by_script service s.events ≡ false) where
      pub awaits : awaited_of l service s (Ok (asks.Settle id)) ≡ Some version
      awaits = ap (λ (r : Result Version Refusal). awaited_by r) (settles_is false free)

      pub settled_look : is_settled l s.events (document l s) version ≡ true → (stuck : List ℕ) → stuck ≡ stuck_in l s.events (document l s) version
          → (bytes : List ℕ) → bytes ≡ reply_spelling (tells.Settled id stuck)
          → IsLook l service s (Ok (asks.Settle id)) bytes
      settled_look done stuck stuck_is bytes is = record {
        accepted = ap after (settles_is false free);
        settled = subst (λ (o : Option Version). IsSettledIn l s o) (sym awaits) done;
        told = ap (λ (r : Result Version Refusal). map reply_spelling (or_refusal (after r >>= λ
            later. r >>= λ v.
            Ok (tells.Settled id (stuck_in l s.events (document l s) v) ∷ [])))) (settles_is false free)
            ∙ ap (λ (es : List ℕ). reply_spelling (tells.Settled id es) ∷ []) (sym stuck_is) ∙ ap (λ (b : List ℕ). b ∷ []) (sym is);
        rests = nothing_due (taken l service s (Ok (asks.Settle id)));
      }

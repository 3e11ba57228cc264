-- What comes of an entry on the editor's side.
use Rattle.std.proofs.Common.{◌≡◌, List, [], ◌∷◌, ◌++◌, Some, Ok, refl, sym, subst, ◌∙◌}
use Rattle.language.specs.Lang.{Lang}
use Rattle.message_values.specs.declared.editor_message.EditorMessage.TheVariants as asks
use Rattle.message_values.specs.declared.mode.Mode.{Mode}
use Rattle.reply_messages.specs.declared.told.Told.{Told}
use Rattle.session_rules.specs.Session.{Session}
use Rattle.session_rules.specs.Steps.{Due, Nothing, Claims, Finishes}
use Rattle.mirror_rules.specs.Answers.{Read}
use Rattle.mirror_rules.specs.Images.{Mirror}
use Rattle.mirror_rules.specs.Replies.{after_reply, after_answer, after_first_answer, mirror_after}
use Rattle.editor_laws.proofs.Expected.{IsFine, answer_heard}
use Rattle.editor_laws.proofs.Mirrors.{AllLive, Mirrors}
use Rattle.editor_laws.proofs.Known.{ImageOf}
use Rattle.core_rules.specs.Doc.{doc}

-- replies are heard one after the other, without a fault
abbrev pub Hears : Mode → Mirror → List Told → Mirror → Type 0
Hears mode m [] n = n ≡ m
Hears mode m (t ∷ ts) n = (next : Mirror) × (mirror_after mode m (Some t) ≡ Some next) × Hears mode next ts n

-- the message whose reply is due with the next step
abbrev pub step_called : Due → List Read
step_called Nothing = []
step_called (Claims w) = Ok (asks.Claim w) ∷ []
step_called (Finishes w) = Ok (asks.Finish w) ∷ []

-- the mirror after replies is as the session, and what waits is what was sent beyond it
pub record Outcome {S : Type 0} (l : Lang S) (mode : Mode) (m : Mirror) (told : List Told) (s : Session) (due : Due) (more : List Read) : Type 0 where
  pub mirror : Mirror
  pub hears : Hears mode m told mirror
  pub is : Mirrors l s mirror
  pub waits : mirror.unanswered ≡ step_called due ++ more

module _ {S : Type 0} (l : Lang S) (mode : Mode) (m : Mirror) where
  -- the same of what is the same
  pub outcome_of : (told told' : List Told) (s s' : Session) (due due' : Due) (more : List Read) → told' ≡ told → s' ≡ s → due' ≡ due
      → Outcome l mode m told s due more → Outcome l mode m told' s' due' more
  outcome_of told told' s s' due due' more p q r o =
      subst (λ t. Outcome l mode m t s' due' more) (sym p)
      (subst (λ x. Outcome l mode m told x due' more) (sym q) (subst (λ d. Outcome l mode m told s d more) (sym r) o))

  -- the first message has its answer
  pub answer_outcome : (read : Read) (more : List Read) (t : Told) (s : Session) → m.unanswered ≡ read ∷ more → IsFine m (Some read) t
      → after_reply mode m t ≡ after_first_answer m m.unanswered t → Mirrors l s (after_answer (record m { unanswered = more }) read t)
      → (after_answer (record m { unanswered = more }) read t).unanswered ≡ more → Outcome l mode m (t ∷ []) s Nothing more
  answer_outcome read more t s waits fine answers is left = record {
    mirror = after_answer (record m { unanswered = more }) read t;
    hears = (after_answer (record m { unanswered = more }) read t, answer_heard mode m read more t waits fine answers, refl);
    is = is;
    waits = left;
  }

-- what was called and what waits are no part of it
pub mirrors_other : {S : Type 0} (l : Lang S) (s t : Session) (m n : Mirror) → Mirrors l s m → t.buffer ≡ s.buffer → t.events ≡ s.events
    → t.protocol ≡ s.protocol → n ≡ record m { unanswered = n.unanswered } → Mirrors l t n
mirrors_other l s t m n is buffer events protocol same =
    subst (Mirrors l t) (sym same) (by t buffer events protocol)
  where
    by : (t : Session) → t.buffer ≡ s.buffer → t.events ≡ s.events → t.protocol ≡ s.protocol → Mirrors l t (record m { unanswered = n.unanswered })
    by t b e p = record {
      buffer = is.buffer ∙ sym b;
      last = subst (λ h. m.last ≡ (doc l h).last) (sym e) is.last;
      protocol = is.protocol ∙ sym p;
      live = subst (λ h. AllLive l h (doc l h).homes (doc l h).live m.live) (sym e) is.live;
      tip = subst (λ h. ImageOf l h (doc l h).homes (doc l h).tip m.tip) (sym e) is.tip;
    }

-- How a session and a mirror stand between two messages (this project's own).
use Rattle.std.specs.Prelude.{◌≡◌, List, [], None}
use Rattle.language.specs.Lang.{Lang}
use Rattle.reply_outbox.specs.Items.{entries}
use Rattle.session_rules.specs.declared.entry.Entry.{Entry}
use Rattle.session_rules.specs.declared.service.Service.{Service}
use Rattle.session_rules.specs.declared.service.Service.TheVariants.{Workers}
use Rattle.session_rules.specs.Services.{mode_of}
use Rattle.message_values.specs.declared.mode.Mode.{Mode}
use Rattle.mirror_rules.specs.Answers.{Read}
use Rattle.mirror_rules.specs.Events.{AreSpelled, MirrorEvent, heard_moves, stream}
use Rattle.mirror_rules.specs.Moves.{Move, mirrored}
use Rattle.editor_laws.specs.Follows.{Follows}
use Rattle.editor_laws.specs.Heard.{AreMessages}
use Rattle.editor_laws.specs.Tellable.{IsTellable}
use Rattle.document_session.specs.Contents.{SessionState}
use Rattle.document_serve.specs.Going.{IsAtRest}
use Rattle.pide_mirror.specs.Hearing.{HasHeard, Hearing}
use Rattle.mirror_serve.specs.LongReplies.{HasShortReplies}
use Rattle.mirror_serve.specs.declared.ear.Ear.{Ear}

-- a mirror has heard whole replies alone, and no fault
pub record IsBetween (mode : Mode) (now : Hearing) : Type 0 where
  pub mode_is : now.mode ≡ mode
  pub fine : now.ended ≡ None
  pub events : List MirrorEvent
  pub heard : HasHeard events now
  pub whole : AreSpelled (stream events) (heard_moves heard.moves)

-- it knows what an editor knows that sent all messages of a history, and these of what is ahead,
-- and heard all replies
pub record IsImageOf {S : Type 0} (l : Lang S) (service : Service) (ahead h : List Entry)
    (sent : List Read) (now : Hearing) : Type 0 where
  pub between : IsBetween (mode_of service) now
  pub did : List Move
  pub follows : Follows l service ahead h sent did
  pub same : mirrored (mode_of service) now.moves ≡ mirrored (mode_of service) did

-- between messages the session is at rest, which nobody works for beside the reader; the mirror
-- knows what an editor of its history knows; and no reply was too long
pub record Rests {S : Type 0} (l : Lang S) (s : SessionState) (ear : Ear) : Type 0 where
  pub session : IsAtRest l s
  pub service : s.service ≡ Workers 0
  pub tellable : IsTellable l
  pub calls : AreMessages (entries s.items)
  pub image : IsImageOf l s.service [] (entries s.items) [] ear.mirror
  pub fine : ear.unheard ≡ None
  pub short : HasShortReplies l s

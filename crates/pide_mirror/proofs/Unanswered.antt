-- What the answers to messages make, by their kinds.
use Rattle.std.proofs.Common.{◌≡◌, ℕ, true, List, Result, Ok, Err, refl}
use Rattle.buffer_rules.specs.Preparing.{Buffer}
use Rattle.message_values.specs.declared.editor_message.EditorMessage.TheVariants as asks
use Rattle.message_values.specs.declared.mode.Mode.{Mode}
use Rattle.message_values.specs.declared.refusal.Refusal.{Refusal}
use Rattle.reply_messages.specs.declared.told.NodeRows.{NodeRows}
use Rattle.reply_messages.specs.declared.told.Told.{Told}
use Rattle.reply_messages.specs.declared.told.Told.TheVariants as tells
use Rattle.mirror_rules.specs.Answers.{Read, is_answer}
use Rattle.mirror_rules.specs.Images.{Mirror}
use Rattle.mirror_rules.specs.Replies.{after_answer, after_first_answer, after_reply}
use Rattle.mirror_rules.specs.Updates.{after_update}

-- what an answer makes
pub after_answers : (mode : Mode) (m : Mirror) (told : Told) → is_answer told ≡ true → after_reply mode m told ≡ after_first_answer m m.unanswered told
after_answers mode m (tells.Assign version nodes) is = refl
after_answers mode m (tells.Markup version node reports pending outdated) is = refl
after_answers mode m (tells.Cancelled exec) is = refl
after_answers mode m (tells.Idle exec) is = refl
after_answers mode m (tells.Removed versions) is = refl
after_answers mode m (tells.Settled version stuck) is = refl
after_answers mode m (tells.Protocol protocol) is = refl
after_answers mode m (tells.Refused reason) is = refl
after_answers mode m (tells.Claimed worker part) is = refl
after_answers mode m (tells.Report part reports) is = absurd (cc)
after_answers mode m (tells.Dropped part) is = absurd (cc)
after_answers mode m (tells.Built node reports) is = refl
after_answers mode m (tells.Total nodes errors) is = refl

after_made : (m : Mirror) (version : ℕ) (listed : List NodeRows) (buffer : Result Buffer Refusal) → (after_update m version listed buffer).unanswered ≡ m.unanswered
after_made m version listed (Ok buffer) = refl
after_made m version listed (Err reason) = refl

-- it leaves what is unanswered behind the message
pub unanswered_stay : (m : Mirror) (read : Read) (told : Told) → (after_answer m read told).unanswered ≡ m.unanswered
unanswered_stay m (Err reason) told = refl
unanswered_stay m (Ok (asks.Update version items blobs)) (tells.Assign id listed) = after_made m version listed _
unanswered_stay m (Ok (asks.Update version items blobs)) (tells.Markup id node reports pending outdated) = refl
unanswered_stay m (Ok (asks.Update version items blobs)) (tells.Cancelled exec) = refl
unanswered_stay m (Ok (asks.Update version items blobs)) (tells.Idle exec) = refl
unanswered_stay m (Ok (asks.Update version items blobs)) (tells.Removed ids) = refl
unanswered_stay m (Ok (asks.Update version items blobs)) (tells.Settled id stuck) = refl
unanswered_stay m (Ok (asks.Update version items blobs)) (tells.Protocol told) = refl
unanswered_stay m (Ok (asks.Update version items blobs)) (tells.Refused reason) = refl
unanswered_stay m (Ok (asks.Update version items blobs)) (tells.Claimed worker part) = refl
unanswered_stay m (Ok (asks.Update version items blobs)) (tells.Report part reports) = refl
unanswered_stay m (Ok (asks.Update version items blobs)) (tells.Dropped part) = refl
unanswered_stay m (Ok (asks.Update version items blobs)) (tells.Built node reports) = refl
unanswered_stay m (Ok (asks.Update version items blobs)) (tells.Total nodes errors) = refl
unanswered_stay m (Ok (asks.Snapshot version node edits)) told = refl
unanswered_stay m (Ok (asks.Cancel exec)) told = refl
unanswered_stay m (Ok (asks.RemoveVersions versions)) (tells.Assign id listed) = refl
unanswered_stay m (Ok (asks.RemoveVersions versions)) (tells.Markup id node reports pending outdated) = refl
unanswered_stay m (Ok (asks.RemoveVersions versions)) (tells.Cancelled exec) = refl
unanswered_stay m (Ok (asks.RemoveVersions versions)) (tells.Idle exec) = refl
unanswered_stay m (Ok (asks.RemoveVersions versions)) (tells.Removed ids) = refl
unanswered_stay m (Ok (asks.RemoveVersions versions)) (tells.Settled id stuck) = refl
unanswered_stay m (Ok (asks.RemoveVersions versions)) (tells.Protocol told) = refl
unanswered_stay m (Ok (asks.RemoveVersions versions)) (tells.Refused reason) = refl
unanswered_stay m (Ok (asks.RemoveVersions versions)) (tells.Claimed worker part) = refl
unanswered_stay m (Ok (asks.RemoveVersions versions)) (tells.Report part reports) = refl
unanswered_stay m (Ok (asks.RemoveVersions versions)) (tells.Dropped part) = refl
unanswered_stay m (Ok (asks.RemoveVersions versions)) (tells.Built node reports) = refl
unanswered_stay m (Ok (asks.RemoveVersions versions)) (tells.Total nodes errors) = refl
unanswered_stay m (Ok (asks.Settle version)) told = refl
unanswered_stay m (Ok (asks.Protocol protocol)) (tells.Assign id listed) = refl
unanswered_stay m (Ok (asks.Protocol protocol)) (tells.Markup id node reports pending outdated) = refl
unanswered_stay m (Ok (asks.Protocol protocol)) (tells.Cancelled exec) = refl
unanswered_stay m (Ok (asks.Protocol protocol)) (tells.Idle exec) = refl
unanswered_stay m (Ok (asks.Protocol protocol)) (tells.Removed ids) = refl
unanswered_stay m (Ok (asks.Protocol protocol)) (tells.Settled id stuck) = refl
unanswered_stay m (Ok (asks.Protocol protocol)) (tells.Protocol told) = refl
unanswered_stay m (Ok (asks.Protocol protocol)) (tells.Refused reason) = refl
unanswered_stay m (Ok (asks.Protocol protocol)) (tells.Claimed worker part) = refl
unanswered_stay m (Ok (asks.Protocol protocol)) (tells.Report part reports) = refl
unanswered_stay m (Ok (asks.Protocol protocol)) (tells.Dropped part) = refl
unanswered_stay m (Ok (asks.Protocol protocol)) (tells.Built node reports) = refl
unanswered_stay m (Ok (asks.Protocol protocol)) (tells.Total nodes errors) = refl
unanswered_stay m (Ok (asks.Claim worker)) told = refl
unanswered_stay m (Ok (asks.Finish worker)) told = refl
unanswered_stay m (Ok (asks.Theory node text)) told = refl

-- Which chunks are a reply.
use Rattle.std.specs.Prelude.{◌≡◌, ◌≢◌, ℕ, List, [], ◌∷◌, map, decimal, Option, Some, None}
use Rattle.std.specs.Borrow.{Bor}
use Rattle.pide_base.specs.declared.part.Part.{Part}
use Rattle.reply_messages.specs.declared.told.Told.{Told}
use Rattle.reply_messages.specs.Forms.{IsForm}
use Rattle.reply_messages.specs.Replies.{part_word, reply_chunks}
use Rattle.reply_messages.specs.declared.kind.ReplyKind.{ReplyKind}
use Rattle.reply_messages.specs.Fits.{Fits}
use Rattle.reply_messages.specs.Found.{Finds}
use Rattle.reply_messages.specs.Kinds.{word, Content, reply_of}

-- a reply: its values are such as there are, and its lists are told in their order
pub record IsReply (told : Told) : Type 0 where
  pub fits : Fits told
  pub form : IsForm told

-- the reply whose chunks these are, or that they are no reply's (this project's own)
abbrev pub FindsReply : List (List ℕ) → Option Told → Type 0
FindsReply chunks found = Finds reply_chunks IsReply chunks found

-- the same among the replies of one kind, by what stands behind the kind's word
abbrev pub FindsOf : ReplyKind → List (List ℕ) → Option Told → Type 0
FindsOf kind arguments (Some told) = IsReply told × (reply_chunks told ≡ word kind ∷ arguments)
FindsOf kind arguments None = (content : Content kind) → IsReply (reply_of kind content)
    → reply_chunks (reply_of kind content) ≢ word kind ∷ arguments

-- a part's chunks: its execution and its word
abbrev pub part_chunks : Part → List (List ℕ)
part_chunks part = decimal part.exec ∷ part_word part.kind ∷ []

-- the texts that are lent
abbrev pub texts : List (Bor (List ℕ)) → List (List ℕ)
texts lent = map (λ text. text.now) lent

-- What an update prepares.
use Rattle.std.proofs.Common.{◌≡◌, ℕ, ◌+◌, ◌≤◌, Bool, true, false, Result, Ok, Err, nat_lt, refl}
use Rattle.std.proofs.lemmas.Bool.{ltb-false}
use Rattle.std.specs.Prelude.{if◌then◌else◌, ◌||◌}
use Rattle.pide_base.specs.Ids.{id_end}
use Rattle.pide_base.specs.Limits.{most_live}
use Rattle.message_values.specs.declared.refusal.Refusal.{Refusal}
use Rattle.message_values.specs.declared.refusal.Refusal.TheVariants.{Limit}
use Rattle.buffer_rules.specs.declared.sheet.Document.{Document}
use Rattle.buffer_rules.specs.Nodes.{nodes_after}
use Rattle.buffer_rules.specs.Preparing.{Buffer, is_large, prepared, within_limits}
use Rattle.buffer_rules.specs.Trying.{◌>>=◌}
use Rattle.buffer_rules.specs.Updates.{Asked, document_after}
use Rattle.session_rules.specs.Session.{document}

-- the buffer that an update prepares
pub record Prepares (buffer after : Buffer) (asked : Asked) : Type 0 where
  pub document : Document
  pub made : document_after asked buffer.document ≡ Ok document
  pub is : record {
    document = document;
    nodes = (nodes_after buffer.nodes document.sheets buffer.next).nodes;
    next = (nodes_after buffer.nodes document.sheets buffer.next).next;
  } ≡ after
  pub limited : (nodes_after buffer.nodes document.sheets buffer.next).next ≤ id_end

pub prepares : (buffer after : Buffer) (live : ℕ) (asked : Asked)
    → prepared buffer live asked ≡ Ok after → Prepares buffer after asked
prepares buffer after live asked e = go (document_after asked buffer.document) refl e
  where
    limits : (document : Document) → document_after asked buffer.document ≡ Ok document
        → (a b c : Bool)
        → nat_lt id_end (nodes_after buffer.nodes document.sheets buffer.next).next ≡ c
        → ◌≡◌ {A = Result Buffer Refusal} (if a || b || c then Err Limit else Ok (record {
          document = document;
          nodes = (nodes_after buffer.nodes document.sheets buffer.next).nodes;
          next = (nodes_after buffer.nodes document.sheets buffer.next).next;
        })) (Ok after) → Prepares buffer after asked
    limits document made true b c is e = absurd (cc)
    limits document made false true c is e = absurd (cc)
    limits document made false false true is e = absurd (cc)
    limits document made false false false is e = record {
      document = document;
      made = made;
      is = cc;
      limited = ltb-false id_end (nodes_after buffer.nodes document.sheets buffer.next).next is;
    }

    go : (r : Result Document Refusal) → document_after asked buffer.document ≡ r
        → (r >>= λ document. within_limits live document
        (nodes_after buffer.nodes document.sheets buffer.next)) ≡ Ok after
        → Prepares buffer after asked
    go (Err reason) made e = absurd (cc)
    go (Ok document) made e =
        limits document made (is_large document) (nat_lt most_live (live + 1))
        (nat_lt id_end (nodes_after buffer.nodes document.sheets buffer.next).next) refl e

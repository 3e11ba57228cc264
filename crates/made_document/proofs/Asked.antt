-- Messages that are asked, one after the other.
use Rattle.std.proofs.Common.{◌≡◌, ℕ, ◌≤◌, true, List, [], ◌∷◌, ◌++◌, length, map, decimal, codes, refl, ap, sym, subst, ◌∙◌, arith, lit<, inl, append_assoc, Some, Ok}
use Rattle.std.specs.Prelude.{◌↔◌, OnOk, Result, Err}
use Rattle.std.proofs.lemmas.Fmt.{IsAscii-decimal, length-decimal-le}
use Rattle.std.proofs.lemmas.List.{append-nil}
use Rattle.std.proofs.lemmas.Str.{IsUtf8-from_ascii, is_utf8-from_IsUtf8}
use Rattle.std.specs.List.{AllByRecursion}
use Rattle.std.specs.Str.{is_utf8}
use Rattle.byte_message.specs.Limits.{longest_chunk}
use Rattle.byte_message.specs.Stream.{IsMessage, IsSpelling, plain_spelling}
use Rattle.yxml.specs.declared.tree.Tree.{Tree}
use Rattle.xml_codec.specs.Data.{list_body}
use Rattle.yxml.specs.Spelling.{Spells}
use Rattle.pide_base.specs.Ids.{IsId}
use Rattle.message_values.specs.declared.editor_message.EditorMessage.{EditorMessage}
use Rattle.message_values.specs.declared.editor_message.EditorMessage.TheVariants as asks
use Rattle.message_values.specs.declared.item.Item.{Item}
use Rattle.message_values.specs.declared.mode.Mode.{Mode}
use Rattle.message_values.specs.declared.mode.Mode.TheVariants.{Serve}
use Rattle.message_values.specs.Asked.{asked}
use Rattle.message_values.specs.Bodies.{item_body}
use Rattle.message_values.specs.Fits.{Fits, FitsItem}
use Rattle.message_values.specs.Functions.{word, function_named}
use Rattle.message_values.specs.Spelled.{IsSpelled, function_of}
use Rattle.made_document.specs.Asking.{Adds, Ask}

-- a message is asked where it is spelled
abbrev pub AskedLaw : Type 0
AskedLaw = (mode : Mode) (chunks : List (List ℕ)) (message : EditorMessage) → (asked mode chunks ≡ Ok message)
    ↔ (Fits message × IsSpelled message chunks × (function_named mode (word (function_of message)) ≡ Some (function_of message)))

number_utf8 : (n : ℕ) → IsId n → is_utf8 (decimal n) ≡ true
number_utf8 n is = is_utf8-from_IsUtf8 (decimal n) (IsUtf8-from_ascii (decimal n) (IsAscii-decimal n (omega (arith, is.1))))

number_short : (n : ℕ) → IsId n → length (decimal n) ≤ longest_chunk
number_short n is = omega (arith, length-decimal-le 20 n (lit< tt) (omega (arith, is.1)) (omega (arith, is.1)))

pub settle_added : AskedLaw → (old now : List ℕ) (version : ℕ) → IsId version → (chunks : List (List ℕ))
    → chunks ≡ codes "Session.settle" ∷ decimal version ∷ [] → now ≡ old ++ plain_spelling chunks
    → Adds Serve old now (asks.Settle version)
settle_added law old now version is chunks chunks_are now_is = record {
  chunks = codes "Session.settle" ∷ decimal version ∷ [];
  fit = record {
    some = omega arith;
    few = omega arith;
    short = (omega arith, (number_short version is, tt));
  };
  bytes = now_is ∙ ap (λ cs. old ++ plain_spelling cs) chunks_are;
  asks = (law Serve (codes "Session.settle" ∷ decimal version ∷ []) (asks.Settle version)).1
      (is, (refl, (number_utf8 version is, tt), inl (refl, tt)), refl);
}

pub update_added : AskedLaw → (old now : List ℕ) (version : ℕ) → IsId version → (chunks : List (List ℕ)) (text : List ℕ) (bodies : List (List Tree))
    → Spells text (list_body bodies) → is_utf8 text ≡ true → length text ≤ longest_chunk
    → chunks ≡ codes "Session.update" ∷ decimal version ∷ text ∷ [] → now ≡ old ++ plain_spelling chunks
    → (all : List Item) → bodies ≡ map item_body all → AllByRecursion FitsItem all → Adds Serve old now (asks.Update version all [])
update_added law old now version is chunks text bodies spells utf8 short chunks_are now_is all bodies_are fits = record {
  chunks = codes "Session.update" ∷ decimal version ∷ text ∷ [];
  fit = record {
    some = omega arith;
    few = omega arith;
    short = (omega arith, (number_short version is, (short, tt)));
  };
  bytes = now_is ∙ ap (λ cs. old ++ plain_spelling cs) chunks_are;
  asks = (law Serve (codes "Session.update" ∷ decimal version ∷ text ∷ []) (asks.Update version all [])).1
      ((is, fits, tt), (refl, (number_utf8 version is, (utf8, tt)), inl (refl, (subst (λ bs. Spells text (list_body bs)) bodies_are spells, tt))), refl);
}

-- three messages, one after the other
pub three_asked : ((message : List (List ℕ)) → IsMessage message → IsSpelling (plain_spelling message) message)
    → (one two three : List ℕ) (a b c : EditorMessage) → Adds Serve [] one a → Adds Serve one two b → Adds Serve two three c
    → Ask Serve three (a ∷ b ∷ c ∷ [])
three_asked written one two three a b c first second third =
    let x = plain_spelling first.chunks in
    let y = plain_spelling second.chunks in
    let z = plain_spelling third.chunks in
    let whole : three ≡ x ++ (y ++ (z ++ [])) =
    third.bytes ∙ ap (λ bs. bs ++ z) (second.bytes ∙ ap (λ bs. bs ++ y) first.bytes)
    ∙ append_assoc x y z ∙ ap (λ bs. x ++ (y ++ bs)) (sym (append-nil z)) in
    record {
      chunks = first.chunks ∷ second.chunks ∷ third.chunks ∷ [];
      read = record {
        front = three;
        rest = [];
        whole = sym (append-nil three);
        spelled = (
          x,
          y ++ (z ++ []),
          whole,
          written first.chunks first.fit,
          (y, z ++ [], refl, written second.chunks second.fit, (z, [], refl, written third.chunks third.fit, refl)),
        );
        ends = refl;
      };
      asks = ap (λ r. r ∷ asked Serve second.chunks ∷ asked Serve third.chunks ∷ []) first.asks
          ∙ ap (λ r. Ok a ∷ r ∷ asked Serve third.chunks ∷ []) second.asks ∙ ap (λ r. Ok a ∷ Ok b ∷ r ∷ []) third.asks;
    }

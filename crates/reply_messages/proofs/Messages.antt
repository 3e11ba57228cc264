-- A message of chunks: its line, and the chunks behind it.
use Rattle.std.proofs.Common.{◌≡◌, ℕ, List, [], ◌∷◌, ◌++◌, map, length, decimal, refl, ap, ◌∙◌, append_assoc}
use Rattle.std.specs.List.{concat, join_with_byte, insert_slice}
use Rattle.byte_message.specs.Stream.{plain_spelling}
use Rattle.reply_messages.specs.declared.chunk.Chunk.{Chunk}
use Rattle.reply_messages.specs.Chunks.{chunk_bytes}

lengths_are : (chunks : List Chunk) → map decimal (map (λ chunk. length (chunk_bytes chunk)) chunks) ≡ map (λ bytes. decimal (length bytes)) (map chunk_bytes chunks)
lengths_are [] = refl
lengths_are (chunk ∷ chunks) = ap (λ ds. decimal (length (chunk_bytes chunk)) ∷ ds) (lengths_are chunks)

put_before : (text line : List ℕ) → insert_slice text 0 line ≡ line ++ text
put_before text line = refl

pub message_is : (chunks : List Chunk) (none text lengths line whole : List ℕ) → none ≡ [] → text ≡ none ++ concat (map chunk_bytes chunks)
    → lengths ≡ map (λ chunk. length (chunk_bytes chunk)) chunks → line ≡ join_with_byte 44 (map decimal lengths) ++ 10 ∷ []
    → whole ≡ insert_slice text 0 line → whole ≡ plain_spelling (map chunk_bytes chunks)
message_is chunks none text lengths line whole nothing are sizes is put =
    let all = concat (map chunk_bytes chunks) in
    let numbers = join_with_byte 44 (map (λ bytes. decimal (length bytes)) (map chunk_bytes chunks)) in
    put ∙ put_before text line
    ∙ ap (λ l. l ++ text) (is ∙ ap (λ ns. join_with_byte 44 (map decimal ns) ++ 10 ∷ []) sizes ∙ ap (λ ds. join_with_byte 44 ds ++ 10 ∷ []) (lengths_are chunks))
    ∙ ap (λ t. (numbers ++ 10 ∷ []) ++ t) (are ∙ ap (λ n. n ++ all) nothing)
    ∙ append_assoc numbers (10 ∷ []) all

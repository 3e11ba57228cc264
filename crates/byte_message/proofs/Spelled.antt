-- Messages that are spelled, from their lines and bodies.
use Rattle.std.proofs.Common.{◌≡◌, ℕ, ◌+◌, ◌<◌, ◌≤◌, List, ◌++◌, length, take, drop, map, sum, Result, Ok, Err, ap, sym, ◌∙◌, arith, append_assoc}
use Rattle.std.proofs.lemmas.List.{take-append-drop, length-take-le, length-drop}
use Rattle.std.proofs.Math.Seq.{take-append-add}
use Rattle.std.specs.Prelude.{IfOk}
use Rattle.byte_message.specs.Chunks.{cut}
use Rattle.byte_message.specs.Heading.{heading}
use Rattle.byte_message.specs.Heading.Heading.{Fit}
use Rattle.byte_message.specs.Stream.{IsSpelling}
use Rattle.byte_message.specs.declared.begin.Begun.{Begun}
use Rattle.byte_message.proofs.Cutting.{lengths-cut, concat-cut}

-- a fit line and the bytes of its chunks
pub spelled-by : (line ls body : List ℕ) → heading (line ++ body) ≡ Fit ls body → sum ls ≡ length body → IsSpelling (line ++ body) (cut ls body)
spelled-by line ls body h s =
    let l = lengths-cut ls body (omega arith) in
    let d = concat-cut ls body s in
    h ∙ ap (λ x. Fit x body) (sym l) ∙ ap (λ x. Fit (map length (cut ls body)) x) (sym d)

take-take : (used whole : ℕ) (piece : List ℕ) → used ≤ length piece → take (used + whole) piece ≡ take used piece ++ take whole (drop used piece)
take-take used whole piece n =
    let t = length-take-le used piece n in
    let w = take-append-drop used piece in
    let a = take-append-add (take used piece) (drop used piece) whole in
    cc

pub whole-chunks : (head line piece ls bytes : List ℕ) (used whole : ℕ) (m : List (List ℕ))
    → ((body : List ℕ) → heading (line ++ body) ≡ Fit ls body)
    → 0 < used → used ≤ length piece → whole ≡ sum ls → used + whole ≤ length piece
    → line ≡ head ++ take used piece → bytes ≡ take whole (drop used piece) → m ≡ cut ls bytes
    → (used + whole ≤ length piece) × (0 < used + whole) × IsSpelling (head ++ take (used + whole) piece) m
whole-chunks head line piece ls bytes used whole m headed some within s room e f g =
    let d = length-drop used piece in
    let t = length-take-le whole (drop used piece) (omega arith) in
    let n : length bytes ≡ length (take whole (drop used piece)) = ap length f in
    let one = spelled-by line ls bytes (headed bytes) (omega arith) in
    let a = append_assoc head (take used piece) bytes in
    let k = take-take used whole piece within in
    let same : line ++ bytes ≡ head ++ take (used + whole) piece = cc in
    (room, omega arith, rw (← same) (rw g one))

pub weaken : {E : Type 0} (r : Result Begun E) (P Q : Begun → Type 0) → ((b : Begun) → P b → Q b) → IfOk r P → IfOk r Q
weaken (Ok b) P Q f p = f b p
weaken (Err e) P Q f p = tt

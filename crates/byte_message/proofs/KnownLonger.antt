-- Each stream has a reading, and more bytes only add messages to it.
use Rattle.std.proofs.Common.{◌≡◌, ℕ, zero, suc, ◌+◌, ◌<◌, ◌≤◌, List, [], ◌∷◌, ◌++◌, length, take, drop, sum, Option, None, Some, Result, Ok, Err, ◌⊎◌, inl, inr, refl, ap, sym, ◌∙◌, arith, append_assoc, subst}
use Rattle.std.proofs.lemmas.List.{length-append, take-append-drop, length-take-le}
use Rattle.std.proofs.lemmas.Bool.{cases_lt}
use Rattle.byte_message.specs.Chunks.{cut}
use Rattle.byte_message.specs.Line.{judge}
use Rattle.byte_message.specs.Heading.{Heading, heading, heading_of, judged_heading, line_of, after_line}
use Rattle.byte_message.specs.Heading.Heading.{Fit, Faulty, Unended}
use Rattle.byte_message.specs.Stream.{IsSpelling, AreSpelled, IsShort, IsReadAs, EndsAs, Ending, told_place, placed_fault}
use Rattle.byte_message.specs.Stream.Ending.{Whole, Bad, Short}
use Rattle.byte_message.specs.declared.line_fault.LineFault.{LineFault}
use Rattle.byte_message.specs.declared.frame_fault.FrameFault.{FrameFault}
use Rattle.byte_message.proofs.Headings.{after-line, faulty-more, heading-line, never_fit}
use Rattle.byte_message.proofs.KnownSpelled.{spelled-append}
use Rattle.byte_message.proofs.Spelled.{spelled-by}
use Rattle.byte_message.proofs.Newlines.{newline_at}

judged_ok : (r : Result (List ℕ) LineFault) (ls b c : List ℕ) → judged_heading r b ≡ Fit ls c
    → (r ≡ Ok ls) × (b ≡ c)
judged_ok (Ok ms) ls b c e = (cc, cc)
judged_ok (Err f) ls b c e = absurd (let no : ⊥ = cc in no)

-- a fit line with its newline, whatever follows it
headed_of : (bytes ls body : List ℕ) (o : Option (List ℕ)) → after_line bytes ≡ o → heading_of (line_of bytes) o ≡ Fit ls body
    → (line : List ℕ) × (bytes ≡ line ++ body) × (0 < length line) × ((other : List ℕ) → heading (line ++ other) ≡ Fit ls other)
headed_of bytes ls body None e f = absurd (never_fit _ ls body f)
headed_of bytes ls body (Some after) e f =
    let p = judged_ok (judge (line_of bytes)) ls after body f in
    let whole : bytes ≡ (line_of bytes ++ 10 ∷ []) ++ body =
    newline_at bytes after e ∙ ap (λ (x : List ℕ). line_of bytes ++ 10 ∷ x) p.1 ∙ sym (append_assoc (line_of bytes) (10 ∷ []) body) in
    let long = length-append (line_of bytes) (10 ∷ []) in
    (line_of bytes ++ 10 ∷ [], whole, omega arith, λ other. heading-line (line_of bytes) other (after-line bytes) ∙ ap (λ (r : Result (List ℕ) LineFault). judged_heading r other) p.0)

-- messages from a place on, and how what follows them ends
record Reads (place : ℕ) (bytes : List ℕ) : Type 0 where
  pub front : List ℕ
  pub rest : List ℕ
  pub messages : List (List (List ℕ))
  pub ending : Ending
  pub whole : bytes ≡ front ++ rest
  pub spelled : AreSpelled front messages
  pub ends : EndsAs (place + length front) rest ending

reads-none : (place : ℕ) (bytes : List ℕ) (ending : Ending) → EndsAs place bytes ending → Reads place bytes
reads-none place bytes ending e =
    let here : place ≡ place + length {A = ℕ} [] = omega arith in
    record { front = []; rest = bytes; messages = []; ending = ending; whole = refl; spelled = refl; ends = subst (λ (p : ℕ). EndsAs p bytes ending) here e }

reads-short : (place : ℕ) (bytes : List ℕ) → IsShort bytes → Reads place bytes
reads-short place [] s = reads-none place [] Whole refl
reads-short place (b ∷ bytes) s = reads-none place (b ∷ bytes) (Short (told_place place))
    (omega arith, s, refl)

reads-more : (place : ℕ) (bytes first after : List ℕ) (m : List (List ℕ)) → bytes ≡ first ++ after → IsSpelling first m → Reads (place + length first) after → Reads place bytes
reads-more place bytes first after m e one r =
    let long = length-append first r.front in
    let at : (place + length first) + length r.front ≡ place + length (first ++ r.front) = omega arith in
    record {
      front = first ++ r.front;
      rest = r.rest;
      messages = m ∷ r.messages;
      ending = r.ending;
      whole = e ∙ ap (λ (x : List ℕ). first ++ x) r.whole ∙ sym (append_assoc first r.front r.rest);
      spelled = (first, r.front, refl, one, r.spelled);
      ends = subst (λ (p : ℕ). EndsAs p r.rest r.ending) at r.ends;
    }

-- by how many bytes there may be
reads-within : (most place : ℕ) (bytes : List ℕ) → length bytes < most → Reads place bytes
reads-within zero place bytes few = absurd (omega arith)
reads-within (suc most) place bytes few = by_heading (λ at after less. reads-within most at after less) (heading bytes) refl
  where
    by_body : ((at : ℕ) (after : List ℕ) → length after < most → Reads at after) → (ls body : List ℕ) → heading bytes ≡ Fit ls body
        → (length body < sum ls) ⊎ (sum ls ≤ length body) → Reads place bytes
    by_body on ls body e (inl less) = reads-short place bytes (inr (ls, body, e, less))
    by_body on ls body e (inr more) =
        let h = headed_of bytes ls body (after_line bytes) refl e in
        let chunks = take (sum ls) body in
        let after = drop (sum ls) body in
        let long : length chunks ≡ sum ls = length-take-le (sum ls) body more in
        let one : IsSpelling (h.0 ++ chunks) (cut ls chunks) = spelled-by h.0 ls chunks (h.3 chunks) (sym long) in
        let parts : bytes ≡ (h.0 ++ chunks) ++ after =
        h.1 ∙ ap (λ (x : List ℕ). h.0 ++ x) (sym (take-append-drop (sum ls) body)) ∙ sym (append_assoc h.0 chunks after) in
        let all : length bytes ≡ length (h.0 ++ chunks) + length after = ap length parts ∙ length-append (h.0 ++ chunks) after in
        let first = length-append h.0 chunks in
        let some = h.2 in
        reads-more place bytes (h.0 ++ chunks) after (cut ls chunks) parts one (on (place + length (h.0 ++ chunks)) after (omega arith))

    by_heading : ((at : ℕ) (after : List ℕ) → length after < most → Reads at after) → (h : Heading) → heading bytes ≡ h → Reads place bytes
    by_heading on (Fit ls body) e = by_body on ls body e (cases_lt (length body) (sum ls))
    by_heading on (Faulty wrong) e = reads-none place bytes
        (Bad (placed_fault (told_place place) wrong)) (wrong, e, refl)
    by_heading on Unended e = reads-short place bytes (inl e)

reads-all : (place : ℕ) (bytes : List ℕ) → Reads place bytes
reads-all place bytes = reads-within (length bytes + 1) place bytes (omega arith)

-- each stream has a reading
pub every-reading : (stream : List ℕ) → (messages : List (List (List ℕ))) × (ending : Ending) × IsReadAs stream messages ending
every-reading stream =
    let r = reads-all 0 stream in
    let at : 0 + length r.front ≡ length r.front = omega arith in (
      r.messages,
      r.ending,
      record { front = r.front; rest = r.rest; whole = r.whole; spelled = r.spelled; ends = subst (λ (p : ℕ). EndsAs p r.rest r.ending) at r.ends },
    )

-- bytes that follow take back no message
pub longer-reading : (stream after : List ℕ) (messages : List (List (List ℕ))) (ending : Ending) → IsReadAs stream messages ending
    → (more : List (List (List ℕ))) × (end : Ending) × IsReadAs (stream ++ after) (messages ++ more) end
longer-reading stream after messages ending s =
    let r = reads-all (length s.front) (s.rest ++ after) in
    let long = length-append s.front r.front in
    let at : length s.front + length r.front ≡ length (s.front ++ r.front) = omega arith in (
      r.messages,
      r.ending,
      record {
        front = s.front ++ r.front;
        rest = r.rest;
        whole = ap (λ (x : List ℕ). x ++ after) s.whole ∙ append_assoc s.front s.rest after ∙ ap (λ (x : List ℕ). s.front ++ x) r.whole
            ∙ sym (append_assoc s.front r.front r.rest);
        spelled = spelled-append s.front r.front messages r.messages s.spelled r.spelled;
        ends = subst (λ (p : ℕ). EndsAs p r.rest r.ending) at r.ends;
      },
    )

-- a line at fault stays, with its place
pub bad-reading : (stream after : List ℕ) (messages : List (List (List ℕ))) (fault : FrameFault) → IsReadAs stream messages (Bad fault)
    → IsReadAs (stream ++ after) messages (Bad fault)
bad-reading stream after messages fault s = record {
  front = s.front;
  rest = s.rest ++ after;
  whole = ap (λ (x : List ℕ). x ++ after) s.whole ∙ append_assoc s.front s.rest after;
  spelled = s.spelled;
  ends = (s.ends.0, faulty-more s.rest after s.ends.0 s.ends.1, s.ends.2);
}

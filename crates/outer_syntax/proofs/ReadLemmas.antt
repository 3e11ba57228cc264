-- What the reading of a header knows at each token.
use Rattle.std.proofs.Common.{◌≡◌, ℕ, ◌≤◌, Bool, true, false, None, Some, List, [], ◌∷◌, ◌++◌, length, take, drop, sym, refl, ap, ◌∙◌, subst, arith, append_assoc, length-append}
use Rattle.std.specs.Prelude.{if◌then◌else◌}
use Rattle.std.proofs.lemmas.Bool.{cond-true, cond-false}
use Rattle.std.proofs.lemmas.List.{take_at, append-nil}
use Rattle.outer_syntax.specs.Kinds.{is_proper}
use Rattle.outer_syntax.specs.Words.{is_in_force}
use Rattle.outer_syntax.specs.Tokens.{text_of, IsTokenAt, AreTokensBetween}
use Rattle.outer_syntax.specs.Headings.{words, IsHeadingEnd, proper}
use Rattle.outer_syntax.specs.Stages.{after_word, after_token, is_ended, end_from}
use Rattle.outer_syntax.specs.Lexing.{tokens_from}
use Rattle.outer_syntax.specs.declared.stage.Stage.{Stage}
use Rattle.outer_syntax.specs.declared.stage.Stage.TheVariants.{Start, Ended, Absent}
use Rattle.outer_syntax.specs.declared.token.Token.{Token}
use Rattle.outer_syntax.proofs.KnownParts.{Parts, collect, Sofar}
use Rattle.outer_syntax.proofs.KnownStages.{further}
use Rattle.outer_syntax.proofs.KnownProper.{proper-push, proper-skip, proper-both}
use Rattle.outer_syntax.proofs.KnownHeadings.{words-push, nothing-read, heading-end}
use Rattle.outer_syntax.proofs.KnownLexing.{tokens-push, tokens-append, rest-tokens}
use Rattle.outer_syntax.specs.Headers.{AreBaseTokens, HasHeader, HasNoHeader}
use Rattle.outer_syntax.specs.Reading.{empty_reading, taken_at, advanced}
use Rattle.outer_syntax.specs.declared.read.Reading.{Reading}
use Rattle.outer_syntax.proofs.TakenLemmas.{told, taken-told}

-- the tokens up to a place have been read, and the header goes on
pub record IsRead (text : List ℕ) (place : ℕ) (r : Reading) : Type 0 where
  pub done : List Token
  pub parts : Parts
  pub tokens : AreTokensBetween (λ _. is_in_force []) text 0 place done
  pub sofar : Sofar r.stage parts (words text (proper done))
  pub says : r ≡ told r.stage parts
  pub on : is_ended r.stage ≡ false
  pub ends : (rest : List Token) → end_from text Start (done ++ rest) ≡ end_from text r.stage rest

pub read-start : (text : List ℕ) → IsRead text 0 empty_reading
read-start text = record {
  done = [];
  parts = nothing-read;
  tokens = refl;
  sofar = ((refl, refl), refl);
  says = refl;
  on = refl;
  ends = λ rest. refl;
}

module _ (text : List ℕ) (place : ℕ) (r : Reading) (t : Token) (read : IsRead text place r) (at : IsTokenAt (is_in_force []) text place t) where
  -- what one token more tells
  pub record IsNext (p : Parts) : Type 0 where
    pub sofar : Sofar (after_token text r.stage t) p (words text (proper (read.done ++ t ∷ [])))
    pub says : advanced text t r ≡ told (after_token text r.stage t) p

  pub next-parts : (b : Bool) → is_proper t.kind ≡ b → (p : Parts) × IsNext p
  next-parts true e =
      let x : List ℕ = text_of text t in
      let s' : Stage = after_word r.stage (t.kind, x) in
      let here : after_token text r.stage t ≡ s' = cond-true (is_proper t.kind) s' r.stage e in
      let p' : Parts = collect s' x read.parts in
      let so : Sofar s' p' (words text (proper (read.done ++ t ∷ []))) =
      subst (Sofar s' p') (sym (ap (words text) (proper-push read.done t e) ∙ words-push text (proper read.done) t)) (further r.stage read.parts (words text (proper read.done)) (t.kind, x) read.on read.sofar) in
      let first : advanced text t r ≡ taken_at (after_token text r.stage t) x (record r { stage = after_token text r.stage t }) = cond-true (is_proper t.kind) _ _ e in (
        p',
        record {
          sofar = subst (λ s. Sofar s p' (words text (proper (read.done ++ t ∷ [])))) (sym here) so;
          says = first ∙ (λ i. taken_at (here i) x (record (read.says i) { stage = here i })) ∙ taken-told s' x read.parts ∙ ap (λ s. told s p') (sym here);
        },
      )
  next-parts false e =
      let here : after_token text r.stage t ≡ r.stage = cond-false (is_proper t.kind) (after_word r.stage (t.kind, text_of text t)) r.stage e in (
        read.parts,
        record {
          sofar = subst (λ s. Sofar s read.parts (words text (proper (read.done ++ t ∷ [])))) (sym here) (subst (Sofar r.stage read.parts) (sym (ap (words text) (proper-skip read.done t e))) read.sofar);
          says = cond-false (is_proper t.kind) _ _ e ∙ ap (λ (x : Reading). record x { stage = after_token text r.stage t }) read.says;
        },
      )

  pub tokens-next : AreTokensBetween (λ _. is_in_force []) text 0 t.range.stop (read.done ++ t ∷ [])
  tokens-next = tokens-push (λ _. is_in_force []) text 0 place read.done t read.tokens at.0 at.1

  pub ends-next : is_ended (after_token text r.stage t) ≡ false → (rest : List Token) → end_from text Start ((read.done ++ t ∷ []) ++ rest) ≡ end_from text (after_token text r.stage t) rest
  ends-next on rest =
      ap (end_from text Start) (append_assoc read.done (t ∷ []) rest) ∙ read.ends (t ∷ rest)
      ∙ cond-false (is_ended (after_token text r.stage t)) (Some t.range.stop) (end_from text (after_token text r.stage t) rest) on

  pub stage-next : (advanced text t r).stage ≡ after_token text r.stage t
  stage-next = let n = next-parts (is_proper t.kind) refl in ap (λ (x : Reading). x.stage) n.1.says

  -- the header goes on
  pub read-on : is_ended (advanced text t r).stage ≡ false → IsRead text t.range.stop (advanced text t r)
  read-on on =
      let n = next-parts (is_proper t.kind) refl in
      let still : is_ended (after_token text r.stage t) ≡ false = ap is_ended (sym stage-next) ∙ on in
      subst (IsRead text t.range.stop) (sym n.1.says)
      (record {
        done = read.done ++ t ∷ [];
        parts = n.0;
        tokens = tokens-next;
        sofar = n.1.sofar;
        says = refl;
        on = still;
        ends = ends-next still;
      })

  -- the header has ended
  pub read-header : t.range.stop ≤ length text → (advanced text t r).stage ≡ Ended → HasHeader text (advanced text t r).header
  read-header within ended =
      let n = next-parts (is_proper t.kind) refl in
      let done : List Token = read.done ++ t ∷ [] in
      let rest : List Token = tokens_from (λ _. is_in_force []) 0 t.range.stop (drop t.range.stop text) in
      let so = subst (λ s. Sofar s n.0 (words text (proper done))) (sym stage-next ∙ ended) n.1.sofar in (
        done ++ rest,
        n.0.0,
        length (proper done),
        tokens-append (λ _. is_in_force []) text 0 t.range.stop (length text) done rest tokens-next (rest-tokens (λ _. is_in_force []) text t.range.stop within),
        record {
          within = omega (arith, ap length (proper-both done rest), length-append (proper done) (proper rest));
          spelled = ap (words text) (ap (take (length (proper done))) (proper-both done rest) ∙ take_at (proper done) (proper rest) (length (proper done)) refl) ∙ so.1;
        },
        ap (λ (x : Reading). x.header) n.1.says,
      )

pub absent-ends : (text : List ℕ) (ts : List Token) → end_from text Absent ts ≡ None
absent-ends text [] = refl
absent-ends text (t ∷ ts) = go (is_proper t.kind) refl (absent-ends text ts) where
  go : (b : Bool) → is_proper t.kind ≡ b → end_from text Absent ts ≡ None → end_from text Absent (t ∷ ts) ≡ None
  go true e more = ap (λ s. if is_ended s then Some t.range.stop else end_from text s ts) (cond-true (is_proper t.kind) Absent Absent e) ∙ more
  go false e more = ap (λ s. if is_ended s then Some t.range.stop else end_from text s ts) (cond-false (is_proper t.kind) Absent Absent e) ∙ more

pub no-header : (text : List ℕ) (ts : List Token) → AreBaseTokens text ts → end_from text Start ts ≡ None → HasNoHeader text
no-header text ts is none = (ts, is, subst (IsHeadingEnd text (proper ts)) none (heading-end text ts))

-- at the text's end no header has been read
pub read-end : (text : List ℕ) (place : ℕ) (r : Reading) → IsRead text place r → place ≡ length text → HasNoHeader text
read-end text place r read end =
    no-header text read.done (subst (λ p. AreTokensBetween (λ _. is_in_force []) text 0 p read.done) end read.tokens)
    (ap (end_from text Start) (sym (append-nil read.done)) ∙ read.ends [])

-- there is none after what no header has
pub read-absent : (text : List ℕ) (place : ℕ) (r : Reading) → IsRead text place r → place ≤ length text → r.stage ≡ Absent → HasNoHeader text
read-absent text place r read within absent =
    let rest : List Token = tokens_from (λ _. is_in_force []) 0 place (drop place text) in
    no-header text (read.done ++ rest) (tokens-append (λ _. is_in_force []) text 0 place (length text) read.done rest read.tokens (rest-tokens (λ _. is_in_force []) text place within))
    (read.ends rest ∙ ap (λ s. end_from text s rest) absent ∙ absent-ends text rest)

pub not-ended : (s : Stage) → (s ≡ Ended → ⊥) → is_ended s ≡ false
not-ended Ended other = absurd (other refl)
not-ended _ other = refl

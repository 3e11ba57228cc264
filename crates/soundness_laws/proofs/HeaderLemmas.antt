-- A command that is put in leaves the header. What has been read of one has a type of its own crate, so
-- it is any type here, with what is known of reading on.
use Rattle.std.proofs.Common.{◌≡◌, inl, inr, ℕ, ◌≤◌, Bool, true, false, Option, None, List, [], ◌∷◌, ◌++◌, length, drop, sym, refl, ap, ◌∙◌, subst}
use Rattle.std.specs.List.{AllByRecursion}
use Rattle.std.proofs.lemmas.Bool.{cond-false}
use Rattle.outer_syntax.specs.Kinds.{is_proper}
use Rattle.outer_syntax.specs.Lexing.{tokens_from, tokens_under}
use Rattle.outer_syntax.specs.Stages.{after_word, after_token, after_tokens, is_ended}
use Rattle.outer_syntax.specs.Tokens.{IsToken, text_of, AreTokensBetween}
use Rattle.outer_syntax.specs.Words.{is_in_force}
use Rattle.outer_syntax.specs.declared.stage.Stage.{Stage}
use Rattle.outer_syntax.specs.declared.stage.Stage.TheVariants.{Start, Absent}
use Rattle.outer_syntax.specs.declared.token.Token.{Token}
use Rattle.outer_syntax.proofs.KnownReading.{IsOn, no-header, absent-stays}
use Rattle.outer_syntax.proofs.KnownLexing.{AreStaged, given-none, all-tokens, same-tokens, rest-tokens, staged-rises}
use Rattle.outer_syntax.specs.declared.parts.Header.{Header}
use Rattle.soundness_laws.proofs.SpanSizes.{Waits}

-- reading on, token by token, until the header ends
pub record ReadsOn (R : Type 0) (stage : R → Stage) (more : List ℕ → Token → R → R) (told : List ℕ → R → List Token → Option Header) : Type 0 where
  pub stages : (text : List ℕ) (t : Token) (r : R) → stage (more text t r) ≡ after_token text (stage r) t
  pub none : (text : List ℕ) (r : R) → told text r [] ≡ None
  pub ends : (text other : List ℕ) (r : R) (t : Token) (ts us : List Token) → text_of text t ≡ text_of other t → is_ended (after_token text (stage r) t) ≡ true
      → told text r (t ∷ ts) ≡ told other r (t ∷ us)
  pub goes : (text : List ℕ) (r : R) (t : Token) (ts : List Token) → is_ended (after_token text (stage r) t) ≡ false → told text r (t ∷ ts) ≡ told text (more text t r) ts
  pub same : (text other : List ℕ) (t : Token) (r : R) → text_of text t ≡ text_of other t → more text t r ≡ more other t r

module _ {R : Type 0} {stage : R → Stage} {more : List ℕ → Token → R → R} {told : List ℕ → R → List Token → Option Header} (reads : ReadsOn R stage more told) where
  -- where there is no header, none is found
  absent-none : (text : List ℕ) (r : R) (ts : List Token) → stage r ≡ Absent → told text r ts ≡ None
  absent-none text r [] absent = reads.none text r
  absent-none text r (t ∷ ts) absent =
      let next : after_token text (stage r) t ≡ Absent = ap (λ s. after_token text s t) absent ∙ absent-stays text t in
      reads.goes text r t ts (ap is_ended next) ∙ absent-none text (more text t r) ts (reads.stages text t r ∙ next)

  -- nor where a command comes next
  pub waits-none : (text : List ℕ) (r : R) (ts : List Token) → IsOn (stage r) → Waits ts → told text r ts ≡ None
  waits-none text r [] on w = reads.none text r
  waits-none text r (t ∷ ts) on (inl command) =
      let next : after_token text (stage r) t ≡ Absent = no-header text (stage r) t on command in
      reads.goes text r t ts (ap is_ended next) ∙ absent-none text (more text t r) ts (reads.stages text t r ∙ next)
  waits-none text r (t ∷ ts) on (inr (improper, w)) =
      let stays : after_token text (stage r) t ≡ stage r = cond-false (is_proper t.kind) (after_word (stage r) (t.kind, text_of text t)) (stage r) improper in
      reads.goes text r t ts (ap is_ended stays ∙ on.no_end)
      ∙ waits-none text (more text t r) ts (subst IsOn (sym (reads.stages text t r ∙ stays)) on) w

  -- the same front tells the same, if what follows does
  pub same-header : (text other : List ℕ) (r : R) (front xs ys : List Token) → AllByRecursion (λ t. text_of text t ≡ text_of other t) front → is_ended (stage r) ≡ false
      → ((last : R) → is_ended (stage last) ≡ false → stage last ≡ after_tokens text (stage r) front → told text last xs ≡ told other last ys)
      → told text r (front ++ xs) ≡ told other r (front ++ ys)
  same-header text other r [] xs ys all on rest = rest r on refl
  same-header text other r (t ∷ front) xs ys all on rest =
      go (reads.same text other t r all.0) (is_ended (after_token text (stage r) t)) refl
      (λ e. same-header text other (more text t r) front xs ys all.1 (ap is_ended (reads.stages text t r) ∙ e)
      (λ last on is. rest last on (is ∙ ap (λ s. after_tokens text s front) (reads.stages text t r))))
    where
      go : more text t r ≡ more other t r → (b : Bool) → is_ended (after_token text (stage r) t) ≡ b
          → (is_ended (after_token text (stage r) t) ≡ false → told text (more text t r) (front ++ xs) ≡ told other (more text t r) (front ++ ys))
          → told text r (t ∷ front ++ xs) ≡ told other r (t ∷ front ++ ys)
      go same true e later = reads.ends text other r t (front ++ xs) (front ++ ys) all.0 e
      go same false e later =
          let there : is_ended (after_token other (stage r) t) ≡ false =
          ap is_ended (sym (reads.stages other t r) ∙ ap stage (sym same) ∙ reads.stages text t r) ∙ e in
          reads.goes text r t (front ++ xs) e ∙ later e ∙ ap (λ x. told other x (front ++ ys)) same ∙ sym (reads.goes other r t (front ++ ys) there)

  -- tokens of the language's own names that tell the same as these
  record Bare (text : List ℕ) (from : ℕ) (r : R) (ts : List Token) : Type 0 where
    own : List Token
    are : AreTokensBetween (λ _. is_in_force []) text from (length text) own
    same : told text r own ≡ told text r ts

  bare : (names : List (List ℕ)) (text : List ℕ) (from : ℕ) (r : R) (ts : List Token) → is_ended (stage r) ≡ false → AreStaged names text (stage r) from (length text) ts → Bare text from r ts
  bare names text from r [] on is = record { own = []; are = is; same = refl }
  bare names text from r (t ∷ ts) on is =
      go (is_ended (after_token text (stage r) t)) refl
      (subst (λ g. IsToken (is_in_force g) text t) (given-none (stage r) names on) is.0.1)
      (λ e. bare names text t.range.stop (more text t r) ts (ap is_ended (reads.stages text t r) ∙ e)
      (subst (λ s. AreStaged names text s t.range.stop (length text) ts) (sym (reads.stages text t r)) is.1))
    where
      go : (b : Bool) → is_ended (after_token text (stage r) t) ≡ b → IsToken (is_in_force []) text t
          → (is_ended (after_token text (stage r) t) ≡ false → Bare text t.range.stop (more text t r) ts) → Bare text from r (t ∷ ts)
      go true e token later =
          let low : t.range.stop ≤ length text = staged-rises names text (after_token text (stage r) t) t.range.stop (length text) ts is.1 in
          let rest : List Token = tokens_from (λ _. is_in_force []) 0 t.range.stop (drop t.range.stop text) in
          record {
            own = t ∷ rest;
            are = (is.0.0, token, rest-tokens (λ _. is_in_force []) text t.range.stop low);
            same = reads.ends text text r t rest ts refl e;
          }
      go false e token later =
          let rest = later e in
          record {
            own = t ∷ rest.own;
            are = (is.0.0, token, rest.are);
            same = reads.goes text r t rest.own e ∙ rest.same ∙ sym (reads.goes text r t ts e);
          }

  -- tokens under any names tell the same as those under the language's own
  pub told-alike : (names : List (List ℕ)) (text : List ℕ) (r : R) (ts : List Token) → stage r ≡ Start → AreStaged names text Start 0 (length text) ts
      → told text r (tokens_under (λ _. is_in_force []) text) ≡ told text r ts
  told-alike names text r ts begins is =
      let b = bare names text 0 r ts (ap is_ended begins) (subst (λ s. AreStaged names text s 0 (length text) ts) (sym begins) is) in
      ap (told text r) (same-tokens (λ _. is_in_force []) text (tokens_under (λ _. is_in_force []) text) b.own (all-tokens (λ _. is_in_force []) text) b.are) ∙ b.same

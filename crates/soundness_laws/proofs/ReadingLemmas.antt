-- Headers are read on token by token.
use Rattle.std.proofs.Common.{◌≡◌, ℕ, Bool, true, false, Some, List, ◌∷◌, sym, refl, ap, ◌∙◌}
use Rattle.std.specs.Prelude.{if◌then◌else◌}
use Rattle.std.proofs.lemmas.Bool.{cond-true, cond-false}
use Rattle.outer_syntax.specs.Kinds.{is_proper}
use Rattle.outer_syntax.specs.Stages.{after_word, after_token, is_ended}
use Rattle.outer_syntax.specs.Tokens.{text_of}
use Rattle.outer_syntax.specs.declared.stage.Stage.{Stage}
use Rattle.outer_syntax.specs.declared.stage.Stage.TheVariants.{Start, Theory, Name, Imports, Import, Keywords, PairName, Equals, Pair, Ended, Absent}
use Rattle.outer_syntax.specs.declared.token.Token.{Token}
use Rattle.outer_syntax.specs.Reading.{taken_at, taken_in, advanced, header_from}
use Rattle.soundness_laws.proofs.HeaderLemmas.{ReadsOn}

taken-stage : (s : Stage) (x : List ℕ) (r : _) → (taken_at s x r).stage ≡ r.stage
taken-stage Start x r = refl
taken-stage Theory x r = refl
taken-stage Name x r = refl
taken-stage Imports x r = refl
taken-stage Import x r = refl
taken-stage Keywords x r = refl
taken-stage PairName x r = refl
taken-stage Equals x r = refl
taken-stage Pair x r = refl
taken-stage Ended x r = refl
taken-stage Absent x r = refl

-- the stage of what has been read with one token more
advanced-stage : (text : List ℕ) (t : Token) (r : _) → (advanced text t r).stage ≡ after_token text r.stage t
advanced-stage text t r = go (is_proper t.kind)
  where
    go : (b : Bool) → (if b then taken_in (text_of text t) (record r { stage = after_token text r.stage t }) else record r { stage = after_token text r.stage t }).stage ≡ after_token text r.stage t
    go true = taken-stage (after_token text r.stage t) (text_of text t) (record r { stage = after_token text r.stage t })
    go false = refl

-- what is read of the same tokens is the same
same-advanced : (text other : List ℕ) (t : Token) (r : _) → text_of text t ≡ text_of other t → advanced text t r ≡ advanced other t r
same-advanced text other t r e =
    ap (λ x. if is_proper t.kind then taken_in x (record r { stage = if is_proper t.kind then after_word r.stage (t.kind, x) else r.stage })
    else record r { stage = if is_proper t.kind then after_word r.stage (t.kind, x) else r.stage }) e

ends-here : (text : List ℕ) (t : Token) (r : _) (ts : List Token) → is_ended (advanced text t r).stage ≡ true → header_from text r (t ∷ ts) ≡ Some (advanced text t r).header
ends-here text t r ts ended = cond-true (is_ended (advanced text t r).stage) (Some (advanced text t r).header) (header_from text (advanced text t r) ts) ended

pub reads-on : ReadsOn _ (λ r. r.stage) advanced header_from
reads-on = record {
  stages = advanced-stage;
  none = λ text r. refl;
  ends = λ text other r t ts us e ended.
      let same : advanced text t r ≡ advanced other t r = same-advanced text other t r e in
      let here : is_ended (advanced text t r).stage ≡ true = ap is_ended (advanced-stage text t r) ∙ ended in
      ends-here text t r ts here ∙ ap (λ x. Some x.header) same ∙ sym (ends-here other t r us (ap (λ x. is_ended x.stage) (sym same) ∙ here));
  goes = λ text r t ts on.
      cond-false (is_ended (advanced text t r).stage) (Some (advanced text t r).header) (header_from text (advanced text t r) ts) (ap is_ended (advanced-stage text t r) ∙ on);
  same = same-advanced;
}

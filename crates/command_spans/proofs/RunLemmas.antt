-- The first span of tokens, by the function.
use Rattle.std.proofs.Common.{◌≡◌, ◌⊎◌, ℕ, zero, suc, ◌-◌, ◌<◌, ◌≤◌, Bool, true, false, List, [], ◌∷◌, length, get_or, sym, refl, subst, inl, inr, ⊎_elim, arith}
use Rattle.std.specs.Prelude.{if◌then◌else◌}
use Rattle.std.specs.List.{AllWithin}
use Rattle.std.proofs.lemmas.Bool.{both_ways}
use Rattle.outer_syntax.specs.declared.token.Token.{Token}
use Rattle.outer_syntax.proofs.KnownProper.{command-proper}
use Rattle.command_spans.specs.Spans.{Is, proper_token, command_token, RunsTo, IsSpan}
use Rattle.command_spans.specs.Cutting.{one_more, run_size, improper_size}
use Rattle.command_spans.specs.declared.span.SpanKind.TheVariants.{Command, Malformed, Ignored}

-- the first n of these tokens belong to the run that they go on with
record Follows (ts : List Token) (n : ℕ) : Type 0 where
  within : n ≤ length ts
  no_other : AllWithin (λ t. command_token t ≡ false) ts 0 n
  ends : (n ≡ 0) ⊎ Is proper_token true ts (n - 1)
  next : (m : ℕ) × (n ≤ m) × (m ≤ length ts) × AllWithin (λ t. proper_token t ≡ false) ts n m × ((m < length ts) → Is command_token true ts m)

shifted : (t : Token) (ts : List Token) (n : ℕ) (d : Token) → Is proper_token true ts (suc n - 1) → proper_token (get_or (t ∷ ts) (suc (suc n) - 1) d) ≡ true
shifted t ts n d is =
    let inner : suc n - 1 ≡ n = omega arith in
    let outer : suc (suc n) - 1 ≡ suc n = omega arith in
    subst (λ k. proper_token (get_or (t ∷ ts) k d) ≡ true) (sym outer) (subst (λ k. proper_token (get_or ts k d) ≡ true) inner (is d))

follows-more : (t : Token) (ts : List Token) (n : ℕ) → command_token t ≡ false → (proper_token t ≡ true) ⊎ (0 < n) → Follows ts n → Follows (t ∷ ts) (suc n)
follows-more t ts n other some f = record {
  within = omega (arith, f.within);
  no_other = all;
  ends = inr (last n some f.ends);
  next = (suc f.next.0, omega (arith, f.next.1), omega (arith, f.next.2), gap, command);
} where
  all : AllWithin (λ u. command_token u ≡ false) (t ∷ ts) 0 (suc n)
  all zero d low below = other
  all (suc k) d low below = f.no_other k d (omega arith) (omega arith)

  last : (n : ℕ) → (proper_token t ≡ true) ⊎ (0 < n) → (n ≡ 0) ⊎ Is proper_token true ts (n - 1) → Is proper_token true (t ∷ ts) (suc n - 1)
  last zero some ends d = ⊎_elim (λ (p : proper_token t ≡ true). p) (λ (h : 0 < 0). absurd (omega arith)) some
  last (suc n) some ends d = ⊎_elim (λ (h : suc n ≡ 0). absurd (omega arith)) (λ (p : Is proper_token true ts (suc n - 1)). shifted t ts n d p) ends

  gap : AllWithin (λ u. proper_token u ≡ false) (t ∷ ts) (suc n) (suc f.next.0)
  gap zero d low below = absurd (omega arith)
  gap (suc k) d low below = f.next.3 k d (omega arith) (omega arith)

  command : suc f.next.0 < suc (length ts) → Is command_token true (t ∷ ts) (suc f.next.0)
  command below d = f.next.4 (omega arith) d

-- an improper token before nothing of the run
follows-none : (t : Token) (ts : List Token) → proper_token t ≡ false → Follows ts 0 → Follows (t ∷ ts) 0
follows-none t ts improper f = record {
  within = omega arith;
  no_other = λ k d low below. absurd (omega arith);
  ends = inl refl;
  next = (suc f.next.0, omega arith, omega (arith, f.next.2), gap, λ below d. f.next.4 (omega arith) d);
} where
  gap : AllWithin (λ u. proper_token u ≡ false) (t ∷ ts) 0 (suc f.next.0)
  gap zero d low below = improper
  gap (suc k) d low below = f.next.3 k d (omega arith) (omega arith)

follows-stop : (ts : List Token) → (0 < length ts → Is command_token true ts 0) → Follows ts 0
follows-stop ts command = record {
  within = omega arith;
  no_other = λ k d low below. absurd (omega arith);
  ends = inl refl;
  next = (0, omega arith, omega arith, (λ k d low below. absurd (omega arith)), command);
}

improper-more : (t : Token) (ts : List Token) (n : ℕ) → command_token t ≡ false → proper_token t ≡ false → Follows ts n → Follows (t ∷ ts) (one_more n)
improper-more t ts zero other improper f = follows-none t ts improper f
improper-more t ts (suc n) other improper f = follows-more t ts (suc n) other (inr (omega arith)) f

follows-by : (t : Token) (ts : List Token) (b c : Bool) → command_token t ≡ b → proper_token t ≡ c → Follows ts (run_size ts) → Follows (t ∷ ts) (if b then 0 else (if c then suc (run_size ts) else one_more (run_size ts)))
follows-by t ts true c command proper f = follows-stop (t ∷ ts) (λ some d. command)
follows-by t ts false true command proper f = follows-more t ts (run_size ts) command (inl proper) f
follows-by t ts false false command proper f = improper-more t ts (run_size ts) command proper f

follows : (ts : List Token) → Follows ts (run_size ts)
follows [] = follows-stop [] (λ some. absurd (omega arith))
follows (t ∷ ts) = follows-by t ts (command_token t) (proper_token t) refl refl (follows ts)

runs : (t : Token) (ts : List Token) → proper_token t ≡ true → RunsTo (t ∷ ts) (suc (run_size ts))
runs t ts proper =
    let f = follows ts in
    record { some = omega arith; within = omega (arith, f.within); no_other = all f; ends = last (run_size ts) f.ends; next = (suc f.next.0, omega (arith, f.next.1), omega (arith, f.next.2), gap f, command f) }
  where
    all : (f : Follows ts (run_size ts)) → AllWithin (λ u. command_token u ≡ false) (t ∷ ts) 1 (suc (run_size ts))
    all f zero d low below = absurd (omega arith)
    all f (suc k) d low below = f.no_other k d (omega arith) (omega arith)

    last : (n : ℕ) → (n ≡ 0) ⊎ Is proper_token true ts (n - 1) → Is proper_token true (t ∷ ts) (suc n - 1)
    last zero ends d = proper
    last (suc n) ends d = ⊎_elim (λ (h : suc n ≡ 0). absurd (omega arith)) (λ (p : Is proper_token true ts (suc n - 1)). shifted t ts n d p) ends

    gap : (f : Follows ts (run_size ts)) → AllWithin (λ u. proper_token u ≡ false) (t ∷ ts) (suc (run_size ts)) (suc f.next.0)
    gap f zero d low below = absurd (omega arith)
    gap f (suc k) d low below = f.next.3 k d (omega arith) (omega arith)

    command : (f : Follows ts (run_size ts)) → suc f.next.0 < suc (length ts) → Is command_token true (t ∷ ts) (suc f.next.0)
    command f below d = f.next.4 (omega arith) d

-- the improper tokens at the front are as many as can be
record Ignores (ts : List Token) (n : ℕ) : Type 0 where
  within : n ≤ length ts
  all : AllWithin (λ t. proper_token t ≡ false) ts 0 n
  next : (n < length ts) → Is proper_token true ts n

ignores-by : (t : Token) (ts : List Token) (c : Bool) → proper_token t ≡ c → Ignores ts (improper_size ts) → Ignores (t ∷ ts) (if c then 0 else suc (improper_size ts))
ignores-by t ts true proper f = record { within = omega arith; all = λ k d low below. absurd (omega arith); next = λ below d. proper }
ignores-by t ts false improper f = record { within = omega (arith, f.within); all = all; next = λ below d. f.next (omega arith) d } where
  all : AllWithin (λ u. proper_token u ≡ false) (t ∷ ts) 0 (suc (improper_size ts))
  all zero d low below = improper
  all (suc k) d low below = f.all k d (omega arith) (omega arith)

ignores : (ts : List Token) → Ignores ts (improper_size ts)
ignores [] = record { within = omega arith; all = λ k d low below. absurd (omega arith); next = λ below. absurd (omega arith) }
ignores (t ∷ ts) = ignores-by t ts (proper_token t) refl (ignores ts)

ignored-span : (t : Token) (ts : List Token) → proper_token t ≡ false → IsSpan Ignored (t ∷ ts) (suc (improper_size ts))
ignored-span t ts improper = go (ignores-by t ts false improper (ignores ts)) where
  go : Ignores (t ∷ ts) (suc (improper_size ts)) → IsSpan Ignored (t ∷ ts) (suc (improper_size ts))
  go f = (omega arith, f.within, f.all, f.next)

pub first-is : (t : Token) (ts : List Token) (b c : Bool) → command_token t ≡ b → proper_token t ≡ c → IsSpan (if b then Command else (if c then Malformed else Ignored)) (t ∷ ts) (suc (if c then run_size ts else improper_size ts))
first-is t ts true true command proper = ((λ d. command), runs t ts proper)
first-is t ts true false command proper = absurd (both_ways (proper_token t) proper (command-proper t.kind command))
first-is t ts false true command proper = ((λ d. command), (λ d. proper), runs t ts proper)
first-is t ts false false command proper = ignored-span t ts proper

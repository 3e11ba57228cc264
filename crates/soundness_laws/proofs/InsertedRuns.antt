-- What a run of tokens ends with, and what stands behind it.
use Rattle.std.proofs.Common.{◌≡◌, inl, inr, ℕ, zero, suc, Bool, true, false, List, [], ◌∷◌, take, drop, sym, refl, ◌∙◌, subst, arith}
use Rattle.std.specs.List.{slice_index_or}
use Rattle.outer_syntax.specs.Kinds.{is_proper, is_command}
use Rattle.outer_syntax.specs.declared.token.Token.{Token}
use Rattle.command_spans.specs.Cutting.{one_more, run_size}
use Rattle.soundness_laws.proofs.SpanSizes.{EndsProper, Waits, ends_more, run-command, run-proper, run-improper}

-- where the last of the tokens ends
abbrev pub last_end : List Token → ℕ
last_end [] = 0
last_end (t ∷ []) = t.range.stop
last_end (t ∷ u ∷ ts) = last_end (u ∷ ts)

pub last-more : (t : Token) (ts : List Token) → EndsProper ts → last_end (t ∷ ts) ≡ last_end ts
last-more t [] ends = absurd ends
last-more t (u ∷ ts) ends = refl

-- a run of some tokens ends with a proper one
pub record RunEnds (ts : List Token) (n : ℕ) : Type 0 where
  pub ends : EndsProper (take (suc n) ts)
  pub last : (d : Token) → last_end (take (suc n) ts) ≡ (slice_index_or ts n d).range.stop

run-ends-more : (u : Token) (ts : List Token) (n : ℕ) → RunEnds ts n → RunEnds (u ∷ ts) (suc n)
run-ends-more u ts n run = record {
  ends = ends_more u (take (suc n) ts) run.ends;
  last = λ d. last-more u (take (suc n) ts) run.ends ∙ run.last d;
}

none-some : (n : ℕ) → zero ≡ suc n → ⊥
none-some n e = cc

same-less : (m n : ℕ) → suc m ≡ suc n → m ≡ n
same-less m n e = omega (arith, e)

pub run-ends : (ts : List Token) (n : ℕ) → run_size ts ≡ suc n → RunEnds ts n
run-ends [] n e = absurd (none-some n e)
run-ends (u ∷ ts) n e = go (is_command u.kind) (is_proper u.kind) refl refl (λ m size. run-ends ts m size)
  where
    tail : (m : ℕ) → run_size ts ≡ m → (m ≡ n) → is_proper u.kind ≡ true → ((m : ℕ) → run_size ts ≡ suc m → RunEnds ts m) → RunEnds (u ∷ ts) n
    tail zero size same proper rest = subst (RunEnds (u ∷ ts)) same (record { ends = proper; last = λ d. refl })
    tail (suc m) size same proper rest = subst (RunEnds (u ∷ ts)) same (run-ends-more u ts m (rest m size))

    later : (m : ℕ) → run_size ts ≡ m → one_more m ≡ suc n → ((m : ℕ) → run_size ts ≡ suc m → RunEnds ts m) → RunEnds (u ∷ ts) n
    later zero size same rest = absurd (none-some n same)
    later (suc m) size same rest = subst (RunEnds (u ∷ ts)) (same-less (suc m) n same) (run-ends-more u ts m (rest m size))

    go : (c p : Bool) → is_command u.kind ≡ c → is_proper u.kind ≡ p → ((m : ℕ) → run_size ts ≡ suc m → RunEnds ts m) → RunEnds (u ∷ ts) n
    go true p command _ rest = absurd (none-some n (sym (run-command u ts command) ∙ e))
    go false true other proper rest = tail (run_size ts) refl (same-less (run_size ts) n (sym (run-proper u ts other proper) ∙ e)) proper rest
    go false false other improper rest = later (run_size ts) refl (sym (run-improper u ts improper) ∙ e) rest

-- behind a run the tokens wait
pub run-waits-behind : (ts : List Token) → Waits (drop (run_size ts) ts)
run-waits-behind [] = tt
run-waits-behind (u ∷ ts) = go (is_command u.kind) (is_proper u.kind) refl refl (run-waits-behind ts)
  where
    later : (m : ℕ) → is_proper u.kind ≡ false → Waits (drop m ts) → Waits (drop (one_more m) (u ∷ ts))
    later zero improper w = inr (improper, w)
    later (suc m) improper w = w

    go : (c p : Bool) → is_command u.kind ≡ c → is_proper u.kind ≡ p → Waits (drop (run_size ts) ts) → Waits (drop (run_size (u ∷ ts)) (u ∷ ts))
    go true p command _ w = subst (λ n. Waits (drop n (u ∷ ts))) (sym (run-command u ts command)) (inl command)
    go false true other proper w = subst (λ n. Waits (drop n (u ∷ ts))) (sym (run-proper u ts other proper)) w
    go false false other improper w = subst (λ n. Waits (drop n (u ∷ ts))) (sym (run-improper u ts improper)) (later (run_size ts) improper w)

-- The words that are written out.
use Rattle.std.proofs.Common.{◌≡◌, ℕ, zero, suc, ◌≤◌, List, [], ◌∷◌, codes, refl, sym, subst, arith}
use Rattle.std.specs.Prelude.{decimal, Some}
use Rattle.clap.proofs.OnLiterals.{clap_on_literals}
use Rattle.command_words.specs.declared.request.Request.TheVariants.{Serve, Replay, Mirror, Check, Build, Gen}
use Rattle.command_words.specs.Asked.{words_request}
use Rattle.command_words.specs.Forms.{AreTaken}
use Rattle.command_words.proofs.WrittenNumbers.{written_0, written_1, written_2, written_3, written_4, written_5, written_6, written_7, written_8, written_9, written_10, written_11, written_12, written_13, written_14, written_15, written_16}

pub serve : words_request (codes "serve" ∷ []) ≡ Some (Serve 0)
unfolding clap_on_literals
serve = refl

replay : words_request (codes "replay" ∷ []) ≡ Some Replay
unfolding clap_on_literals
replay = refl

mirror : words_request (codes "mirror" ∷ []) ≡ Some Mirror
unfolding clap_on_literals
mirror = refl

pub check : words_request (codes "check" ∷ []) ≡ Some Check
unfolding clap_on_literals
check = refl

build : words_request (codes "build" ∷ []) ≡ Some (Build 0)
unfolding clap_on_literals
build = refl

build_by : words_request (codes "build" ∷ codes "--workers" ∷ codes "16" ∷ []) ≡ Some (Build 16)
unfolding clap_on_literals
build_by = refl

gen : words_request (codes "gen" ∷ codes "1" ∷ []) ≡ Some (Gen 1 0)
unfolding clap_on_literals
gen = refl

most : words_request (codes "gen" ∷ codes "1000" ∷ []) ≡ Some (Gen 1000 0)
unfolding clap_on_literals
most = refl

gen_by : words_request (codes "gen" ∷ codes "3" ∷ codes "--workers" ∷ codes "2" ∷ []) ≡ Some
    (Gen 3 2)
unfolding clap_on_literals
gen_by = refl

gen_behind : words_request (codes "gen" ∷ codes "--workers" ∷ codes "2" ∷ codes "3" ∷ []) ≡ Some
    (Gen 3 2)
unfolding clap_on_literals
gen_behind = refl

gen_joined : words_request (codes "gen" ∷ codes "--workers=2" ∷ codes "3" ∷ []) ≡ Some (Gen 3 2)
unfolding clap_on_literals
gen_joined = refl

-- so many workers are taken, where this is how their number is written
taken_as : (n : ℕ) (text : List ℕ) → decimal n ≡ text → words_request (codes "serve" ∷ codes "--workers" ∷ text ∷ []) ≡ Some (Serve n)
    → words_request (codes "serve" ∷ codes "--workers" ∷ decimal n ∷ []) ≡ Some (Serve n)
taken_as n text e so = subst (λ (t : List ℕ). words_request (codes "serve" ∷ codes "--workers" ∷ t ∷ []) ≡ Some (Serve n)) (sym e) so

with_0 : words_request (codes "serve" ∷ codes "--workers" ∷ codes "0" ∷ []) ≡ Some (Serve 0)
unfolding clap_on_literals
with_0 = refl

with_1 : words_request (codes "serve" ∷ codes "--workers" ∷ codes "1" ∷ []) ≡ Some (Serve 1)
unfolding clap_on_literals
with_1 = refl

with_2 : words_request (codes "serve" ∷ codes "--workers" ∷ codes "2" ∷ []) ≡ Some (Serve 2)
unfolding clap_on_literals
with_2 = refl

with_3 : words_request (codes "serve" ∷ codes "--workers" ∷ codes "3" ∷ []) ≡ Some (Serve 3)
unfolding clap_on_literals
with_3 = refl

with_4 : words_request (codes "serve" ∷ codes "--workers" ∷ codes "4" ∷ []) ≡ Some (Serve 4)
unfolding clap_on_literals
with_4 = refl

with_5 : words_request (codes "serve" ∷ codes "--workers" ∷ codes "5" ∷ []) ≡ Some (Serve 5)
unfolding clap_on_literals
with_5 = refl

with_6 : words_request (codes "serve" ∷ codes "--workers" ∷ codes "6" ∷ []) ≡ Some (Serve 6)
unfolding clap_on_literals
with_6 = refl

with_7 : words_request (codes "serve" ∷ codes "--workers" ∷ codes "7" ∷ []) ≡ Some (Serve 7)
unfolding clap_on_literals
with_7 = refl

with_8 : words_request (codes "serve" ∷ codes "--workers" ∷ codes "8" ∷ []) ≡ Some (Serve 8)
unfolding clap_on_literals
with_8 = refl

with_9 : words_request (codes "serve" ∷ codes "--workers" ∷ codes "9" ∷ []) ≡ Some (Serve 9)
unfolding clap_on_literals
with_9 = refl

with_10 : words_request (codes "serve" ∷ codes "--workers" ∷ codes "10" ∷ []) ≡ Some (Serve 10)
unfolding clap_on_literals
with_10 = refl

with_11 : words_request (codes "serve" ∷ codes "--workers" ∷ codes "11" ∷ []) ≡ Some (Serve 11)
unfolding clap_on_literals
with_11 = refl

with_12 : words_request (codes "serve" ∷ codes "--workers" ∷ codes "12" ∷ []) ≡ Some (Serve 12)
unfolding clap_on_literals
with_12 = refl

with_13 : words_request (codes "serve" ∷ codes "--workers" ∷ codes "13" ∷ []) ≡ Some (Serve 13)
unfolding clap_on_literals
with_13 = refl

with_14 : words_request (codes "serve" ∷ codes "--workers" ∷ codes "14" ∷ []) ≡ Some (Serve 14)
unfolding clap_on_literals
with_14 = refl

with_15 : words_request (codes "serve" ∷ codes "--workers" ∷ codes "15" ∷ []) ≡ Some (Serve 15)
unfolding clap_on_literals
with_15 = refl

with_16 : words_request (codes "serve" ∷ codes "--workers" ∷ codes "16" ∷ []) ≡ Some (Serve 16)
unfolding clap_on_literals
with_16 = refl

workers : (n : ℕ) → n ≤ 16
    → words_request (codes "serve" ∷ codes "--workers" ∷ decimal n ∷ []) ≡ Some (Serve n)
workers zero few = taken_as 0 (codes "0") written_0 with_0
workers (suc zero) few = taken_as 1 (codes "1") written_1 with_1
workers (suc (suc zero)) few = taken_as 2 (codes "2") written_2 with_2
workers (suc (suc (suc zero))) few = taken_as 3 (codes "3") written_3 with_3
workers (suc (suc (suc (suc zero)))) few = taken_as 4 (codes "4") written_4 with_4
workers (suc (suc (suc (suc (suc zero))))) few = taken_as 5 (codes "5") written_5 with_5
workers (suc (suc (suc (suc (suc (suc zero)))))) few = taken_as 6 (codes "6") written_6 with_6
workers (suc (suc (suc (suc (suc (suc (suc zero))))))) few = taken_as 7 (codes "7") written_7 with_7
workers (suc (suc (suc (suc (suc (suc (suc (suc zero)))))))) few = taken_as 8 (codes "8") written_8 with_8
workers (suc (suc (suc (suc (suc (suc (suc (suc (suc zero))))))))) few = taken_as 9 (codes "9") written_9 with_9
workers (suc (suc (suc (suc (suc (suc (suc (suc (suc (suc zero)))))))))) few = taken_as 10 (codes "10") written_10 with_10
workers (suc (suc (suc (suc (suc (suc (suc (suc (suc (suc (suc zero))))))))))) few = taken_as 11 (codes "11") written_11 with_11
workers (suc (suc (suc (suc (suc (suc (suc (suc (suc (suc (suc (suc zero)))))))))))) few = taken_as 12 (codes "12") written_12 with_12
workers (suc (suc (suc (suc (suc (suc (suc (suc (suc (suc (suc (suc (suc zero))))))))))))) few = taken_as 13 (codes "13") written_13 with_13
workers (suc (suc (suc (suc (suc (suc (suc (suc (suc (suc (suc (suc (suc (suc zero)))))))))))))) few = taken_as 14 (codes "14") written_14 with_14
workers (suc (suc (suc (suc (suc (suc (suc (suc (suc (suc (suc (suc (suc (suc (suc zero))))))))))))))) few = taken_as 15 (codes "15") written_15 with_15
workers (suc (suc (suc (suc (suc (suc (suc (suc (suc (suc (suc (suc (suc (suc (suc (suc zero)))))))))))))))) few = taken_as 16 (codes "16") written_16 with_16
workers (suc (suc (suc (suc (suc (suc (suc (suc (suc (suc (suc (suc (suc (suc (suc (suc (suc n))))))))))))))))) few = absurd (omega arith)

pub are_taken : AreTaken
are_taken = record {
  serve = serve;
  workers = workers;
  replay = replay;
  mirror = mirror;
  check = check;
  build = build;
  build_by = build_by;
  gen = gen;
  most = most;
  gen_by = gen_by;
  gen_behind = gen_behind;
  gen_joined = gen_joined;
}

-- Replies that are heard one after the other (this project's own).
use Rattle.std.specs.Prelude.{◌≡◌, ◌⊎◌, ℕ, List, [], ◌∷◌, ◌++◌, Option, Some, None}
use Rattle.std.proofs.Common.{inl, inr, refl, sym, ap, subst, ◌∙◌, append_assoc}
use Rattle.std.specs.List.{AllByRecursion}
use Rattle.pide_mirror.specs.Hearing.{Hearing}
use Rattle.mirror_serve.specs.declared.ear.Unheard.{Unheard}
use Rattle.mirror_serve.specs.declared.ear.Unheard.TheVariants.{LongChunk, Fault, NoMemory}
use Rattle.mirror_serve.specs.Heard.{HearsAll, HearsSo, IsFirstLong, TellsLong, MeetsFault}

-- none are heard
pub hears_none : (now : Option Unheard) (m : Hearing) → HearsSo now m [] now m
hears_none None m = (refl, refl)
hears_none (Some (LongChunk len)) m = inl refl
hears_none (Some Fault) m = inl refl
hears_none (Some NoMemory) m = tt

hears_both : (a b c : Hearing) (first then : List (List ℕ)) → HearsAll a first b
    → HearsAll b then c → HearsAll a (first ++ then) c
hears_both a b c [] then same more = subst (λ (m : Hearing). HearsAll m then c) same more
hears_both a b c (bytes ∷ first) then one more =
    (one.0, one.1, hears_both one.0 b c first then one.2 more)

-- those that were heard are short
all_short : (a b : Hearing) (replies : List (List ℕ)) → HearsAll a replies b
    → AllByRecursion (λ bytes. TellsLong bytes None) replies
all_short a b [] same = tt
all_short a b (bytes ∷ more) one = (one.1.short, all_short one.0 b more one.2)

short_both : (first then : List (List ℕ)) → AllByRecursion (λ bytes. TellsLong bytes None) first
    → AllByRecursion (λ bytes. TellsLong bytes None) then
    → AllByRecursion (λ bytes. TellsLong bytes None) (first ++ then)
short_both [] then all more = more
short_both (bytes ∷ first) then all more = (all.0, short_both first then all.1 more)

-- a long one among the first, or behind short ones
first_among : (first then : List (List ℕ)) (len : ℕ) → IsFirstLong first len
    → IsFirstLong (first ++ then) len
first_among first then len f = record {
  before = f.before;
  bytes = f.bytes;
  after = f.after ++ then;
  parts = ap (λ rs. rs ++ then) f.parts
      ∙ append_assoc f.before (f.bytes ∷ f.after) then;
  short = f.short;
  long = f.long;
}

first_behind : (first then : List (List ℕ)) (len : ℕ)
    → AllByRecursion (λ bytes. TellsLong bytes None) first → IsFirstLong then len
    → IsFirstLong (first ++ then) len
first_behind first then len all f = record {
  before = first ++ f.before;
  bytes = f.bytes;
  after = f.after;
  parts = ap (λ rs. first ++ rs) f.parts
      ∙ sym (append_assoc first f.before (f.bytes ∷ f.after));
  short = short_both first f.before all f.short;
  long = f.long;
}

-- a fault among the first, or behind those that were heard
fault_among : (a : Hearing) (first then : List (List ℕ)) → MeetsFault a first
    → MeetsFault a (first ++ then)
fault_among a [] then f = absurd (f)
fault_among a (bytes ∷ first) then (inl at) = inl at
fault_among a (bytes ∷ first) then (inr (next, one, more)) =
    inr (next, one, fault_among next first then more)

fault_behind : (a b : Hearing) (first then : List (List ℕ)) → HearsAll a first b
    → MeetsFault b then → MeetsFault a (first ++ then)
fault_behind a b [] then same f = subst (λ (m : Hearing). MeetsFault m then) same f
fault_behind a b (bytes ∷ first) then (next, one, more) f =
    inr (next, one, fault_behind next b first then more f)

-- more are heard behind others
pub hears_later : (before mid after : Option Unheard) (a b c : Hearing) (first then : List (List ℕ))
    → HearsSo before a first mid b → HearsSo mid b then after c
    → HearsSo before a (first ++ then) after c
hears_later before None None a b c first then one more =
    (one.0, hears_both a b c first then one.1 more.1)
hears_later before (Some why) None a b c first then one more = absurd (cc)
hears_later before mid (Some NoMemory) a b c first then one more = tt
hears_later before None (Some (LongChunk len)) a b c first then one (inl is) = absurd (cc)
hears_later before None (Some (LongChunk len)) a b c first then one (inr long) =
    inr (one.0, first_behind first then len (all_short a b first one.1) long.1)
hears_later before (Some (LongChunk longer)) (Some (LongChunk len)) a b c first then one
    (inl is) = let same : longer ≡ len = cc in
    subst (λ n. HearsSo before a (first ++ then) (Some (LongChunk n)) c) same (still one)
  where
    still : (before ≡ Some (LongChunk longer)) ⊎ ((before ≡ None) × IsFirstLong first longer)
        → (before ≡ Some (LongChunk longer))
        ⊎ ((before ≡ None) × IsFirstLong (first ++ then) longer)
    still (inl is) = inl is
    still (inr long) = inr (long.0, first_among first then longer long.1)
hears_later before (Some (LongChunk longer)) (Some (LongChunk len)) a b c first then one
    (inr long) = absurd (cc)
hears_later before (Some NoMemory) (Some (LongChunk len)) a b c first then one (inl is) =
    absurd (cc)
hears_later before (Some NoMemory) (Some (LongChunk len)) a b c first then one (inr long) =
    absurd (cc)
hears_later before (Some Fault) (Some (LongChunk len)) a b c first then one (inl is) = absurd (cc)
hears_later before (Some Fault) (Some (LongChunk len)) a b c first then one (inr long) =
    absurd (cc)
hears_later before None (Some Fault) a b c first then one (inl is) = absurd (cc)
hears_later before None (Some Fault) a b c first then one (inr met) =
    inr (one.0, fault_behind a b first then one.1 met.1)
hears_later before (Some Fault) (Some Fault) a b c first then (inl was) more = inl was
hears_later before (Some Fault) (Some Fault) a b c first then (inr met) more =
    inr (met.0, fault_among a first then met.1)
hears_later before (Some (LongChunk len)) (Some Fault) a b c first then one (inl is) = absurd (cc)
hears_later before (Some (LongChunk len)) (Some Fault) a b c first then one (inr met) =
    absurd (cc)
hears_later before (Some NoMemory) (Some Fault) a b c first then one (inl is) = absurd (cc)
hears_later before (Some NoMemory) (Some Fault) a b c first then one (inr met) = absurd (cc)

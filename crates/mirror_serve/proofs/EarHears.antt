-- What hears replies, by what came of them.
use Rattle.std.proofs.Common.{◌≡◌, ℕ, List, [], ◌∷◌, Option, Some, None, inl, inr, refl, sym, subst, ◌∙◌}
use Rattle.pide_mirror.specs.Hearing.{Hearing}
use Rattle.mirror_serve.specs.declared.ear.Unheard.{Unheard}
use Rattle.mirror_serve.specs.declared.ear.Unheard.TheVariants.{LongChunk, Fault, NoMemory}
use Rattle.mirror_serve.specs.Heard.{HearsAll, HearsOne, HearsSo, IsFirstLong, MeetsFault, StopsAt}

-- nothing is heard any more
pub deaf : (o : Option Unheard) (why : Unheard) (m : Hearing) (replies : List (List ℕ)) → o ≡ Some why → HearsSo o m replies o m
deaf None why m replies is = let no : ⊥ = cc in absurd no
deaf (Some (LongChunk len)) why m replies is = inl refl
deaf (Some Fault) why m replies is = inl refl
deaf (Some NoMemory) why m replies is = tt

-- a reply is heard
pub hears_reply : (o : Option Unheard) (a b : Hearing) (bytes : List ℕ) → o ≡ None → HearsOne a bytes b → HearsSo o a (bytes ∷ []) o b
hears_reply o a b bytes none one = subst (λ x. HearsSo x a (bytes ∷ []) x b) (sym none) (refl, (b, one, refl))

-- or not
pub hears_not : (o : Option Unheard) (why : Unheard) (a b : Hearing) (bytes : List ℕ) → o ≡ None → StopsAt why a bytes → HearsSo o a (bytes ∷ []) (Some why) b
hears_not o (LongChunk len) a b bytes none long =
    inr (none, record { before = []; bytes = bytes; after = []; parts = refl; short = tt; long = long })
hears_not o Fault a b bytes none at = inr (none, inl at)
hears_not o NoMemory a b bytes none stops = tt

-- what was heard of replies, by why not all were
pub all_heard : (o p : Option Unheard) (a b : Hearing) (replies : List (List ℕ)) → p ≡ None → HearsSo o a replies p b → HearsAll a replies b
all_heard o None a b replies is hears = hears.1
all_heard o (Some why) a b replies is hears = let no : ⊥ = cc in absurd no

pub long_heard : (o p : Option Unheard) (a b : Hearing) (replies : List (List ℕ)) (len : ℕ) → o ≡ None → p ≡ Some (LongChunk len)
    → HearsSo o a replies p b → IsFirstLong replies len
long_heard o p a b replies len none is hears = go (subst (λ x. HearsSo o a replies x b) is hears)
  where
    go : HearsSo o a replies (Some (LongChunk len)) b → IsFirstLong replies len
    go (inl same) = let no : None ≡ Some (LongChunk len) = sym none ∙ same in let never : ⊥ = cc in absurd never
    go (inr long) = long.1

pub fault_heard : (o p : Option Unheard) (a b : Hearing) (replies : List (List ℕ)) → o ≡ None → p ≡ Some Fault → HearsSo o a replies p b → MeetsFault a replies
fault_heard o p a b replies none is hears = go (subst (λ x. HearsSo o a replies x b) is hears)
  where
    go : HearsSo o a replies (Some Fault) b → MeetsFault a replies
    go (inl same) = let no : None ≡ Some Fault = sym none ∙ same in let never : ⊥ = cc in absurd never
    go (inr met) = met.1

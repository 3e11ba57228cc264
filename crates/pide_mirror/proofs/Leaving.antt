-- Versions that are removed, and one that comes.
use Rattle.std.proofs.Common.{◌≡◌, ℕ, Bool, true, false, cond, not, List, [], ◌∷◌, ◌++◌, filter, ap}
use Rattle.std.specs.Prelude.{◌==◌}
use Rattle.std.specs.List.{list_any}
use Rattle.core_tables.specs.declared.versions.Live.{Live}
use Rattle.mirror_rules.specs.Images.{Image}
use Rattle.pide_mirror.specs.Kept.{AreKept, IsKept}
use Rattle.pide_mirror.specs.declared.known.LiveVersion.{LiveVersion}

-- where the same versions are removed, the others stay
pub kept_left : (ids : List ℕ) (kept : List LiveVersion) (live : List (Live Image)) → AreKept kept live
    → AreKept (filter (λ one. not (list_any (λ id. id == one.id) ids)) kept) (filter (λ one. not (list_any (λ id. id == one.id) ids)) live)
kept_left ids [] [] are = tt
kept_left ids [] (l ∷ live) are = absurd are
kept_left ids (k ∷ kept) [] are = absurd are
kept_left ids (k ∷ kept) (l ∷ live) are = go (not (list_any (λ id. id == l.id) ids)) (not (list_any (λ id. id == k.id) ids))
    (ap (λ n. not (list_any (λ id. id == n) ids)) are.0.0) (kept_left ids kept live are.1)
  where
    go : (b c : Bool) → c ≡ b → AreKept (filter (λ one. not (list_any (λ id. id == one.id) ids)) kept) (filter (λ one. not (list_any (λ id. id == one.id) ids)) live)
        → AreKept (cond c (k ∷ filter (λ one. not (list_any (λ id. id == one.id) ids)) kept) (filter (λ one. not (list_any (λ id. id == one.id) ids)) kept))
        (cond b (l ∷ filter (λ one. not (list_any (λ id. id == one.id) ids)) live) (filter (λ one. not (list_any (λ id. id == one.id) ids)) live))
    go true true same rest = (are.0, rest)
    go false false same rest = rest
    go true false same rest = absurd (cc)
    go false true same rest = absurd (cc)

-- one version more
pub kept_more : (kept : List LiveVersion) (live : List (Live Image)) (one : LiveVersion) (other : Live Image) → AreKept kept live
    → one.id ≡ other.id → IsKept one.known other.version → AreKept (kept ++ one ∷ []) (live ++ other ∷ [])
kept_more [] [] one other are id known = ((id, known), tt)
kept_more [] (l ∷ live) one other are id known = absurd are
kept_more (k ∷ kept) [] one other are id known = absurd are
kept_more (k ∷ kept) (l ∷ live) one other are id known = (are.0, kept_more kept live one other are.1 id known)

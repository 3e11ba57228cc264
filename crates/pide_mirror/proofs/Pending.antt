-- The executions with an unfinished part, rising, are those of a range that have one.
use Rattle.std.proofs.Common.{◌≡◌, ℕ, ◌<◌, ◌≤◌, Bool, true, false, cond, List, [], ◌∷◌, length, get_or, map, Option, Some, None, refl, ap, sym, ◌∙◌, inl, inr, ◌⊎◌, arith}
use Rattle.std.specs.Borrow.{Bor}
use Rattle.std.specs.Option.{is_none}
use Rattle.std.specs.List.{AllByRecursion, filter}
use Rattle.std.specs.Cmp.Derive.{one_truth}
use Rattle.text_words.specs.Members.{has}
use Rattle.text_words.proofs.KnownMembers.{has_itself, has_contained, contained_has, each_has}
use Rattle.doc_nodes.proofs.KnownRising.{risen_range}
use Rattle.report_markup.specs.declared.report.Report.{Report}
use Rattle.pide_base.specs.Ids.{IsId}
use Rattle.snapshots.specs.Pending.{unfinished, IsPending}
use Rattle.snapshots.specs.declared.part.AssignedPart.{AssignedPart}
use Rattle.core_rules.proofs.KnownGreatest.{at_most}
use Rattle.core_rules.specs.Doc.{greatest}
use Rattle.core_rules.specs.Shown.{PartShown}
use Rattle.mirror_rules.specs.Looking.{unfinished_executions, pending_executions}
use Rattle.pide_mirror.specs.KeptNodes.{HasId}
use Rattle.pide_mirror.specs.NodeParts.{as_shown}

-- a part is unfinished where it is shown so
unfinished_same : (parts : List AssignedPart) → unfinished parts ≡ unfinished_executions (map as_shown parts)
unfinished_same [] = refl
unfinished_same (p ∷ parts) = go p.reports refl (unfinished_same parts)
  where
    go : (o : Option (Bor (List Report))) → p.reports ≡ o → unfinished parts ≡ unfinished_executions (map as_shown parts)
        → unfinished (p ∷ parts) ≡ unfinished_executions (map as_shown (p ∷ parts))
    go None is rest = cc
    go (Some reports) is rest = cc

ids_unfinished : (parts : List PartShown) → AllByRecursion HasId parts → AllByRecursion IsId (unfinished_executions parts)
ids_unfinished [] all = tt
ids_unfinished (p ∷ parts) all = go (is_none p.reports) (ids_unfinished parts all.1)
  where
    go : (b : Bool) → AllByRecursion IsId (unfinished_executions parts)
        → AllByRecursion IsId (map (λ (q : PartShown). q.exec) (cond b (p ∷ filter (λ q. is_none q.reports) parts) (filter (λ q. is_none q.reports) parts)))
    go true rest = (all.0, rest)
    go false rest = rest

-- so what a snapshot has pending is what is seen
pub pending_same : (parts : List AssignedPart) (execs : List ℕ) → AllByRecursion HasId (map as_shown parts) → IsPending parts execs
    → execs ≡ pending_executions (map as_shown parts)
pending_same parts execs ids is = risen_range (has us) (greatest 0 us) execs is.rising same
    (λ e there. ((each_has IsId us e (ids_unfinished (map as_shown parts) ids) there).0, at_most 0 us e there))
  where
    us : List ℕ
    us = unfinished_executions (map as_shown parts)

    same : (e : ℕ) → has execs e ≡ has us e
    same e = one_truth (has execs e) (has us e)
        (λ there. ap (λ xs. has xs e) (sym (unfinished_same parts)) ∙ contained_has (unfinished parts) e ((is.exact e).0 (has_contained execs e there)))
        (λ there. contained_has execs e ((is.exact e).1 (has_contained (unfinished parts) e (ap (λ xs. has xs e) (unfinished_same parts) ∙ there))))

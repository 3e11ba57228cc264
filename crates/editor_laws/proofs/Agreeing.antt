-- When parts of a node are shown alike.
use Rattle.std.proofs.Common.{◌≡◌, ℕ, Bool, true, false, cond, List, [], ◌∷◌, ◌++◌, map, filter, Option, Some, None, refl, ap, sym, ◌∙◌}
use Rattle.std.specs.Prelude.{flat_map, ◌+◌, ◌==◌, ◌||◌}
use Rattle.std.specs.Option.{option_map_or, is_none}
use Rattle.std.specs.List.{sum_by}
use Rattle.std.proofs.lemmas.List.Sums.{sum_by-append, sum_by-cons}
use Rattle.std.proofs.lemmas.Grind.{flat_map-append}
use Rattle.text_words.specs.Members.{has}
use Rattle.text_words.proofs.KnownMembers.{has_both}
use Rattle.report_markup.specs.declared.report.Report.{Report}
use Rattle.report_markup.specs.Ranges.{moved}
use Rattle.core_rules.specs.Shown.{PartShown}
use Rattle.session_rules.specs.Shown.{placed_reports}
use Rattle.mirror_rules.specs.Looking.{unfinished_executions}
use Rattle.editor_laws.proofs.Known.{Same, SameTold}

-- of lists that are made of items
pub sum_flat : {A : Type 0} (measure : Report → ℕ) (g : A → List Report) (xs : List A)
    → sum_by measure (flat_map g xs) ≡ sum_by (λ x. sum_by measure (g x)) xs
sum_flat measure g [] = refl
sum_flat measure g (x ∷ xs) = sum_by-append measure (g x) (flat_map g xs)
    ∙ ap (λ n. sum_by measure (g x) + n) (sum_flat measure g xs) ∙ sym (sum_by-cons (λ y. sum_by measure (g y)) x xs)

-- the same reports make the same
pub flat_same : (g : Report → List Report) (xs ys : List Report) → Same xs ys → Same (flat_map g xs) (flat_map g ys)
flat_same g xs ys same measure = sum_flat measure g xs ∙ same (λ x. sum_by measure (g x)) ∙ sym (sum_flat measure g ys)

both_same : (as_ bs_ cs ds : List Report) → Same as_ cs → Same bs_ ds → Same (as_ ++ bs_) (cs ++ ds)
both_same as_ bs_ cs ds p q measure = sum_by-append measure as_ bs_ ∙ ap (λ n. n + sum_by measure bs_) (p measure)
    ∙ ap (λ n. sum_by measure cs + n) (q measure) ∙ sym (sum_by-append measure cs ds)

moved_same : (n : ℕ) (xs ys : List Report) → Same xs ys → Same (map (moved n) xs) (map (moved n) ys)
moved_same n xs ys same measure = sum_map xs ∙ same (λ r. measure (moved n r)) ∙ sym (sum_map ys)
  where
    sum_map : (zs : List Report) → sum_by measure (map (moved n) zs) ≡ sum_by (λ r. measure (moved n r)) zs
    sum_map [] = refl
    sum_map (z ∷ zs) = sum_by-cons measure (moved n z) (map (moved n) zs) ∙ ap (λ k. measure (moved n z) + k) (sum_map zs)
        ∙ sym (sum_by-cons (λ r. measure (moved n r)) z zs)

-- both show the same reports and leave the same executions unfinished
pub record Alike (as_ bs_ : List PartShown) : Type 0 where
  pub reports : Same (flat_map placed_reports as_) (flat_map placed_reports bs_)
  pub waits : (x : ℕ) → has (unfinished_executions as_) x ≡ has (unfinished_executions bs_) x

pub none_alike : Alike [] []
none_alike = record { reports = λ measure. refl; waits = λ x. refl }

pub unfinished_both : (as_ bs_ : List PartShown) → unfinished_executions (as_ ++ bs_) ≡ unfinished_executions as_ ++ unfinished_executions bs_
unfinished_both [] bs_ = refl
unfinished_both (a ∷ as_) bs_ = go (is_none a.reports) (unfinished_both as_ bs_)
  where
    go : (c : Bool) → unfinished_executions (as_ ++ bs_) ≡ unfinished_executions as_ ++ unfinished_executions bs_
        → map (λ (p : PartShown). p.exec) (cond c (a ∷ filter (λ p. is_none p.reports) (as_ ++ bs_)) (filter (λ p. is_none p.reports) (as_ ++ bs_)))
        ≡ map (λ (p : PartShown). p.exec) (cond c (a ∷ filter (λ p. is_none p.reports) as_) (filter (λ p. is_none p.reports) as_)) ++ unfinished_executions bs_
    go true rest = ap (λ xs. a.exec ∷ xs) rest
    go false rest = rest

pub both_alike : (as_ bs_ cs ds : List PartShown) → Alike as_ cs → Alike bs_ ds → Alike (as_ ++ bs_) (cs ++ ds)
both_alike as_ bs_ cs ds p q = record {
  reports = λ measure. ap (sum_by measure) (flat_map-append placed_reports as_ bs_)
      ∙ both_same (flat_map placed_reports as_) (flat_map placed_reports bs_) (flat_map placed_reports cs) (flat_map placed_reports ds) p.reports q.reports measure
      ∙ ap (sum_by measure) (sym (flat_map-append placed_reports cs ds));
  waits = λ x. ap (λ xs. has xs x) (unfinished_both as_ bs_) ∙ has_both (unfinished_executions as_) (unfinished_executions bs_) x
      ∙ ap (λ b. b || has (unfinished_executions bs_) x) (p.waits x) ∙ ap (λ b. has (unfinished_executions cs) x || b) (q.waits x)
      ∙ sym (has_both (unfinished_executions cs) (unfinished_executions ds) x) ∙ ap (λ xs. has xs x) (sym (unfinished_both cs ds));
}

pub one_alike : (a b : PartShown) → a.exec ≡ b.exec → a.span ≡ b.span → SameTold a.reports b.reports → Alike (a ∷ []) (b ∷ [])
one_alike a b exec span same = go a.reports b.reports refl refl same
  where
    go : (x y : Option (List Report)) → a.reports ≡ x → b.reports ≡ y → SameTold x y → Alike (a ∷ []) (b ∷ [])
    go None None p q same = record {
      reports = λ measure. ap (λ o. sum_by measure (option_map_or (map (moved a.span.start)) o [] ++ [])) p
          ∙ ap (λ o. sum_by measure (option_map_or (map (moved b.span.start)) o [] ++ [])) (sym q);
      waits = λ x. ap (λ o. has (map (λ (r : PartShown). r.exec) (cond (is_none o) (a ∷ []) [])) x) p
          ∙ ap (λ n. (x == n) || false) exec ∙ ap (λ o. has (map (λ (r : PartShown). r.exec) (cond (is_none o) (b ∷ []) [])) x) (sym q);
    }
    go (Some xs) (Some ys) p q same = record {
      reports = λ measure. ap (λ o. sum_by measure (option_map_or (map (moved a.span.start)) o [] ++ [])) p
          ∙ both_same (map (moved a.span.start) xs) [] (map (moved b.span.start) ys) []
          (λ f. moved_same a.span.start xs ys same f ∙ ap (λ r. sum_by f (map (moved r.start) ys)) span) (λ f. refl) measure
          ∙ ap (λ o. sum_by measure (option_map_or (map (moved b.span.start)) o [] ++ [])) (sym q);
      waits = λ x. ap (λ o. has (map (λ (r : PartShown). r.exec) (cond (is_none o) (a ∷ []) [])) x) p
          ∙ ap (λ o. has (map (λ (r : PartShown). r.exec) (cond (is_none o) (b ∷ []) [])) x) (sym q);
    }
    go None (Some ys) p q same = absurd same
    go (Some xs) None p q same = absurd same

-- an execution that is unfinished in one part is so in two
pub open_twice : (a b c : PartShown) → a.exec ≡ b.exec → b.exec ≡ c.exec → a.reports ≡ None → b.reports ≡ None → c.reports ≡ None
    → Alike (a ∷ []) (b ∷ c ∷ [])
open_twice a b c first second p q r = record {
  reports = λ measure. ap (λ o. sum_by measure (option_map_or (map (moved a.span.start)) o [] ++ [])) p
      ∙ ap (λ o. sum_by measure (option_map_or (map (moved b.span.start)) o [] ++ (option_map_or (map (moved c.span.start)) None [] ++ []))) (sym q)
      ∙ ap (λ o. sum_by measure (option_map_or (map (moved b.span.start)) b.reports [] ++ (option_map_or (map (moved c.span.start)) o [] ++ []))) (sym r);
  waits = λ x. ap (λ o. has (map (λ (s : PartShown). s.exec) (cond (is_none o) (a ∷ []) [])) x) p
      ∙ ap (λ n. (x == n) || false) first ∙ twice (x == b.exec) ∙ ap (λ n. (x == b.exec) || ((x == n) || false)) second
      ∙ ap (λ o. has (map (λ (s : PartShown). s.exec) (cond (is_none o) (b ∷ c ∷ []) (c ∷ []))) x) (sym q)
      ∙ ap (λ o. has (map (λ (s : PartShown). s.exec) (cond (is_none b.reports) (b ∷ cond (is_none o) (c ∷ []) []) (cond (is_none o) (c ∷ []) []))) x) (sym r);
}
  where
    twice : (b : Bool) → (b || false) ≡ (b || (b || false))
    twice true = refl
    twice false = refl

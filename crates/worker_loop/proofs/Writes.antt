-- What was pushed before and what was pushed then.
use Rattle.std.proofs.Common.{◌≡◌, ℕ, ◌≤◌, List, [], ◌∷◌, ◌++◌, sym, ap, subst, ◌∙◌, append_assoc, append-nil, arith}
use Rattle.std.proofs.lemmas.List.Elements.{All-append}
use Rattle.std.proofs.KnownBytes.{Appends-nil, Appends-trans}
use Rattle.pide_base.specs.Faults.{Rose}
use Rattle.pide_base.proofs.Known.{AppendsFront-after}
use Rattle.hist_lock.specs.Entries.{own}
use Rattle.hist_lock.specs.Known.{SeesMore}
use Rattle.hist_lock.specs.declared.view.View.{View}
use Rattle.worker_loop.specs.declared.said.Said.{Said}
use Rattle.worker_loop.specs.declared.said.Said.TheVariants as said
use Rattle.worker_loop.specs.declared.writer.Written.{Written}
use Rattle.worker_loop.specs.declared.writer.Written.TheVariants as written
use Rattle.worker_loop.specs.Sending.{AreSent, HasOnlySent, KnowsOwn}
use Rattle.worker_loop.specs.Written.{Holding, Sends, WritesOn, WrittenSo}

module _ {E : Type 0} where
  -- a caller that has seen more and has made no entry knows the same entries as its own
  pub own_same : (whose : E → ℕ) (who : ℕ) (v w : View E) → v.caller ≡ who → SeesMore v w → KnowsOwn whose v
      → own whose w.caller w.seen ≡ w.mine → own whose who w.seen ≡ own whose who v.seen
  own_same whose who v w is more old now =
      let same : w.caller ≡ who = ap (λ x. x.caller) more ∙ is in
      ap (λ c. own whose c w.seen) (sym same) ∙ (now ∙ (ap (λ x. x.mine) more ∙ (sym old ∙ ap (λ c. own whose c v.seen) is)))

pub rose_later : (a b c : ℕ) → a ≤ b → Rose b c → Rose a c
rose_later a b c low rose = omega arith

module _ {E : Type 0} (says : E → Said) where
  no_news : AreSent says []
  no_news = λ k d less. absurd (omega arith)

  -- whoever made entries for pieces alone, and makes more of them, still has
  pub only_sent_on : (v w : View E) → HasOnlySent says v → Sends says v w → HasOnlySent says w
  only_sent_on v w old on = subst (AreSent says) (sym on.1) (All-append (λ e. says e ≡ said.Sent) v.mine on.0 old on.2)

  module _ (sent : List E → List ℕ) where
    -- nothing was handed over, and nothing was pushed
    pub idles : (v w : View E) (k : Holding) → sent w.seen ≡ sent v.seen → w.mine ≡ v.mine → WritesOn says sent v k w k
    idles v w k handed mine =
        ([], handed ∙ sym (append-nil (sent v.seen)), Appends-nil k.contents, ([], mine ∙ sym (append-nil v.mine), no_news))

    joined : (a b c : View E) (xs ys : List ℕ) → sent b.seen ≡ sent a.seen ++ xs → sent c.seen ≡ sent b.seen ++ ys → sent c.seen ≡ sent a.seen ++ (xs ++ ys)
    joined a b c xs ys first second = second ∙ (ap (λ bytes. bytes ++ ys) first ∙ append_assoc (sent a.seen) xs ys)

    pub writes_then : (v w x : View E) (k l m : Holding) → WritesOn says sent v k w l → WritesOn says sent w l x m → WritesOn says sent v k x m
    writes_then v w x k l m first second =
        let a = first.3 in let b = second.3 in (
          first.0 ++ second.0,
          joined v w x first.0 second.0 first.1 second.1,
          Appends-trans k.contents l.contents m.contents first.0 second.0 first.2 second.2,
          (a.0 ++ b.0, b.1 ∙ (ap (λ mine. mine ++ b.0) a.1 ∙ append_assoc v.mine a.0 b.0), All-append (λ e. says e ≡ said.Sent) a.0 b.0 a.2 b.2),
        )

    pub written_then : (v w x : View E) (k l m : Holding) (why : Written) → k.faults ≤ l.faults → WritesOn says sent v k w l
        → WrittenSo says sent w l why x m → WrittenSo says sent v k why x m
    written_then v w x k l m written.Ended low first second = (writes_then v w x k l m first second.0, second.1)
    written_then v w x k l m written.WriteFault low first second =
        let a = first.3 in let b = second.3 in (
          first.0 ++ second.0,
          joined v w x first.0 second.0 first.1 second.1,
          AppendsFront-after k.contents l.contents m.contents first.0 second.0 first.2 second.2,
          (
            a.0 ++ b.0,
            b.1,
            b.2 ∙ ap (λ mine. mine ++ b.1 ∷ []) (ap (λ mine. mine ++ b.0) a.1 ∙ append_assoc v.mine a.0 b.0),
            All-append (λ e. says e ≡ said.Sent) a.0 b.0 a.2 b.3,
            b.4,
          ),
          rose_later k.faults l.faults m.faults low second.4,
        )

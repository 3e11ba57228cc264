-- What a writer wrote that was handed nothing before.
use Rattle.std.proofs.Common.{◌≡◌, ℕ, List, [], ◌++◌, Contains, sym, ap, subst, ◌∙◌}
use Rattle.std.proofs.lemmas.List.Elements.{Contains-push}
use Rattle.std.specs.Io.KnownBytes.{Appends}
use Rattle.pide_base.specs.Moves.{AppendsFront}
use Rattle.language.specs.Lang.{Lang}
use Rattle.hist_lock.specs.declared.view.View.{View}
use Rattle.worker_loop.specs.Sending.{AreSent}
use Rattle.worker_loop.specs.Written.{Holding, WrittenSo}
use Rattle.worker_loop.specs.declared.writer.Written.{Written}
use Rattle.worker_loop.specs.declared.writer.Written.TheVariants as written
use Rattle.document_session.specs.keeping_rules_below.Items.{SessionItem}
use Rattle.view_laws.specs.Says.{says}
use Rattle.view_laws.specs.Sent.{bytes_sent}
use Rattle.thread_serve.specs.Stopped.{WroteSo}

module _ {S : Type 0} (l : Lang S) (who : ℕ) (v w : View SessionItem) (before after : Holding) (none : v.mine ≡ []) (nothing : bytes_sent l who v.seen ≡ []) where
  all_handed : (bytes : List ℕ) → bytes_sent l who w.seen ≡ bytes_sent l who v.seen ++ bytes → bytes ≡ bytes_sent l who w.seen
  all_handed bytes handed = sym (handed ∙ ap (λ (xs : List ℕ). xs ++ bytes) nothing)

  all_made : (news : List SessionItem) → w.mine ≡ v.mine ++ news → news ≡ w.mine
  all_made news made = sym (made ∙ ap (λ (xs : List SessionItem). xs ++ news) none)

  pub wrote_so : (why : Written) → WrittenSo says (bytes_sent l who) v before why w after → WroteSo l who before why w after
  wrote_so written.Ended so = let on = so.0 in (
    subst (Appends before.contents after.contents) (all_handed on.0 on.1) on.2,
    subst (AreSent says) (all_made on.3.0 on.3.1) on.3.2,
  )
  wrote_so written.WriteFault so = let loses = so.3 in (
    subst (AppendsFront before.contents after.contents) (all_handed so.0 so.1) so.2,
    (
      loses.1,
      subst (λ (xs : List SessionItem). Contains xs loses.1) (sym loses.2) (Contains-push (v.mine ++ loses.0) loses.1),
      loses.4,
    ),
    so.4,
  )

-- a writer that the end stopped has made entries for pieces alone
pub only_sent : {S : Type 0} (l : Lang S) (who : ℕ) (before after : Holding) (why : Written)
    (w : View SessionItem) → WroteSo l who before why w after → why ≡ written.Ended
    → AreSent says w.mine
only_sent l who before after written.Ended w wrote e = wrote.1
only_sent l who before after written.WriteFault w wrote e = absurd (let no : ⊥ = cc in no)

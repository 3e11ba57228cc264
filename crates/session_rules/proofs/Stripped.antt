-- What one thread did before it worked for a message.
use Rattle.std.proofs.Common.{◌≡◌, ℕ, zero, suc, ◌≤◌, false, List, [], ◌∷◌, length, None, Some, inl, inr, refl, ap, arith}
use Rattle.pide_base.specs.declared.part.Part.{Part}
use Rattle.exec_rules.specs.declared.version.Version.{Version}
use Rattle.language.specs.Lang.{Lang}
use Rattle.core_rules.specs.Standing.{has_ended}
use Rattle.session_rules.specs.declared.entry.Entry.{Entry}
use Rattle.session_rules.specs.declared.entry.Entry.TheVariants as entry
use Rattle.session_rules.specs.declared.service.Service.{Service}
use Rattle.session_rules.specs.Services.{free_workers}
use Rattle.session_rules.specs.Heard.{Claimed, Finished, all_heard}
use Rattle.session_rules.specs.History.{session}
use Rattle.session_rules.specs.Legal.{IsLegal, IsTurn}
use Rattle.session_rules.specs.Alone.{IsAlone, IsUnsettled}
use Rattle.session_rules.specs.Steps.{Nothing, Claims, due}
use Rattle.session_rules.specs.OneThread.{reads}
use Rattle.session_rules.proofs.KnownNamed.{AskedLaw, due_named}
use Rattle.session_rules.proofs.Until.{IsUntil}

module _ {S : Type 0} (l : Lang S) (service : Service) where
  -- a legal history of one thread, that may go on with a message
  pub record IsRest (es : List Entry) : Type 0 where
    pub legal : IsLegal l service (all_heard service es)
    pub alone : IsAlone l service None (all_heard service es)
    pub rest : due l service (all_heard service es) ≡ Nothing
    pub going : has_ended (session l service (all_heard service es)).events ≡ false

  module _ (law : AskedLaw) (none : free_workers service ≡ 0) where
    -- the reader takes no part that a message calls for
    pub not_due : (es : List Entry) → IsTurn service (due l service (all_heard service es)) 0 (Claims 0) → due l service (all_heard service es) ≡ Nothing
    not_due es (inr other) = other.0
    not_due es (inl called) =
        let named = due_named l service law none es 0 called in
        let one : 1 ≤ 0 = named.1.0 in absurd (omega (arith, one))

    module _ (version : Version) where
      -- the history without the parts that the reader worked on last
      pub record Stripped (es : List Entry) : Type 0 where
        pub steps : ℕ
        pub from : List Entry
        pub is : IsUntil l service version steps (all_heard service from) (all_heard service es)
        pub rests : IsRest from
        pub reads_are : reads (all_heard service from) ≡ reads (all_heard service es)
        pub short : length from ≤ length es

      stay : (es : List Entry) → IsRest es → Stripped es
      stay es rests = record { steps = 0; from = es; is = refl; rests = rests; reads_are = refl; short = omega arith }

      more : (p q : Part) (es : List Entry) → q ≡ p → IsUnsettled l (session l service (all_heard service es)) version → Stripped es → Stripped (entry.Finished 0 p ∷ entry.Claimed 0 q ∷ es)
      more p q es same open_ r = record {
        steps = suc r.steps;
        from = r.from;
        is = (p, (all_heard service es, ap (λ x. Finished 0 p ∷ Claimed 0 x ∷ all_heard service es) same, open_, r.is));
        rests = r.rests;
        reads_are = r.reads_are;
        short = let le = r.short in omega (arith, le);
      }

      pub strip : (es : List Entry) → IsLegal l service (all_heard service es) → IsAlone l service (Some version) (all_heard service es)
          → due l service (all_heard service es) ≡ Nothing → has_ended (session l service (all_heard service es)).events ≡ false → Stripped es
      strip (entry.Finished zero p ∷ entry.Claimed zero q ∷ es) legal a d g =
          more p q es a.0 a.1 (strip es legal.0.0 a.2 (not_due es legal.0.1.1) g)
      strip [] legal a d g = stay [] (record { legal = legal; alone = tt; rest = d; going = g })
      strip (entry.Call m ∷ es) legal a d g = stay (entry.Call m ∷ es) (record { legal = legal; alone = a; rest = d; going = g })
      strip (entry.Ended ∷ es) legal a d g = stay (entry.Ended ∷ es) (record { legal = legal; alone = a; rest = d; going = g })
      strip (entry.Claimed (suc w) p ∷ es) legal a d g = stay (entry.Claimed (suc w) p ∷ es) (record { legal = legal; alone = a; rest = d; going = g })
      strip (entry.Finished (suc w) p ∷ es) legal a d g = stay (entry.Finished (suc w) p ∷ es) (record { legal = legal; alone = a; rest = d; going = g })
      strip (entry.Dropped (suc w) p ∷ es) legal a d g = stay (entry.Dropped (suc w) p ∷ es) (record { legal = legal; alone = a; rest = d; going = g })
      strip (e ∷ es) legal a d g = absurd (a)

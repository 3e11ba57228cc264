-- A new session and a new mirror.
use Rattle.std.proofs.Common.{◌≡◌, false, List, [], ◌∷◌, None, refl, sym, ap, subst, ◌∙◌}
use Rattle.language.specs.Lang.{Lang}
use Rattle.core_rules.specs.Standing.{has_ended}
use Rattle.message_values.specs.declared.mode.Mode.TheVariants.{Serve}
use Rattle.reply_outbox.specs.Items.{entries, is_lost}
use Rattle.reply_outbox.specs.declared.item.Item.TheVariants.{Opened}
use Rattle.session_rules.specs.declared.service.Service.TheVariants.{Workers}
use Rattle.session_rules.specs.Alone.{IsAlone}
use Rattle.session_rules.specs.Services.{free_workers, mode_of}
use Rattle.document_session.specs.Contents.{SessionState}
use Rattle.document_session.specs.keeping_rules_below.Items.{SessionItem, heard_in, session_in}
use Rattle.document_session.specs.keeping_rules_below.Legal.{AreLegal}
use Rattle.document_serve.specs.Served.{AllSent}
use Rattle.editor_laws.specs.Heard.{AreMessages}
use Rattle.editor_laws.specs.Tellable.{IsTellable}
use Rattle.mirror_rules.specs.Moves.{mirrored}
use Rattle.pide_mirror.specs.Hearing.{HasHeard}
use Rattle.mirror_serve.specs.declared.ear.Ear.{Ear}
use Rattle.mirror_serve.specs.LongReplies.{too_long_in}
use Rattle.mirror_serve.specs.Resting.{IsImageOf, Rests}
use Rattle.mirror_serve.proofs.OneHeard.{between_first, moves_first}

module _ {S : Type 0} (l : Lang S) (s : SessionState) (ear : Ear) (new : s.items ≡ Opened s.service ∷ []) where
  at_first : (P : List SessionItem → Type 0) → P (Opened s.service ∷ []) → P s.items
  at_first P p = subst P (sym new) p

  -- they are at rest
  pub rests_first : s.service ≡ Workers 0 → IsTellable l → ear.mirror.mode ≡ Serve → HasHeard [] ear.mirror → ear.mirror.ended ≡ None → ear.unheard ≡ None
      → Rests l s ear
  rests_first alone tellable mode heard fresh fine = record {
    session = record {
      going = record {
        legal = at_first (λ is. AreLegal l s.service is) refl;
        nobody = ap free_workers alone;
        going = at_first (λ is. has_ended (session_in l s.service is).events ≡ false) refl;
        alone = at_first (λ is. IsAlone l s.service None (heard_in s.service is)) tt;
        kept = at_first (λ is. is_lost is ≡ false) refl;
      };
      sent = at_first (λ is. AllSent l s.service is) refl;
    };
    service = alone;
    tellable = tellable;
    calls = at_first (λ is. AreMessages (entries is)) tt;
    image = at_first (λ is. IsImageOf l s.service [] (entries is) [] ear.mirror) (record {
      between = between_first (mode_of s.service) ear.mirror (mode ∙ sym (ap mode_of alone)) fresh heard;
      did = [];
      follows = (refl, ([], refl));
      same = ap (mirrored (mode_of s.service)) (moves_first ear.mirror heard);
    });
    fine = fine;
    short = at_first (λ is. too_long_in l s.service (entries is) ≡ []) refl;
  }

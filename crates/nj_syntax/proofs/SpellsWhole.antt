-- Pieces one after the other, and whole texts.
use Rattle.std.proofs.Common.{◌≡◌, ◌+◌, ℕ, true, List, [], ◌++◌, map, length, refl, ap, sym, subst, ◌∙◌, arith, zero-add, append-nil, append_assoc, length-append}
use Rattle.std.proofs.lemmas.List.{map-append}
use Rattle.std.proofs.lemmas.Str.{IsAscii-append}
use Rattle.nj_syntax.specs.declared.token.Placed.{Placed}
use Rattle.nj_syntax.specs.Tokens.{AreTokens, ends}
use Rattle.nj_syntax.specs.Terms.{Deep}
use Rattle.nj_syntax.specs.Answers.{AreAt}
use Rattle.nj_syntax.specs.ReadBack.{IsTextOf}
use Rattle.nj_syntax.proofs.SpellsLemmas.{Spells, Breaks, moved}

pieces_length : (at n m : ℕ) {k : ℕ} → k ≡ n + m → at + k ≡ (at + n) + m
pieces_length at n m e = omega arith

at_both : (ps qs : List Placed) (ds es : List Deep) → AreAt ps ds → AreAt qs es → AreAt (ps ++ qs) (ds ++ es)
at_both ps qs ds es e f =
    map-append (λ t. t.token) ps qs ∙ (ap (λ ts. ts ++ map (λ t. t.token) qs) e ∙ (ap (λ us. map (λ t. t.0) ds ++ us) f ∙ sym (map-append (λ t. t.0) ds es)))

regrouped : {at stop : ℕ} (a b rest : List ℕ) (ps qs after : List Placed) → AreTokens at (a ++ (b ++ rest)) (ps ++ (qs ++ after)) stop true
    → AreTokens at ((a ++ b) ++ rest) ((ps ++ qs) ++ after) stop true
regrouped {at} {stop} a b rest ps qs after h =
    subst (λ t. AreTokens at t ((ps ++ qs) ++ after) stop true) (sym (append_assoc a b rest))
    (subst (λ ts. AreTokens at (a ++ (b ++ rest)) ts stop true) (sym (append_assoc ps qs after)) h)

-- two pieces, of which the second ends a name
pub both : {a b : List ℕ} {ds es : List Deep} → Spells a ds → Breaks b → Spells b es → Spells (a ++ b) (ds ++ es)
both {a} {b} {ds} {es} s breaks t = record {
  ascii = IsAscii-append a b s.ascii t.ascii;
  cut = λ at rest after stop e h.
      let second = t.cut (at + length a) rest after stop e (moved (pieces_length at (length a) (length b) (length-append a b)) h) in
      let first = s.cut at (b ++ rest) (second.0 ++ after) stop (breaks rest e) second.2 in
      (first.0 ++ second.0, at_both first.0 second.0 ds es first.1 second.1, regrouped a b rest first.0 second.0 after first.2);
}

pub cut_whole : {text : List ℕ} {deep : List Deep} → Spells text deep → (placed : List Placed) × AreAt placed deep × AreTokens 0 text placed (length text) true
cut_whole {text} s =
    let cut = s.cut 0 [] [] (length text) refl (subst (λ n. AreTokens (0 + length text) [] [] n true) (zero-add (length text)) ends) in (
      cut.0,
      cut.1,
      subst (λ t. AreTokens 0 t cut.0 (length text) true) (append-nil text)
          (subst (λ ts. AreTokens 0 (text ++ []) ts (length text) true) (append-nil cut.0) cut.2),
    )

pub text_of : {A : Type 0} (Is : List Deep → A → Type 0) {text : List ℕ} {deep : List Deep} {a : A} → Spells text deep → Is deep a → IsTextOf Is text a
text_of Is {deep = deep} s is =
    let cut = cut_whole s in record { ascii = s.ascii; tokens = cut.0; cut = cut.2; deep = deep; tokens_are = cut.1; is = is }

-- Two streams of whole messages, one behind the other, are one.
use Rattle.std.proofs.Common.{◌≡◌, ℕ, List, [], ◌∷◌, ◌++◌, ap, sym, subst, ◌∙◌, append_assoc}
use Rattle.byte_message.specs.Stream.{AreSpelled}

pub spelled-append : (a b : List ℕ) (ms ns : List (List (List ℕ))) → AreSpelled a ms → AreSpelled b ns → AreSpelled (a ++ b) (ms ++ ns)
spelled-append a b [] ns s t = subst (λ (x : List ℕ). AreSpelled (x ++ b) ns) (sym s) t
spelled-append a b (m ∷ ms) ns (front, rest, e, one, s) t = (front, rest ++ b, ap (λ x. x ++ b) e ∙ append_assoc front rest b, one, spelled-append rest b ms ns s t)

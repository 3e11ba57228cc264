-- A name, `:` and a formula are the words of two commands.
use Rattle.std.proofs.Common.{◌≡◌, [], ◌∷◌, option_map, refl}
use Rattle.isar_rules.specs.declared.verb.Verb.TheVariants as verb
use Rattle.isar_rules.specs.declared.shape.Shape.TheVariants as shape
use Rattle.isar_rules.specs.declared.shape.Spot.{Spot}
use Rattle.isar_rules.specs.Words.{Word, name, quoted, colon, dash, other}
use Rattle.isar_rules.specs.Shapes.{worded}
use Rattle.command_shapes.specs.Forms.{named_formula}

-- of `axiom` and of `lemma`
pub record Names (a b c : Word) : Type 0 where
  pub of_axiom : option_map (λ p. shape.Axiom p.0 p.1) (named_formula a b c) ≡ worded verb.Axiom (a ∷ b ∷ c ∷ [])
  pub of_lemma : option_map (λ p. shape.Lemma p.0 p.1) (named_formula a b c) ≡ worded verb.Lemma (a ∷ b ∷ c ∷ [])

third : (n : Spot) (c : Word) → Names (name n) colon c
third n (name m) = record { of_axiom = refl; of_lemma = refl }
third n (quoted f) = record { of_axiom = refl; of_lemma = refl }
third n colon = record { of_axiom = refl; of_lemma = refl }
third n dash = record { of_axiom = refl; of_lemma = refl }
third n other = record { of_axiom = refl; of_lemma = refl }

second : (n : Spot) (b c : Word) → Names (name n) b c
second n (name m) c = record { of_axiom = refl; of_lemma = refl }
second n (quoted f) c = record { of_axiom = refl; of_lemma = refl }
second n colon c = third n c
second n dash c = record { of_axiom = refl; of_lemma = refl }
second n other c = record { of_axiom = refl; of_lemma = refl }

-- three words are the form, or no words of these commands
pub names : (a b c : Word) → Names a b c
names (name n) b c = second n b c
names (quoted f) b c = record { of_axiom = refl; of_lemma = refl }
names colon b c = record { of_axiom = refl; of_lemma = refl }
names dash b c = record { of_axiom = refl; of_lemma = refl }
names other b c = record { of_axiom = refl; of_lemma = refl }

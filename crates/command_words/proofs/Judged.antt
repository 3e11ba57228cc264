-- What is asked, by how the words are judged.
use Rattle.std.proofs.Common.{◌≡◌, ◌∙◌, true, List, [], ◌∷◌, Option, None, sym, ap, refl}
use Rattle.std.specs.Prelude.{option_and_then}
use Rattle.clap.specs.Words.{Text, Row, is_simple, subcommand_of}
use Rattle.clap.specs.Kinds.{Kinds, IsAmong}
use Rattle.clap.specs.Faults.{fault_of, is_simple_and_free}
use Rattle.clap.specs.declared.error.kind.ErrorKind.{ErrorKind}
use Rattle.clap.proofs.OnLiterals.{clap_on_literals}
use Rattle.command_words.specs.Program.{program}
use Rattle.command_words.specs.Asked.{words_request, request_of, unless_faulty}

pub is_free : is_simple_and_free program ≡ true
unfolding clap_on_literals
is_free = refl

pub is_plain : is_simple program ≡ true
unfolding clap_on_literals
is_plain = refl

pub when_taken : (words : List Text) (rows : Option (Text × List Row)) → fault_of program words ≡ [] → rows ≡ subcommand_of program words
    → option_and_then request_of rows ≡ words_request words
when_taken words rows none is = ap (option_and_then request_of) is
    ∙ sym (ap (λ (kinds : Kinds). unless_faulty kinds (option_and_then request_of (subcommand_of program words))) none)

pub when_refused : (words : List Text) (kinds : Kinds) → fault_of program words ≡ kinds → (k : ErrorKind) → IsAmong k kinds → words_request words ≡ None
when_refused words [] is k among = absurd (among)
when_refused words (first ∷ more) is k among =
    ap (λ (kinds : Kinds). unless_faulty kinds (option_and_then request_of (subcommand_of program words))) is

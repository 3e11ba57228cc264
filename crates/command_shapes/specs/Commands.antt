-- Which command a word or a token begins (this project's own).
use Rattle.std.specs.Prelude.{ℕ, Bool, true, false, if◌then◌else◌, List, drop, Option, Some, None}
use Rattle.shared_map.specs.Pairs.{found}
use Rattle.outer_syntax.specs.Kinds.{is_command}
use Rattle.outer_syntax.specs.Tokens.{text_of}
use Rattle.outer_syntax.specs.declared.token.Token.{Token}
use Rattle.doc_nodes.specs.Names.{in_order}
use Rattle.doc_nodes.specs.Needs.{AliasList, meant}
use Rattle.isar_rules.specs.declared.verb.Verb.{Verb}
use Rattle.isar_rules.specs.declared.verb.Verb.TheVariants as verb
use Rattle.isar_rules.specs.Verbs.{verbs, verb_of}

-- the command that a word is, but for those of theories
abbrev pub proof_verb_of : List ℕ → Option Verb
proof_verb_of word = found in_order word (drop 5 verbs)

-- the command that a token begins
abbrev pub verb_in : AliasList → List ℕ → Token → Option Verb
verb_in aliases source t =
    if is_command t.kind then verb_of (meant aliases (text_of source t)) else None

-- the command is `by`
abbrev pub is_by : Option Verb → Bool
is_by (Some verb.By) = true
is_by _ = false

-- the token begins `by`
abbrev pub begins_by : AliasList → List ℕ → Token → Bool
begins_by aliases source t = is_by (verb_in aliases source t)

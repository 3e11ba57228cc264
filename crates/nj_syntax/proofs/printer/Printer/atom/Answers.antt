-- A predicate with its arguments, and one with none.
use Rattle.std.proofs.Common.{rules, ◌≡◌, ◌++◌, [], map, codes, string_bytes}
use Rattle.std.proofs.lemmas.Result.{on_ok_weaker}
use Rattle.nj_syntax.specs.ArgumentText.{listed, argument_text}
use Rattle.nj_syntax.proofs.PieceLemmas.{pushed, wrote_atom, wrote_predicate}
use Rattle.nj_syntax.proofs.printer.Printer.atom.Goals as goal

pub returns-then-is_empty-clause-text : goal.returns-then-is_empty-clause-text
returns-then-is_empty-clause-text c =
    wrote_atom c.args.predicate.now c.args.arguments.now (c.is_empty.ensures.0 c.if-is_empty.true) (search rules)

pub returns-clause-text : goal.returns-clause-text
returns-clause-text c =
    let some : c.args.arguments.now ≡ [] → ⊥ = λ none. let empty = c.is_empty.ensures.1 none in cc in
    let named : string_bytes c.push_str.new.self ≡ string_bytes c.args.self.now.text ++ c.args.predicate.now = search rules in
    let opened : string_bytes c.push_str-2.new.self ≡ string_bytes c.push_str.new.self ++ codes "(" = search rules in
    let inside : string_bytes c.write_arguments.new.text
    ≡ string_bytes c.push_str-2.new.self ++ listed (map (argument_text c.args.self.now.names.items) c.args.arguments.now) = search rules in
    on_ok_weaker c.push_str-3.result (wrote_predicate c.args.predicate.now c.args.arguments.now some named opened inside)
    (pushed c.push_str-3.result (string_bytes c.write_arguments.new.text) (codes ")") c.push_str-3.ensures.bytes)

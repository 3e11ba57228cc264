use Rattle.std.proofs.Common.{length, ap, arith}
use Rattle.std.proofs.lemmas.Slice.Zip.{length-zip}
use Rattle.doc_nodes.proofs.alias.Aliases.len.Goals as goal

pub returns : goal.returns
returns c = omega (arith, c.len.ensures, c.self.invariant, length-zip c.self.inside.names c.self.inside.targets, ap length c.self.view_is)

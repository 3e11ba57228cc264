-- Bodies that may stand in an element.
use Rattle.std.specs.Prelude.{◌<◌, List}
use Rattle.yxml.specs.declared.tree.Tree.{Tree}
use Rattle.yxml.specs.Normal.{IsNormal, height, most_nested}

-- a normal body that leaves room for one more element around it
pub record IsNestable (body : List Tree) : Type 0 where
  pub normal : IsNormal body
  pub room : height body < most_nested

-- Texts in shared memory.
use Rattle.std.specs.Prelude.{ℕ, List, [], Option, Some, None}
use Rattle.std.specs.declared.sync.ArcStr.{ArcStr}
use Rattle.std.specs.declared.alloc.Global.{Global}
use Rattle.std.specs.Arc.{arc_str_bytes}

-- the bytes of a text that is held where it isn't empty (this project's own)
abbrev pub text_bytes : Option (ArcStr Global) → List ℕ
text_bytes (Some text) = arc_str_bytes text
text_bytes None = []

-- The bytes that a held line has. Assumes nothing.
use Rattle.std.specs.Prelude.{List, ℕ}
use Rattle.chunk.specs.Chunk.{held}
use Rattle.chunk.specs.declared.HeldLine.{HeldLine}

abbrev pub held_bytes : HeldLine → List ℕ
held_bytes line = held line.buffer line.length

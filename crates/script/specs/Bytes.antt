-- Words as bytes, to be compared byte for byte.
-- Assumes nothing.
use Rattle.std.specs.Prelude.{Bool, true, false, ◌&&◌, List, [] as no_bytes, ◌∷◌ as ◌then◌, ℕ, eqb}
use Prim.Native.Char.{code}
use Prim.Native.String.{String, [], ◌∷◌}

-- The bytes of a word.
abbrev pub bytes : String → List ℕ
bytes [] = no_bytes
bytes (c ∷ more) = code c then bytes more

-- Whether two words have the same bytes.
unfoldable pub same : List ℕ → List ℕ → Bool
same no_bytes no_bytes = true
same no_bytes (b then right) = false
same (a then left) no_bytes = false
same (a then left) (b then right) = eqb a b && same left right

-- Whether a line's first field has the bytes of a word: a tab or the end of the line closes it. The byte 9 is a tab.
unfoldable pub begun : List ℕ → List ℕ → Bool
begun no_bytes no_bytes = true
begun no_bytes (a then word) = false
begun (b then line) no_bytes = eqb b 9
begun (b then line) (a then word) = eqb b a && begun line word

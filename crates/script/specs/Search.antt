-- Where a byte next stands in some bytes, and how often: a tab that ends a field, or a line feed that ends a line.
-- Assumes nothing.
use Rattle.std.specs.Prelude.{cond, List, [], ◌∷◌, ℕ, suc, ◌+◌, eqb, drop, count_by}

-- How many bytes stand before the first of this kind.
unfoldable pub until_byte : ℕ → List ℕ → ℕ
until_byte byte [] = 0
until_byte byte (first ∷ bytes) = cond (eqb first byte) 0 (suc (until_byte byte bytes))

-- Where it next stands from a place on, or the end of the bytes.
abbrev pub byte_at : ℕ → List ℕ → ℕ → ℕ
byte_at byte bytes start = start + until_byte byte (drop start bytes)

-- How often it stands there.
unfoldable pub times : ℕ → List ℕ → ℕ
times byte bytes = count_by (λ found. eqb found byte) bytes

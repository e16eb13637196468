-- Lines in a chunk: where one ends, and the beginning of one that goes on in the next chunk. Assumes nothing.
use Rattle.std.specs.Prelude.{List, ℕ, min, take}
use Rattle.script.specs.ListingLine.{line_feed}
use Rattle.script.specs.Search.{byte_at, until_byte}

-- How many bytes stand before the first line feed.
abbrev pub until_feed : List ℕ → ℕ
until_feed bytes = until_byte line_feed bytes

-- Where the line that starts at a place ends: at the next line feed, or at the chunk's end.
abbrev pub line_end : List ℕ → ℕ → ℕ
line_end chunk start = byte_at line_feed chunk start

-- A line has at most 256 bytes; one more is kept, so that a longer line is known to be too long.
abbrev pub kept_bytes : ℕ
kept_bytes = 257

-- The bytes of the line that has not ended: the beginning of the buffer.
abbrev pub held : List ℕ → ℕ → List ℕ
held buffer length = take (min length kept_bytes) buffer

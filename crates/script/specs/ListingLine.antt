-- A line of the listing (01, "Script and listing").
-- Assumes nothing.
use Rattle.std.specs.Prelude.{List, [], ◌∷◌, ◌++◌, ℕ}
use Rattle.decimal.specs.Write.{decimal}
use Rattle.script.specs.LineForms.{tab}

abbrev pub line_feed : ℕ
line_feed = 10

-- A number, and the byte that closes its field.
unfoldable pub cell : ℕ → ℕ → List ℕ
cell n closing = decimal n ++ closing ∷ []

-- The greatest length of a line of the listing: four numbers of 20 digits, each followed by a tab or a line feed.
abbrev pub longest_record : ℕ
longest_record = 84

-- Every line gets: line number, answer, value, level, with tabs between. It is closed by a line feed.
unfoldable pub listing_line : ℕ → ℕ → ℕ → ℕ → List ℕ
listing_line number answer value level = cell number tab ++ cell answer tab ++ cell value tab ++ cell level line_feed

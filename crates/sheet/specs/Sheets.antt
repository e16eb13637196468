-- The sheet of an explanation: one line, its fields parted by tabs (02, request 3). Assumes nothing.
use Rattle.std.specs.Prelude.{Bool, true, false, List, [], ◌∷◌, ◌++◌, ℕ, None, Option, Some}
use Rattle.decimal.specs.Write.{decimal}
pub use Rattle.explanation.specs.declared.Denial.{Denial}
pub use Rattle.explanation.specs.declared.Explanation.{Explanation}
pub use Rattle.explanation.specs.declared.Explanation.TheVariants.{Allowed, Host, Levels}
use Rattle.records.specs.RecordTexts.{ended}
use Rattle.script.specs.Bytes.{bytes}
use Rattle.script.specs.Texts.{together}
use Rattle.model.specs.declared.quantity.Level.{Level}

-- The receiving level or `none`.
unfoldable pub receiver_field : Option Level → List ℕ
receiver_field None = bytes "none"
receiver_field (Some level) = decimal level.0

-- `mbec` where MBEC counted, else `plain`.
unfoldable pub kind_field : Bool → List ℕ
kind_field true = bytes "mbec"
kind_field false = bytes "plain"

-- For a denying level its number, mask, wanted bit, and `mbec` or `plain`.
unfoldable pub group : ℕ → Option Denial → List (List ℕ)
group level None = []
group level (Some denial) = decimal level ∷ decimal denial.mask ∷ decimal denial.wanted ∷ kind_field denial.mbec ∷ []

-- `allowed`; or `host` where the host alone denies; or the receiver, then the denying levels, rising.
unfoldable pub sheet_fields : Explanation → List (List ℕ)
sheet_fields Allowed = bytes "allowed" ∷ []
sheet_fields Host = bytes "host" ∷ []
sheet_fields (Levels by first second third) = receiver_field by ∷ group 1 first ++ (group 2 second ++ group 3 third)

-- A sheet of one tab-parted line, without its line feed and with it.
unfoldable pub sheet_line : Explanation → List ℕ
sheet_line e = together (sheet_fields e)

unfoldable pub sheet_text : Explanation → List ℕ
sheet_text e = ended (sheet_line e ∷ [])

-- Its greatest length: a receiver of 20 digits, three groups of 50 bytes with their tabs, and the line feed.
abbrev pub longest_sheet : ℕ
longest_sheet = 171

-- The text of a record and of a state (02, request 2): word, indices and number, parted by tabs, each record with its line feed.
-- Assumes nothing.
use Rattle.std.specs.Prelude.{List, [], ◌∷◌, ◌++◌, ℕ}
use Rattle.decimal.specs.Write.{decimal}
use Rattle.model.specs.declared.machine.Setup.{Setup}
use Rattle.model.specs.declared.machine.FirstLine.{FirstLine}
use Rattle.model.specs.State.{State}
use Rattle.script.specs.Bytes.{bytes}
use Rattle.script.specs.LineForms.{tab}
use Rattle.script.specs.ListingLine.{cell, line_feed}
use Rattle.script.specs.Texts.{first_line_of}
use Rattle.records.specs.Places.{Place, PartitionEnabled, Mbec, Config, Active, Shared, Register, Tpr, Pending, Enabled, Secure, Reason, From, Rax, Rcx, Word, Mask, Intercepts, Cr0Mask, Cr4Mask, places}
use Rattle.records.specs.Values.{setup_at, number, value_at}

-- A record's word, and its indices. Of `crm` the third is 0 for CR0 and 4 for CR4.
pub record Head : Type 0 where
  pub word : List ℕ
  pub indices : List ℕ

abbrev pub headed : List ℕ → List ℕ → Head
headed word indices = record { word = word; indices = indices }

unfoldable pub head_of : Place → Head
head_of (PartitionEnabled t) = headed (bytes "enabled") (t.0 ∷ [])
head_of (Mbec t) = headed (bytes "mbec") (t.0 ∷ [])
head_of (Config t) = headed (bytes "config") (t.0 ∷ [])
head_of (Active v) = headed (bytes "active") (v.0 ∷ [])
head_of (Shared v r) = headed (bytes "shared") (v.0 ∷ r ∷ [])
head_of (Register v l r) = headed (bytes "reg") (v.0 ∷ l.0 ∷ r ∷ [])
head_of (Tpr v l) = headed (bytes "tpr") (v.0 ∷ l.0 ∷ [])
head_of (Pending v l i) = headed (bytes "pend") (v.0 ∷ l.0 ∷ i ∷ [])
head_of (Enabled v l) = headed (bytes "enabled") (v.0 ∷ l.0 ∷ [])
head_of (Secure v l k) = headed (bytes "secure") (v.0 ∷ l.0 ∷ k.0 ∷ [])
head_of (Reason v l) = headed (bytes "reason") (v.0 ∷ l.0 ∷ [])
head_of (From v l) = headed (bytes "from") (v.0 ∷ l.0 ∷ [])
head_of (Rax v l) = headed (bytes "rax") (v.0 ∷ l.0 ∷ [])
head_of (Rcx v l) = headed (bytes "rcx") (v.0 ∷ l.0 ∷ [])
head_of (Word p) = headed (bytes "word") (p.0 ∷ [])
head_of (Mask p t) = headed (bytes "mask") (p.0 ∷ t.0 ∷ [])
head_of (Intercepts v l) = headed (bytes "cri") (v.0 ∷ l.0 ∷ [])
head_of (Cr0Mask v l) = headed (bytes "crm") (v.0 ∷ l.0 ∷ 0 ∷ [])
head_of (Cr4Mask v l) = headed (bytes "crm") (v.0 ∷ l.0 ∷ 4 ∷ [])

-- Numbers, each with a tab after it.
unfoldable pub closed : List ℕ → List ℕ
closed [] = []
closed (n ∷ more) = cell n tab ++ closed more

-- Word and indices, each with its tab; a record without its line feed.
unfoldable pub front : Place → List ℕ
front p = (head_of p).word ++ tab ∷ closed (head_of p).indices

unfoldable pub record_line : Place → ℕ → List ℕ
record_line p x = front p ++ decimal x

-- What the first record is made from. It has seven fields.
abbrev pub first_of : Setup → FirstLine
first_of setup = record {
  processors = setup.processors;
  max_level = setup.shape.max_level;
  pages = setup.pages;
  dr6_shared = number setup.shape.dr6_shared;
  host_mask = setup.host_mask;
  smep = number setup.shape.smep;
}

-- The records at some places, where `value` says the quantity at each, and all records of a state.
abbrev pub lines_at : (Place → ℕ) → List Place → List (List ℕ)
lines_at value [] = []
lines_at value (p ∷ ps) = record_line p (value p) ∷ lines_at value ps

unfoldable pub record_lines : State → List (List ℕ)
record_lines s = first_line_of (first_of (setup_at s)) ∷ lines_at (value_at s) (places (setup_at s))

-- Each with its line feed.
unfoldable pub ended : List (List ℕ) → List ℕ
ended [] = []
ended (line ∷ more) = line ++ line_feed ∷ ended more

unfoldable pub records_text : State → List ℕ
records_text s = ended (record_lines s)

-- The text of a well-formed state is shorter than this.
abbrev pub longest_text : ℕ
longest_text = 65536

-- The first four fields of the listing with reasons are the listing, byte for byte. Assumes nothing.
use Rattle.std.specs.Prelude.{None, Option, Some}
use mathlib.Core.Bool.{true}
use mathlib.Core.List.{List, [], ◌∷◌, ◌++◌, append_assoc, append-nil, map}
use mathlib.Core.Path.{◌≡◌, refl, sym, ap, ◌∙◌}
use Prim.Native.Nat.{ℕ}
use lib.ListN.{take}
use Rattle.decimal.specs.Write.{decimal}
use Rattle.listing.specs.Listing.{answered, first_done, later_records, listing, listing_from, listing_of, number_after, record_of, state_by}
use Rattle.model.specs.Answers.{number_of, value_of}
use Rattle.model.specs.State.{State}
use Rattle.reason.specs.ReasonClaims.{BareLine, ListingKept}
use Rattle.reason.specs.ReasonedListing.{cut_to_four, first_four, first_reason, later_reasoned, reasoned, reasoned_from, reasoned_of}
use Rattle.reason.specs.Reasons.{Reason, fields_of, reason_of, reasoned_line}
use Rattle.reason.specs.declared.Reason.TheVariants as reason
use Rattle.reason.proofs.PlainFields.{no-feeds-together, no-tabs, plain, plain-fields, plain-number}
use Rattle.records.proofs.SameBytes.{NoFeeds, lines-ended, no_feed}
use Rattle.records.specs.RecordTexts.{ended}
use Rattle.script.proofs.Parted.{fields-together, no-tab-number}
use Rattle.script.proofs.Same.{every}
use Rattle.script.specs.EventForms.{line_event}
use Rattle.script.specs.First.{line_first}
use Rattle.script.specs.LineForms.{tab}
use Rattle.script.specs.ListingLine.{cell, line_feed, listing_line}
use Rattle.script.specs.Records.{lines, lines_in}
use Rattle.script.specs.Texts.{parted, together}

-- Four numbers put together, with the line feed, are a line of the listing.
bare-text : (number answer value level : ℕ)
    → together (decimal number ∷ decimal answer ∷ decimal value ∷ decimal level ∷ []) ++ line_feed ∷ [] ≡ listing_line number answer value level
unfolding listing_line cell parted
bare-text number answer value level =
    let last : (decimal level ++ []) ++ line_feed ∷ [] ≡ cell level line_feed = ap (λ (l : List ℕ). l ++ line_feed ∷ []) (append-nil (decimal level)) in
    let third = next (decimal value) (decimal level ++ []) ∙ ap (λ (l : List ℕ). cell value tab ++ l) last in
    let second = next (decimal answer) (decimal value ++ tab ∷ (decimal level ++ [])) ∙ ap (λ (l : List ℕ). cell answer tab ++ l) third in
    next (decimal number) (decimal answer ++ tab ∷ (decimal value ++ tab ∷ (decimal level ++ []))) ∙ ap (λ (l : List ℕ). cell number tab ++ l) second
    ∙ sym (append_assoc (cell number tab) (cell answer tab) (cell value tab ++ cell level line_feed))
    ∙ sym (append_assoc (cell number tab ++ cell answer tab) (cell value tab) (cell level line_feed))
  where
    -- A field and its tab in front of what follows.
    next : (field more : List ℕ) → (field ++ tab ∷ more) ++ line_feed ∷ [] ≡ (field ++ tab ∷ []) ++ (more ++ line_feed ∷ [])
    next field more = append_assoc field (tab ∷ more) (line_feed ∷ []) ∙ sym (append_assoc field (tab ∷ []) (more ++ line_feed ∷ []))

pub bare-line : BareLine
unfolding ended reasoned_line fields_of
bare-line number a = bare-text number (number_of a.answer) (value_of a.answer) a.level

-- A line of the listing with reasons: it has no line feed, and its first four fields are the numbers.
module _ (number answer value level : ℕ) (why : Reason) where
  three-plain : every plain (decimal answer ∷ decimal value ∷ decimal level ∷ fields_of why) ≡ true
  three-plain = rw (plain-number answer, plain-number value, plain-number level) (plain-fields why)

  no-feed : no_feed (reasoned_line number answer value level why) ≡ true
  unfolding reasoned_line
  no-feed = no-feeds-together (decimal number) (decimal answer ∷ decimal value ∷ decimal level ∷ fields_of why) (plain-number number) three-plain

  four : first_four (reasoned_line number answer value level why) ≡ together (decimal number ∷ decimal answer ∷ decimal value ∷ decimal level ∷ [])
  unfolding reasoned_line
  four =
      ap (λ (fs : List (List ℕ)). together (take 4 fs))
      (fields-together (decimal number) (decimal answer ∷ decimal value ∷ decimal level ∷ fields_of why) (no-tab-number number)
      (no-tabs (decimal answer ∷ decimal value ∷ decimal level ∷ fields_of why) three-plain))

  -- With more lines after it.
  four-then : (more : List (List ℕ))
      → ended (first_four (reasoned_line number answer value level why) ∷ more) ≡ listing_line number answer value level ++ ended more
  unfolding ended
  four-then more =
      rw four
      (sym (append_assoc (together (decimal number ∷ decimal answer ∷ decimal value ∷ decimal level ∷ [])) (line_feed ∷ []) (ended more))
      ∙ ap (λ (l : List ℕ). l ++ ended more) (bare-text number answer value level))

  four-last : ended (first_four (reasoned_line number answer value level why) ∷ []) ≡ listing_line number answer value level
  unfolding ended
  four-last = rw four (bare-text number answer value level)

-- Later lines.
later-no-feeds : (number : ℕ) (s : State) (ls : List (List ℕ)) → NoFeeds (later_reasoned number s ls)
unfolding later_reasoned
later-no-feeds number s [] = tt
later-no-feeds number s (line ∷ more) =
    let a = answered s (line_event line) in
    (no-feed number (number_of a.answer) (value_of a.answer) a.level (reason_of s (line_event line)), later-no-feeds (number_after number) a.next more)

later-four : (number : ℕ) (s : State) (ls : List (List ℕ)) → ended (map first_four (later_reasoned number s ls)) ≡ later_records number s ls
unfolding later_reasoned later_records ended
later-four number s [] = refl
later-four number s (line ∷ more) =
    let a = answered s (line_event line) in
    four-then number (number_of a.answer) (value_of a.answer) a.level (reason_of s (line_event line)) (map first_four (later_reasoned (number_after number) a.next more))
    ∙ ap (λ (l : List ℕ). record_of number a ++ l) (later-four (number_after number) a.next more)

-- All lines.
from-no-feeds : (o : Option State) (why : Reason) (more : List (List ℕ)) → NoFeeds (reasoned_from o why more)
from-no-feeds None why more = (no-feed 0 1 0 0 why, tt)
from-no-feeds (Some s) why more = (no-feed 0 0 0 0 reason.Nothing, later-no-feeds 1 s more)

of-no-feeds : (ls : List (List ℕ)) → NoFeeds (reasoned_of ls)
of-no-feeds [] = (no-feed 0 1 0 0 reason.EmptyInput, tt)
of-no-feeds (line ∷ more) = from-no-feeds (state_by (line_first line)) (first_reason (line_first line)) more

from-four : (o : Option State) (why : Reason) (more : List (List ℕ)) → ended (map first_four (reasoned_from o why more)) ≡ listing_from o more
from-four None why more = four-last 0 1 0 0 why
from-four (Some s) why more =
    four-then 0 0 0 0 reason.Nothing (map first_four (later_reasoned 1 s more)) ∙ ap (λ (l : List ℕ). first_done ++ l) (later-four 1 s more)

of_four : (ls : List (List ℕ)) → ended (map first_four (reasoned_of ls)) ≡ listing_of ls
of_four [] = four-last 0 1 0 0 reason.EmptyInput
of_four (line ∷ more) = from-four (state_by (line_first line)) (first_reason (line_first line)) more

-- The lines of lines with their line feeds are these lines.
lines-again : (ls : List (List ℕ)) → NoFeeds ls → lines (ended ls) ≡ ls
lines-again ls h = ap lines (sym (append-nil (ended ls))) ∙ lines-ended ls [] h ∙ ap (λ (l : List (List ℕ)). ls ++ l) none_left ∙ append-nil ls
  where
    none_left : lines [] ≡ []
    none_left = unfold lines in (unfold lines_in in refl)

pub listing-kept : ListingKept
unfolding cut_to_four reasoned listing
listing-kept script =
    ap (λ (l : List (List ℕ)). ended (map first_four l)) (lines-again (reasoned_of (lines script)) (of-no-feeds (lines script))) ∙ of_four (lines script)

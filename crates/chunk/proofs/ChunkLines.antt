-- Laws of the lines of a chunk: where one ends, and the beginning of one that goes on in the next chunk. Assumes nothing.
use mathlib.Core.Bool.{Bool, true, false, cond}
use mathlib.Core.List.{List, [], ◌∷◌, ◌++◌}
use mathlib.Core.Path.{◌≡◌, refl, sym, ap, ◌∙◌}
use Prim.Native.Nat.{ℕ, suc, ◌+◌, ◌-◌, ◌≤◌, ◌<◌, min, zero}
use borrow.Author.Tests.{eqb-true}
use native.Mathlib.Omega.{arith}
use lib.Dec.{eqb}
use lib.ListN.{drop, length, length-drop, length-take, take}
use lib.Seq.{drop-drop, length-take-le}
use borrow.Rule.Slice.PartMut.{put_mid}
use Rattle.std.proofs.lemmas.List.{take_min}
use Rattle.std.proofs.lemmas.Slice.{take-put_mid}
use Rattle.std.proofs.Math.Seq.{take-append-add}
use Rattle.script.proofs.FieldPlaces.{end-within as within}
use Rattle.script.specs.ListingLine.{line_feed}
use Rattle.script.specs.Search.{until_byte}
use Rattle.chunk.specs.Chunk.{held, line_end, until_feed}
use Rattle.script.specs.Records.{Lines, in_front, lines_in}

-- A line ends within the chunk.
pub end-within : (chunk : List ℕ) (start : ℕ) → start ≤ length chunk → (start ≤ line_end chunk start) × (line_end chunk start ≤ length chunk)
end-within chunk start h = within line_feed chunk start h

-- A line was ended by a line feed.
abbrev pub with_line : List ℕ → Lines → Lines
with_line line more = record { complete = line ∷ more.complete; rest = more.rest }

-- The lines of some bytes, where a line feed ends the first, and where there is no line feed.
lines-first : (bytes : List ℕ) → until_feed bytes < length bytes
    → lines_in bytes ≡ with_line (take (until_feed bytes) bytes) (lines_in (drop (suc (until_feed bytes)) bytes))
unfolding lines_in until_byte
lines-first [] h = absurd (omega arith)
lines-first (byte ∷ bytes) h = go (eqb byte line_feed) (lines-first bytes) h
  where
    go : (t : Bool) → (until_feed bytes < length bytes → lines_in bytes ≡ with_line (take (until_feed bytes) bytes) (lines_in (drop (suc (until_feed bytes)) bytes)))
        → cond t 0 (suc (until_feed bytes)) < suc (length bytes)
        → cond t (with_line [] (lines_in bytes)) (in_front byte (lines_in bytes).complete (lines_in bytes).rest)
        ≡ with_line (take (cond t 0 (suc (until_feed bytes))) (byte ∷ bytes)) (lines_in (drop (suc (cond t 0 (suc (until_feed bytes)))) (byte ∷ bytes)))
    go true more h = refl
    go false more h = rw (more (omega arith))

lines_none : (bytes : List ℕ) → length bytes ≤ until_feed bytes → lines_in bytes ≡ record { complete = []; rest = bytes }
unfolding lines_in until_byte
lines_none [] h = refl
lines_none (byte ∷ bytes) h = go (eqb byte line_feed) (lines_none bytes) h
  where
    go : (t : Bool) → (length bytes ≤ until_feed bytes → lines_in bytes ≡ record { complete = []; rest = bytes })
        → suc (length bytes) ≤ cond t 0 (suc (until_feed bytes))
        → cond t (with_line [] (lines_in bytes)) (in_front byte (lines_in bytes).complete (lines_in bytes).rest) ≡ record { complete = []; rest = byte ∷ bytes }
    go true more h = absurd (omega arith)
    go false more h = rw (more (omega arith))

-- The same of what is left of a chunk from a place on.
module _ (chunk : List ℕ) (i end : ℕ) (e : end ≡ line_end chunk i) (h : i ≤ length chunk) where
  pub lines_from : end < length chunk → lines_in (drop i chunk) ≡ with_line (take (end - i) (drop i chunk)) (lines_in (drop (end + 1) chunk))
  lines_from l =
      let until : until_feed (drop i chunk) ≡ end - i = omega arith in
      let place : i + suc (end - i) ≡ end + 1 = omega arith in
      lines-first (drop i chunk) (omega (arith, length-drop i chunk)) ∙ rw (until, drop-drop, place)

  pub lines-last : length chunk ≤ end → lines_in (drop i chunk) ≡ record { complete = []; rest = drop i chunk }
  lines-last l = lines_none (drop i chunk) (omega (arith, length-drop i chunk))

-- Lines and what stands after them, put together again.
unfoldable pub joined : List (List ℕ) → List ℕ → List ℕ
joined [] rest = rest
joined (line ∷ more) rest = line ++ line_feed ∷ joined more rest

pub lines-joined : (bytes : List ℕ) → joined (lines_in bytes).complete (lines_in bytes).rest ≡ bytes
unfolding joined lines_in
lines-joined [] = refl
lines-joined (byte ∷ bytes) = go (eqb byte line_feed) refl (lines_in bytes).complete (lines_in bytes).rest (lines-joined bytes)
  where
    go : (t : Bool) → eqb byte line_feed ≡ t → (complete : List (List ℕ)) (rest : List ℕ) → joined complete rest ≡ bytes
        → let l = cond t (record { complete = [] ∷ complete; rest = rest }) (in_front byte complete rest) in joined l.complete l.rest ≡ byte ∷ bytes
    go true e complete rest h = rw (h, eqb-true byte line_feed e)
    go false e [] rest h = rw h
    go false e (line ∷ more) rest h = rw h

-- Bytes were copied after those that are held, as many as there is room for.
pub appended : (line more part : List ℕ) (length₀ at count k : ℕ) → length line ≡ 257 → at ≡ min length₀ 257 → count ≡ min (length more) (257 - at)
    → part ≡ take count more → held (put_mid at k line part) (at + count) ≡ take 257 (held line length₀ ++ more)
appended line more part length₀ at count k size place room copied =
    let whole : min (at + count) 257 ≡ at + count = omega arith in
    let held_part : length part ≡ count = ap length copied ∙ length-take-le count more (omega arith) in
    let turned : count ≡ min (257 - at) (length more) = omega arith in
    let fits : part ≡ take (257 - at) more = copied ∙ ap (λ n. take n more) (turned) ∙ take_min (257 - at) more in
    let front : length (take at line) + (257 - at) ≡ 257 = omega (arith, length-take at line) in
    rw whole (take-put_mid at k line part (at + count) (omega arith) (omega arith))
    ∙ ap (λ (l : List ℕ). take at line ++ l) fits
    ∙ sym (take-append-add (take at line) more (257 - at))
    ∙ ap (λ n. take n (take at line ++ more)) front
    ∙ ap (λ n. take 257 (take n line ++ more)) place

-- The bytes that are held, as the beginning of the buffer.
taken-again : (k : ℕ) (bytes : List ℕ) → take (length (take k bytes)) bytes ≡ take k bytes
taken-again zero bytes = refl
taken-again (suc k) [] = refl
taken-again (suc k) (byte ∷ bytes) = ap (λ (l : List ℕ). byte ∷ l) (taken-again k bytes)

pub held-taken : (line : List ℕ) (size n : ℕ) → n ≡ length (held line size) → take n line ≡ held line size
held-taken line size n e = rw e (taken-again (min size 257) line)

pub held-within : (line : List ℕ) (size n : ℕ) → n ≡ length (held line size) → n ≤ length line
held-within line size n e = omega (arith, length-take (min size 257) line)

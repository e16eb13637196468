-- Laws of words that are stored into others from a place on. Assumes nothing.
use mathlib.Core.List.{List, ◌++◌, append-nil}
use Rattle.lockstep.specs.MachineWords.{fourth_at, third_at, second_at, records_at}
use mathlib.Core.Path.{◌≡◌, sym, ap, ◌∙◌}
use Prim.Native.Nat.{ℕ, ◌+◌, ◌≤◌}
use native.Mathlib.Omega.{arith}
use lib.ListN.{length, length-append, length-drop, length-take, drop, drop_of_length-le, take-append-drop}
use lib.Seq.{sets, sets-eq, take-add}
use Rattle.processor.specs.Record.{record_words, part}
use Rattle.script.proofs.StoredTexts.{sets-append}

-- Words that fill an array are all that it then holds.
pub filled : (to from : List ℕ) → length from ≡ length to → sets to 0 from ≡ from
filled to from e =
    let all : length to ≤ 0 + length from = omega arith in
    sets-eq from to 0 (omega arith) ∙ rw (drop_of_length-le to all) (append-nil from)

-- A part of words has its length, and fills an array of that length.
module _ (ws : List ℕ) (at n : ℕ) (h : at + n ≤ length ws) where
  pub part_length : length (part at n ws) ≡ n
  part_length = length-take n (drop at ws) ∙ omega (arith, length-drop at ws)

  pub part_filled : (to : List ℕ) → length to ≡ n → sets to 0 (part at n ws) ≡ part at n ws
  part_filled to e = filled to (part at n ws) (part_length ∙ sym e)

  -- Stored where it stands it changes nothing.
  pub put_back : sets ws at (part at n ws) ≡ ws
  put_back =
      sets-eq (part at n ws) ws at (omega (arith, part_length))
      ∙ rw (part_length, ← take-add at n ws) (take-append-drop (at + n) ws)

-- Words stored right behind others.
pub behind : (first buffer : List ℕ) (at place : ℕ) (second : List ℕ) → at + length first ≡ place
    → sets (sets buffer at first) place second ≡ sets buffer at (first ++ second)
behind first buffer at place second e =
    ap (λ (i : ℕ). sets (sets buffer at first) i second) (sym e) ∙ sets-append first buffer at second

-- The parts of a machine, stored one behind the other.
module _ (ws levels masks a b c d : List ℕ) (levels-length : length levels ≡ 6) (masks-length : length masks ≡ 256)
    (a-length : length a ≡ record_words) (b-length : length b ≡ record_words) (c-length : length c ≡ record_words)
  where
    pub parts-stored :
        sets (sets (sets (sets (sets (sets ws 6 levels) 12 masks) records_at a) second_at b) third_at c) fourth_at d
        ≡ sets ws 6 (levels ++ masks ++ (a ++ b ++ c ++ d))
    parts-stored =
        let front = sets (sets ws 6 levels) 12 masks in
        ap (λ (w : List ℕ). sets (sets w third_at c) fourth_at d) (behind a front records_at second_at b (omega arith))
        ∙ ap (λ (w : List ℕ). sets w fourth_at d) (behind (a ++ b) front records_at third_at c (omega (arith, length-append a b)))
        ∙ behind (a ++ b ++ c) front records_at fourth_at d (omega (arith, length-append a b, length-append (a ++ b) c))
        ∙ ap (λ (w : List ℕ). sets w records_at (a ++ b ++ c ++ d)) (behind levels ws 6 12 masks (omega arith))
        ∙ behind (levels ++ masks) ws 6 records_at (a ++ b ++ c ++ d) (omega (arith, length-append levels masks))

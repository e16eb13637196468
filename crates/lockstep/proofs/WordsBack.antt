-- The words of a state that stands in parts are the words of its parts: each part is read back from the state. Assumes nothing.
use mathlib.Core.List.{List, [], ◌∷◌, ◌++◌, append_assoc, append-nil}
use mathlib.Core.Path.{◌≡◌, sym, ap, ◌∙◌}
use Prim.Native.Nat.{ℕ, suc, ◌+◌, ◌*◌, ◌<◌}
use native.Mathlib.Omega.{arith}
use lib.ListN.{get_or, length, take}
use lib.Seq.{append_snoc, take-add, take_all, take-suc}
use Rattle.model.specs.declared.machine.Setup.{Setup}
use Rattle.partition.specs.PartitionView.{partition_of}
use Rattle.processor.proofs.RecordWords.{row-length}
use Rattle.processor.specs.Record.{record_words, levels, level_words, context_in, context_of, part, row_of, vp_of, vps_of}
use Rattle.state.specs.Lent.{lent, machine_of}
use Rattle.lockstep.specs.MachineWords.{PartSizes, context_words, flat, levels_of, parts_of, record_of, records_of, rows_of}

-- The first words of a list, and one word or a part behind them.
module _ (ws : List ℕ) where
  one : (i : ℕ) (rest : List ℕ) → i < length ws → take i ws ++ (get_or ws i 0 ∷ rest) ≡ take (suc i) ws ++ rest
  one i rest h =
      sym (append_snoc (take i ws) (get_or ws i 0) rest) ∙ ap (λ (l : List ℕ). l ++ rest) (sym (take-suc ws i 0 h))

  more : (i n : ℕ) (rest : List ℕ) → take i ws ++ (part i n ws ++ rest) ≡ take (i + n) ws ++ rest
  more i n rest =
      sym (append_assoc (take i ws) (part i n ws) rest) ∙ ap (λ (l : List ℕ). l ++ rest) (sym (take-add i n ws))

  all : (n : ℕ) → length ws ≡ n → take n ws ++ [] ≡ ws
  all n e = append-nil (take n ws) ∙ take_all n ws (omega arith)

-- The row of a level.
context-back : (row : List ℕ) → length row ≡ level_words → context_words (context_of row) ≡ row
unfolding context_words context_of
context-back row e =
    simp append_assoc
    (one row 13 _ (omega arith)
    ∙ more row 14 4 _
    ∙ more row 18 4 _
    ∙ one row 22 _ (omega arith)
    ∙ one row 23 _ (omega arith)
    ∙ one row 24 _ (omega arith)
    ∙ one row 25 _ (omega arith)
    ∙ one row 26 _ (omega arith)
    ∙ one row 27 _ (omega arith)
    ∙ one row 28 _ (omega arith)
    ∙ all row level_words e)

-- The record of a processor.
rows_back : (ws : List ℕ) → length ws ≡ record_words
    → get_or ws 0 0 ∷ get_or ws 1 0 ∷ part 2 20 ws ++ (row_of ws 0 ++ (row_of ws 1 ++ (row_of ws 2 ++ (row_of ws 3 ++ [])))) ≡ ws
unfolding row_of
rows_back ws e =
    one ws 0 _ (omega arith)
    ∙ one ws 1 _ (omega arith)
    ∙ more ws 2 20 _
    ∙ more ws levels level_words _
    ∙ more ws (levels + level_words * 1) level_words _
    ∙ more ws (levels + level_words * 2) level_words _
    ∙ more ws (levels + level_words * 3) level_words _
    ∙ all ws record_words e

pub record-back : (ws : List ℕ) → length ws ≡ record_words → record_of (vp_of ws) ≡ ws
unfolding record_of vp_of rows_of context_in
record-back ws e = rw (row 0 (omega arith), row 1 (omega arith), row 2 (omega arith), row 3 (omega arith)) (rows_back ws e)
  where
    row : (l : ℕ) → l < 4 → context_words (context_of (row_of ws l)) ≡ row_of ws l
    row l h = context-back (row_of ws l) (row-length ws l e h)

-- What the partition holds of its levels.
pub levels-back : (levels masks : List ℕ) → length levels ≡ 6 → levels_of (partition_of levels masks) ≡ levels
unfolding partition_of
levels-back levels masks e =
    one levels 0 _ (omega arith)
    ∙ one levels 1 _ (omega arith)
    ∙ one levels 2 _ (omega arith)
    ∙ one levels 3 _ (omega arith)
    ∙ one levels 4 _ (omega arith)
    ∙ one levels 5 _ (omega arith)
    ∙ all levels 6 e

-- All parts.
pub parts-back : (setup : Setup) (levels masks : List ℕ) (vps : List (List ℕ)) (words : List ℕ) → PartSizes levels masks vps
    → parts_of (lent setup levels masks vps words) ≡ levels ++ masks ++ flat vps ++ words
unfolding parts_of machine_of partition_of records_of
parts-back setup levels masks vps words sizes =
    ap (λ (l : List ℕ). l ++ masks ++ records_of (vps_of vps) ++ words)
    (levels-back levels masks sizes.levels-length)
    ∙ rw (
      record-back (get_or vps 0 []) sizes.first-length,
      record-back (get_or vps 1 []) sizes.second-length,
      record-back (get_or vps 2 []) sizes.third-length,
      record-back (get_or vps 3 []) sizes.fourth-length,
    )
    (simp (append_assoc, append-nil))

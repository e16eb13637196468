-- What the partition holds of its levels, as code lends and changes it. Six words: word 0 is the set of the levels that are enabled
-- for the partition, word 1 the set of those that it has MBEC for, and words 2 to 5 are the configuration words of the levels 0
-- to 3. The 256 masks are lent as they are. Assumes nothing.
use Rattle.std.specs.Prelude.{List, [], ◌∷◌, ℕ, get_or}
use Rattle.model.specs.declared.machine.Partition.{Partition}
use Rattle.model.specs.declared.set.LevelSet.{LevelSet}
use Rattle.model.specs.State.{level_set}

-- The two sets, and the configuration words.
abbrev pub enabled_in : List ℕ → LevelSet
enabled_in levels = level_set (get_or levels 0 0)

abbrev pub mbec_in : List ℕ → LevelSet
mbec_in levels = level_set (get_or levels 1 0)

abbrev pub configs_in : List ℕ → List ℕ
configs_in levels = get_or levels 2 0 ∷ get_or levels 3 0 ∷ get_or levels 4 0 ∷ get_or levels 5 0 ∷ []

-- The record that the words and the masks stand for. No two arrays of six words stand for one record (`partition-one` of
-- proofs/PartitionWords.antt).
unfoldable pub partition_of : List ℕ → List ℕ → Partition
partition_of levels masks = record { enabled = enabled_in levels; mbec = mbec_in levels; configs = configs_in levels; masks = masks }

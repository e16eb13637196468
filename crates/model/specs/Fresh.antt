-- The fresh machine of a first line (01, "The bench model"). Assumes nothing.
use Rattle.std.specs.Prelude.{Bool, ◌&&◌, leb, eqb, replicate}
use Rattle.model.specs.Masks.{valid_mask}
use Rattle.model.specs.State.{State, FirstLine, Partition, VirtualProcessor, LevelSet, level, level_set, in_range, no_context}

-- Sizes in range, Dr6Shared 0 or 1, a valid host mask, and SMEP 0 or 1 (02, request 1).
unfoldable pub admissible : FirstLine → Bool
admissible f =
    in_range f.processors f.max_level.0 f.pages && leb f.dr6_shared 1 && valid_mask f.host_mask && leb f.smep 1

-- Level 0 alone enabled and active; all registers, TPR classes, reasons and control records 0, no lock or pending vector.
abbrev pub level_zero_alone : LevelSet
level_zero_alone = level_set 1

abbrev pub fresh_vp : VirtualProcessor
fresh_vp = record { active = level 0; enabled = level_zero_alone; shared = replicate 20 0; contexts = replicate 4 no_context }

-- No MBEC, the configuration word 62, page masks 15.
abbrev pub fresh_partition : Partition
fresh_partition = record { enabled = level_zero_alone; mbec = level_set 0; configs = replicate 4 62; masks = replicate 256 15 }

-- The words of all pages 0, one host mask for all pages.
unfoldable pub fresh : FirstLine → State
fresh f = record {
  machine = record {
    processors = f.processors;
    pages = f.pages;
    host_mask = f.host_mask;
    shape = record { max_level = f.max_level; dr6_shared = eqb f.dr6_shared 1; smep = eqb f.smep 1 };
    partition = fresh_partition;
    vps = replicate 4 fresh_vp;
  };
  words = replicate f.pages 0;
}

-- What the partition holds in six words: what is read from them, what they stand for after a store, and that no two arrays of six
-- words stand for one record. Assumes nothing.
use mathlib.Core.Path.{◌≡◌, sym, ap, ◌∙◌}
use mathlib.Core.Bool.{Bool, true, cond, ◌&&◌, and-true, and-false}
use mathlib.Core.List.{List}
use Prim.Native.Nat.{ℕ, zero, suc, ◌+◌, ◌≤◌, ◌<◌}
use native.Mathlib.Omega.{arith}
use lib.ListN.{get_or, length, length-set, set}
use lib.Seq.{get_or-set_same, get_or-set_other, ext_get_or}
use lib.Dec.{leb, ltb}
use borrow.Author.Tests.{lt-ltb, le-ltb}
use Rattle.model.proofs.Four.{four-at, four-set}
use Rattle.model.specs.declared.machine.Shape.{Shape}
use Rattle.model.specs.declared.set.LevelSet.{LevelSet}
use Rattle.model.specs.Arrays.{number_at, stored}
use Rattle.model.specs.State.{top, is_level, config_in}
use Rattle.model.specs.Updates.{enable_level, set_config, with_level}
use Rattle.partition.specs.PartitionView.{enabled_in, mbec_in, configs_in, partition_of}
use Rattle.partition.proofs.MaskPlaces.{stored-in, stored_past}

-- The configuration word of one of four levels, and of one above them.
pub config-in : (z : Shape) (ws : List ℕ) (l : ℕ) → l < 4 → (b : Bool) → (ltb 0 l && leb l z.max_level.0) ≡ b → cond b (get_or ws (2 + l) 0) 0 ≡ config_in z (configs_in ws) l
unfolding config_in is_level top number_at
config-in z ws l h b e = rw (lt-ltb l 4 h, and-true (leb l z.max_level.0), e) (ap (λ w. cond b w 0) (sym (four-at (λ l. get_or ws (2 + l) 0) 0 l h)))

pub config-none : (z : Shape) (ws : List ℕ) (l : ℕ) → 4 ≤ l → 0 ≡ config_in z (configs_in ws) l
unfolding config_in is_level
config-none z ws l h = rw (le-ltb l 4 h, and-false (leb l (top z)), and-false (ltb 0 l))

-- Both sets replaced.
module _ (ws : List ℕ) (size : length ws ≡ 6) (x y : LevelSet) where
  abbrev pub with_sets : List ℕ
  with_sets = set (set ws 0 x.0) 1 y.0

  sets_first : get_or with_sets 0 0 ≡ x.0
  sets_first = get_or-set_other (set ws 0 x.0) 1 0 y.0 0 (λ q. omega arith) ∙ get_or-set_same ws 0 x.0 0 (omega arith)

  sets-second : get_or with_sets 1 0 ≡ y.0
  sets-second = get_or-set_same (set ws 0 x.0) 1 y.0 0 (omega (arith, length-set ws 0 x.0))

  sets-rest : (i : ℕ) → 1 < i → get_or with_sets i 0 ≡ get_or ws i 0
  sets-rest i h = get_or-set_other (set ws 0 x.0) 1 i y.0 0 (λ q. omega arith) ∙ get_or-set_other ws 0 i x.0 0 (λ q. omega arith)

pub level-enabled : (z : Shape) (ws : List ℕ) (l : ℕ) (mbec : Bool) (x y : LevelSet) (masks : List ℕ) → length ws ≡ 6 →
    x ≡ with_level z (enabled_in ws) l true → y ≡ with_level z (mbec_in ws) l mbec → partition_of (set (set ws 0 x.0) 1 y.0) masks ≡ enable_level z (partition_of ws masks) l mbec
unfolding partition_of enable_level
level-enabled z ws l mbec x y masks size p q =
    rw (sets_first ws size x y, sets-second ws size x y, sets-rest ws size x y 2 (omega arith), sets-rest ws size x y 3 (omega arith), sets-rest ws size x y 4 (omega arith), sets-rest ws size x y 5 (omega arith), ← p, ← q)

-- A configuration word stored.
module _ (ws : List ℕ) (l w : ℕ) (masks : List ℕ) where
  pub config-stored : length ws ≡ 6 → l < 4 → partition_of (set ws (2 + l) w) masks ≡ set_config (partition_of ws masks) l w
  unfolding partition_of set_config
  config-stored size h =
      let configs : configs_in (set ws (2 + l) w) ≡ stored 4 (configs_in ws) l w =
      four-set (λ i. get_or ws (2 + i) 0) (λ i. get_or (set ws (2 + l) w) (2 + i) 0) l h (λ i b n. get_or-set_other ws (2 + l) (2 + i) w 0 (λ q. omega (arith, n)))
      ∙ ap (set (configs_in ws) l) (get_or-set_same ws (2 + l) w 0 (omega arith)) ∙ stored-in 4 (configs_in ws) l w h in
      rw (get_or-set_other ws (2 + l) 0 w 0 (λ q. omega arith), get_or-set_other ws (2 + l) 1 w 0 (λ q. omega arith)) (λ i. record { enabled = enabled_in ws; mbec = mbec_in ws; configs = configs i; masks = masks })

  pub config-past : 4 ≤ l → partition_of ws masks ≡ set_config (partition_of ws masks) l w
  unfolding partition_of set_config
  config-past h = λ i. record { enabled = enabled_in ws; mbec = mbec_in ws; configs = stored_past 4 (configs_in ws) l w h i; masks = masks }

-- Words and masks that stand for one record are the same.
pub partition-one : (ws ws' ks ks' : List ℕ) → length ws ≡ 6 → length ws' ≡ 6 → partition_of ws ks ≡ partition_of ws' ks' → (ws ≡ ws') × (ks ≡ ks')
unfolding partition_of
partition-one ws ws' ks ks' n n' e = (ext_get_or 0 ws ws' (n ∙ sym n') (λ i h. each i (omega arith)), ap (λ x. x.masks) e)
  where
    each : (i : ℕ) → i < 6 → get_or ws i 0 ≡ get_or ws' i 0
    each zero h = ap (λ x. x.enabled.0) e
    each (suc zero) h = ap (λ x. x.mbec.0) e
    each (suc (suc zero)) h = ap (λ x. get_or x.configs 0 0) e
    each (suc (suc (suc zero))) h = ap (λ x. get_or x.configs 1 0) e
    each (suc (suc (suc (suc zero)))) h = ap (λ x. get_or x.configs 2 0) e
    each (suc (suc (suc (suc (suc zero))))) h = ap (λ x. get_or x.configs 3 0) e
    each (suc (suc (suc (suc (suc (suc i)))))) h = absurd (omega arith)

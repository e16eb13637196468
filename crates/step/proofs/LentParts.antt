-- The parts of the lent state: it has them, and it has the parts that a function leaves. Assumes nothing.
use mathlib.Core.Path.{◌≡◌, refl, sym, ap, ◌∙◌}
use mathlib.Core.Bool.{Bool, true, false, ◌&&◌, or-true, and-false}
use mathlib.Core.List.{List, []}
use Prim.Native.Nat.{ℕ, ◌<◌}
use lib.Dec.{ltb}
use lib.ListN.{get_or, set, length}
use lib.Seq.{get_or-set_same, get_or-set_other}
use native.Mathlib.Omega.{arith}
use borrow.Author.Tests.{ltb-true, lt-ltb}
use Rattle.word.specs.Field.{bit}
use Rattle.model.proofs.Bools.{and_right}
use Rattle.model.proofs.BoundedLaws.{any_at, any_none}
use Rattle.model.proofs.Four.{four-at, four-set}
use Rattle.model.specs.declared.machine.Setup.{Setup}
use Rattle.model.specs.Arrays.{stored}
use Rattle.model.specs.State.{State, active_of, active, processors, shape, pages, partition, is_index, is_level, is_processor, in_set, vp, past_vp, enabled_at, enabled_on, enabled_anywhere}
use Rattle.model.specs.Updates.{with_vps, put_vp, put_partition}
use Rattle.partition.specs.PartitionView.{partition_of}
use Rattle.processor.specs.Record.{vp_of, vps_of}
use Rattle.promise.specs.Promise.{Runs, Acts, Elsewhere, Lends}
use Rattle.access_events.specs.Access.{put_access}
use Rattle.state.specs.Lent.{machine_of, lent}

-- A record among four, read and stored.
pub vps-at : (rows : List (List ℕ)) (w : ℕ) → w < 4 → get_or (vps_of rows) w past_vp ≡ vp_of (get_or rows w [])
vps-at rows w h = four-at (λ i. vp_of (get_or rows i [])) past_vp w h

vps-set : (rows : List (List ℕ)) (w : ℕ) (row : List ℕ) → length rows ≡ 4 → w < 4 → vps_of (set rows w row) ≡ set (vps_of rows) w (vp_of row)
vps-set rows w row size h =
    four-set (λ i. vp_of (get_or rows i [])) (λ i. vp_of (get_or (set rows w row) i [])) w h (λ i b n. ap vp_of (get_or-set_other rows w i row [] n))
    ∙ ap (λ (x : List ℕ). set (vps_of rows) w (vp_of x)) (get_or-set_same rows w row [] (omega arith))

pub index-low : (n v : ℕ) → is_index n v ≡ true → v < 4
index-low n v h = ltb-true v 4 (and_right (ltb v n) (ltb v 4) h)

-- A level that is enabled on some processor is one of the machine's; one that is enabled on none is not enabled on this one.
level-somewhere : (s : State) (t : ℕ) → enabled_anywhere s t ≡ true → is_level (shape s) t ≡ true
unfolding enabled_anywhere enabled_on enabled_at in_set
level-somewhere s t e = go (is_level (shape s) t) refl
  where
    go : (b : Bool) → is_level (shape s) t ≡ b → b ≡ true
    go true i = refl
    go false i = sym (any_none 4 (λ v. is_level (shape s) t && bit (vp s v).enabled.0 t) (λ v l. rw i)) ∙ e

nowhere-on : (s : State) (t w : ℕ) → w < 4 → enabled_anywhere s t ≡ false → enabled_on s w t ≡ false
unfolding enabled_anywhere
nowhere-on s t w l e = any_at 4 (λ v. enabled_on s v t) e w l

module _ (setup : Setup) (levels masks : List ℕ) (rows : List (List ℕ)) (words : List ℕ) where
  abbrev s : State
  s = lent setup levels masks rows words

  pub lends : Lends setup.host_mask words s
  unfolding machine_of
  lends = record { host = refl; words = refl }

  pub shaped : shape s ≡ setup.shape
  unfolding shape machine_of
  shaped = refl

  pub keeps : partition s ≡ partition_of levels masks
  unfolding partition machine_of
  keeps = refl

  -- A processor that is there: its record, read and stored.
  module _ (w : ℕ) (h : is_index setup.processors w ≡ true) where
    pub there : is_processor s w ≡ true
    unfolding is_processor processors machine_of
    there = h

    holds : vp s w ≡ vp_of (get_or rows w [])
    unfolding vp is_processor processors machine_of
    holds = rw h (vps-at rows w (index-low setup.processors w h))

    pub runs : Runs setup.shape (vp_of (get_or rows w [])) s w
    runs = record { shaped = shaped; there = there; holds = holds }

    pub acting : (l : ℕ) → l ≡ active_of (vp_of (get_or rows w [])) → active s w ≡ l
    unfolding active
    acting l e = ap active_of holds ∙ sym e

    pub acts : (l : ℕ) → l ≡ active_of (vp_of (get_or rows w [])) → Acts setup.shape setup.pages (partition_of levels masks) l s w
    unfolding pages machine_of
    acts l e = record { shaped = shaped; paged = refl; keeps = keeps; actor = acting l e }

    -- A level that is enabled on some processor is enabled on this one, or is told to be elsewhere.
    enabled-here : (t : ℕ) → enabled_on s w t ≡ enabled_at setup.shape (vp_of (get_or rows w [])) t
    unfolding enabled_on
    enabled-here t = rw (shaped, holds)

    pub others : (t : ℕ) (elsewhere : Bool) → enabled_anywhere s t ≡ elsewhere → Elsewhere setup.shape (vp_of (get_or rows w [])) t elsewhere s
    others t true e =
        let level : is_level setup.shape t ≡ true = rw shaped at (level-somewhere s t e) in
        record { anywhere = e ∙ sym (rw level (or-true (enabled_at setup.shape (vp_of (get_or rows w [])) t))) }
    others t false e =
        let off : enabled_at setup.shape (vp_of (get_or rows w [])) t ≡ false = sym (enabled-here t) ∙ nowhere-on s t w (index-low setup.processors w h) e in
        record { anywhere = e ∙ sym (rw off (and-false (is_level setup.shape t))) }

    pub record-left : (row : List ℕ) → length rows ≡ 4 → put_vp s w (vp_of row) ≡ lent setup levels masks (set rows w row) words
    unfolding put_vp stored machine_of
    record-left row size =
        rw (lt-ltb w 4 (index-low setup.processors w h)) (ap (λ ps. record { machine = with_vps (machine_of setup levels masks rows) ps; words = words }) (sym (vps-set rows w row size (index-low setup.processors w h))))

    pub access-left : (row words' : List ℕ) → length rows ≡ 4 → put_access s w (vp_of row) words' ≡ lent setup levels masks (set rows w row) words'
    access-left row words' size = ap (λ (t : State). record { machine = t.machine; words = words' }) (record-left row size)

  -- What the partition holds.
  pub partition-left : (levels' masks' : List ℕ) → put_partition s (partition_of levels' masks') ≡ lent setup levels' masks' rows words
  unfolding put_partition machine_of
  partition-left levels' masks' = refl

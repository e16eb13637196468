-- The words of a machine that was opened by an admissible first line: they are those of the fresh machine, and stand for it. Assumes nothing.
use mathlib.Core.Bool.{Bool, true, ◌&&◌}
use mathlib.Core.List.{List, ◌∷◌, ◌++◌}
use mathlib.Core.Path.{◌≡◌, refl, sym, ap, ◌∙◌}
use Prim.Native.Nat.{ℕ, zero, suc, ◌≤◌, ◌<◌, min}
use native.Mathlib.Omega.{arith}
use borrow.Author.Tests.{le-leb, leb-true}
use lib.Dec.{eqb, leb}
use lib.ListN.{get_or, length, length-replicate, replicate, take}
use lib.Seq.{get_or-take, length-sets, sets}
use Rattle.model.proofs.Bools.{and_left, and_right}
use Rattle.model.proofs.FreshFormed.{few-pages}
use Rattle.model.specs.Fresh.{admissible, fresh, fresh_partition, fresh_vp}
use Rattle.model.specs.Masks.{valid_mask}
use Rattle.model.specs.State.{State, in_range}
use Rattle.model.specs.Updates.{with_masks}
use Rattle.model.specs.declared.machine.FirstLine.{FirstLine}
use Rattle.model.specs.declared.machine.Setup.{Setup}
use Rattle.partition.specs.PartitionView.{partition_of}
use Rattle.processor.specs.Record.{vp_of}
use Rattle.state.proofs.FreshMachine.{fresh-machine}
use Rattle.state.specs.Lent.{lent, setup_of}
use Rattle.lockstep.specs.LockstepParts.{OpenedAs, setup_said}
use Rattle.lockstep.specs.MachineWords.{machine_words, words_at, PartSizes, flag_word, flat, lent_words, parts_of, setup_in, setup_words, state_in, words_of}
use Rattle.lockstep.proofs.StateStored.{part-stored, state-read, state-words}
use Rattle.lockstep.proofs.StoredWords.{behind}

-- A flag is 0 or 1.
flag-back : (w : ℕ) → w ≤ 1 → flag_word (eqb w 1) ≡ w
flag-back zero h = refl
flag-back (suc zero) h = refl
flag-back (suc (suc w)) h = absurd (omega arith)

-- Zeros taken from zeros.
zeros-taken : (n m : ℕ) → n ≤ m → take n (replicate {A = ℕ} m 0) ≡ replicate n 0
zeros-taken zero m h = refl
zeros-taken (suc n) zero h = absurd (omega arith)
zeros-taken (suc n) (suc m) h = ap (λ (l : List ℕ). 0 ∷ l) (zeros-taken n m (omega arith))

module _ (f : FirstLine) (h : admissible f ≡ true) where
  abbrev sized : Bool
  sized = in_range f.processors f.max_level.0 f.pages

  abbrev shared : Bool
  shared = leb f.dr6_shared 1

  abbrev masked : Bool
  masked = valid_mask f.host_mask

  smep-known : f.smep ≤ 1
  unfolding admissible
  smep-known = leb-true f.smep 1 (and_right (sized && shared && masked) (leb f.smep 1) h)

  shared-known : f.dr6_shared ≤ 1
  unfolding admissible
  shared-known =
      leb-true f.dr6_shared 1
      (and_right sized shared (and_left (sized && shared) masked (and_left (sized && shared && masked) (leb f.smep 1) h)))

  setup-said : setup_said f ≡ setup_words (fresh f).machine
  unfolding fresh
  setup-said = rw (flag-back f.dr6_shared shared-known, flag-back f.smep smep-known)

  module _ (ws : List ℕ) (room : machine_words ≤ length ws) where
    abbrev begun : List ℕ
    begun = sets ws 0 (setup_said f)

    said : (i : ℕ) → i < 6 → get_or begun i 0 ≡ get_or (setup_said f) i 0
    said i less =
        sym (get_or-take 6 begun i 0 less)
        ∙ ap (λ (l : List ℕ). get_or l i 0) (part-stored 0 6 (setup_said f) ws refl (omega arith))

    setup-read : setup_in begun ≡ setup_of f
    setup-read =
        rw (
          said 0 (omega arith),
          said 1 (omega arith),
          said 2 (omega arith),
          said 3 (omega arith),
          said 4 (omega arith),
          said 5 (omega arith),
          le-leb f.dr6_shared 1 shared-known,
          le-leb f.smep 1 smep-known,
        )

    count : f.pages ≡ lent_words begun
    count = sym (ap (λ (P : ℕ). min P 64) (said 2 (omega arith)) ∙ omega (arith, few-pages f h))

    module _ (levels masks vp : List ℕ) (sizes : PartSizes levels masks (replicate 4 vp))
        (sets-are : (ks : List ℕ) → partition_of levels ks ≡ with_masks fresh_partition ks) (masks-are : masks ≡ fresh_partition.masks)
        (vp-is : vp_of vp ≡ fresh_vp)
      where
        abbrev words : List ℕ
        words = take f.pages (replicate 64 0)

        made : lent (setup_of f) levels masks (replicate 4 vp) words ≡ fresh f
        unfolding fresh
        made = λ i. record {
          machine = fresh-machine f (setup_of f) levels masks vp refl sets-are masks-are vp-is i;
          words = zeros-taken f.pages 64 (few-pages f h) i;
        }

        words-length : length words ≡ f.pages
        words-length = ap length (zeros-taken f.pages 64 (few-pages f h)) ∙ length-replicate f.pages 0

        pub machine-opened : (after : List ℕ)
            → after ≡ sets (sets begun words_at words) 6 (levels ++ masks ++ flat (replicate 4 vp)) → OpenedAs f ws after
        unfolding words_of
        machine-opened after stored = record {
          words =
              stored
              ∙ state-words begun levels masks (replicate 4 vp) words sizes (setup_of f)
              ∙ behind (setup_said f) ws 0 6 (parts_of (lent (setup_of f) levels masks (replicate 4 vp) words)) refl
              ∙ ap (λ (s : State). sets ws 0 (setup_said f ++ parts_of s)) made
              ∙ ap (λ (l : List ℕ). sets ws 0 (l ++ parts_of (fresh f))) setup-said;
          state =
              ap state_in stored
              ∙ state-read begun levels masks (replicate 4 vp) words sizes (omega (arith, length-sets ws 0 (setup_said f))) f.pages
              (few-pages f h) words-length count
              ∙ ap (λ (setup : Setup). lent setup levels masks (replicate 4 vp) words) setup-read
              ∙ made;
        }

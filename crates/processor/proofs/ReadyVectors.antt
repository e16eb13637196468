-- The vectors of a level as code has them, in the words of its row (01, "Events": "Ready", and the events ack, ret and int). Assumes nothing.
use mathlib.Core.Path.{◌≡◌, ◌∙◌}
use mathlib.Core.List.{List, []}
use Rattle.std.specs.Prelude.{Option, Some, None}
use Prim.Native.Nat.{ℕ, ◌+◌, ◌*◌, ◌/◌, ◌^◌, ◌≤◌, ◌<◌}
use native.Mathlib.Omega.{arith}
use lib.ListN.{get_or}
use borrow.Author.Tests.{lt-ltb, le-ltb, ne_eqb}
use Rattle.model.proofs.BoundedLaws.{highest-cong, highest-is, highest-none}
use Rattle.model.proofs.Bools.{cond-holds}
use Rattle.model.proofs.Four.{four-at}
use Rattle.model.proofs.TopVectors.{top-vector, none-ready, top-bit-zero}
use Rattle.model.specs.declared.machine.Context.{Context}
use Rattle.model.specs.declared.machine.Shape.{Shape}
use Rattle.model.specs.Arrays.{number_at}
use Rattle.model.specs.Claims.{TopVectorDecides}
use Rattle.model.specs.Entry.{is_ready, highest_ready, top_bit, top_vector, top_word}
use Rattle.model.specs.State.{above_zero, is_level, is_pending, context, no_control, no_watch}
use Rattle.processor.specs.Record.{four_words, pending, vp_of, word_in}
use Rattle.processor.proofs.RecordStores.{tpr-read, pending-read}

-- A number within an array.
number_of : (xs : List ℕ) (i : ℕ) → i < 4 → number_at 4 xs i ≡ get_or xs i 0
unfolding number_at
number_of xs i h = rw (lt-ltb i 4 h)

-- The vector of the top word that is not 0; and 0 where all four are.
module _ (words : List ℕ) where
  pub top-at : (i : ℕ) → i < 4 → (get_or words i 0 ≡ 0 → ⊥) → ((k : ℕ) → i < k → k < 4 → get_or words k 0 ≡ 0)
      → 64 * i + top_bit (get_or words i 0) ≡ top_vector words
  unfolding top_vector top_word
  top-at i h some above =
      let top : top_word words ≡ i = highest-is 4 i _ h (rw (number_of words i h, ne_eqb _ 0 some)) (λ k a b. rw (number_of words k b, above k a b)) in
      rw (top, number_of words i h)

  pub top-none : ((k : ℕ) → k < 4 → get_or words k 0 ≡ 0) → 0 ≡ top_vector words
  unfolding top_vector top_word
  top-none none =
      let top : top_word words ≡ 0 = highest-none 4 _ (λ k b. rw (number_of words k b, none k b)) in
      rw (top, number_of words 0 (omega arith), none 0 (omega arith), top-bit-zero)

module _ (z : Shape) (ws : List ℕ) (l : ℕ) where
  -- The four pending words of the level, and what the search reads of it.
  abbrev pub pending_words : List ℕ
  pending_words = four_words z ws l pending

  abbrev vectors : Context
  vectors = record { registers = []; tpr = word_in z ws l 13; pending = pending_words; secure = []; control = no_control; watch = no_watch }

  word_at : (i : ℕ) → i < 4 → number_at 4 pending_words i ≡ word_in z ws l (14 + i)
  word_at i h = number_of pending_words i h ∙ four-at (λ i. word_in z ws l (14 + i)) 0 i h

  -- The search goes by a level's vectors alone.
  vectors-read : highest_ready vectors ≡ highest_ready (context z (vp_of ws) l)
  unfolding highest_ready is_pending is_ready
  vectors-read =
      highest-cong 256 _ _ (λ n h.
      let i : n / 64 < 4 = omega arith in
      let word : number_at 4 pending_words (n / 64) ≡ number_at 4 (context z (vp_of ws) l).pending (n / 64) = word_at (n / 64) i ∙ pending-read z ws l (n / 64) i in
      rw (word, tpr-read z ws l))

  -- Where every word of the record is a 64-bit word, the level's are.
  pub words-fit : ((i : ℕ) → get_or ws i 0 < 2 ^ 64) → (i : ℕ) → i < 4 → word_in z ws l (14 + i) < 2 ^ 64
  words-fit fits i h = cond-holds (λ n. n < 2 ^ 64) (is_level z l) _ 0 (fits _) (omega arith)

  -- So the vector of the top bit decides, by the class.
  module _ (fits : (i : ℕ) → i < 4 → word_in z ws l (14 + i) < 2 ^ 64) where
    decides : TopVectorDecides vectors
    decides = top-vector vectors (λ i h. rw (word_at i h) (fits i h))

    pub words-ready : word_in z ws l 13 < top_vector pending_words / 16 → Some (top_vector pending_words) ≡ above_zero (highest_ready (context z (vp_of ws) l))
    unfolding is_ready above_zero
    words-ready h =
        let some : top_vector pending_words ≡ 0 → ⊥ = λ e. omega arith in
        rw (← vectors-read, decides.ready (lt-ltb _ _ h), ne_eqb _ 0 some)

    pub words-unready : top_vector pending_words / 16 ≤ word_in z ws l 13 → ◌≡◌ {A = Option ℕ} None (above_zero (highest_ready (context z (vp_of ws) l)))
    unfolding is_ready above_zero
    words-unready h = rw (← vectors-read, none-ready vectors (decides.none (le-ltb _ _ h)))

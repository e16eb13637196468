-- The words of a machine after its parts were stored: they are the words of the state, and they stand for it. Assumes nothing.
use mathlib.Core.List.{List, [], ◌∷◌, ◌++◌, append_assoc}
use mathlib.Core.Path.{◌≡◌, refl, sym, ap, ◌∙◌}
use Prim.Native.Nat.{ℕ, suc, ◌+◌, ◌*◌, ◌≤◌, ◌<◌, min}
use native.Mathlib.Omega.{arith}
use lib.ListN.{get_or, length, length-append, set, take, drop}
use lib.Seq.{drop_at, get_or-set_other, length-sets, length-take-le, set_comm, sets, sets-eq, take_at}
use Rattle.model.specs.declared.machine.Setup.{Setup}
use Rattle.processor.proofs.RecordWords.{part-before, part-past}
use Rattle.processor.specs.Record.{record_words, part}
use Rattle.state.specs.Lent.{lent, machine_of}
use Rattle.lockstep.specs.MachineWords.{machine_words, words_at, fourth_at, third_at, second_at, records_at, PartSizes, flat, lent_words, parts_of, setup_in, state_in}
use Rattle.lockstep.proofs.StoredWords.{behind, parts-stored}
use Rattle.lockstep.proofs.WordsBack.{parts-back}

-- Words stored before others that were stored first.
one-before : (ys l : List ℕ) (i x j : ℕ) → i < j → set (sets l j ys) i x ≡ sets (set l i x) j ys
one-before [] l i x j h = refl
one-before (y ∷ ys) l i x j h =
    one-before ys (set l j y) i x (suc j) (omega arith)
    ∙ ap (λ (w : List ℕ). sets w (suc j) ys) (set_comm l j i y x (λ e. omega arith))

before : (xs l : List ℕ) (i j : ℕ) (ys : List ℕ) → i + length xs ≤ j → sets (sets l j ys) i xs ≡ sets (sets l i xs) j ys
before [] l i j ys h = refl
before (x ∷ xs) l i j ys h =
    ap (λ (w : List ℕ). sets w (suc i) xs) (one-before ys l i x j (omega arith))
    ∙ before xs (set l i x) (suc i) j ys (omega arith)

-- What is read after a store: a word before it, a part before or behind it, and what was stored.
word_kept : (ys l : List ℕ) (i j : ℕ) → i < j → get_or (sets l j ys) i 0 ≡ get_or l i 0
word_kept [] l i j h = refl
word_kept (y ∷ ys) l i j h =
    word_kept ys (set l j y) i (suc j) (omega arith) ∙ get_or-set_other l j i y 0 (λ e. omega arith)

module _ (at n : ℕ) where
  part-kept : (ys l : List ℕ) (j : ℕ) → at + n ≤ j → part at n (sets l j ys) ≡ part at n l
  part-kept [] l j h = refl
  part-kept (y ∷ ys) l j h = part-kept ys (set l j y) (suc j) (omega arith) ∙ part-past l at n j y h

  part-behind : (ys l : List ℕ) (j : ℕ) → j + length ys ≤ at → part at n (sets l j ys) ≡ part at n l
  part-behind [] l j h = refl
  part-behind (y ∷ ys) l j h = part-behind ys (set l j y) (suc j) (omega arith) ∙ part-before l at n j y (omega arith)

  pub part-stored : (xs l : List ℕ) → length xs ≡ n → at + n ≤ length l → part at n (sets l at xs) ≡ xs
  part-stored xs l e h =
      rw (
        sets-eq xs l at (omega arith),
        append_assoc (take at l) xs (drop (at + length xs) l),
        drop_at (take at l) (xs ++ drop (at + length xs) l) at (length-take-le at l (omega arith)),
      )
      (take_at xs (drop (at + length xs) l) n e)

-- Equal parts make equal states.
same-lent : {setup setup' : Setup} {levels levels' masks masks' a a' b b' c c' d d' words words' : List ℕ} → setup ≡ setup'
    → levels ≡ levels' → masks ≡ masks' → a ≡ a' → b ≡ b' → c ≡ c' → d ≡ d' → words ≡ words'
    → lent setup levels masks (a ∷ b ∷ c ∷ d ∷ []) words ≡ lent setup' levels' masks' (a' ∷ b' ∷ c' ∷ d' ∷ []) words'
same-lent p l m a b c d w = λ i. lent (p i) (l i) (m i) (a i ∷ b i ∷ c i ∷ d i ∷ []) (w i)

-- The parts of a machine, stored into words.
module _ (ws : List ℕ) (levels masks : List ℕ) (vps : List (List ℕ)) (words : List ℕ) (sizes : PartSizes levels masks vps) where
  abbrev a : List ℕ
  a = get_or vps 0 []

  abbrev b : List ℕ
  b = get_or vps 1 []

  abbrev c : List ℕ
  c = get_or vps 2 []

  abbrev d : List ℕ
  d = get_or vps 3 []

  abbrev parts : List ℕ
  parts = levels ++ masks ++ flat vps

  flat-length : length (flat vps) ≡ 4 * record_words
  flat-length =
      omega (
        arith,
        length-append a b,
        length-append (a ++ b) c,
        length-append (a ++ b ++ c) d,
        sizes.first-length,
        sizes.second-length,
        sizes.third-length,
        sizes.fourth-length,
      )

  -- The words of the pages were stored first, and the other parts before them.
  pub state-words : (setup : Setup)
      → sets (sets ws words_at words) 6 parts ≡ sets ws 6 (parts_of (lent setup levels masks vps words))
  state-words setup =
      let size : 6 + length parts ≡ words_at = omega (arith, length-append levels masks, length-append (levels ++ masks) (flat vps), flat-length) in
      before parts ws 6 words_at words (omega arith)
      ∙ behind parts ws 6 words_at words size
      ∙ ap (sets ws 6) (sym (parts-back setup levels masks vps words sizes))

  -- The words of the setup stay, and each part is read back.
  abbrev nested : List ℕ
  nested = sets (sets (sets (sets (sets (sets (sets ws words_at words) 6 levels) 12 masks) records_at a) second_at b) third_at c) fourth_at d

  word_same : (i : ℕ) → i < 6 → get_or nested i 0 ≡ get_or ws i 0
  word_same i h =
      word_kept d _ i fourth_at (omega arith)
      ∙ word_kept c _ i third_at (omega arith)
      ∙ word_kept b _ i second_at (omega arith)
      ∙ word_kept a _ i records_at (omega arith)
      ∙ word_kept masks _ i 12 (omega arith)
      ∙ word_kept levels _ i 6 (omega arith)
      ∙ word_kept words ws i words_at (omega arith)

  module _ (room : machine_words ≤ length ws) (k : ℕ) (few : k ≤ 64) (words-length : length words ≡ k) where
    sized : (l l' : List ℕ) (j : ℕ) → machine_words ≤ length l → machine_words ≤ length (sets l j l')
    sized l l' j h = omega (arith, length-sets l j l')

    w0 : machine_words ≤ length (sets ws words_at words)
    w0 = sized ws words words_at room

    w1 : machine_words ≤ length (sets (sets ws words_at words) 6 levels)
    w1 = sized _ levels 6 w0

    w2 : machine_words ≤ length (sets (sets (sets ws words_at words) 6 levels) 12 masks)
    w2 = sized _ masks 12 w1

    w3 : machine_words ≤ length (sets (sets (sets (sets ws words_at words) 6 levels) 12 masks) records_at a)
    w3 = sized _ a records_at w2

    w4 : machine_words ≤ length (sets (sets (sets (sets (sets ws words_at words) 6 levels) 12 masks) records_at a) second_at b)
    w4 = sized _ b second_at w3

    w5 : machine_words ≤ length (sets (sets (sets (sets (sets (sets ws words_at words) 6 levels) 12 masks) records_at a) second_at b) third_at c)
    w5 = sized _ c third_at w4

    fourth-same : part fourth_at record_words nested ≡ d
    fourth-same = part-stored fourth_at record_words d _ sizes.fourth-length (omega (arith, w5))

    third-same : part third_at record_words nested ≡ c
    third-same = part-kept third_at record_words d _ fourth_at (omega arith) ∙ part-stored third_at record_words c _ sizes.third-length (omega (arith, w4))

    second-same : part second_at record_words nested ≡ b
    second-same =
        part-kept second_at record_words d _ fourth_at (omega arith)
        ∙ part-kept second_at record_words c _ third_at (omega arith)
        ∙ part-stored second_at record_words b _ sizes.second-length (omega (arith, w3))

    first-same : part records_at record_words nested ≡ a
    first-same =
        part-kept records_at record_words d _ fourth_at (omega arith)
        ∙ part-kept records_at record_words c _ third_at (omega arith)
        ∙ part-kept records_at record_words b _ second_at (omega arith)
        ∙ part-stored records_at record_words a _ sizes.first-length (omega (arith, w2))

    masks-same : part 12 256 nested ≡ masks
    masks-same =
        part-kept 12 256 d _ fourth_at (omega arith)
        ∙ part-kept 12 256 c _ third_at (omega arith)
        ∙ part-kept 12 256 b _ second_at (omega arith)
        ∙ part-kept 12 256 a _ records_at (omega arith)
        ∙ part-stored 12 256 masks _ sizes.masks-length (omega (arith, w1))

    levels-same : part 6 6 nested ≡ levels
    levels-same =
        part-kept 6 6 d _ fourth_at (omega arith)
        ∙ part-kept 6 6 c _ third_at (omega arith)
        ∙ part-kept 6 6 b _ second_at (omega arith)
        ∙ part-kept 6 6 a _ records_at (omega arith)
        ∙ part-kept 6 6 masks _ 12 (omega arith)
        ∙ part-stored 6 6 levels _ sizes.levels-length (omega (arith, w0))

    words_same : part words_at k nested ≡ words
    words_same =
        part-behind words_at k d _ fourth_at (omega (arith, sizes.fourth-length))
        ∙ part-behind words_at k c _ third_at (omega (arith, sizes.third-length))
        ∙ part-behind words_at k b _ second_at (omega (arith, sizes.second-length))
        ∙ part-behind words_at k a _ records_at (omega (arith, sizes.first-length))
        ∙ part-behind words_at k masks _ 12 (omega arith)
        ∙ part-behind words_at k levels _ 6 (omega arith)
        ∙ part-stored words_at k words ws words-length (omega arith)

    setup-same : setup_in nested ≡ setup_in ws
    setup-same =
        rw (
          word_same 0 (omega arith),
          word_same 1 (omega arith),
          word_same 2 (omega arith),
          word_same 3 (omega arith),
          word_same 4 (omega arith),
          word_same 5 (omega arith),
        )

    pub state-read : k ≡ lent_words ws → state_in (sets (sets ws words_at words) 6 parts) ≡ lent (setup_in ws) levels masks vps words
    unfolding state_in machine_of
    state-read e =
        let count : lent_words nested ≡ k = ap (λ (P : ℕ). min P 64) (word_same 2 (omega arith)) ∙ sym e in
        ap state_in
        (sym (parts-stored (sets ws words_at words) levels masks a b c d sizes.levels-length sizes.masks-length sizes.first-length sizes.second-length
        sizes.third-length))
        ∙ same-lent setup-same levels-same masks-same first-same second-same third-same fourth-same
        (ap (λ (n : ℕ). part words_at n nested) count ∙ words_same)

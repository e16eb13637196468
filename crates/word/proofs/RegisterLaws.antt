-- The laws of the registers of document 001: each is a whole word, and its two round trips hold. Each is a use of the laws
-- of layouts. Assumes nothing.
use Rattle.std.proofs.Common.{◌≡◌, ℕ, ◌^◌, ◌<◌, true, ◌↔◌, refl, ap, ◌∙◌}
use Rattle.word.specs.Layout.{width_of, low_bits, unpack, reserved_clear}
use Rattle.word.specs.RegisterLayouts.{Register, pack_as, unpack_as}
use Rattle.word.specs.RegisterLayouts.{capabilities, partition_status, vp_status, partition_config, secure_config, code_page_offsets, intercept_control}
use Rattle.word.proofs.LayoutLaws.{unpack-pack, pack-unpack, pack-lt, pack-clear}

-- What holds of a register.
pub record Whole {Structure : Type 0} (register : Register Structure) : Type 0 where
  -- Its layout is 64 bits wide.
  pub wide : width_of register.layout ≡ 64
  -- A packed structure is a word of 64 bits whose reserved fields are 0.
  pub packed_lt : (contents : Structure) → pack_as register contents < 2 ^ 64
  pub packed-clear : (contents : Structure) → reserved_clear register.layout (pack_as register contents) ≡ true
  -- A structure comes back with each value modulo 2 ^ width, and so as it was where each value fits its field.
  pub unpack-packed : (contents : Structure)
      → unpack_as register (pack_as register contents) ≡ register.structure (low_bits register.layout (register.values contents))
  pub unpack-fitting : (contents : Structure) → low_bits register.layout (register.values contents) ≡ register.values contents
      → unpack_as register (pack_as register contents) ≡ contents
  -- A word comes back exactly when its reserved fields are 0.
  pub pack-unpacked : (word : ℕ) → word < 2 ^ 64
      → (pack_as register (unpack_as register word) ≡ word) ↔ (reserved_clear register.layout word ≡ true)

-- All of it follows from the width, and from the structure and its list of values being each other's inverse.
pub whole : {Structure : Type 0} (register : Register Structure) → width_of register.layout ≡ 64
    → ((word : ℕ) → register.values (unpack_as register word) ≡ unpack register.layout word)
    → ((contents : Structure) → register.structure (register.values contents) ≡ contents) → Whole register
whole r wide values structure =
    record {
      wide = wide;
      packed_lt = λ s. rw wide at (pack-lt r.layout (r.values s));
      packed-clear = λ s. pack-clear r.layout (r.values s);
      unpack-packed = λ s. ap r.structure (unpack-pack r.layout (r.values s));
      unpack-fitting = λ s fits. ap r.structure (unpack-pack r.layout (r.values s) ∙ fits) ∙ structure s;
      pack-unpacked = λ w h. rw values (pack-unpack r.layout w (rw wide h));
    }

pub capabilities-whole : Whole capabilities
capabilities-whole = whole capabilities refl (λ w. refl) (λ s. refl)

pub partition-status-whole : Whole partition_status
partition-status-whole = whole partition_status refl (λ w. refl) (λ s. refl)

pub vp-status-whole : Whole vp_status
vp-status-whole = whole vp_status refl (λ w. refl) (λ s. refl)

pub partition-config-whole : Whole partition_config
partition-config-whole = whole partition_config refl (λ w. refl) (λ s. refl)

pub secure-config-whole : Whole secure_config
secure-config-whole = whole secure_config refl (λ w. refl) (λ s. refl)

pub code-page-offsets-whole : Whole code_page_offsets
code-page-offsets-whole = whole code_page_offsets refl (λ w. refl) (λ s. refl)

pub intercept-control-whole : Whole intercept_control
intercept-control-whole = whole intercept_control refl (λ w. refl) (λ s. refl)

-- Levels 0 and 1 enabled of at most 1, and MBEC at level 1, as a word.
pub partition-status-word :
    pack_as partition_status (record { enabled_vtl_set = 3; maximum_vtl = 1; mbec_enabled_vtl_set = 2 }) ≡ 2162691
partition-status-word = refl

-- The highest bit alone is Dr6Shared.
pub capabilities-word :
    unpack_as capabilities (2 ^ 63) ≡ record { deny_lower_vtl_startup = 0; mbec_vtl_mask = 0; dr6_shared = 1 }
capabilities-word = refl

-- Bits 0 to 4, 6 and 9 are all fields but ZeroMemoryOnReset; bits 7 and 8 are passed over.
pub partition-config-word :
    unpack_as partition_config 991 ≡ record {
      enable_vtl_protection = 1;
      default_vtl_protection_mask = 15;
      zero_memory_on_reset = 0;
      deny_lower_vtl_startup = 1;
      intercept_vp_startup = 1;
    }
partition-config-word = refl

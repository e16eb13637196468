-- The register words of document 001, in its order: the layout of each, and its structure packed into a word and
-- unpacked from one. Each stands under the name and the fields of its C type. Assumes nothing.
use Rattle.std.specs.Prelude.{ℕ, zero, suc, List, [], ◌∷◌, slice_index, slice_index_or}
use Rattle.word.specs.Layout.{Layout, used, reserved, pack, unpack}
use Rattle.word.specs.declared.registers.Capabilities.{Capabilities}
use Rattle.word.specs.declared.registers.PartitionStatus.{PartitionStatus}
use Rattle.word.specs.declared.registers.VpStatus.{VpStatus}
use Rattle.word.specs.declared.registers.PartitionConfig.{PartitionConfig}
use Rattle.word.specs.declared.registers.SecureConfig.{SecureConfig}
use Rattle.word.specs.declared.registers.CodePageOffsets.{CodePageOffsets}
use Rattle.word.specs.declared.intercept_control.InterceptControl.{InterceptControl}

-- A register: its layout, and its structure as the list of the values of the used fields, both ways.
pub record Register (Structure : Type 0) : Type 0 where
  pub layout : Layout
  pub values : Structure → List ℕ
  pub structure : List ℕ → Structure

-- The word of a structure.
abbrev pub pack_as : {Structure : Type 0} → Register Structure → Structure → ℕ
pack_as register contents = pack register.layout (register.values contents)

-- The structure of a word.
abbrev pub unpack_as : {Structure : Type 0} → Register Structure → ℕ → Structure
unpack_as register word = register.structure (unpack register.layout word)

-- HV_X64_REGISTER_VSM_CAPABILITIES, which 001 prints as a table of bits: 45:0 RsvdZ; 46 DenyLowerVtlStartup;
-- 62:47 MbecVtlMask; 63 Dr6Shared.
abbrev pub capabilities : Register Capabilities
capabilities =
    record {
      layout = reserved 46 ∷ used 1 ∷ used 16 ∷ used 1 ∷ [];
      values = λ s. s.deny_lower_vtl_startup ∷ s.mbec_vtl_mask ∷ s.dr6_shared ∷ [];
      structure = λ xs. record { deny_lower_vtl_startup = slice_index xs 0; mbec_vtl_mask = slice_index xs 1; dr6_shared = slice_index xs 2 };
    }

-- HV_REGISTER_VSM_PARTITION_STATUS: EnabledVtlSet : 16; MaximumVtl : 4; MbecEnabledVtlSet : 16; ReservedZ : 28.
abbrev pub partition_status : Register PartitionStatus
partition_status =
    record {
      layout = used 16 ∷ used 4 ∷ used 16 ∷ reserved 28 ∷ [];
      values = λ s. s.enabled_vtl_set ∷ s.maximum_vtl ∷ s.mbec_enabled_vtl_set ∷ [];
      structure = λ xs. record { enabled_vtl_set = slice_index xs 0; maximum_vtl = slice_index xs 1; mbec_enabled_vtl_set = slice_index xs 2 };
    }

-- HV_REGISTER_VSM_VP_STATUS: ActiveVtl : 4; ActiveMbecEnabled : 1; ReservedZ0 : 11; EnabledVtlSet : 16; ReservedZ1 : 32.
abbrev pub vp_status : Register VpStatus
vp_status =
    record {
      layout = used 4 ∷ used 1 ∷ reserved 11 ∷ used 16 ∷ reserved 32 ∷ [];
      values = λ s. s.active_vtl ∷ s.active_mbec_enabled ∷ s.enabled_vtl_set ∷ [];
      structure = λ xs. record { active_vtl = slice_index xs 0; active_mbec_enabled = slice_index xs 1; enabled_vtl_set = slice_index xs 2 };
    }

-- HV_REGISTER_VSM_PARTITION_CONFIG: EnableVtlProtection : 1; DefaultVtlProtectionMask : 4; ZeroMemoryOnReset : 1;
-- DenyLowerVtlStartup : 1; ReservedZ : 2; InterceptVpStartup : 1; ReservedZ : 54.
abbrev pub partition_config : Register PartitionConfig
partition_config =
    record {
      layout = used 1 ∷ used 4 ∷ used 1 ∷ used 1 ∷ reserved 2 ∷ used 1 ∷ reserved 54 ∷ [];
      values = λ s.
          s.enable_vtl_protection ∷ s.default_vtl_protection_mask ∷ s.zero_memory_on_reset
          ∷ s.deny_lower_vtl_startup ∷ s.intercept_vp_startup ∷ [];
      structure = λ xs. record {
        enable_vtl_protection = slice_index xs 0;
        default_vtl_protection_mask = slice_index xs 1;
        zero_memory_on_reset = slice_index xs 2;
        deny_lower_vtl_startup = slice_index xs 3;
        intercept_vp_startup = slice_index xs 4;
      };
    }

-- HV_REGISTER_VSM_VP_SECURE_VTL_CONFIG: MbecEnabled : 1; TlbLocked : 1; ReservedZ : 62.
abbrev pub secure_config : Register SecureConfig
secure_config =
    record {
      layout = used 1 ∷ used 1 ∷ reserved 62 ∷ [];
      values = λ s. s.mbec_enabled ∷ s.tlb_locked ∷ [];
      structure = λ xs. record { mbec_enabled = slice_index xs 0; tlb_locked = slice_index xs 1 };
    }

-- HV_REGISTER_VSM_CODE_PAGE_OFFSETS: VtlCallOffset : 12; VtlReturnOffset : 12; ReservedZ : 40.
abbrev pub code_page_offsets : Register CodePageOffsets
code_page_offsets =
    record {
      layout = used 12 ∷ used 12 ∷ reserved 40 ∷ [];
      values = λ s. s.vtl_call_offset ∷ s.vtl_return_offset ∷ [];
      structure = λ xs. record { vtl_call_offset = slice_index xs 0; vtl_return_offset = slice_index xs 1 };
    }

-- HV_REGISTER_CR_INTERCEPT_CONTROL: 25 fields of one bit each, Cr0Write : 1 to MsrSgxLaunchControlWrite : 1; RsvdZ : 39. Their names stand
-- at their positions in src/intercept_control.rt.
abbrev pub bit_fields : ℕ → Layout → Layout
bit_fields zero layout = layout
bit_fields (suc n) layout = used 1 ∷ bit_fields n layout

abbrev pub intercept_control : Register InterceptControl
intercept_control = record { layout = bit_fields 25 (reserved 39 ∷ []); values = λ s. s.values; structure = λ xs. record { values = xs } }

-- The layouts of all registers, in the order of 001.
abbrev pub layouts : List Layout
layouts =
    capabilities.layout ∷ partition_status.layout ∷ vp_status.layout
    ∷ partition_config.layout ∷ secure_config.layout ∷ code_page_offsets.layout ∷ intercept_control.layout ∷ []

-- The layout of a register by its number, from 0. Any other register has no fields.
abbrev pub layout_of : ℕ → Layout
layout_of register = slice_index_or layouts register []

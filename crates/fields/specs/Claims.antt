-- What is claimed of packing: where fields do not overlap, pack and unpack undo each other. The registers' fields do not.
use Rattle.std.specs.Prelude.{◌≡◌, List, [], ◌∷◌, ℕ, ◌+◌, ◌-◌, ◌*◌, ◌^◌, ◌≤◌}
use Rattle.std.specs.Int.Bits.{bit_and}
use Rattle.fields.specs.Layout.{Place, pack, unpack}
use Rattle.fields.specs.Registers as reg
use Rattle.fields.specs.View.{InRange, Unpacked, of_alloc_ctl, of_mon_ctl, held_alloc_ctl, held_mon_ctl}
use Rattle.fields.specs.declared.AllocCtl.{AllocCtl}
use Rattle.fields.specs.declared.MonCtl.{MonCtl}

-- each field ends at or below top, and the next one at or below this one's place: no two overlap
abbrev pub Ordered : List Place → ℕ → Type 0
Ordered [] top = Unit
Ordered (f ∷ fs) top = (f.width + f.place ≤ top) × Ordered fs f.place

-- the word whose named bits are all set
abbrev pub named : List Place → ℕ
named [] = 0
named (f ∷ fs) = (2 ^ f.width - 1) * 2 ^ f.place + named fs

-- no two fields overlap, all end at or below top, and these are the bits that they name
pub record Register (fs : List Place) (top mask : ℕ) : Type 0 where
  pub ordered : Ordered fs top
  pub names : named fs ≡ mask

pub record Packing : Type 0 where
  -- unpack after pack gives the values back
  pub packed : (fs : List Place) (top : ℕ) (vs : List ℕ) → Ordered fs top → InRange fs vs → unpack fs (pack fs vs) ≡ vs
  -- pack after unpack keeps exactly the named bits
  pub unpacked : (fs : List Place) (top word : ℕ) → Ordered fs top → pack fs (unpack fs word) ≡ bit_and word (named fs)
  -- and what was unpacked is in range
  pub fits : (fs : List Place) (word : ℕ) → InRange fs (unpack fs word)
  -- the registers
  pub alloc_ctl : Register reg.alloc_ctl 40 0xff000fffff
  pub mon_ctl : Register reg.mon_ctl 40 0xff1fffffff
  pub bw_alloc : Register reg.bw_alloc 32 0xfff0ffff
  pub bandwidth_counter : Register reg.bandwidth_counter 64 0xffff_ffff_ffff_ffff
  pub capacity_counter : Register reg.capacity_counter 64 0xffff_ffff_ffff_ffff
  pub bandwidth_capabilities : Register reg.bandwidth_capabilities 48 0xffff00ffffff
  pub capacity_capabilities : Register reg.capacity_capabilities 25 0x1ffffff
  pub counter_setting : Register reg.counter_setting 12 0xfff
  pub iommu_qosid : Register reg.iommu_qosid 28 0xfff0fff
  pub dc_ta : Register reg.dc_ta 64 0xffff_ff00_0000_0000
  pub waiter : Register reg.waiter 44 0xfff_ffff_ffff
  pub owner : Register reg.owner 20 0xfffff
  -- with NA = 1 the bits of AT and ATV are dropped too
  pub alloc_ctl1 : (word : ℕ) (r : AllocCtl) → Unpacked reg.alloc_ctl word (of_alloc_ctl r)
      → pack reg.alloc_ctl (of_alloc_ctl (held_alloc_ctl 1 r)) ≡ bit_and word 0xff000fff1f
  pub mon_ctl1 : (word : ℕ) (r : MonCtl) → Unpacked reg.mon_ctl word (of_mon_ctl r)
      → pack reg.mon_ctl (of_mon_ctl (held_mon_ctl 1 r)) ≡ bit_and word 0xff0fffff1f

use mathlib.Core.Path.{refl}
use Rattle.fields.specs.Claims.{Packing}
use Rattle.fields.proofs.Laws.{unpack_pack, pack_unpack, unpack_in_range}
use Rattle.fields.proofs.Registers as reg
use Rattle.fields.proofs.claims.Goals as goal

packing : Packing
packing = record {
  packed = unpack_pack;
  unpacked = pack_unpack;
  fits = unpack_in_range;
  alloc_ctl = record { ordered = reg.alloc_ctl_ordered; names = refl };
  mon_ctl = record { ordered = reg.mon_ctl_ordered; names = refl };
  bw_alloc = record { ordered = reg.bw_alloc_ordered; names = refl };
  bandwidth_counter = record { ordered = reg.bandwidth_counter_ordered; names = refl };
  capacity_counter = record { ordered = reg.capacity_counter_ordered; names = refl };
  bandwidth_capabilities = record { ordered = reg.bandwidth_capabilities_ordered; names = refl };
  capacity_capabilities = record { ordered = reg.capacity_capabilities_ordered; names = refl };
  counter_setting = record { ordered = reg.counter_setting_ordered; names = refl };
  iommu_qosid = record { ordered = reg.iommu_qosid_ordered; names = refl };
  dc_ta = record { ordered = reg.dc_ta_ordered; names = refl };
  waiter = record { ordered = reg.waiter_ordered; names = refl };
  owner = record { ordered = reg.owner_ordered; names = refl };
  alloc_ctl1 = λ w r u. cc (reg.alloc_ctl_kept_1 w);
  mon_ctl1 = λ w r u. cc (reg.mon_ctl_kept_1 w);
}

pub returns : goal.returns
returns c = packing

use Rattle.std.proofs.Common.{◌≡◌, drop, map}
use Rattle.cl_ptext.specs.HostTypes.{bounds_of, host_names}
use Rattle.cl_ptext.proofs.host_types.host_named.Given as goal

abbrev pub invariant-loop-host : goal.invariant-loop-host
invariant-loop-host g l = record {
  names : host_names l.name (map (λ h. (h.name, h.names.items)) (drop l.host-index l.hosts)) ≡ host_names l.name (map (λ h. (h.name, h.names.items)) l.hosts);
  bounds : bounds_of l.name (map (λ h. (h.name, h.low, h.high)) (drop l.host-index l.hosts)) ≡ bounds_of l.name (map (λ h. (h.name, h.low, h.high)) l.hosts);
}

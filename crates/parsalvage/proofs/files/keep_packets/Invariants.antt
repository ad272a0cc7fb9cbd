use Rattle.std.proofs.Common.{◌≡◌, ◌++◌, map, drop}
use Rattle.std.specs.Rc.{rc_slice_items}
use Rattle.parsalvage.specs.FileScans.{kept_packet_from}
use Rattle.parsalvage.proofs.files.keep_packets.Given as goal

-- the packets kept so far, followed by those that are left, are all packets
abbrev pub invariant-loop-packet : goal.invariant-loop-packet
invariant-loop-packet l =
    l.kept.items ++ map (kept_packet_from l.file (rc_slice_items l.store)) (drop l.packet-index l.packets)
    ≡ map (kept_packet_from l.file (rc_slice_items l.store)) l.packets

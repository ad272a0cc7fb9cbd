use Rattle.std.proofs.Common.{arith}
use Rattle.std.proofs.lemmas.Grind.{common_steps}
use Rattle.parsalvage.proofs.files.keep_packets.Goals as goal

pub returns-in_err-kept : goal.returns-in_err-kept
returns-in_err-kept c = grind (arith, common_steps) steps 100000

pub loop-packet-init : goal.loop-packet-init
loop-packet-init c = grind (arith, common_steps) steps 100000

pub offset_bounds-packets-packet-index : goal.offset_bounds-packets-packet-index
offset_bounds-packets-packet-index c = grind (arith, common_steps) steps 100000

pub bounds-packets-packet-index : goal.bounds-packets-packet-index
bounds-packets-packet-index c = grind (arith, common_steps) steps 100000

pub keep_packet-requires : goal.keep_packet-requires
keep_packet-requires c = grind (arith, common_steps) steps 100000

pub returns-in_err-keep_packet : goal.returns-in_err-keep_packet
returns-in_err-keep_packet c = grind (arith, common_steps) steps 100000

pub returns-in_err-push : goal.returns-in_err-push
returns-in_err-push c = grind (arith, common_steps) steps 400000

pub loop-packet-preserved : goal.loop-packet-preserved
loop-packet-preserved c = grind (arith, common_steps) steps 400000

pub returns : goal.returns
returns c = grind (arith, common_steps) steps 100000

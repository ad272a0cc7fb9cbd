use Rattle.std.proofs.Common.{refl}
use Rattle.parshelf.specs.Memory.{shelf_state_of, shelf_state_of-IsShelf, files_of}
use Rattle.parshelf.proofs.ReadLaws.{ReadsAs_fixed}
use Rattle.parreport.proofs.LeaveLaws.{packets_later, scanned_later}
use Rattle.runs_tests.proofs.tests.own_files.run_in_memory.Goals as goal

pub returns : goal.returns
returns c =
    let packets = c.args.packets.now in
    let packets_left = c.run.new.packets in
    let scanned = c.args.scanned.now in
    let scanned_left = c.run.new.scanned in
    let packets_fixed = (packets_later c.run.result (shelf_state_of packets) (shelf_state_of packets_left) c.run.ensures.packets).fixed in
    let scanned_fixed = (scanned_later c.run.result (shelf_state_of scanned) (shelf_state_of scanned_left) c.run.ensures.scanned).fixed in
    c.run.ensures.text (record { packets = files_of packets; scanned = files_of scanned }) (record {
      packets = ReadsAs_fixed (shelf_state_of packets) (shelf_state_of packets_left) (files_of packets) (shelf_state_of-IsShelf packets_left) packets_fixed refl;
      scanned = λ asked.
          ReadsAs_fixed (shelf_state_of scanned) (shelf_state_of scanned_left) (files_of scanned) (shelf_state_of-IsShelf scanned_left) scanned_fixed refl;
    })

use Rattle.std.proofs.Common.{◌≡◌, Err, IfOk, IfErr, length, refl, rules, sym}
use Rattle.std.proofs.lemmas.List.{length-map, map-id}
use Rattle.parplan.specs.Commands.{files_to_scan_of, scanned_paths_of}
use Rattle.parv.proofs.PerformedLaws.{Opens, opens, opens_same, opens_none, first_opened, first_unopened, performs}
use Rattle.parv.proofs.program.perform_words.Goals.{in-Ok-packets, in-Err-packets}
use Rattle.parv.proofs.program.perform_words.Goals as goal

pub returns : goal.returns
returns g c =
    let plan = c.in-Ok.plan in
    let opened = rw c.as_slice.ensures at c.open-packets.ensures in
    let packets : Opens plan.packets c.open-packets.result
    = opens plan.packets (length plan.packets) c.open-packets.result refl (rw (map-id plan.packets) at opened.paths)
    opened.state opened.fault in
    let scanned : IfOk c.open-packets.result (λ _. Opens (scanned_paths_of plan) c.match-packets.scanned)
    = elim c.match-packets.branch [
      | in-Ok-packets w ↦
          let also = rw w.files_to_scan.ensures.files at w.open-scanned.ensures in
          opens_same (scanned_paths_of plan) c.open-packets.result c.match-packets.scanned w.open-scanned.result w.scanned-is
          (opens (scanned_paths_of plan) (length (files_to_scan_of plan)) w.open-scanned.result
          (sym (length-map (files_to_scan_of plan) (λ file. file.path))) also.paths also.state also.fault)
      | in-Err-packets w ↦ opens_none (scanned_paths_of plan) c.open-packets.result c.match-packets.scanned _ w.in-Err-packets.is
    ] in
    let first : IfErr c.open-packets.result (λ why. c.match-packets.scanned ≡ Err why)
    = elim c.match-packets.branch [
      | in-Ok-packets w ↦ first_opened c.open-packets.result _ _ w.in-Ok-packets.is
      | in-Err-packets w ↦ first_unopened c.open-packets.result _ _ w.in-Err-packets.is w.scanned-is
    ] in
    performs plan _ _ _ c.open-packets.result c.match-packets.scanned c.in-Ok.ensures.plan packets scanned first
    (search rules) (search rules) (search rules) (search rules) (search rules)

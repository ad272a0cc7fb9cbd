use Rattle.parwindow.proofs.slice_laws.SearchLaws.{floor_from_ok, floor_from_err}
use Rattle.parwindow.proofs.slices.entries.first_not_below.Goals as goal

pub returns-in-Ok : goal.returns-in-Ok
returns-in-Ok c = floor_from_ok c.args.entries.now c.requires c.args.wanted.now c.in-Ok.at
    c.in-Ok.ensures.bound c.in-Ok.ensures.position

pub returns-in-Err : goal.returns-in-Err
returns-in-Err c = floor_from_err c.args.entries.now c.requires c.args.wanted.now c.in-Err.at
    c.in-Err.ensures.bound c.in-Err.ensures.position

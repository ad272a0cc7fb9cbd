use Rattle.std.proofs.Common.{◌+◌, ◌-◌, ◌≤◌, ◌≡◌, length}
use Rattle.parsalvage.proofs.FileLaws.{FileSearched}
use Rattle.parsalvage.proofs.searching.search_file.Given as goal

-- the offsets below `base` were searched; at most seven bytes of the next chunk are read already
abbrev pub invariant-loop-base : goal.invariant-loop-base
invariant-loop-base g l = record {
  within : l.base + l.held ≤ l.end;
  few : l.held ≤ 7;
  whole : length l.window ≡ 65536;
  searched : FileSearched (g.H.Shelf.state l.fn.shelf) l.file
      (record { shelf = g.H.Shelf.state l.shelf; base = l.base; held = l.held; window = l.window; found = l.found });
}

abbrev pub decreases-loop-base : goal.decreases-loop-base
decreases-loop-base g l = l.end - l.base

use Rattle.std.proofs.Common.{◌≡◌, ◌<◌, ◌^◌, All, length, map, take}
use Rattle.parshelf.proofs.shelves.disk.DiskShelf.open.Given as goal

-- the files opened so far are at the paths before this one, one at each
abbrev pub invariant-loop-index : goal.invariant-loop-index
invariant-loop-index g l = record {
  one_each : length l.files.items ≡ l.index;
  at_path : map (λ file. file.path.bytes) l.files.items ≡ take l.index (map g.S.AsStr.text l.paths);
  short : All (λ file. file.length < 2 ^ 63) l.files.items;
}

use Rattle.std.proofs.Common.{map, take}
use Rattle.md5.specs.Md5.{Holds}
use Rattle.parshelf.specs.FileList.{list_bytes}
use Rattle.parshelf.proofs.shelves.names.list_mark.Given as goal

-- the files before this one are hashed
abbrev pub invariant-loop-file : goal.invariant-loop-file
invariant-loop-file g l =
    Holds l.hasher (list_bytes (take l.file (map g.N.Named.name l.names)) (g.H.Shelf.state l.shelf).lengths)

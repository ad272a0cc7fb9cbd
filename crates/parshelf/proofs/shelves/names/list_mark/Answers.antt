use Rattle.std.proofs.Common.{◌≡◌, map, Option, Some, option_map, refl, sym, ap, ◌∙◌, arith}
use Rattle.std.specs.List.{slice_get}
use Rattle.std.proofs.lemmas.List.{length-map, take_all}
use Rattle.std.proofs.lemmas.Option.{slice_get-get_or, slice_get-map, slice_get_read}
use Rattle.parshelf.specs.FileList.{list_bytes}
use Rattle.parshelf.proofs.FileListLaws.{list_bytes-next}
use Rattle.parshelf.proofs.shelves.names.list_mark.Goals as goal

pub loop-file-init : goal.loop-file-init
unfolding list_bytes
loop-file-init g c = c.new-hasher.ensures

pub loop-file-preserved : goal.loop-file-preserved
loop-file-preserved g c =
    let named : slice_get (map g.N.Named.name c.args.names.now) c.loop-file.file ≡ Some c.name.result.now =
    slice_get-map g.N.Named.name c.args.names.now c.loop-file.file
    ∙ ap (λ (o : Option _). option_map g.N.Named.name o)
    (slice_get_read c.args.names.now _ c.loop-file.file _ refl c.loop-file-test.true c.index-names-file.is)
    ∙ ap Some (sym c.name.ensures) in
    let long : slice_get (g.H.Shelf.state c.args.shelf.now).lengths c.loop-file.file ≡ Some c.length.result =
    slice_get-get_or _ c.loop-file.file 0 (omega (arith, c.requires, c.loop-file-test.true))
    ∙ ap Some (sym c.length.ensures.value) in
    rw (list_bytes-next (map g.N.Named.name c.args.names.now) (g.H.Shelf.state c.args.shelf.now).lengths (c.name.result.now, c.length.result) c.loop-file.file named long)
    (c.hash_file.ensures _ c.loop-file.invariant)

pub returns : goal.returns
returns g c =
    let all = take_all c.loop-file.file (map g.N.Named.name c.args.names.now)
    (omega (arith, length-map c.args.names.now g.N.Named.name)) in
    c.finalize.ensures _ (rw all at c.loop-file.invariant)

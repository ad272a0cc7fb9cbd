use Rattle.std.proofs.Common.{◌≡◌, ◌∙◌, List, [], ◌∷◌, ◌++◌, Option, Some, option_map, map, refl, sym, ap, arith, rules}
use Rattle.std.specs.List.{slice_get}
use Rattle.std.proofs.lemmas.Option.{slice_get-map, slice_get_read}
use Rattle.std.proofs.lemmas.Grind.{common_steps}
use Rattle.parshelf.proofs.OpenLaws.{opened_next}
use Rattle.parshelf.proofs.shelves.disk.DiskShelf.open.Goals as goal

pub returns-clause-count : goal.returns-clause-count
returns-clause-count g c = grind (arith, common_steps) steps 100000

pub returns-in_default-clause-fault : goal.returns-in_default-clause-fault
returns-in_default-clause-fault g c = search rules steps 1000000

pub loop-index-init : goal.loop-index-init
loop-index-init g c = grind (arith, common_steps) steps 100000

pub offset_bounds-paths-index : goal.offset_bounds-paths-index
offset_bounds-paths-index g c = grind (arith, common_steps) steps 100000

pub bounds-paths-index : goal.bounds-paths-index
bounds-paths-index g c = grind (arith, common_steps) steps 100000

pub returns-in_err-map_err-in-Ok-Some-clause-count : goal.returns-in_err-map_err-in-Ok-Some-clause-count
returns-in_err-map_err-in-Ok-Some-clause-count g c = grind (arith, common_steps) steps 400000

pub returns-in_err-map_err-in-Ok-Some-clause-state : goal.returns-in_err-map_err-in-Ok-Some-clause-state
returns-in_err-map_err-in-Ok-Some-clause-state g c = grind (arith, common_steps) steps 400000

pub returns-in_err-map_err-in-Ok-Some-clause-fault : goal.returns-in_err-map_err-in-Ok-Some-clause-fault
returns-in_err-map_err-in-Ok-Some-clause-fault g c = grind (arith, common_steps) steps 400000

pub returns-in-Err-clause-count : goal.returns-in-Err-clause-count
returns-in-Err-clause-count g c = grind (arith, common_steps) steps 100000

pub returns-in-Err-clause-state : goal.returns-in-Err-clause-state
returns-in-Err-clause-state g c = grind (arith, common_steps) steps 100000

pub returns-in-Err-clause-fault : goal.returns-in-Err-clause-fault
returns-in-Err-clause-fault g c = grind (arith, common_steps) steps 100000

pub returns-in_default-clause-count : goal.returns-in_default-clause-count
returns-in_default-clause-count g c = grind (arith, common_steps) steps 100000

pub returns-in_default-clause-state : goal.returns-in_default-clause-state
returns-in_default-clause-state g c = grind (arith, common_steps) steps 100000

pub loop-index-preserved : goal.loop-index-preserved
loop-index-preserved g c =
    let opened = c.in-Ok-Some.opened in
    let texts = map g.S.AsStr.text c.args.paths.now in
    let pushed : c.push.new.self.items ≡ c.loop-index.files.items ++ opened ∷ [] = grind (arith, common_steps) in
    let path : opened.path.bytes ≡ c.as_str.result.now = rw (c.in-Ok-Some.is, c.in-Ok-Some.field-0-is) at c.open_regular.ensures.path in
    let next : slice_get texts c.loop-index.index ≡ Some opened.path.bytes =
    slice_get-map g.S.AsStr.text c.args.paths.now c.loop-index.index
    ∙ ap (λ (o : Option _). option_map g.S.AsStr.text o)
    (slice_get_read c.args.paths.now _ c.loop-index.index _ refl c.loop-index-test.true c.index-paths-index.is)
    ∙ ap Some (sym (path ∙ c.as_str.ensures)) in record {
      one_each = grind (arith, common_steps);
      at_path = ap (λ (files : List _). map (λ file. file.path.bytes) files) pushed
          ∙ opened_next (λ file. file.path.bytes) c.loop-index.files.items opened texts c.loop-index.index c.loop-index.invariant.at_path next;
      short = grind (arith, common_steps);
    }

pub returns-clause-state : goal.returns-clause-state
returns-clause-state g c = grind (arith, common_steps) steps 100000

pub returns-clause-fault : goal.returns-clause-fault
returns-clause-fault g c = grind (arith, common_steps) steps 100000

pub map_err-requires : goal.map_err-requires
map_err-requires g c = grind (arith, common_steps) steps 100000

pub invariant_of-result : goal.invariant_of-result
invariant_of-result g c = grind (arith, common_steps) steps 100000

use Rattle.std.proofs.Common.{◌<◌, ◌/◌, ◌∙◌, length, arith}
use Rattle.std.proofs.lemmas.Grind.{get_or_default_zero}
use Rattle.parwindow.proofs.slice_laws.FilterLaws.{insert-has, insert-keeps}
use Rattle.parwindow.proofs.slices.bit_set.BitSet.insert.Goals as goal

pub returns-clause-has : goal.returns-clause-has
returns-clause-has c =
    let set = c.args.self.now in
    let within : c.args.key / 262144 < length set.words.items =
    omega (arith, set.words.ok.0, set.size) in
    let word = c.index_mut.ensures.value
    ∙ get_or_default_zero set.words.items (c.args.key / 262144) c.index_mut.result.now within in
    rw word (insert-has set.words.items c.args.key within)

pub returns-clause-keeps : goal.returns-clause-keeps
returns-clause-keeps c =
    let set = c.args.self.now in
    let within : c.args.key / 262144 < length set.words.items =
    omega (arith, set.words.ok.0, set.size) in
    let word = c.index_mut.ensures.value
    ∙ get_or_default_zero set.words.items (c.args.key / 262144) c.index_mut.result.now within in
    λ other was. rw word (insert-keeps set.words.items c.args.key other within was)

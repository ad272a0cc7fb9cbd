use Rattle.parwindow.proofs.slices.bit_set.BitSet.new.Goals as goal

pub returns : goal.returns
returns c = c.in_ok-words.ensures.items_if_clones_equal (λ y e. e)

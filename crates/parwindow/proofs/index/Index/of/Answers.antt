use Rattle.parwindow.proofs.index.Index.of.Goals as goal

pub invariant_of-result : goal.invariant_of-result
invariant_of-result c = rw (c.from_vec.ensures, c.from_vec-2.ensures) (record {
  slices = c.requires.set;
  has = rw (← c.deref-2.ensures.value) c.in_ok-of.ensures;
  has_tails = rw (← c.deref-3.ensures.value) c.in_ok-of_tails.ensures;
  has_lows = rw (← c.deref-4.ensures.value) c.in_ok-of-2.ensures;
  indexes = c.requires.entries;
  lengths = rw (← c.deref-5.ensures.value) c.in_ok-of-3.ensures.within;
  exactly = rw (← c.deref-5.ensures.value) c.in_ok-of-3.ensures.exactly;
  shortest = rw (← c.deref-6.ensures.value) c.shortest_of.ensures;
  tails = rw (← c.deref.ensures.value) c.in_ok-tails.ensures;
})

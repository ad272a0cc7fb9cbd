-- The facts that hold for the fields of an index.
use Rattle.std.specs.Prelude.{◌≡◌, ℕ, nat_le, false, Option, List}
use Rattle.std.specs.List.{list_any}
use Rattle.std.specs.Option.{option_map_or}
use Rattle.parset.specs.declared.recovery_set.SetSlice.{SetSlice}
use Rattle.parwindow.specs.Entries.{IsIndexOf}
use Rattle.parwindow.specs.Index.{IsSliceSet, slice_set_of, has_fit_of, tails_of}
use Rattle.parwindow.specs.FilterBits.{HasSlices, HasTails}
use Rattle.parwindow.specs.LowSets.{HaveLows}
use Rattle.parwindow.specs.OwnLengths.{AreExactlyOf, AreLengthsOf}
use Rattle.parwindow.specs.declared.index.Index.TheInside.{Inside}

-- `shortest` is the least unpadded length of the slices with known checksums, if there are any:
-- whether some slice fits into the bytes left follows from it
abbrev pub IsShortest : List SetSlice → Option ℕ → Type 0
IsShortest slices shortest =
    (left : ℕ)
    → option_map_or (λ least. nat_le least left) shortest false ≡ list_any (has_fit_of left) slices

-- the fields of an index agree with its slices: the slices are within their limits; the filters
-- have the registers of all slices, and the registers that short slices have before their padding,
-- which the low sets have too; and the entries, the lengths, the shortest length and the
-- short-slice lengths are right for the slices
pub record IsIndexed (i : Inside) : Type 0 where
  pub slices : IsSliceSet (slice_set_of i.size i.slices)
  pub has : HasSlices i.slices i.filter
  pub has_tails : HasTails i.size i.slices i.tail_filter
  pub has_lows : HaveLows i.size i.slices i.lows.sets.items
  pub indexes : IsIndexOf i.slices i.entries.list.items
  pub lengths : AreLengthsOf i.slices i.lengths.list.items
  pub exactly : AreExactlyOf i.slices i.lengths.list.items
  pub shortest : IsShortest i.slices i.shortest
  pub tails : i.tails ≡ tails_of (slice_set_of i.size i.slices)

use Rattle.std.proofs.Common.{rules, ℕ, ◌≡◌, ◌<◌, ◌∙◌, sym, length, slice_index}
use Rattle.parfield.proofs.OrderLaws.{read_cmp}
use Rattle.parfield.proofs.hash16.cmp_as_numbers.Goals as goal

pub returns : goal.returns
returns c =
    let size : length c.args.a ≡ 16 = search rules in
    let other : length c.args.b ≡ 16 = search rules in
    let fits : (i : ℕ) → slice_index c.args.a i < 256 = λ i. search rules in
    let others : (i : ℕ) → slice_index c.args.b i < 256 = λ i. search rules in
    rw (c.cmp.ensures, c.from_le_bytes.ensures, c.from_le_bytes-2.ensures)
    (read_cmp c.args.a c.args.b (size ∙ sym other) size (fits, others))

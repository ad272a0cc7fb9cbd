use Rattle.std.proofs.Common.{◌≡◌, ◌-◌, ◌*◌, ◌/◌, ◌%◌, ◌^◌, ◌<◌, ◌+◌, ◌∙◌, get_or, ap, sym, arith, bit_and, bit_xor, zero-add}
use Rattle.std.proofs.lemmas.Nat.{and_mask, xor_lt, xor_mod}
use Rattle.parwindow.specs.Crc32.{crc_steps}
use Rattle.parwindow.specs.Places.{ended_register}
use Rattle.parwindow.proofs.crc_laws.TakenBackLaws.{crc_steps-lt}
use Rattle.parwindow.proofs.tail_laws.PlacesLaws.{low_marked}
use Rattle.parwindow.proofs.tails.tail_slices.TailSlices.marks.Goals as goal

pub returns : goal.returns
returns c = λ i below has.
    let tail = c.args.self.now.tail.now in
    let fronts = c.args.fronts.now in
    let ends = c.args.ends.now in
    let at = c.args.at in
    let r = ended_register tail.length fronts.registers ends (at + i) in
    let end = get_or ends (at + i) 0 in
    let front = bit_xor (get_or fronts.registers (at + i) 0) 0xFFFFFFFF in
    let z = crc_steps (8 * tail.length) front in
    let small : r < 2 ^ 32 = xor_lt 32 end z (c.type_inv.ends (at + i)).fits
    (crc_steps-lt (8 * tail.length) front
    (xor_lt 32 (get_or fronts.registers (at + i) 0) 0xFFFFFFFF (fronts.small (at + i)) (omega arith))) in
    let zeros : c.args.self.now.index.now.slice_size - tail.length ≡ tail.zeros.len =
    omega (arith, c.args.self.now.fills) in
    let set = c.low_set-set.result.now in
    let low : get_or c.xored-low.result i 0 ≡ r % 256 =
    c.xored-low.ensures.each i below
    ∙ ap (λ x. bit_xor x (get_or c.after.result i 0)) (c.low_bytes_at.ensures.each i below)
    ∙ ap (bit_xor (end % 256)) (c.after.ensures.each i below
    ∙ ap (λ n. crc_steps (8 * n) front % 256) tail.own_zeros)
    ∙ sym (xor_mod end z 8) in
    let at_low : get_or c.looked_up.result i 0 ≡ get_or set.low (bit_and r 15) 0 =
    c.looked_up.ensures.each i below
    ∙ c.bytes_at.ensures.each (get_or c.low_nibbles.result i 0)
    (omega (arith, c.low_nibbles.ensures.each i below))
    ∙ ap (λ j. get_or set.low j 0) (zero-add (get_or c.low_nibbles.result i 0)
    ∙ c.low_nibbles.ensures.each i below
    ∙ ap (λ x. x % 16) low ∙ omega (arith, and_mask r 4)) in
    let at_high : get_or c.looked_up-2.result i 0 ≡ get_or set.high (bit_and (r / 2 ^ 4) 15) 0 =
    c.looked_up-2.ensures.each i below
    ∙ c.bytes_at-2.ensures.each (get_or c.high_nibbles.result i 0)
    (omega (arith, c.high_nibbles.ensures.each i below, low))
    ∙ ap (λ j. get_or set.high j 0) (zero-add (get_or c.high_nibbles.result i 0)
    ∙ c.high_nibbles.ensures.each i below
    ∙ ap (λ x. x / 16) low ∙ omega (arith, and_mask (r / 2 ^ 4) 4)) in
    c.shared.ensures i below
    (low_marked set r (get_or c.looked_up.result i 0) (get_or c.looked_up-2.result i 0) at_low at_high
    (c.low_set-set.ensures r small (rw zeros has)))

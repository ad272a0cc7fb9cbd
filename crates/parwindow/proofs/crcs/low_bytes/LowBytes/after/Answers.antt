use Rattle.std.proofs.Common.{bit_xor, ◌≡◌, ℕ, ◌+◌, ◌*◌, ◌/◌, ◌%◌, ◌^◌, ◌∙◌, get_or, refl, ap, arith}
use Rattle.std.proofs.lemmas.Nat.{xor_lt}
use Rattle.std.proofs.lemmas.Simd.{get_or-replicate}
use Rattle.parwindow.specs.Crc32.{crc_steps}
use Rattle.parwindow.proofs.crc_laws.NibbleLaws.{low_none, low_more, low_all}
use Rattle.parwindow.proofs.crcs.low_bytes.LowBytes.after.Goals as goal

pub loop-q-init : goal.loop-q-init
loop-q-init c =
    let n = 8 * c.args.self.now.len in
    record {
      long = refl;
      each = λ i l. get_or-replicate {A = ℕ} 16 i 0 0 l
          ∙ low_none n (bit_xor (get_or c.args.nibbles.now.registers (c.args.at + i) 0) 0xFFFFFFFF);
    }

pub loop-q-preserved : goal.loop-q-preserved
loop-q-preserved c =
    let low = c.args.self.now in
    let nibbles = c.args.nibbles.now in
    let at = c.args.at in
    let q = c.loop-q.q in
    record {
      long = c.xored-low.ensures.long;
      each = λ i l.
          let r = bit_xor (get_or nibbles.registers (at + i) 0) 0xFFFFFFFF in
          let v = r / 2 ^ (4 * q) % 16 in
          let place : get_or c.bytes_at.result i 0 ≡ v = c.bytes_at.ensures.each i l
          ∙ nibbles.are q (at + i) (omega arith) (omega arith) in
          let low_part : (16 * q + v) % 16 ≡ v = omega arith in
          let high_part : (16 * q + v) / 16 ≡ q = omega arith in
          let by : get_or c.looked_up.result i 0 ≡ crc_steps (8 * low.len) (v * 2 ^ (4 * q)) % 256 =
          c.looked_up.ensures.each i l
          ∙ ap (λ j. get_or c.bytes_at-table.result j 0) place
          ∙ c.bytes_at-table.ensures.each v (omega arith)
          ∙ low.low (16 * q + v) (omega arith)
          ∙ ap (λ x. x % 256) (low.by_nibble (16 * q + v) (omega arith))
          ∙ rw (low_part, high_part) refl in
          c.xored-low.ensures.each i l
          ∙ low_more (8 * low.len) r q (get_or c.loop-q.low i 0) (get_or c.looked_up.result i 0)
          (c.loop-q.invariant.each i l) by;
    }

pub returns : goal.returns
returns c =
    let nibbles = c.args.nibbles.now in
    let last : c.loop-q.q ≡ 8 = omega arith in
    record {
      long = c.loop-q.invariant.long;
      each = λ i l.
          let r = bit_xor (get_or nibbles.registers (c.args.at + i) 0) 0xFFFFFFFF in
          low_all (8 * c.args.self.now.len) r (get_or c.loop-q.low i 0) (xor_lt 32 (get_or nibbles.registers (c.args.at + i) 0) 0xFFFFFFFF
          (nibbles.small (c.args.at + i)) (omega arith))
          (rw last at (c.loop-q.invariant.each i l));
    }

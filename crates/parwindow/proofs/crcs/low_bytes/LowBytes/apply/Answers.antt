use Rattle.std.proofs.Common.{◌≡◌, ◌+◌, ◌*◌, ◌/◌, ◌%◌, ◌^◌, ◌∙◌, bit_and, get_or, refl, ap, arith}
use Rattle.std.proofs.lemmas.Nat.{and_mask}
use Rattle.parwindow.proofs.crc_laws.NibbleLaws.{word_all, word_more, word_none}
use Rattle.parwindow.proofs.crcs.low_bytes.LowBytes.apply.Goals as goal

pub loop-q-init : goal.loop-q-init
loop-q-init c = word_none (8 * c.args.self.now.len) c.args.register

pub loop-q-preserved : goal.loop-q-preserved
loop-q-preserved c =
    let run = c.args.self.now in
    let r = c.args.register in
    let q = c.loop-q.q in
    let v = r / 2 ^ (4 * q) % 16 in
    let nibble : bit_and (r / 2 ^ (4 * q)) 15 ≡ v = and_mask (r / 2 ^ (4 * q)) 4 in
    let low_part : (16 * q + v) % 16 ≡ v = omega arith in
    let high_part : (16 * q + v) / 16 ≡ q = omega arith in
    word_more (8 * run.len) r q c.loop-q.out _ c.loop-q.invariant
    (ap (λ k. get_or run.words (16 * q + k) 0) nibble
    ∙ run.by_nibble (16 * q + v) (omega arith)
    ∙ rw (low_part, high_part) refl)

pub returns : goal.returns
returns c =
    let last : c.loop-q.q ≡ 8 = omega arith in
    word_all (8 * c.args.self.now.len) c.args.register c.loop-q.out c.ranges.register.fits
    (rw last at c.loop-q.invariant)

use Rattle.std.proofs.Common.{◌%◌, ◌∙◌, get_or, arith, bit_and, replicate, ap}
use Rattle.std.specs.Simd.Lanes.{chunk}
use Rattle.std.proofs.lemmas.List.{get_or-map, length-map}
use Rattle.std.proofs.lemmas.Nat.{and_le_r, and_mask}
use Rattle.std.proofs.lemmas.Simd.{length-chunk, get_or-chunk, Each1-zip2, Each1-all, Each2-splat}
use Rattle.parwindow.proofs.crc_laws.LaneLaws.{HasLanes-splat}
use Rattle.parwindow.proofs.crcs.lanes.low_bytes_at.Goals as goal

pub overflow_cast-result : goal.overflow_cast-result
overflow_cast-result c =
    let v = chunk c.args.at 16 c.args.registers.now in
    Each1-zip2 bit_and _ v (replicate 16 255)
    (Each2-splat _ v 16 255 (Each1-all _ (λ a. record { fits = omega (arith, and_le_r a 255) }) v))

pub returns : goal.returns
returns c =
    let xs = c.args.registers.now in
    let at = c.args.at in
    let v = chunk at 16 xs in
    let lanes = HasLanes-splat bit_and v 255 (length-chunk at 16 xs c.requires) in
    record {
      long = length-map _ _ ∙ lanes.long;
      each = λ i l. get_or-map _ _ i 0 0 (omega (arith, lanes.long, l)) ∙ lanes.each i l
          ∙ and_mask (get_or v i 0) 8 ∙ ap (λ x. x % 256) (get_or-chunk at 16 xs i 0 l);
    }

-- Eight bytes enter a register at once, with one look-up for each.
use Rattle.std.proofs.Common.{◌≡◌, ℕ, zero, suc, ◌+◌, ◌*◌, ◌/◌, ◌%◌, ◌^◌, ◌<◌, true, List, [], ◌∷◌, length, get_or, fold, take, drop, refl, sym, ap, ◌∙◌, arith, w64}
use Rattle.std.specs.Int.{from_le_bytes}
use Rattle.std.specs.Int.Bits.{bit_and, bit_xor, xor_assoc, xor_zero_r}
use Rattle.std.specs.Simd.{first_chunks}
use Rattle.std.proofs.lemmas.Nat.{and_mask, and_le_r, shr_split, mod_below, xor_comm, xor_lt}
use Rattle.std.proofs.lemmas.List.{take-append-drop}
use Rattle.std.proofs.lemmas.List.Sums.{fold-append}
use Rattle.std.proofs.Math.Seq.{take-add}
use Rattle.parwindow.specs.Crc32.{crc_step, crc_steps, register_after}
use Rattle.parwindow.specs.Tables.{IsStepTable}
use Rattle.parwindow.specs.declared.crcs.table.TheConstants.{STEPPED_BYTES, STEPPED_TWICE}
use Rattle.parwindow.specs.declared.crcs.far_table.TheConstants.{STEPPED_24, STEPPED_32, STEPPED_40, STEPPED_48, STEPPED_56, STEPPED_64}
use Rattle.parwindow.proofs.crc_laws.CrcLaws.{crc_steps-xor, crc_steps-add}
use Rattle.parwindow.proofs.crc_laws.TableLaws.{agrees_below, agrees_at, crc_steps-high, steps_bytes, steps_twice}
use Rattle.parwindow.proofs.crc_laws.XorLaws.{xor_parts}

-- the number that bytes make, the lowest byte first
abbrev le_number : List ℕ → ℕ
le_number [] = 0
le_number (x ∷ xs) = x + 256 * le_number xs

no_steps : (r : ℕ) → crc_steps 0 r ≡ r
unfolding crc_steps
no_steps r = refl

-- the bytes enter the register as if their number were xored into it before all steps
fold-le_number : (xs : List ℕ) (r : ℕ) → ((i : ℕ) → get_or xs i 0 < 256)
    → fold register_after r xs ≡ crc_steps (8 * length xs) (bit_xor r (le_number xs))
unfolding register_after
fold-le_number [] r small = sym (no_steps (bit_xor r 0) ∙ xor_zero_r r)
fold-le_number (x ∷ xs) r small =
    let low : x < 256 = small 0 in
    let more : 8 + 8 * length xs ≡ 8 * suc (length xs) = omega arith in
    let sum : le_number xs * 256 + x ≡ x + 256 * le_number xs = omega arith in
    let joined : bit_xor (bit_xor r x) (le_number xs * 256)
    ≡ bit_xor r (x + 256 * le_number xs) =
    xor_assoc r x (le_number xs * 256)
    ∙ ap (bit_xor r) (xor_comm x (le_number xs * 256)
    ∙ sym (xor_parts 8 (le_number xs) x low) ∙ sum) in
    fold-le_number xs (register_after r x) (λ i. small (suc i))
    ∙ ap (λ h. crc_steps (8 * length xs) (bit_xor (crc_steps 8 (bit_xor r x)) h))
    (sym (crc_steps-high 8 (le_number xs)))
    ∙ ap (crc_steps (8 * length xs))
    (sym (crc_steps-xor 8 (bit_xor r x) (le_number xs * 256)))
    ∙ sym (crc_steps-add 8 (8 * length xs) (bit_xor (bit_xor r x) (le_number xs * 256)))
    ∙ ap (λ n. crc_steps n (bit_xor (bit_xor r x) (le_number xs * 256))) more
    ∙ ap (crc_steps (8 * suc (length xs))) joined

-- the steps of a number: its low byte is looked up in a table, and its other bytes move down
low_by : (n : ℕ) (table : List ℕ) (w high : ℕ) → IsStepTable table (8 + n) → w / 256 ≡ high
    → crc_steps (8 + n) w ≡ bit_xor (crc_steps n high) (get_or table (bit_and w 255) 0)
low_by n table w high steps is =
    let low : bit_and w 255 < 256 = omega (arith, and_le_r w 255) in
    ap (crc_steps (8 + n)) (sym (shr_split w 8)
    ∙ xor_parts 8 (w / 256) (w % 256) (mod_below w 256 (omega arith)))
    ∙ crc_steps-xor (8 + n) (w / 256 * 256) (w % 256)
    ∙ ap (λ h. bit_xor h (crc_steps (8 + n) (w % 256)))
    (crc_steps-add 8 n (w / 256 * 256) ∙ ap (crc_steps n) (crc_steps-high 8 (w / 256) ∙ is))
    ∙ ap (bit_xor (crc_steps n high)) (ap (crc_steps (8 + n)) (sym (and_mask w 8))
    ∙ sym (steps (bit_and w 255) low))

agrees_24 : agrees_below 24 STEPPED_24 256 ≡ true
unfolding crc_step crc_steps
agrees_24 = refl

agrees_32 : agrees_below 32 STEPPED_32 256 ≡ true
unfolding crc_step crc_steps
agrees_32 = refl

agrees_40 : agrees_below 40 STEPPED_40 256 ≡ true
unfolding crc_step crc_steps
agrees_40 = refl

agrees_48 : agrees_below 48 STEPPED_48 256 ≡ true
unfolding crc_step crc_steps
agrees_48 = refl

agrees_56 : agrees_below 56 STEPPED_56 256 ≡ true
unfolding crc_step crc_steps
agrees_56 = refl

agrees_64 : agrees_below 64 STEPPED_64 256 ≡ true
unfolding crc_step crc_steps
agrees_64 = refl

-- the number of eight bytes after all steps, with one look-up for each byte
abbrev looked_up : ℕ → ℕ
looked_up w =
    bit_xor
    (bit_xor
    (bit_xor
    (bit_xor
    (bit_xor
    (bit_xor
    (bit_xor (get_or STEPPED_BYTES (w / 72057594037927936) 0)
    (get_or STEPPED_TWICE (bit_and (w / 281474976710656) 255) 0))
    (get_or STEPPED_24 (bit_and (w / 1099511627776) 255) 0))
    (get_or STEPPED_32 (bit_and (w / 4294967296) 255) 0))
    (get_or STEPPED_40 (bit_and (w / 16777216) 255) 0))
    (get_or STEPPED_48 (bit_and (w / 65536) 255) 0))
    (get_or STEPPED_56 (bit_and (w / 256) 255) 0))
    (get_or STEPPED_64 (bit_and w 255) 0)

number_by : (w : ℕ) → w < 2 ^ 64 → looked_up w ≡ crc_steps 64 w
number_by w small =
    let top : w / 72057594037927936 < 256 = omega arith in
    sym (low_by 56 STEPPED_64 w (w / 256)
    (λ x below. agrees_at 64 STEPPED_64 256 x agrees_64 below) refl
    ∙ ap (λ h. bit_xor h (get_or STEPPED_64 (bit_and w 255) 0))
    (low_by 48 STEPPED_56 (w / 256) (w / 65536)
    (λ x below. agrees_at 56 STEPPED_56 256 x agrees_56 below) (omega arith)
    ∙ ap (λ h. bit_xor h (get_or STEPPED_56 (bit_and (w / 256) 255) 0))
    (low_by 40 STEPPED_48 (w / 65536) (w / 16777216)
    (λ x below. agrees_at 48 STEPPED_48 256 x agrees_48 below) (omega arith)
    ∙ ap (λ h. bit_xor h (get_or STEPPED_48 (bit_and (w / 65536) 255) 0))
    (low_by 32 STEPPED_40 (w / 16777216) (w / 4294967296)
    (λ x below. agrees_at 40 STEPPED_40 256 x agrees_40 below) (omega arith)
    ∙ ap (λ h. bit_xor h (get_or STEPPED_40 (bit_and (w / 16777216) 255) 0))
    (low_by 24 STEPPED_32 (w / 4294967296) (w / 1099511627776)
    (λ x below. agrees_at 32 STEPPED_32 256 x agrees_32 below) (omega arith)
    ∙ ap (λ h. bit_xor h (get_or STEPPED_32 (bit_and (w / 4294967296) 255) 0))
    (low_by 16 STEPPED_24 (w / 1099511627776) (w / 281474976710656)
    (λ x below. agrees_at 24 STEPPED_24 256 x agrees_24 below) (omega arith)
    ∙ ap (λ h. bit_xor h (get_or STEPPED_24 (bit_and (w / 1099511627776) 255) 0))
    (low_by 8 STEPPED_TWICE (w / 281474976710656) (w / 72057594037927936) steps_twice
    (omega arith)
    ∙ ap (λ h. bit_xor h (get_or STEPPED_TWICE (bit_and (w / 281474976710656) 255) 0))
    (sym (steps_bytes (w / 72057594037927936) top)))))))))

-- for eight bytes, this number is the one that the code reads
le_number_eight : (bytes : List ℕ) → length bytes ≡ 8
    → le_number bytes ≡ from_le_bytes w64 bytes
le_number_eight [] few = absurd (omega arith)
le_number_eight (a ∷ []) few = absurd (omega arith)
le_number_eight (a ∷ b ∷ []) few = absurd (omega arith)
le_number_eight (a ∷ b ∷ x ∷ []) few = absurd (omega arith)
le_number_eight (a ∷ b ∷ x ∷ d ∷ []) few = absurd (omega arith)
le_number_eight (a ∷ b ∷ x ∷ d ∷ e ∷ []) few = absurd (omega arith)
le_number_eight (a ∷ b ∷ x ∷ d ∷ e ∷ f ∷ []) few = absurd (omega arith)
le_number_eight (a ∷ b ∷ x ∷ d ∷ e ∷ f ∷ g ∷ []) few = absurd (omega arith)
le_number_eight (a ∷ b ∷ x ∷ d ∷ e ∷ f ∷ g ∷ h ∷ []) few = omega arith
le_number_eight (a ∷ b ∷ x ∷ d ∷ e ∷ f ∷ g ∷ h ∷ y ∷ ys) few = absurd (omega arith)

-- eight look-ups give the same register as eight bytes one after another
pub eight_by : (r : ℕ) (bytes : List ℕ) → r < 2 ^ 64 → length bytes ≡ 8
    → ((i : ℕ) → get_or bytes i 0 < 256) → from_le_bytes w64 bytes < 2 ^ 64
    → looked_up (bit_xor r (from_le_bytes w64 bytes)) ≡ fold register_after r bytes
eight_by r bytes fits eight small fits_too =
    let long : 8 * length bytes ≡ 64 = omega arith in
    number_by (bit_xor r (from_le_bytes w64 bytes)) (xor_lt 64 r (from_le_bytes w64 bytes) fits
    fits_too)
    ∙ ap (λ n. crc_steps 64 (bit_xor r n)) (sym (le_number_eight bytes eight))
    ∙ ap (λ n. crc_steps n (bit_xor r (le_number bytes))) (sym long)
    ∙ sym (fold-le_number bytes r small)

-- groups of eight bytes, one after another, are their bytes one after another
fold_eights : (bytes : List ℕ) (k r : ℕ)
    → fold (fold register_after) r (first_chunks 8 k bytes)
    ≡ fold register_after r (take (k * 8) bytes)
fold_eights bytes zero r = refl
fold_eights bytes (suc k) r =
    let more : suc k * 8 ≡ 8 + k * 8 = omega arith in
    fold_eights (drop 8 bytes) k (fold register_after r (take 8 bytes))
    ∙ sym (fold-append register_after r (take 8 bytes) (take (k * 8) (drop 8 bytes)))
    ∙ ap (fold register_after r) (sym (take-add 8 (k * 8) bytes))
    ∙ ap (λ n. fold register_after r (take n bytes)) (sym more)

-- the groups of eight, and then the rest, are all bytes
pub fold_all : (bytes : List ℕ) (k r : ℕ)
    → fold register_after (fold (fold register_after) r (first_chunks 8 k bytes))
    (drop (k * 8) bytes) ≡ fold register_after r bytes
fold_all bytes k r =
    ap (λ s. fold register_after s (drop (k * 8) bytes)) (fold_eights bytes k r)
    ∙ sym (fold-append register_after r (take (k * 8) bytes) (drop (k * 8) bytes))
    ∙ ap (fold register_after r) (take-append-drop (k * 8) bytes)

use Rattle.std.proofs.Common.{◌≡◌, ◌≤◌, ℕ, ◌+◌, ◌-◌, List, length, min, take, drop, replicate, arith}
use Rattle.parfind.proofs.track_laws.NextBytesLaws.{front_bytes, hand_bytes, zero_bytes}
use Rattle.parfind.proofs.tracks.track.Track.next_bytes.Goals as goal

pub returns-then-at-file_end-clause-bytes : goal.returns-then-at-file_end-clause-bytes
returns-then-at-file_end-clause-bytes c = λ file ends has.
    let at : ℕ = c.args.self.now.window_offset + length c.args.window.now.content in
    let past : length file ≤ at = omega (arith, c.if-at-file_end.true, c.len.ensures.len) in
    rw c.at_most.ensures (front_bytes file at (min 4096 c.args.most) (replicate 4096 0) (omega arith) (zero_bytes file at 4096 past))

pub returns-clause-bytes : goal.returns-clause-bytes
returns-clause-bytes c = λ file ends has.
    let t = c.args.self.now in
    let at : ℕ = t.window_offset + length c.args.window.now.content in
    let place : t.window_offset + c.len.result ≡ at = omega (arith, c.len.ensures.len) in
    let hand : List ℕ = take (t.buffer_len - (at - t.buffer_offset)) (drop (at - t.buffer_offset) t.bytes) in
    rw (c.at_most-2.ensures, place) (front_bytes file at (min (length hand) c.args.most) hand (omega arith)
    (hand_bytes file t.buffer_offset t.buffer_len at t.bytes (omega (arith, c.requires.not_ahead)) (omega (arith, c.requires.next, c.if-at-file_end.false)) has))

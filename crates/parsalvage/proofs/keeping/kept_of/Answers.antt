use Rattle.std.proofs.lemmas.Grind.{common_steps}
use Rattle.std.proofs.Common.{◌≡◌, ◌<◌, ◌+◌, ◌++◌, ◌∷◌, ◌∙◌, ℕ, List, [], length, map, drop}
use Rattle.std.proofs.Common.{ap, sym, arith}
use Rattle.std.proofs.Math.ListN.{get_or}
use Rattle.std.proofs.lemmas.List.{at_drop_more, append_assoc}
use Rattle.parfield.specs.Packet.{packet_view}
use Rattle.parfield.specs.declared.headers.Packet.{Packet}
use Rattle.parsalvage.specs.Kept.{kept_packet, kept_body}
use Rattle.parsalvage.specs.declared.kept.Kept.{Kept}
use Rattle.parsalvage.specs.declared.kept.KeptBody.{KeptBody}
use Rattle.parsalvage.proofs.keeping.kept_of.Goals as goal

-- a packet as it is kept, with this body
abbrev kept_with : ℕ → Packet → KeptBody → Kept
kept_with file packet body = record {
  file = file;
  at = packet.at;
  length = packet.length;
  set = packet.set;
  kind = packet.kind;
  body = body;
}

-- the kept packets and those that are left stay the same list after one more packet is kept
one_more : (file : ℕ) (before : List Kept) (packets : List Packet) (i : ℕ) (d : Packet)
    (body : KeptBody) (new all : List Kept)
    → i < length packets
    → before ++ map (kept_packet file) (map packet_view (drop i packets)) ≡ all
    → body ≡ kept_body (get_or packets i d).kind (get_or packets i d).body.now
    → new ≡ before ++ (kept_with file (get_or packets i d) body ∷ [])
    → new ++ map (kept_packet file) (map packet_view (drop (i + 1) packets)) ≡ all
one_more file before packets i d body new all low so_far body_is is =
    let left : List Kept = map (kept_packet file) (map packet_view (drop (i + 1) packets)) in
    ap (λ (xs : List Kept). xs ++ left) is
    ∙ append_assoc before (kept_with file (get_or packets i d) body ∷ []) left
    ∙ ap (λ (b : KeptBody). before ++ (kept_with file (get_or packets i d) b ∷ left)) body_is
    ∙ sym (at_drop_more (λ (xs : List Packet). before ++ map (kept_packet file) (map packet_view xs))
    packets i d low)
    ∙ so_far

pub loop-packet-preserved : goal.loop-packet-preserved
loop-packet-preserved c =
    one_more c.args.file c.loop-packet.kept.items c.args.packets.now c.loop-packet.packet-index
    _ _ _ _ (omega arith) c.loop-packet.invariant c.in_ok-keep_body.ensures
    c.in_ok-push.ensures.items

pub loop-packet-init : goal.loop-packet-init
loop-packet-init c = grind (arith, common_steps) steps 100000

pub offset_bounds-packets-packet-index : goal.offset_bounds-packets-packet-index
offset_bounds-packets-packet-index c = grind (arith, common_steps) steps 100000

pub bounds-packets-packet-index : goal.bounds-packets-packet-index
bounds-packets-packet-index c = grind (arith, common_steps) steps 100000

pub returns : goal.returns
returns c = grind (arith, common_steps) steps 100000

pub returns-in_err-keep_body : goal.returns-in_err-keep_body
returns-in_err-keep_body c = grind (arith, common_steps) steps 100000

pub returns-in_err-push : goal.returns-in_err-push
returns-in_err-push c = grind (arith, common_steps) steps 400000

-- The packets found so far, after one packet more, or after an offset without a packet.
use Rattle.std.proofs.Common.{◌≡◌, ◌<◌, ◌≤◌, ◌+◌, ◌-◌, ◌∙◌, ℕ, true, false, cond, List, [], ◌∷◌, ◌++◌, length, take, drop, map, filter, All, ap, sym, subst, arith, ⊎_elim, length-drop, refl, append-nil}
use Rattle.std.specs.List.{range_with_len}
use Rattle.std.specs.List.Sorted.{IsStrictlyIncreasing}
use Rattle.std.proofs.lemmas.Bool.{cases_eq, cases_Bool, cond-true, and_parts, leb-true}
use Rattle.std.proofs.lemmas.List.{map-append, drop-drop, drop-take, take-take, length_push, get_or_push, get_or_append_left, length-take}
use Rattle.std.proofs.lemmas.List.Elements.{All-push, All-weaker, All-head, All-tail, All-map}
use Rattle.parfield.specs.Packet.{has_header, header_of, length_field}
use Rattle.parfield.specs.declared.headers.Header.{Header}
use Rattle.parsalvage.specs.Packets.{is_packet_at, packet_found_at}
use Rattle.parsalvage.specs.BodyStores.{IsStore, HoldsRun}
use Rattle.parsalvage.specs.Kept.{kept_packet, kept_body}
use Rattle.parsalvage.specs.FileScans.{kept_body_from, FitsStore, kept_packet_from, packets_between, LiesIn, FoundBelow}
use Rattle.parsalvage.specs.declared.stored.StoredBody.{StoredBody}
use Rattle.parsalvage.specs.declared.stored.StoredBody.TheVariants.{Whole, Front}
use Rattle.parsalvage.specs.declared.kept.Kept.{Kept}
use Rattle.parsalvage.specs.declared.kept.KeptBody.{KeptBody}
use Rattle.parsalvage.specs.declared.kept.KeptBody.TheVariants as kept
use Rattle.parsalvage.specs.declared.stored.StoredPacket.{StoredPacket}
use Rattle.parsalvage.specs.declared.file_scan.FileScan.{FileScan}
use Rattle.parsalvage.proofs.RangeLaws.{filter_between, filter_none_between, filter_one}

-- increasing numbers stay increasing if a number above all of them is appended
pub rising_more : (xs : List ℕ) (a : ℕ) → IsStrictlyIncreasing xs → All (λ x. x < a) xs → IsStrictlyIncreasing (xs ++ a ∷ [])
rising_more xs a rises below k within =
    let long = length_push xs a in
    let here = get_or_append_left xs (a ∷ []) 0 k (omega (arith, long)) in
    ⊎_elim
    (λ last. omega (arith, here, get_or_push xs a 0 (k + 1) (sym last), below k 0 (omega (arith, long))))
    (λ inside. omega (arith, here, get_or_append_left xs (a ∷ []) 0 (k + 1) (omega (arith, long, inside)), rises k (omega (arith, long, inside))))
    (cases_eq (k + 1) (length xs))

taken_of : (n : ℕ) (xs ys : List ℕ) → take n xs ≡ ys → length ys ≡ n → n ≤ length xs
taken_of n xs ys is long = omega (arith, ap length is, length-take n xs, long)

fits_longer : (m n : ℕ) (held : StoredBody) → m ≤ n → FitsStore m held → FitsStore n held
fits_longer m n (Whole place size) longer fits = omega arith
fits_longer m n (Front first len) longer fits = tt

-- the packets stay in order and inside the file if the packet at offset `at` is appended
pub LiesIn-more : (size at : ℕ) (old new : FileScan) (packet : StoredPacket) → LiesIn size at old
    → IsStore size new.bodies → new.bodies.start ≤ at + 64 → FitsStore (length new.bodies.bytes.items) packet.body
    → take (length old.bodies.bytes.items) new.bodies.bytes.items ≡ old.bodies.bytes.items
    → new.packets.items ≡ old.packets.items ++ packet ∷ [] → packet.at ≡ at → packet.at + packet.length ≤ size
    → LiesIn size (at + 1) new
LiesIn-more size at old new packet lies store begins fits keeps more here within =
    let longer : length old.bodies.bytes.items ≤ length new.bodies.bytes.items = taken_of (length old.bodies.bytes.items) new.bodies.bytes.items old.bodies.bytes.items keeps refl in
    let offsets : map (λ (n : StoredPacket). n.at) new.packets.items ≡ map (λ (n : StoredPacket). n.at) old.packets.items ++ at ∷ []
    = ap (map (λ (n : StoredPacket). n.at)) more ∙ (map-append (λ (n : StoredPacket). n.at) old.packets.items (packet ∷ [])
    ∙ ap (λ (a : ℕ). map (λ (n : StoredPacket). n.at) old.packets.items ++ a ∷ []) here) in
    record {
      store = store;
      begins = omega arith;
      held = subst (All (λ (n : StoredPacket). FitsStore (length new.bodies.bytes.items) n.body)) (sym more)
          (All-push (λ (n : StoredPacket). FitsStore (length new.bodies.bytes.items) n.body) old.packets.items packet (All-weaker (λ (n : StoredPacket). FitsStore (length old.bodies.bytes.items) n.body) (λ (n : StoredPacket). FitsStore (length new.bodies.bytes.items) n.body)
          (λ (n : StoredPacket). fits_longer _ _ n.body longer) old.packets.items lies.held) fits);
      rising = subst IsStrictlyIncreasing (sym offsets)
          (rising_more _ at lies.rising (All-map (λ (x : ℕ). x < at) (λ (n : StoredPacket). n.at) old.packets.items lies.before));
      before = subst (All (λ (n : StoredPacket). n.at < at + 1)) (sym more)
          (All-push (λ (n : StoredPacket). n.at < at + 1) old.packets.items packet
          (All-weaker (λ (n : StoredPacket). n.at < at) (λ (n : StoredPacket). n.at < at + 1) (λ (n : StoredPacket) h. omega (arith, h)) old.packets.items lies.before) (omega arith));
      within = subst (All (λ (n : StoredPacket). n.at + n.length ≤ size)) (sym more) (All-push (λ (n : StoredPacket). n.at + n.length ≤ size) old.packets.items packet lies.within within);
    }

-- the packets are also below a later offset
pub LiesIn-later : (size at next : ℕ) (found : FileScan) → LiesIn size at found → at ≤ next → LiesIn size next found
LiesIn-later size at next found lies behind = record {
  store = lies.store;
  begins = omega (arith, lies.begins);
  held = lies.held;
  rising = lies.rising;
  before = All-weaker (λ (n : StoredPacket). n.at < at) (λ (n : StoredPacket). n.at < next) (λ (n : StoredPacket) h. omega (arith, h)) found.packets.items lies.before;
  within = lies.within;
}

pub packets_between-zero : (bytes : List ℕ) → packets_between bytes 0 0 ≡ []
unfolding packets_between
packets_between-zero bytes = refl

packets_between-next : (bytes : List ℕ) (at : ℕ)
    → packets_between bytes 0 (at + 1) ≡ packets_between bytes 0 at ++ map (packet_found_at bytes) (cond (is_packet_at bytes at) (at ∷ []) [])
unfolding packets_between
packets_between-next bytes at =
    ap (map (packet_found_at bytes))
    (filter_between (is_packet_at bytes) 0 at (at + 1) (omega arith) (omega arith)
    ∙ ap (λ (xs : List ℕ). filter (is_packet_at bytes) (range_with_len 0 (at - 0)) ++ xs) (filter_one (is_packet_at bytes) at))
    ∙ map-append (packet_found_at bytes) (filter (is_packet_at bytes) (range_with_len 0 (at - 0))) _

pub packets_between-packet : (bytes : List ℕ) (at : ℕ) → is_packet_at bytes at ≡ true
    → packets_between bytes 0 (at + 1) ≡ packets_between bytes 0 at ++ packet_found_at bytes at ∷ []
packets_between-packet bytes at is =
    packets_between-next bytes at
    ∙ ap (λ (xs : List ℕ). packets_between bytes 0 at ++ map (packet_found_at bytes) xs) (cond-true (is_packet_at bytes at) (at ∷ []) [] is)

-- if no packet begins from `at` up to `next`, the packets below `next` are those below `at`
pub packets_between-none : (bytes : List ℕ) (at next : ℕ) → at ≤ next → ((k : ℕ) → at ≤ k → k < next → is_packet_at bytes k ≡ false)
    → packets_between bytes 0 next ≡ packets_between bytes 0 at
unfolding packets_between
packets_between-none bytes at next behind none =
    let none_between : filter (is_packet_at bytes) (range_with_len at (next - at)) ≡ [] = filter_none_between (is_packet_at bytes) at next none in
    ap (map (packet_found_at bytes))
    (filter_between (is_packet_at bytes) 0 at next (omega arith) behind
    ∙ (ap (λ (xs : List ℕ). filter (is_packet_at bytes) (range_with_len 0 (at - 0)) ++ xs) none_between ∙ append-nil _))

pub FoundBelow-none : (file at next : ℕ) (bytes : List ℕ) (found : FileScan) → FoundBelow file bytes at found → at ≤ next
    → ((k : ℕ) → at ≤ k → k < next → is_packet_at bytes k ≡ false) → FoundBelow file bytes next found
FoundBelow-none file at next bytes found so_far behind none = record {
  run = so_far.run;
  packets = so_far.packets ∙ ap (map (kept_packet file)) (sym (packets_between-none bytes at next behind none));
}

-- a body that was kept in the old store is at the same place of the longer one
kept_body_from-longer : (old new : List ℕ) (held : StoredBody) → take (length old) new ≡ old → FitsStore (length old) held → kept_body_from new held ≡ kept_body_from old held
kept_body_from-longer old new (Whole place size) keeps fits =
    let split : length old ≡ place + (length old - place) = omega arith in
    ap kept.Whole (sym (ap (λ (xs : List ℕ). take size (drop place xs)) (sym keeps)
    ∙ (ap (λ (n : ℕ). take size (drop place (take n new))) split
    ∙ (ap (take size) (drop-take place (length old - place) new)
    ∙ take-take size (length old - place) (drop place new) (omega arith)))))
kept_body_from-longer old new (Front first len) keeps fits = refl

kept_packets-longer : (file : ℕ) (old new : List ℕ) (packets : List StoredPacket) → take (length old) new ≡ old
    → All (λ n. FitsStore (length old) n.body) packets → map (kept_packet_from file new) packets ≡ map (kept_packet_from file old) packets
kept_packets-longer file old new [] keeps fit = refl
kept_packets-longer file old new (packet ∷ packets) keeps fit =
    let here : kept_packet_from file new packet ≡ kept_packet_from file old packet
    = ap (λ (body : KeptBody). record (kept_packet_from file old packet) { body = body }) (kept_body_from-longer old new packet.body keeps (All-head (λ (n : StoredPacket). FitsStore (length old) n.body) packet packets fit)) in
    ap (λ (k : Kept). k ∷ map (kept_packet_from file new) packets) here
    ∙ ap (λ (ks : List Kept). kept_packet_from file old packet ∷ ks) (kept_packets-longer file old new packets keeps (All-tail (λ (n : StoredPacket). FitsStore (length old) n.body) packet packets fit))

-- the stored packet is the packet at this offset, as it is kept
pub stored_packet : (file at : ℕ) (bytes store : List ℕ) (head : Header) (packet : StoredPacket) → head ≡ header_of (drop at bytes)
    → packet.at ≡ at → packet.length ≡ head.length → packet.set ≡ head.set → packet.kind ≡ head.kind
    → kept_body_from store packet.body ≡ kept_body head.kind (take (head.length - 64) (drop (at + 64) bytes))
    → kept_packet_from file store packet ≡ kept_packet file (packet_found_at bytes at)
stored_packet file at bytes store head packet is at_is length_is set_is kind_is body_is =
    let behind : drop (at + 64) bytes ≡ drop 64 (drop at bytes) = sym (drop-drop 64 at bytes) in
    let body : kept_body_from store packet.body ≡ kept_body (header_of (drop at bytes)).kind (take (length_field (drop at bytes) - 64) (drop 64 (drop at bytes)))
    = body_is ∙ (ap (λ (h : Header). kept_body h.kind (take (h.length - 64) (drop (at + 64) bytes))) is
    ∙ ap (λ (xs : List ℕ). kept_body (header_of (drop at bytes)).kind (take (length_field (drop at bytes) - 64) xs)) behind) in
    let length_now = length_is ∙ ap (λ (h : Header). h.length) is in
    let set_now = set_is ∙ ap (λ (h : Header). h.set) is in
    let kind_now = kind_is ∙ ap (λ (h : Header). h.kind) is in
    cc

pub FoundBelow-packet : (file at : ℕ) (bytes : List ℕ) (old new : FileScan) (packet : StoredPacket) → FoundBelow file bytes at old
    → is_packet_at bytes at ≡ true → HoldsRun bytes new.bodies
    → take (length old.bodies.bytes.items) new.bodies.bytes.items ≡ old.bodies.bytes.items
    → All (λ n. FitsStore (length old.bodies.bytes.items) n.body) old.packets.items
    → new.packets.items ≡ old.packets.items ++ packet ∷ []
    → kept_packet_from file new.bodies.bytes.items packet ≡ kept_packet file (packet_found_at bytes at)
    → FoundBelow file bytes (at + 1) new
FoundBelow-packet file at bytes old new packet so_far is run keeps fit more same =
    let store : List ℕ = new.bodies.bytes.items in record {
      run = run;
      packets =
          ap (map (kept_packet_from file new.bodies.bytes.items)) more
          ∙ (map-append (kept_packet_from file new.bodies.bytes.items) old.packets.items (packet ∷ [])
          ∙ (ap (λ (k : Kept). map (kept_packet_from file new.bodies.bytes.items) old.packets.items ++ k ∷ []) same
          ∙ (ap (λ (ks : List Kept). ks ++ kept_packet file (packet_found_at bytes at) ∷ []) (kept_packets-longer file old.bodies.bytes.items new.bodies.bytes.items old.packets.items keeps fit ∙ so_far.packets)
          ∙ (sym (map-append (kept_packet file) (packets_between bytes 0 at) (packet_found_at bytes at ∷ []))
          ∙ ap (map (kept_packet file)) (sym (packets_between-packet bytes at is))))));
    }

-- no packet begins in the last 63 bytes, since each has a header of 64
pub no_packet_late : (bytes : List ℕ) (at : ℕ) → length bytes < at + 64 → is_packet_at bytes at ≡ false
no_packet_late bytes at late =
    ⊎_elim (λ yes.
    let header = (and_parts (has_header (drop at bytes)) _ yes).0 in
    let long = leb-true 64 (length (drop at bytes)) (and_parts _ _ header).0 in
    absurd (omega (arith, long, length-drop at bytes)))
    (λ no. no) (cases_Bool (is_packet_at bytes at))

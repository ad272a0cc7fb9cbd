-- The fields of a kept packet, read according to its kind, or the reason why
-- its body is not usable.
use Rattle.std.specs.Prelude.{ℕ, List, Option, Some, None}
use Rattle.parfield.specs.declared.hash16.Hash16.{Hash16}
use Rattle.parfield.specs.declared.kind.Kind.{Kind}
use Rattle.parfield.specs.declared.kind.Kind.TheVariants as kind
use Rattle.parsalvage.specs.Kept.{held_front_of, held_length_of}
use Rattle.parsalvage.specs.declared.kept.KeptBody.{KeptBody}
use Rattle.parsalvage.specs.declared.kept.KeptBody.TheVariants.{Whole, Front}
use Rattle.parset.specs.Bodies.{main_of, description_of, checksums_of, exponent_of, creator_text_of}
use Rattle.parset.specs.Reasons.{main_reason, description_reason, checksums_reason, slice_reason}
use Rattle.parset.specs.Reasons.{creator_reason}
use Rattle.parset.specs.declared.bodies.aside.Aside.{Aside}
use Rattle.parset.specs.declared.bodies.aside.Aside.TheVariants.{OverLimit}
use Rattle.parset.specs.declared.bodies.checksums.Ifsc.{Ifsc}
use Rattle.parset.specs.declared.bodies.description.Desc.{Desc}
use Rattle.parset.specs.declared.bodies.main_packet.Main.{Main}

-- the fields of a body if there is no reason against it, else None
abbrev pub usable_fields : {T : Type 0} → Option Aside → T → Option T
usable_fields None fields = Some fields
usable_fields (Some reason) fields = None

-- the fields of a packet if it is a usable Main packet
abbrev pub usable_main : Kind → KeptBody → Hash16 → Option Main
usable_main kind.Main (Whole body) set = usable_fields (main_reason body set) (main_of body)
usable_main _ _ set = None

-- the fields of a packet if it is a usable FileDesc packet
abbrev pub usable_description : Kind → KeptBody → Option Desc
usable_description kind.FileDesc (Whole body) =
    usable_fields (description_reason body) (description_of body)
usable_description _ _ = None

-- the fields of a packet if it is a usable IFSC packet
abbrev pub usable_checksums : Kind → KeptBody → Option Ifsc
usable_checksums kind.Ifsc (Whole body) = usable_fields (checksums_reason body) (checksums_of body)
usable_checksums _ _ = None

-- the exponent of a packet if it is a RecvSlic packet that is usable with this slice size
abbrev pub usable_exponent : ℕ → Kind → KeptBody → Option ℕ
usable_exponent size kind.RecvSlic body =
    usable_fields (slice_reason (held_front_of body) (held_length_of body) size)
    (exponent_of (held_front_of body))
usable_exponent size _ _ = None

-- the text of a packet if it is a usable Creator packet
abbrev pub usable_creator_text : Kind → KeptBody → Option (List ℕ)
usable_creator_text kind.Creator (Whole body) =
    usable_fields (creator_reason body) (creator_text_of body)
usable_creator_text _ _ = None

-- why the body is not usable in a set of this slice size, or None if it is. Bodies of four kinds
-- are kept whole up to a limit: if only the front of one was kept, it is over that limit
abbrev pub reason_of : ℕ → Kind → KeptBody → Hash16 → Option Aside
reason_of size (kind.Other field) body set = None
reason_of size kind.RecvSlic body set = slice_reason (held_front_of body) (held_length_of body) size
reason_of size _ (Front first len) set = Some OverLimit
reason_of size kind.Main (Whole body) set = main_reason body set
reason_of size kind.FileDesc (Whole body) set = description_reason body
reason_of size kind.Ifsc (Whole body) set = checksums_reason body
reason_of size kind.Creator (Whole body) set = creator_reason body

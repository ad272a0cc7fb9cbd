-- The type field of a packet header (PAR2 2.0, the types of packets).
use Rattle.std.specs.Prelude.{ℕ, List, [], ◌∷◌, ◌++◌, codes, if◌then◌else◌}
use Rattle.std.specs.Str.{bytes_eq}
use Rattle.parfield.specs.declared.kind.Kind.{Kind}
use Rattle.parfield.specs.declared.kind.Kind.TheVariants.{Main, FileDesc, Ifsc, RecvSlic, Creator, Other}

-- a type field of the standard: `PAR 2.0`, a zero byte, and eight bytes that
-- differ from type to type
abbrev pub standard_type : List ℕ → List ℕ
standard_type own = (codes "PAR 2.0" ++ 0 ∷ []) ++ own

-- the sixteen bytes of the type field of each kind
abbrev pub type_bytes : Kind → List ℕ
type_bytes Main = standard_type (codes "Main" ++ 0 ∷ 0 ∷ 0 ∷ 0 ∷ [])
type_bytes FileDesc = standard_type (codes "FileDesc")
type_bytes Ifsc = standard_type (codes "IFSC" ++ 0 ∷ 0 ∷ 0 ∷ 0 ∷ [])
type_bytes RecvSlic = standard_type (codes "RecvSlic")
type_bytes Creator = standard_type (codes "Creator" ++ 0 ∷ [])
type_bytes (Other bytes) = bytes

-- the kind that a type field names; `Other` never holds one of the five
abbrev pub kind_of : List ℕ → Kind
kind_of field =
    if bytes_eq field (type_bytes Main) then Main
    else if bytes_eq field (type_bytes FileDesc) then FileDesc
    else if bytes_eq field (type_bytes Ifsc) then Ifsc
    else if bytes_eq field (type_bytes RecvSlic) then RecvSlic
    else if bytes_eq field (type_bytes Creator) then Creator
    else Other field

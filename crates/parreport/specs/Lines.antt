-- The lines that are written. Each ends with a line feed, and its fields are separated by one
-- space.
use Rattle.std.specs.Prelude.{ℕ, ◌++◌, Bool, List, length, codes, if◌then◌else◌}
use Rattle.std.specs.Fmt.{decimal}
use Rattle.parfield.specs.Hex.{encode_lower}
use Rattle.parfield.specs.Shown.{shown}
use Rattle.parfield.specs.declared.kind.Kind.{Kind}
use Rattle.parfield.specs.declared.kind.Kind.TheVariants.{Main, FileDesc, Ifsc, RecvSlic, Creator, Other}
use Rattle.parsalvage.specs.declared.kept.Kept.{Kept}
use Rattle.parset.specs.Reasons.{reason_number}
use Rattle.parset.specs.RecoverySet.{SetView}
use Rattle.parset.specs.Slices.{slice_count}
use Rattle.parset.specs.declared.recovery_set.SetAside.{SetAside}
use Rattle.parset.specs.declared.recovery_set.SetFile.{SetFile}
use Rattle.parset.specs.declared.recovery_set.SetSlice.{SetSlice}
use Rattle.parfind.specs.CursorText.{cursor_text}
use Rattle.parfind.specs.declared.cursors.cursor_text.CursorText.{CursorText}

-- the word for the kind of a packet
abbrev pub kind_word : Kind → List ℕ
kind_word Main = codes "main"
kind_word FileDesc = codes "filedesc"
kind_word Ifsc = codes "ifsc"
kind_word RecvSlic = codes "recvslic"
kind_word Creator = codes "creator"
kind_word (Other field) = codes "unknown"

-- `<packet file> <offset> <length> <kind> <set ID>`, of a packet in a file of this name
unfoldable pub packet_line : List ℕ → Kept → List ℕ
packet_line name p =
    shown name ++ (codes " " ++ (decimal p.at ++ (codes " " ++ (decimal p.length ++ (codes " "
    ++ (kind_word p.kind ++ (codes " " ++ (encode_lower p.set.0 ++ codes "\n"))))))))

-- `packets <n>`
unfoldable pub count_line : ℕ → List ℕ
count_line n = codes "packets " ++ (decimal n ++ codes "\n")

-- `set <ID> size <S> slices <N>`
unfoldable pub set_line : SetView → List ℕ
set_line set =
    codes "set " ++ (encode_lower set.id.0 ++ (codes " size " ++ (decimal set.size
    ++ (codes " slices " ++ (decimal (length set.slices) ++ codes "\n")))))

-- the word for whether checksums are known
abbrev pub yes_or_no : Bool → List ℕ
yes_or_no known = if known then codes "yes" else codes "no"

-- `file <file ID> <length> <slices> <yes or no> <name>`, in a set of this slice size
unfoldable pub file_line : ℕ → SetFile → List ℕ
file_line size file =
    codes "file " ++ (encode_lower file.id.0 ++ (codes " " ++ (decimal file.length ++ (codes " "
    ++ (decimal (slice_count size file.length) ++ (codes " " ++ (yes_or_no file.known ++ (codes " "
    ++ (shown file.name ++ codes "\n")))))))))

-- `others <n>`
unfoldable pub others_line : ℕ → List ℕ
others_line n = codes "others " ++ (decimal n ++ codes "\n")

-- `have <n>`
unfoldable pub have_line : ℕ → List ℕ
have_line n = codes "have " ++ (decimal n ++ codes "\n")

-- `creator <text>`
unfoldable pub creator_line : List ℕ → List ℕ
creator_line text = codes "creator " ++ (shown text ++ codes "\n")

-- `aside <packet file> <offset> <reason>`, of a rejected packet in a file of this name
unfoldable pub aside_line : List ℕ → SetAside → List ℕ
aside_line name put_aside =
    codes "aside " ++ (shown name ++ (codes " " ++ (decimal put_aside.at ++ (codes " "
    ++ (decimal (reason_number put_aside.reason) ++ codes "\n")))))

-- `<scanned file> <offset> <file ID> <slice number>`, of a slice seen in a file of this name
unfoldable pub sighting_line : List ℕ → ℕ → SetSlice → List ℕ
sighting_line name offset slice =
    shown name ++ (codes " " ++ (decimal offset ++ (codes " " ++ (encode_lower slice.id.0
    ++ (codes " " ++ (decimal slice.number ++ codes "\n"))))))

-- `end`
unfoldable pub end_line : List ℕ
end_line = codes "end\n"

-- `cursor <text>`
unfoldable pub cursor_line : CursorText → List ℕ
cursor_line t = codes "cursor " ++ (cursor_text t ++ codes "\n")

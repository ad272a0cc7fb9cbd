-- The texts of a cursor in a set: `<ID>:<file>:<offset>:<slice>` in the first version, and in the
-- second `2:<ID>:<list>:<file>:<offset>:<slice>`, with the mark (the fingerprint) of the list of
-- scanned files. Nothing comes before or after.
use Rattle.std.specs.Prelude.{◌≡◌, ◌↔◌, ℕ, ◌^◌, ◌<◌, ◌==◌, ◌&&◌, ◌||◌, nat_lt, nat_le, Bool, false, true, List, [], ◌∷◌, ◌++◌, length, All, codes, Option, Some, None, IfSome, option_and_then, Result, Ok, Err, if◌then◌else◌}
use Rattle.std.specs.Fmt.{decimal}
use Rattle.std.specs.List.{list_all, slice_split}
use Rattle.std.specs.Result.{result_map_both}
use Rattle.std.specs.Char.{is_ascii_digit}
use Rattle.std.specs.Str.{bytes_eq}
use Rattle.std.specs.Str.Parse.{digits_value}
use Rattle.parfield.specs.Hash16.{hex_hash_of}
use Rattle.parfield.specs.Hex.{encode_lower}
use Rattle.parfield.specs.declared.hash16.Hash16.{Hash16}
use Rattle.parfind.specs.declared.cursors.cursor.Cursor.{Cursor}
use Rattle.parfind.specs.declared.cursors.cursor_text.CursorFault.{CursorFault}
use Rattle.parfind.specs.declared.cursors.cursor_text.CursorFault.TheVariants.{Form, OtherSet, OtherList}
use Rattle.parfind.specs.declared.cursors.cursor_text.CursorText.{CursorText}
use Rattle.parfind.specs.declared.cursors.cursor_text.Foreign.{Foreign}
use Rattle.parfind.specs.declared.cursors.cursor_text.Foreign.TheVariants as foreign

-- the file, the offset and the slice of a cursor: three decimal numbers, with a colon between each
-- two
abbrev pub where_text : Cursor → List ℕ
where_text c =
    decimal c.file ++ (codes ":" ++ (decimal c.offset ++ (codes ":" ++ decimal c.slice)))

-- sixteen bytes as lower-case hexadecimal digits, a colon, and the rest
abbrev pub hash_text : Hash16 → List ℕ → List ℕ
hash_text hash rest = encode_lower hash.0 ++ (codes ":" ++ rest)

-- the text of a cursor in a set: of the second version if there is a list mark, else of the first
abbrev pub versioned_text : Hash16 → Option Hash16 → Cursor → List ℕ
versioned_text set None at = hash_text set (where_text at)
versioned_text set (Some list) at = codes "2:" ++ hash_text set (hash_text list (where_text at))

-- the text of an ID, a list mark (or none) and a cursor
unfoldable pub cursor_text : CursorText → List ℕ
cursor_text t = versioned_text t.set t.list t.at

-- whether a byte is a colon
abbrev pub is_colon : ℕ → Bool
is_colon byte = byte == 58

-- whether a byte is one of `0` to `9` and `a` to `f`
abbrev pub is_lower_digit : ℕ → Bool
is_lower_digit byte = nat_le 48 byte && nat_le byte 57 || nat_le 97 byte && nat_le byte 102

-- the sixteen bytes that 32 lower-case hexadecimal digits write
abbrev pub parsed_hash : List ℕ → Option Hash16
parsed_hash part = if list_all is_lower_digit part then hex_hash_of part else None

-- whether a part is canonical decimal: `0`, or digits of which the first isn't `0`
abbrev pub is_canonical : List ℕ → Bool
is_canonical [] = false
is_canonical (first ∷ others) =
    if first == 48 then length others == 0 else list_all is_ascii_digit (first ∷ others)

-- the number that canonical decimal digits write, if it is below a limit
abbrev pub number_of : ℕ → List ℕ → Option ℕ
number_of limit part =
    if is_canonical part && nat_lt (digits_value 10 part) limit then Some (digits_value 10 part)
    else None

-- the result of a function for a value, if there is a value
abbrev pub and_then : {A B : Type 0} → Option A → (A → Option B) → Option B
and_then found f = option_and_then f found

-- the cursor that three parts write as decimal numbers
abbrev pub cursor_of_parts : List (List ℕ) → Option Cursor
cursor_of_parts (a ∷ b ∷ c ∷ []) =
    and_then (number_of (2 ^ 32) a) (λ file.
    and_then (number_of (2 ^ 64) b) (λ offset.
    and_then (number_of (2 ^ 32) c) (λ slice.
    Some (record { file = file; offset = offset; slice = slice }))))
cursor_of_parts _ = None

-- the ID and the cursor of a text of the first version, given its first part and those of the
-- cursor
abbrev pub first_version : List ℕ → List (List ℕ) → Option CursorText
first_version id parts =
    and_then (parsed_hash id) (λ set.
    and_then (cursor_of_parts parts) (λ at.
    Some (record { set = set; list = None; at = at })))

-- the ID, the list mark and the cursor of a text of the second version, given its parts after the
-- `2`
abbrev pub second_version : List (List ℕ) → Option CursorText
second_version (id ∷ mark ∷ parts) =
    and_then (parsed_hash id) (λ set.
    and_then (parsed_hash mark) (λ list.
    and_then (cursor_of_parts parts) (λ at.
    Some (record { set = set; list = Some list; at = at }))))
second_version _ = None

-- the ID, the list mark (or none) and the cursor that the parts of a text write, in either version
abbrev pub text_of_parts : List (List ℕ) → Option CursorText
text_of_parts [] = None
text_of_parts (first ∷ parts) =
    if bytes_eq first (codes "2") then second_version parts else first_version first parts

-- the ID, the list mark (or none) and the cursor that a text writes; its parts are those between
-- its colons
unfoldable pub cursor_text_of : List ℕ → Option CursorText
cursor_text_of text = text_of_parts (slice_split is_colon text)

-- whether a cursor text is for a list of files: a text without a mark is for every list, and any
-- other one for the list that has its mark
abbrev pub is_for_list : Hash16 → Option Hash16 → Bool
is_for_list list None = true
is_for_list list (Some mark) = bytes_eq mark.0 list.0

-- the cursor of a text that is for this set and this list, or the error; another set is tested
-- before another list
abbrev pub cursor_for : Hash16 → Hash16 → CursorText → Result Cursor Foreign
cursor_for set list t =
    if bytes_eq t.set.0 set.0
    then (if is_for_list list t.list then Ok t.at else Err foreign.OtherList)
    else Err foreign.OtherSet

-- the error of a text that is for another set or another list
abbrev pub cursor_fault_of : Foreign → CursorFault
cursor_fault_of foreign.OtherSet = OtherSet
cursor_fault_of foreign.OtherList = OtherList

-- the result of reading a text as a cursor of this set and this list
abbrev pub read_for : Hash16 → Hash16 → Option CursorText → Result Cursor CursorFault
read_for set list None = Err Form
read_for set list (Some t) = result_map_both (λ at. at) cursor_fault_of (cursor_for set list t)

-- sixteen bytes, as an ID or a mark
pub record IsHash (hash : Hash16) : Type 0 where
  pub sixteen : length hash.0 ≡ 16
  pub bytes : All (λ byte. byte < 256) hash.0

-- the ID and the mark have sixteen bytes each, and the cursor's numbers fit into 32, 64 and 32 bits
pub record IsCursorText (t : CursorText) : Type 0 where
  pub set_is : IsHash t.set
  pub list_is : IfSome t.list IsHash
  pub file_fits : t.at.file < 2 ^ 32
  pub offset_fits : t.at.offset < 2 ^ 64
  pub slice_fits : t.at.slice < 2 ^ 32

-- reading a text returns this ID, mark and cursor exactly if it is their text
abbrev pub ReadsItsText : Type 0
ReadsItsText =
    (text : List ℕ) (t : CursorText)
    → (cursor_text_of text ≡ Some t) ↔ (IsCursorText t × (text ≡ cursor_text t))

-- if two cursors, each with its set and its mark (or none), have the same text, they are the same
abbrev pub HasOneText : Type 0
HasOneText =
    (t other : CursorText) → IsCursorText t → IsCursorText other
    → cursor_text t ≡ cursor_text other → t ≡ other

-- Why a packet body is not usable: the limits of this implementation, and the rules of PAR2 2.0
-- for each kind of body.
use Rattle.std.specs.Prelude.{ℕ, ◌-◌, ◌%◌, ◌==◌, ◌||◌, not, nat_lt, nat_le, Bool, false}
use Rattle.std.specs.Prelude.{Option, Some, None, List, [], ◌∷◌, ◌++◌, length, if◌then◌else◌}
use Rattle.std.specs.List.{list_any}
use Rattle.std.specs.Str.{bytes_eq}
use Rattle.md5.specs.Md5.{md5}
use Rattle.parfield.specs.declared.hash16.Hash16.{Hash16}
use Rattle.parset.specs.Bodies.{slice_size_field, file_count_field, file_ids_of, file_length_field}
use Rattle.parset.specs.Bodies.{name_of, pairs_of, exponent_of}
use Rattle.parsalvage.specs.Kept.{body_limit}
use Rattle.parset.specs.Limits.{slice_size_limit, file_limit, slice_limit, name_limit}
use Rattle.parset.specs.Limits.{file_length_limit, exponent_limit}
use Rattle.parset.specs.declared.bodies.aside.Aside.{Aside}
use Rattle.parset.specs.declared.bodies.aside.Aside.TheVariants.{WrongLength, SliceSize}
use Rattle.parset.specs.declared.bodies.aside.Aside.TheVariants.{IdTwice, SetId, Name, OverLimit}

-- the number by which a reason is printed; no reason has number 6
abbrev pub reason_number : Aside → ℕ
reason_number WrongLength = 1
reason_number SliceSize = 2
reason_number IdTwice = 3
reason_number SetId = 4
reason_number Name = 5
reason_number OverLimit = 7

-- the reason of the first line whose condition is true, or None if no line applies
abbrev pub first_reason : List (Bool × Aside) → Option Aside
first_reason [] = None
first_reason (line ∷ lines) = if line.0 then Some line.1 else first_reason lines

-- the body has more bytes than are kept
abbrev pub is_over_limit : List ℕ → Bool
is_over_limit body = nat_lt body_limit (length body)

-- the body is too short for its fields or its IDs, or ends within an ID
abbrev pub has_wrong_main_length : List ℕ → Bool
has_wrong_main_length body =
    nat_lt (length body) 12 || (not ((length body - 12) % 16 == 0)
    || nat_lt (length (file_ids_of body)) (file_count_field body))

-- the slice size is 0 or not a multiple of 4
abbrev pub has_wrong_size : List ℕ → Bool
has_wrong_size body = slice_size_field body == 0 || not (slice_size_field body % 4 == 0)

-- the slice size or the number of IDs is above its limit
abbrev pub is_large_main : List ℕ → Bool
is_large_main body =
    nat_lt slice_size_limit (slice_size_field body)
    || nat_lt file_limit (length (file_ids_of body))

-- an ID is listed twice
unfoldable pub has_repeat : List Hash16 → Bool
has_repeat [] = false
has_repeat (x ∷ xs) = list_any (λ y. bytes_eq x.0 y.0) xs || has_repeat xs

-- the conditions on a Main body that can be tested without memory, in order, each with its reason
abbrev pub early_main_lines : List ℕ → List (Bool × Aside)
early_main_lines body =
    (is_over_limit body, OverLimit)
    ∷ (has_wrong_main_length body, WrongLength)
    ∷ (has_wrong_size body, SliceSize)
    ∷ (is_large_main body, OverLimit)
    ∷ []

-- the first of these reasons that applies: an early one
unfoldable pub early_main_reason : List ℕ → Option Aside
early_main_reason body = first_reason (early_main_lines body)

-- why a Main body is not usable in a packet that has this recovery set ID
unfoldable pub main_reason : List ℕ → Hash16 → Option Aside
main_reason body set = first_reason (early_main_lines body ++ (
    (has_repeat (file_ids_of body), IdTwice)
    ∷ (not (bytes_eq (md5 body) set.0), SetId)
    ∷ []))

-- the name is empty, is longer than a name may be, or has a zero byte inside
unfoldable pub is_wrong_name : List ℕ → Bool
is_wrong_name name =
    length name == 0 || (nat_lt name_limit (length name) || list_any (λ b. b == 0) name)

-- why a File Description body is not usable
unfoldable pub description_reason : List ℕ → Option Aside
description_reason body = first_reason (
    (is_over_limit body, OverLimit)
    ∷ (nat_lt (length body) 56 || not (length body % 4 == 0), WrongLength)
    ∷ (is_wrong_name (name_of body), Name)
    ∷ (nat_le file_length_limit (file_length_field body), OverLimit)
    ∷ [])

-- why an Input File Slice Checksum body is not usable
unfoldable pub checksums_reason : List ℕ → Option Aside
checksums_reason body = first_reason (
    (is_over_limit body, OverLimit)
    ∷ (nat_lt (length body) 16 || not ((length body - 16) % 20 == 0), WrongLength)
    ∷ (nat_lt slice_limit (length (pairs_of body)), OverLimit)
    ∷ [])

-- why a Recovery Slice body is not usable, according to its first four bytes, its
-- length and the slice size
unfoldable pub slice_reason : List ℕ → ℕ → ℕ → Option Aside
slice_reason first len size = first_reason (
    (nat_lt len 4 || not (len - 4 == size), WrongLength)
    ∷ (nat_lt exponent_limit (exponent_of first), OverLimit)
    ∷ [])

-- why a Creator body is not usable
unfoldable pub creator_reason : List ℕ → Option Aside
creator_reason body = first_reason ((is_over_limit body, OverLimit) ∷ [])

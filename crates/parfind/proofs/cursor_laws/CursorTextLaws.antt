-- The texts of cursors: how they are split at their colons, and that reading a text undoes writing
-- it.
use Rattle.std.proofs.Common.{◌≡◌, ℕ, ◌^◌, ◌<◌, false, inl, inr, List, [], ◌∷◌, ◌++◌, length, unwrap_or, Option, Some, None, refl, sym, ap, ◌∙◌, arith}
use Rattle.std.specs.Fmt.{decimal}
use Rattle.std.specs.List.{join_with_byte, slice_split}
use Rattle.std.specs.Char.{is_ascii_digit}
use Rattle.std.specs.Prelude.{codes}
use Rattle.std.specs.Str.{bytes_eq}
use Rattle.std.proofs.lemmas.Bool.{cases_Bool}
use Rattle.std.proofs.lemmas.List.Splits.{join_with_byte-slice_split, slice_split_at, slice_split_none}
use Rattle.std.proofs.lemmas.Slice.Eq.{bytes_eq-Decides}
use Rattle.hex.specs.Hex.{encode_lower, lower_digits}
use Rattle.hex.proofs.HexLemmas.{length-encode_with}
use Rattle.parfield.specs.declared.hash16.Hash16.{Hash16}
use Rattle.parfind.specs.declared.cursors.cursor.Cursor.{Cursor}
use Rattle.parfind.specs.declared.cursors.cursor_text.CursorText.{CursorText}
use Rattle.parfind.specs.CursorText.{cursor_of_parts, cursor_text, cursor_text_of, first_version, parsed_hash, hash_text, is_canonical, is_colon, is_lower_digit, number_of, second_version, text_of_parts, versioned_text, where_text, HasOneText, IsCursorText, IsHash, ReadsItsText, and_then}
use Rattle.parfind.proofs.cursor_laws.SplitAtColonLaws.{no_colon, no_colon-decimal}
use Rattle.parfind.proofs.cursor_laws.HashTextLaws.{encode_lower-parsed_hash, parsed_hash-encode_lower, lower-encode_lower}
use Rattle.parfind.proofs.cursor_laws.NumberLaws.{canonical_parts, decimal-number_of, number_of-decimal}

-- ---- reading

bind_some : {A B : Type 0} (o : Option A) (f : A → Option B) (y : B)
    → (and_then o f) ≡ Some y → (x : A) × (o ≡ Some x) × (f x ≡ Some y)
bind_some (Some x) f y h = (x, refl, h)
bind_some None f y h = cc h

bind_none : {A B : Type 0} (o : Option A) (f : A → Option B)
    → ((x : A) → f x ≡ None) → (and_then o f) ≡ None
bind_none (Some x) f h = h x
bind_none None f h = refl

same_some : {A : Type 0} (x y : A) → Some x ≡ Some y → x ≡ y
same_some x y h = ap (λ (o : Option _). unwrap_or o x) h

-- if the last of three parts is no number, the parts are no cursor
no_slice : (a b d : List ℕ) → number_of (2 ^ 32) d ≡ None
    → cursor_of_parts (a ∷ b ∷ d ∷ []) ≡ None
no_slice a b d h =
    bind_none (number_of (2 ^ 32) a) _ (λ file.
    bind_none (number_of (2 ^ 64) b) _ (λ offset. rw h refl))

no_slice_parts : (a b d : List ℕ) (parts : List (List ℕ))
    → (number_of (2 ^ 32) d ≡ None) × (join_with_byte 58 parts ≡ d)
    → cursor_of_parts (a ∷ b ∷ parts) ≡ None
no_slice_parts a b d [] h = refl
no_slice_parts a b d (x ∷ []) h = no_slice a b x (ap (number_of (2 ^ 32)) h.1 ∙ h.0)
no_slice_parts a b d (x ∷ y ∷ more) h = refl

-- whether the part after the second colon is split further makes no difference: with a colon in it,
-- it is no number, and the parts are no cursor
pub last_part : (a b d : List ℕ)
    → cursor_of_parts (a ∷ b ∷ slice_split is_colon d) ≡ cursor_of_parts (a ∷ b ∷ d ∷ [])
last_part a b d =
    elim (cases_Bool (is_canonical d)) [
      | inl canonical ↦
          let digits = (canonical_parts d canonical).digits in
          ap (λ (parts : List (List ℕ)). cursor_of_parts (a ∷ b ∷ parts))
          (slice_split_none is_colon d (no_colon is_ascii_digit refl d digits))
      | inr other ↦
          let none : number_of (2 ^ 32) d ≡ None = rw other refl in
          no_slice_parts a b d (slice_split is_colon d) (none, join_with_byte-slice_split 58 d)
          ∙ sym (no_slice a b d none)
    ]

-- ---- a text that is read is the one that is written

-- the numbers of a cursor fit into 32, 64 and 32 bits
abbrev Fits : Cursor → Type 0
Fits c = (c.file < 2 ^ 32) × (c.offset < 2 ^ 64) × (c.slice < 2 ^ 32)

numbers_joined : (a b d : List ℕ) (c : Cursor)
    → (a ≡ decimal c.file) × (b ≡ decimal c.offset) × (d ≡ decimal c.slice)
    → join_with_byte 58 (a ∷ b ∷ d ∷ []) ≡ where_text c
numbers_joined a b d c h = rw (h.0, h.1, h.2) refl

-- parts that are read as a cursor, joined by colons, are its text
where_written : (parts : List (List ℕ)) (c : Cursor) → cursor_of_parts parts ≡ Some c
    → Fits c × (join_with_byte 58 parts ≡ where_text c)
where_written [] c h = cc h
where_written (a ∷ []) c h = cc h
where_written (a ∷ b ∷ []) c h = cc h
where_written (a ∷ b ∷ d ∷ x ∷ more) c h = cc h
where_written (a ∷ b ∷ d ∷ []) c h =
    let first = bind_some (number_of (2 ^ 32) a) _ c h in
    let second = bind_some (number_of (2 ^ 64) b) _ c first.2 in
    let third = bind_some (number_of (2 ^ 32) d) _ c second.2 in
    let at : Cursor = record { file = first.0; offset = second.0; slice = third.0 } in
    let same = same_some at c third.2 in
    let own_a = decimal-number_of (2 ^ 32) first.0 a (omega arith) first.1 in
    let own_b = decimal-number_of (2 ^ 64) second.0 b (omega arith) second.1 in
    let own_d = decimal-number_of (2 ^ 32) third.0 d (omega arith) third.1 in
    rw (← same) ((own_a.1, own_b.1, own_d.1), numbers_joined a b d at (own_a.0, own_b.0, own_d.0))

-- the digits of sixteen bytes and the parts of a cursor, joined by colons, are their text
joined_some : (first : List ℕ) (parts : List (List ℕ)) (hash : Hash16) (c : Cursor)
    → (first ≡ encode_lower hash.0) × (cursor_of_parts parts ≡ Some c)
    → join_with_byte 58 (first ∷ parts) ≡ hash_text hash (where_text c)
joined_some first [] hash c h = cc h.1
joined_some first (x ∷ more) hash c h =
    ap (λ (rest : List ℕ). first ++ (58 ∷ rest)) (where_written (x ∷ more) c h.1).1
    ∙ ap (λ (part : List ℕ). part ++ (58 ∷ where_text c)) h.0

first_written : (id : List ℕ) (parts : List (List ℕ)) (t : CursorText)
    → first_version id parts ≡ Some t
    → IsCursorText t × (join_with_byte 58 (id ∷ parts) ≡ cursor_text t)
unfolding cursor_text
first_written id parts t h =
    let set = bind_some (parsed_hash id) _ t h in
    let at = bind_some (cursor_of_parts parts) _ t set.2 in
    let told : CursorText = record { set = set.0; list = None; at = at.0 } in
    let same = same_some told t at.2 in
    let own = encode_lower-parsed_hash id set.0 set.1 in
    let fits = (where_written parts at.0 at.1).0 in
    rw (← same) (
      record {
        set_is = own.1;
        list_is = tt;
        file_fits = fits.0;
        offset_fits = fits.1;
        slice_fits = fits.2;
      },
      joined_some id parts set.0 at.0 (own.0, at.1),
    )

second_written : (parts : List (List ℕ)) (t : CursorText) → second_version parts ≡ Some t
    → IsCursorText t × (join_with_byte 58 (codes "2" ∷ parts) ≡ cursor_text t)
unfolding cursor_text
second_written [] t h = cc h
second_written (id ∷ []) t h = cc h
second_written (id ∷ mark ∷ parts) t h =
    let set = bind_some (parsed_hash id) _ t h in
    let list = bind_some (parsed_hash mark) _ t set.2 in
    let at = bind_some (cursor_of_parts parts) _ t list.2 in
    let told : CursorText = record { set = set.0; list = Some list.0; at = at.0 } in
    let same = same_some told t at.2 in
    let own = encode_lower-parsed_hash id set.0 set.1 in
    let own_list = encode_lower-parsed_hash mark list.0 list.1 in
    let fits = (where_written parts at.0 at.1).0 in
    let rest = hash_text list.0 (where_text at.0) in
    let joined = joined_some mark parts list.0 at.0 (own_list.0, at.1) in
    rw (← same) (
      record {
        set_is = own.1;
        list_is = own_list.1;
        file_fits = fits.0;
        offset_fits = fits.1;
        slice_fits = fits.2;
      },
      ap (λ (more : List ℕ). codes "2:" ++ (id ++ (58 ∷ more))) joined
          ∙ ap (λ (part : List ℕ). codes "2:" ++ (part ++ (58 ∷ rest))) own.0,
    )

parts_written : (parts : List (List ℕ)) (t : CursorText) → text_of_parts parts ≡ Some t
    → IsCursorText t × (join_with_byte 58 parts ≡ cursor_text t)
parts_written [] t h = cc h
parts_written (first ∷ parts) t h =
    elim (cases_Bool (bytes_eq first (codes "2"))) [
      | inl two ↦
          let is_two = (bytes_eq-Decides first (codes "2")).0 two in
          let p = second_written parts t (rw two at h) in
          (p.0, ap (λ (part : List ℕ). join_with_byte 58 (part ∷ parts)) is_two ∙ p.1)
      | inr other ↦ first_written first parts t (rw other at h)
    ]

-- if a text is read, it is the text of the result
cursor_text-cursor_text_of : (text : List ℕ) (t : CursorText) → cursor_text_of text ≡ Some t
    → IsCursorText t × (text ≡ cursor_text t)
unfolding cursor_text_of
cursor_text-cursor_text_of text t h =
    let p = parts_written (slice_split is_colon text) t h in
    (p.0, sym (join_with_byte-slice_split 58 text) ∙ p.1)

-- ---- a text that is written is read

cursor_of-where_text : (c : Cursor) → Fits c
    → cursor_of_parts (slice_split is_colon (where_text c)) ≡ Some c
cursor_of-where_text c fits =
    let file = number_of-decimal (2 ^ 32) c.file (omega arith) fits.0 in
    let offset = number_of-decimal (2 ^ 64) c.offset (omega arith) fits.1 in
    let slice = number_of-decimal (2 ^ 32) c.slice (omega arith) fits.2 in
    let more : List ℕ = decimal c.offset ++ (58 ∷ decimal c.slice) in
    let first = slice_split_at is_colon (decimal c.file) 58 more (no_colon-decimal c.file (omega arith)) refl in
    let digits = no_colon-decimal c.offset fits.1 in
    let second = slice_split_at is_colon (decimal c.offset) 58 (decimal c.slice) digits refl in
    let third = slice_split_none is_colon (decimal c.slice) (no_colon-decimal c.slice (omega arith)) in
    rw (first, second, third, file, offset, slice) refl

hash_parted : (hash : Hash16) (rest : List ℕ) → IsHash hash
    → slice_split is_colon (hash_text hash rest) ≡ encode_lower hash.0 ∷ slice_split is_colon rest
hash_parted hash rest h =
    let lower = no_colon is_lower_digit refl (encode_lower hash.0) (lower-encode_lower hash h) in
    slice_split_at is_colon (encode_lower hash.0) 58 rest lower refl

-- the digits of sixteen bytes are not the `2` of the second version
no_version : (hash : Hash16) → IsHash hash → bytes_eq (encode_lower hash.0) (codes "2") ≡ false
no_version hash h =
    elim (cases_Bool (bytes_eq (encode_lower hash.0) (codes "2"))) [
      | inr other ↦ other
      | inl two ↦
          let same = (bytes_eq-Decides (encode_lower hash.0) (codes "2")).0 two in
          let short : length (encode_lower hash.0) ≡ 1 = rw same refl in
          absurd (omega (arith, short, length-encode_with lower_digits hash.0, h.sixteen))
    ]

versioned_read : (set : Hash16) (list : Option Hash16) (at : Cursor)
    → IsCursorText (record { set = set; list = list; at = at })
    → cursor_text_of (versioned_text set list at) ≡ Some (record { set = set; list = list; at = at })
unfolding cursor_text_of
versioned_read set None at h =
    let cursor = cursor_of-where_text at (h.file_fits, h.offset_fits, h.slice_fits) in
    let split_at_colon = hash_parted set (where_text at) h.set_is in
    let id = parsed_hash-encode_lower set h.set_is in
    rw (split_at_colon, no_version set h.set_is, id, cursor) refl
versioned_read set (Some list) at h =
    let cursor = cursor_of-where_text at (h.file_fits, h.offset_fits, h.slice_fits) in
    let mark : IsHash list = h.list_is in
    let split_at_colon = hash_parted set (hash_text list (where_text at)) h.set_is in
    let more = hash_parted list (where_text at) mark in
    let id = parsed_hash-encode_lower set h.set_is in
    rw (split_at_colon, more, id, parsed_hash-encode_lower list mark, cursor) refl

text_read : (t : CursorText) → IsCursorText t → cursor_text_of (cursor_text t) ≡ Some t
unfolding cursor_text
text_read t h = versioned_read t.set t.list t.at h

pub reads_its_text : ReadsItsText
reads_its_text text t = (cursor_text-cursor_text_of text t, λ h. rw h.1 (text_read t h.0))

pub has_one_text : HasOneText
has_one_text t other h k same =
    same_some t other (sym (text_read t h) ∙ ap cursor_text_of same ∙ text_read other k)

-- The first thing that is found in packets, as a loop looks at one packet more at a time.
use Rattle.std.proofs.Common.{◌≡◌, ℕ, ◌+◌, ◌<◌, ◌∙◌, ◌&&◌, ◌==◌, Bool, true, false, cond, List, [], ◌∷◌, ◌++◌, length, get_or, map, take, drop, Option, Some, None, is_some, ap, refl, sym, if◌then◌else◌}
use Rattle.std.proofs.lemmas.List.{append-nil, drop_more, take_more, map-append}
use Rattle.std.proofs.lemmas.List.Elements.{filter_map-append}
use Rattle.std.specs.List.{cons_option, filter_map}
use Rattle.std.specs.Option.{option_or}
use Rattle.std.specs.Ordering.{is_eq}
use Rattle.std.specs.Str.{bytes_eq}
use Rattle.parfield.specs.HashOrder.{id_cmp, bytes_eq-reversed}
use Rattle.parfield.specs.declared.hash16.Hash16.{Hash16}
use Rattle.parset.specs.Choosing.{first_found, only_if}
use Rattle.parset.specs.declared.bodies.checksums.Ifsc.{Ifsc}
use Rattle.parset.proofs.IdLaws.{same_id}

-- ---- an element of a list of references
pub drop_at : {X : Type 0} (xs : List X) (i : ℕ) (x : X) → i < length xs → x ≡ get_or xs i x → drop i xs ≡ x ∷ drop (i + 1) xs
drop_at xs i x below item = drop_more xs i x below ∙ ap (λ z. z ∷ drop (i + 1) xs) (sym item)

pub map_drop_at : {X Y : Type 0} (g : Y → X) (ys : List Y) (i : ℕ) (y : Y) → i < length ys → y ≡ get_or ys i y
    → map g (drop i ys) ≡ g y ∷ map g (drop (i + 1) ys)
map_drop_at g ys i y below item = ap (map g) (drop_at ys i y below item)

pub map_take_at : {X Y : Type 0} (g : Y → X) (ys : List Y) (i : ℕ) (y : Y) → i < length ys → y ≡ get_or ys i y
    → map g (take (i + 1) ys) ≡ map g (take i ys) ++ g y ∷ []
map_take_at g ys i y below item =
    ap (map g) (take_more ys i y below) ∙ map-append g (take i ys) (get_or ys i y ∷ [])
    ∙ ap (λ z. map g (take i ys) ++ g z ∷ []) (sym item)

-- ---- the first thing that is found
pub option_or-None : {T : Type 0} (o : Option T) → option_or o None ≡ o
option_or-None None = refl
option_or-None (Some t) = refl

option_or-assoc : {T : Type 0} (a b c : Option T) → option_or a (option_or b c) ≡ option_or (option_or a b) c
option_or-assoc None b c = refl
option_or-assoc (Some t) b c = refl

pub first_found-push : {X T : Type 0} (f : X → Option T) (xs : List X) (x : X) → first_found f (xs ++ x ∷ []) ≡ option_or (first_found f xs) (f x)
first_found-push f [] x = option_or-None (f x)
first_found-push f (y ∷ ys) x =
    ap (option_or (f y)) (first_found-push f ys x) ∙ option_or-assoc (f y) (first_found f ys) (f x)

pub first_found_passes : {X T : Type 0} (f : X → Option T) (x : X) (xs ys : List X) → None ≡ f x → ys ≡ x ∷ xs → first_found f xs ≡ first_found f ys
first_found_passes f x xs ys none e = ap (λ o. option_or o (first_found f xs)) none ∙ ap (first_found f) (sym e)

pub first_found_stops : {X T : Type 0} (f : X → Option T) (x : X) (xs ys : List X) (t : T) → Some t ≡ f x → ys ≡ x ∷ xs → Some t ≡ first_found f ys
first_found_stops f x xs ys t some e = ap (λ o. option_or o (first_found f xs)) some ∙ ap (first_found f) (sym e)

pub first_found_more : {X Y T : Type 0} (f : X → Option T) (g : Y → X) (ys : List Y) (i : ℕ) (y : Y) (before after : Option T)
    → i < length ys → y ≡ get_or ys i y → before ≡ first_found f (map g (take i ys)) → after ≡ option_or before (f (g y))
    → after ≡ first_found f (map g (take (i + 1) ys))
first_found_more f g ys i y before after below item so_far now =
    now ∙ ap (λ o. option_or o (f (g y))) so_far ∙ sym (first_found-push f (map g (take i ys)) (g y))
    ∙ ap (first_found f) (sym (map_take_at g ys i y below item))

pub first_found_same : {X Y T : Type 0} (f : X → Option T) (g : Y → X) (ys : List Y) (i : ℕ) (y : Y) (before : Option T)
    → i < length ys → y ≡ get_or ys i y → before ≡ first_found f (map g (take i ys)) → None ≡ f (g y)
    → before ≡ first_found f (map g (take (i + 1) ys))
first_found_same f g ys i y before below item so_far none =
    first_found_more f g ys i y before before below item so_far (sym (option_or-None before) ∙ ap (option_or before) none)

-- ---- an entry that is put into a map only if its ID has none yet
None-from_is_some : {T : Type 0} (o : Option T) → is_some o ≡ false → o ≡ None
None-from_is_some None e = refl
None-from_is_some (Some t) e = cc

put_by : {T : Type 0} (o : Option T) (t : T) (here same : Bool) → here ≡ same → (same ≡ true → o ≡ None)
    → cond here (Some t) o ≡ option_or o (if same then Some t else None)
put_by o t here true e none = ap (λ b. cond b (Some t) o) e ∙ ap (λ p. option_or p (Some t)) (sym (none refl))
put_by o t here false e none = ap (λ b. cond b (Some t) o) e ∙ sym (option_or-None o)

pub put_where_none : {T : Type 0} (old : Hash16 → Option T) (id q : Hash16) (t : T) → is_some (old id) ≡ false
    → cond (is_eq (id_cmp id q)) (Some t) (old q) ≡ option_or (old q) (if bytes_eq id.0 q.0 then Some t else None)
put_where_none old id q t absent =
    put_by (old q) t (is_eq (id_cmp id q)) (bytes_eq id.0 q.0) (sym (bytes_eq-reversed id.0 q.0))
    (λ same. ap old (sym (same_id id q same)) ∙ None-from_is_some (old id) absent)

-- ---- checksums of a file whose number of slices is known
is_some_cond : (b : Bool) (n : ℕ) → b ≡ is_some (if b then Some n else None)
is_some_cond true n = refl
is_some_cond false n = refl

counted_by : {T : Type 0} (o : Option T) (passes same : Bool) (n : Option ℕ) (m count : ℕ) → (same ≡ true → n ≡ Some count)
    → is_some (only_if (λ c. m == c) n) ≡ passes → (if passes then (if same then o else None) else None) ≡ (if same && m == count then o else None)
counted_by o passes true n m count known e =
    let test : (m == count) ≡ passes = is_some_cond (m == count) count ∙ ap (λ x. is_some (only_if (λ c. m == c) x)) (sym (known refl)) ∙ e in
    ap (λ b. if b then o else None) (sym test)
counted_by o true false n m count known e = refl
counted_by o false false n m count known e = refl

pub counted : (counts : Hash16 → Option ℕ) (sums : Ifsc) (q : Hash16) (count : ℕ) (passes : Bool) → counts q ≡ Some count
    → is_some (only_if (λ c. length sums.sums == c) (counts sums.id)) ≡ passes
    → (if passes then (if bytes_eq sums.id.0 q.0 then Some sums else None) else None)
    ≡ (if bytes_eq sums.id.0 q.0 && length sums.sums == count then Some sums else None)
counted counts sums q count passes known e =
    counted_by (Some sums) passes (bytes_eq sums.id.0 q.0) (counts sums.id) (length sums.sums) count
    (λ same. ap counts (same_id sums.id q same) ∙ known) e

-- ---- the rejected packets
pub filter_map_more : {X Y T : Type 0} (f : X → Option T) (g : Y → X) (ys : List Y) (i : ℕ) (y : Y) (before : List T)
    → i < length ys → y ≡ get_or ys i y → before ≡ filter_map f (map g (take i ys))
    → before ++ cons_option (f (g y)) [] ≡ filter_map f (map g (take (i + 1) ys))
filter_map_more f g ys i y before below item so_far =
    ap (λ xs. xs ++ cons_option (f (g y)) []) so_far ∙ sym (filter_map-append f (map g (take i ys)) (g y ∷ []))
    ∙ ap (filter_map f) (sym (map_take_at g ys i y below item))

pub filter_map_same : {X Y T : Type 0} (f : X → Option T) (g : Y → X) (ys : List Y) (i : ℕ) (y : Y) (before : List T)
    → i < length ys → y ≡ get_or ys i y → before ≡ filter_map f (map g (take i ys)) → None ≡ f (g y)
    → before ≡ filter_map f (map g (take (i + 1) ys))
filter_map_same f g ys i y before below item so_far none =
    sym (append-nil before) ∙ ap (λ o. before ++ cons_option o []) none ∙ filter_map_more f g ys i y before below item so_far

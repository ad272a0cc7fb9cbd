-- Two lists side by side, element after element; and counts and sets at an ID.
use Rattle.std.proofs.Common.{◌≡◌, ℕ, ◌+◌, ◌<◌, ◌≤◌, ◌∙◌, ◌&&◌, ◌||◌, Bool, true, false, List, ◌∷◌, Option, Some, length, drop, get_or, ap, sym, refl, cond, unwrap_or, if◌then◌else◌, arith}
use Rattle.std.specs.List.{sum_by, zip}
use Rattle.std.specs.Str.{bytes_eq}
use Rattle.std.proofs.lemmas.List.{drop_all, drop_more}
use Rattle.std.proofs.lemmas.List.Sums.{sum_by-cons}
use Rattle.parfield.specs.declared.hash16.Hash16.{Hash16}
use Rattle.parset.proofs.IdLaws.{same_id}
use Rattle.parset.specs.declared.recovery_set.SetSlice.{SetSlice}
use Rattle.parreport.specs.Findings.{found_count_of}

-- ---- two lists side by side
pub zip-drop_more : {A B : Type 0} (xs : List A) (ys : List B) (i : ℕ) (d : A) (e : B) → i < length xs → i < length ys
    → zip (drop i xs) (drop i ys) ≡ (get_or xs i d, get_or ys i e) ∷ zip (drop (i + 1) xs) (drop (i + 1) ys)
zip-drop_more xs ys i d e here there =
    ap (λ zs. zip zs (drop i ys)) (drop_more xs i d here) ∙ ap (zip (get_or xs i d ∷ drop (i + 1) xs)) (drop_more ys i e there)

-- the count over the slices that are left: the next slice's, and the count over those after it
pub found_count_of-drop_more : (slices : List SetSlice) (found : List Bool) (i : ℕ) (d : SetSlice) (e : Bool) (id : Hash16)
    → i < length slices → i < length found
    → found_count_of (drop i slices) (drop i found) id
    ≡ (if bytes_eq (get_or slices i d).id.0 id.0 && get_or found i e then 1 else 0)
    + found_count_of (drop (i + 1) slices) (drop (i + 1) found) id
unfolding found_count_of
found_count_of-drop_more slices found i d e id here there =
    let test = λ (pair : SetSlice × Bool). cond (bytes_eq pair.0.id.0 id.0 && pair.1) 1 0 in
    ap (sum_by test) (zip-drop_more slices found i d e here there)
    ∙ sum_by-cons test (get_or slices i d, get_or found i e) (zip (drop (i + 1) slices) (drop (i + 1) found))

pub found_count_of-drop_all : (slices : List SetSlice) (found : List Bool) (i : ℕ) (id : Hash16) → length slices ≤ i
    → found_count_of (drop i slices) (drop i found) id ≡ 0
unfolding found_count_of
found_count_of-drop_all slices found i id all = ap (λ xs. found_count_of xs (drop i found) id) (drop_all i slices all)

pub at_most_one : (b : Bool) → (if b then 1 else 0) ≤ 1
at_most_one true = omega arith
at_most_one false = omega arith

-- ---- an ID
-- after an ID was put in, it is there besides those that were
pub added : (same there whole : Bool) → whole ≡ true → cond same true there ≡ (there || (same && whole))
added true true whole e = refl
added true false whole e = sym e
added false true whole e = refl
added false false whole e = refl

one_more : (same found : Bool) (m : ℕ) (o : Option ℕ) → found ≡ true → (same ≡ true → m ≡ unwrap_or o 0)
    → unwrap_or (cond same (Some (m + 1)) o) 0 ≡ unwrap_or o 0 + (if same && found then 1 else 0)
one_more true true m o e h = ap (λ n. n + 1) (h refl)
one_more true false m o e h = cc
one_more false found m o e h = omega arith

-- the count at an ID is one more, and every other one is as it was
pub counted : (count_of : Hash16 → Option ℕ) (id q : Hash16) (found : Bool) → found ≡ true
    → unwrap_or (cond (bytes_eq id.0 q.0) (Some (unwrap_or (count_of id) 0 + 1)) (count_of q)) 0
    ≡ unwrap_or (count_of q) 0 + (if bytes_eq id.0 q.0 && found then 1 else 0)
counted count_of id q found e =
    one_more (bytes_eq id.0 q.0) found (unwrap_or (count_of id) 0) (count_of q) e (λ same. ap (λ id. unwrap_or (count_of id) 0) (same_id id q same))

-- Lengths in an ordered set, and the checks of files by their lengths.
use Rattle.std.proofs.Common.{◌≡◌, ℕ, ◌<◌, ◌==◌, ◌&&◌, ◌||◌, Bool, true, false, List, None, Some, length, get_or, sym, refl, cond, nat_lt, nat_cmp, arith, inl, inr}
use Rattle.std.proofs.lemmas.Bool.{eq-eqb, eqb-true, ltb-true}
use Rattle.std.specs.Str.{bytes_eq}
use Rattle.std.proofs.lemmas.Bool.Decides.{eqb_tells}
use Rattle.std.proofs.lemmas.List.Folds.{list_any_at}
use Rattle.std.specs.Ordering.{is_eq}
use Rattle.std.specs.declared.cmp.Ordering.TheVariants.{Less, Equal, Greater}
use Rattle.parset.specs.declared.recovery_set.SetFile.{SetFile}
use Rattle.parreport.specs.States.{has_length, checked_of, shows_content_of, has_content_of, length_and_md5}
use Rattle.parreport.specs.declared.states.contents.LengthAndMd5.{LengthAndMd5}

by_tests : (less same rest : Bool) → (less ≡ true → same ≡ false)
    → cond (is_eq (cond less Less (cond same Equal Greater))) true rest ≡ (same || rest)
by_tests true true rest h = cc (h refl)
by_tests true false rest h = refl
by_tests false true rest h = refl
by_tests false false rest h = refl

below_itself : (a b : ℕ) → a ≡ b → nat_lt a b ≡ true → ⊥
below_itself a b same less =
    let below : a < b = ltb-true a b less in omega (arith, same)

-- a number is in the set, after another one was put in, if it is that one or was in before
pub there_after : (a b : ℕ) (rest : Bool) → cond (is_eq (nat_cmp a b)) true rest ≡ ((a == b) || rest)
there_after a b rest =
    by_tests (nat_lt a b) (a == b) rest (λ less. elim (eqb_tells a b) [
      | inl same ↦ absurd (below_itself a b same.1 less)
      | inr other ↦ other.0
    ])

-- ---- the checks of files
none_shown : (same rest : Bool) → (same ≡ true → false ≡ true) → false ≡ (same && rest)
none_shown true rest h = cc (h refl)
none_shown false rest h = refl

shown_if : (file : SetFile) (content : LengthAndMd5) (asked : Bool) → ((content.length == file.length) ≡ true → asked ≡ true)
    → shows_content_of file (cond asked (Some content) None) ≡ has_content_of file content
shown_if file content true h = refl
shown_if file content false h = none_shown (content.length == file.length) (bytes_eq content.whole.0 file.whole.0) h

-- the check of bytes shows the content of a file of the set exactly if they have it
pub shown_asked : (files : List SetFile) (k : ℕ) (d : SetFile) → k < length files → (bytes : List ℕ)
    → shows_content_of (get_or files k d) (checked_of files bytes) ≡ has_content_of (get_or files k d) (length_and_md5 bytes)
shown_asked files k d within bytes =
    shown_if (get_or files k d) (length_and_md5 bytes) (has_length files (length bytes)) (λ same.
    list_any_at (λ file. file.length == length bytes) files k d within
    (eq-eqb (get_or files k d).length (length bytes) (sym (eqb-true (length bytes) (get_or files k d).length same))))

-- Which slices of a set a survey finds; a list of flags says of each slice, by its number, whether
-- it is found.
use Rattle.std.specs.Prelude.{◌≡◌, ℕ, ◌==◌, ◌&&◌, ◌||◌, not, Bool, List, Result, Ok, Err, EachIndex, IsTrue}
use Rattle.std.specs.List.{list_any}
use Rattle.parshelf.specs.Shelf.{ShelfState, ReadsAs}
use Rattle.parshelf.specs.Reads.{ReadsOnly, FaultsIn}
use Rattle.parshelf.specs.declared.shelves.reading.ReadFault.{ReadFault}
use Rattle.parfind.specs.Sought.{Sought, HasFewTails}
use Rattle.parwindow.specs.Index.{SliceSet, slice_passes, has_known_sums}
use Rattle.parwindow.specs.Missing.{found_at}
use Rattle.parfind.specs.declared.cursors.cursor.Cursor.{Cursor}
use Rattle.parfind.specs.Fetched.{Place}
use Rattle.parfind.specs.declared.surveys.surveying.SurveyFault.{SurveyFault}
use Rattle.parfind.specs.declared.surveys.surveying.SurveyFault.TheVariants.{Read, Memory, TooManyTails}
use Rattle.parfind.specs.Order.{is_before, cursor_of}
use Rattle.parfind.specs.Places.{cursor_at, cursor_past}
use Rattle.parfind.specs.Handover.{HandsAround}
use Rattle.parfind.specs.Sightings.{Scan, sightings_of}
use Rattle.parfind.specs.Steps.{scan_of}

-- whether slice n has a sighting
abbrev pub is_sighted : Scan → ℕ → Bool
is_sighted scan n = list_any (λ x. x.slice == n) (sightings_of scan)

-- whether slice n has a sighting before a cursor
abbrev pub is_sighted_before : Scan → Cursor → ℕ → Bool
is_sighted_before scan c n =
    list_any (λ x. x.slice == n && is_before (cursor_of x) c) (sightings_of scan)

-- the checksums of slice n are not known, so that it has no sighting
abbrev pub lacks_sums : SliceSet → ℕ → Bool
lacks_sums set n = not (slice_passes set.slices has_known_sums n)

-- slice n is settled: it is found, or no search can find it
abbrev pub is_settled : SliceSet → List Bool → ℕ → Bool
is_settled set found n = found_at found n || lacks_sums set n

-- each slice is settled
abbrev pub AreAllSettled : SliceSet → List Bool → Type 0
AreAllSettled set found = EachIndex found (λ n. IsTrue (is_settled set found n))

-- a slice is found now exactly if it was found before or has a sighting
abbrev pub FindsSighted : Scan → List Bool → List Bool → Type 0
FindsSighted scan was now =
    EachIndex now (λ n. found_at now n ≡ (found_at was n || is_sighted scan n))

-- a slice is found now exactly if it was found before or has a sighting before a cursor
abbrev pub FindsBefore : Scan → Cursor → List Bool → List Bool → Type 0
FindsBefore scan c was now =
    EachIndex now (λ n. found_at now n ≡ (found_at was n || is_sighted_before scan c n))

-- a slice is found now only if it was found before or has a sighting
abbrev pub FindsNoOther : Scan → List Bool → List Bool → Type 0
FindsNoOther scan was now =
    EachIndex now (λ n. IsTrue (found_at now n) → IsTrue (found_at was n || is_sighted scan n))

-- a survey without an error has found each slice that has a sighting; after an error, no other
-- slice is found
abbrev pub SurveyFinds : {A E : Type 0} → Scan → List Bool → List Bool → Result A E → Type 0
SurveyFinds scan was now (Ok answer) = FindsSighted scan was now
SurveyFinds scan was now (Err fault) = FindsNoOther scan was now

-- each slice that was found is still found
abbrev pub KeepsFound : List Bool → List Bool → Type 0
KeepsFound was now = EachIndex was (λ n. IsTrue (found_at was n) → IsTrue (found_at now n))

-- each slice that isn't settled has a sighting at place p or before it
abbrev pub AllSightedBy : Scan → List Bool → Place → Type 0
AllSightedBy scan found p =
    EachIndex found (λ n.
    IsTrue (is_settled scan.sought.set found n || is_sighted_before scan (cursor_past p) n))

-- if each slice is settled or has a sighting up to place p, nothing is read further than a window
-- and 4,096 bytes after p
abbrev pub StopsOnceFound : Scan → ShelfState → ShelfState → List Bool → Type 0
StopsOnceFound scan old new was =
    (p : Place) → AllSightedBy scan was p → HandsAround scan.sought.set.slice_size old new p

-- a shelf, and which slices a survey of its files has found
pub record SurveyPoint : Type 0 where
  pub shelf : ShelfState
  pub found : List Bool

-- this shelf, and these slices as those that are found
abbrev pub survey_point : ShelfState → List Bool → SurveyPoint
survey_point shelf found = record { shelf = shelf; found = found }

-- what is true after an error of a file: there is a place of that file such that, in any files that
-- are consistent with the reads, exactly the slices that have a sighting before that place were
-- found in addition, and nothing was read further than a window and 4,096 bytes after it
pub record FindsUpToFault (sought : Sought) (old new : SurveyPoint) (file : ℕ) : Type 0 where
  pub place : Place
  pub file_is : place.file ≡ file
  pub sighted : (files : List (List ℕ)) → ReadsAs new.shelf files
      → FindsBefore (scan_of sought files) (cursor_at place) old.found new.found
  pub around : HandsAround sought.set.slice_size old.shelf new.shelf place

-- without an error the shelf changes only by reads, and an error is one of the file that it names
abbrev pub ReadsNamed : {A : Type 0} → ShelfState → ShelfState → Result A (ℕ × ReadFault) → Type 0
ReadsNamed old new (Ok answer) = ReadsOnly old new
ReadsNamed old new (Err named) = FaultsIn old new named.0 named.1

-- without an error the shelf changes only by reads; a read error is one of the file that it names;
-- and any other error comes before anything is read or found
abbrev pub SurveyLeaves : {A : Type 0} → SurveyPoint → SurveyPoint → Result A SurveyFault → Type 0
SurveyLeaves old new (Ok answer) = ReadsOnly old.shelf new.shelf
SurveyLeaves old new (Err (Read file fault)) = FaultsIn old.shelf new.shelf file fault
SurveyLeaves old new (Err Memory) = new ≡ old
SurveyLeaves old new (Err TooManyTails) = new ≡ old

-- a survey returns `TooManyTails` exactly if more than 256 short-slice lengths are compared
abbrev pub SurveyTellsTails : {A : Type 0} → Sought → Result A SurveyFault → Type 0
SurveyTellsTails sought (Ok answer) = HasFewTails sought
SurveyTellsTails sought (Err (Read file fault)) = HasFewTails sought
SurveyTellsTails sought (Err Memory) = HasFewTails sought
SurveyTellsTails sought (Err TooManyTails) = ¬ HasFewTails sought

-- The state of the program's files and of its output after a run.
use Rattle.std.proofs.Common.{◌≡◌, ◌∙◌, ℕ, List, [], Option, length, subst, sym, ap, refl}
use Rattle.std.proofs.lemmas.Option.{slice_get-get_or}
use Rattle.std.specs.Prelude.{Result, Ok, Err, IfOk, IfErr, IsOkAnd, MatchResult}
use Rattle.parshelf.specs.Disk.{disk_state_of, unread_of, NamesPath}
use Rattle.parshelf.specs.Shelf.{ShelfState}
use Rattle.parshelf.specs.SinkState.{SinkState}
use Rattle.parshelf.specs.declared.shelves.disk.DiskShelf.{DiskShelf}
use Rattle.parshelf.specs.declared.shelves.disk.OpenFault.{OpenFault}
use Rattle.parshelf.specs.declared.shelves.disk.OpenFault.TheVariants.{CannotOpen, Memory}
use Rattle.parplan.specs.Commands.{scanned_paths_of}
use Rattle.parplan.specs.Plans.{plan_of}
use Rattle.parplan.specs.declared.command.Plan.{Plan}
use Rattle.parreport.specs.Ends.{open_end_of, opened_of}
use Rattle.parreport.specs.OpenedFiles.{RunState, TellsRun}
use Rattle.parreport.specs.declared.ends.End.{End}
use Rattle.parreport.proofs.LeaveLaws.{packets_later, scanned_later}
use Rattle.parv.specs.declared.program.Run.{Run}
use Rattle.parv.specs.Performed.{Outcome, NamesFile, AreOpenedAt, AreUnread, TellsOutcome, TellsUnopened, RunsPlan, PerformsPlan, left_state_of, unread_state_of}

-- the result of opening the files at these paths
abbrev pub Opens : List (List ℕ) → Result DiskShelf OpenFault → Type 0
Opens paths (Ok s) = AreOpenedAt paths s × AreUnread s
Opens paths (Err why) = NamesPath (length paths) why

pub opens : (paths : List (List ℕ)) (n : ℕ) (files : Result DiskShelf OpenFault) → n ≡ length paths
    → IfOk files (AreOpenedAt paths) → IfOk files AreUnread → IfErr files (NamesPath n) → Opens paths files
opens paths n (Ok s) counted at unread named = (at, unread)
opens paths n (Err why) counted at unread named = subst (λ (k : ℕ). NamesPath k why) counted named

-- if the packet files are opened, the scanned files are tried, and else they are not
pub opens_same : (paths : List (List ℕ)) (packets scanned other : Result DiskShelf OpenFault) → scanned ≡ other → Opens paths other
    → IfOk packets (λ _. Opens paths scanned)
opens_same paths (Ok s) scanned other same opened = subst (Opens paths) (sym same) opened
opens_same paths (Err why) scanned other same opened = tt

pub opens_none : (paths : List (List ℕ)) (packets scanned : Result DiskShelf OpenFault) (why : OpenFault) → packets ≡ Err why
    → IfOk packets (λ _. Opens paths scanned)
opens_none paths packets scanned why is = rw is tt

pub first_opened : (packets scanned : Result DiskShelf OpenFault) (s : DiskShelf) → packets ≡ Ok s → IfErr packets (λ why. scanned ≡ Err why)
first_opened packets scanned s is = rw is tt

pub first_unopened : (packets scanned : Result DiskShelf OpenFault) (why : OpenFault) → packets ≡ Err why → scanned ≡ Err why
    → IfErr packets (λ cause. scanned ≡ Err cause)
first_unopened packets scanned why is same = rw is same

-- if a file isn't opened, the end of the run names it, unless memory was refused
open_end_names : (paths : List (List ℕ)) (why : OpenFault) → NamesPath (length paths) why → NamesFile (open_end_of paths why)
open_end_names paths (CannotOpen index) within = rw (slice_get-get_or paths index [] within) refl
open_end_names paths Memory named = tt

module _ (plan : Plan) (came : Outcome) where
  abbrev pub Tells : End × Option (List ℕ) → Type 0
  Tells = TellsOutcome came

  -- files whose paths and lengths are the same after the run were, before it, files of
  -- which nothing was read
  unread : (files left : DiskShelf) → AreUnread files → (disk_state_of left).paths ≡ (disk_state_of files).paths
      → (disk_state_of left).lengths ≡ (disk_state_of files).lengths
      → disk_state_of files ≡ unread_of (disk_state_of left).paths (disk_state_of left).lengths
  unread files left new paths lengths =
      new ∙ ap (λ at. unread_of at (disk_state_of files).lengths) (sym paths)
      ∙ ap (unread_of (disk_state_of left).paths) (sym lengths)

  -- files that are all opened: the plan is run over them
  runs : (files left : DiskShelf × DiskShelf) → Opens plan.packets (Ok files.0) → Opens (scanned_paths_of plan) (Ok files.1)
      → TellsRun plan (left_state_of files came.before) (left_state_of left came.after) Tells → RunsPlan plan left came
  runs files left packets scanned run =
      let packets_on = packets_later run.answer (disk_state_of files.0) (disk_state_of left.0) run.packets_read in
      let scanned_on = scanned_later run.answer (disk_state_of files.1) (disk_state_of left.1) run.scanned_read in
      let state = λ (p q : ShelfState) (o : SinkState). let s : RunState = record { packets = p; scanned = q; out = o } in s in
      let new = unread_state_of left came.before in
      let start : left_state_of files came.before ≡ new
      = ap (λ (p : ShelfState). state p (disk_state_of files.1) came.before) (unread files.0 left.0 packets.1 packets_on.paths packets_on.lengths)
      ∙ ap (λ (q : ShelfState). state new.packets q came.before) (unread files.1 left.1 scanned.1 scanned_on.paths scanned_on.lengths) in
      subst (λ (s : RunState). TellsRun plan s (left_state_of left came.after) Tells) start run

  abbrev pub DoneAs : Run → Result (DiskShelf × DiskShelf) (End × Option (List ℕ)) → Type 0
  DoneAs run opened =
      MatchResult opened (λ files. RunsPlan plan files came) (λ why. TellsUnopened why run came)

  abbrev pub Done : Run → Type 0
  Done run = DoneAs run (opened_of plan run.packets run.scanned)

  module _ (run : Run) where
    -- files that are not all opened: this is reported
    tells_unopened : (paths : List (List ℕ)) (why : OpenFault) → NamesPath (length paths) why → IfOk run.packets AreUnread
        → came.after ≡ came.before → Tells (open_end_of paths why) → TellsUnopened (open_end_of paths why) run came
    tells_unopened paths why named unread same tells = record {
      told = tells;
      named = open_end_names paths why named;
      nothing_read = unread;
      nothing_written = same;
    }

    done : (packets packets_left scanned scanned_left : Result DiskShelf OpenFault) → packets_left ≡ run.packets → scanned_left ≡ run.scanned
        → Opens plan.packets packets → IfOk packets (λ _. Opens (scanned_paths_of plan) scanned)
        → IfOk (opened_of plan packets scanned) (λ files. IsOkAnd (opened_of plan packets_left scanned_left) (λ left.
        TellsRun plan (left_state_of files came.before) (left_state_of left came.after) Tells))
        → IfErr (opened_of plan packets scanned) Tells → IfErr (opened_of plan packets scanned) (λ _. came.after ≡ came.before)
        → IfErr (opened_of plan packets scanned) (λ _. packets_left ≡ packets) → IfErr (opened_of plan packets scanned) (λ _. scanned_left ≡ scanned)
        → Done run
    done (Ok p) (Ok p_left) (Ok q) (Ok q_left) mine yours packets scanned ran tells unwritten same also =
        subst (DoneAs run) (ap (λ files. opened_of plan files (Ok q_left)) mine ∙ ap (opened_of plan run.packets) yours)
        (runs (p, q) (p_left, q_left) packets scanned ran)
    done (Ok p) (Ok p_left) (Ok q) (Err why) mine yours packets scanned ran tells unwritten same also = absurd ran
    done (Ok p) (Err why) (Ok q) q_left mine yours packets scanned ran tells unwritten same also = absurd ran
    done (Ok p) p_left (Err why) q_left mine yours packets scanned ran tells unwritten same also =
        let opened : run.packets ≡ Ok p = sym mine ∙ same in
        let unopened : run.scanned ≡ Err why = sym yours ∙ also in
        let unread : IfOk run.packets AreUnread = rw opened packets.1 in
        let told : TellsUnopened (open_end_of (scanned_paths_of plan) why) run came
        = tells_unopened (scanned_paths_of plan) why scanned unread unwritten tells in
        subst (DoneAs run) (sym (ap (λ files. opened_of plan files run.scanned) opened ∙ ap (opened_of plan (Ok p)) unopened)) told
    done (Err why) p_left q q_left mine yours packets scanned ran tells unwritten same also =
        let unopened : run.packets ≡ Err why = sym mine ∙ same in
        let unread : IfOk run.packets AreUnread = rw unopened tt in
        let told : TellsUnopened (open_end_of plan.packets why) run came = tells_unopened plan.packets why packets unread unwritten tells in
        subst (DoneAs run) (sym (ap (λ files. opened_of plan files run.scanned) unopened)) told

    performed : (packets scanned : Result DiskShelf OpenFault) → Opens plan.packets packets
        → IfOk packets (λ _. Opens (scanned_paths_of plan) scanned)
        → IfOk (opened_of plan packets scanned) (λ files. IsOkAnd (opened_of plan run.packets run.scanned) (λ left.
        TellsRun plan (left_state_of files came.before) (left_state_of left came.after) Tells))
        → IfErr (opened_of plan packets scanned) Tells → IfErr (opened_of plan packets scanned) (λ _. came.after ≡ came.before)
        → IfErr (opened_of plan packets scanned) (λ _. run.packets ≡ packets) → IfErr (opened_of plan packets scanned) (λ _. run.scanned ≡ scanned)
        → Done run
    performed packets scanned = done packets run.packets scanned run.scanned refl refl

  -- if the packet files aren't opened, no other file is opened
  unopened_too : (packets packets_left scanned scanned_left : Result DiskShelf OpenFault) → IfErr packets (λ why. scanned ≡ Err why)
      → IfOk (opened_of plan packets scanned) (λ files. IsOkAnd (opened_of plan packets_left scanned_left) (λ left.
      TellsRun plan (left_state_of files came.before) (left_state_of left came.after) Tells))
      → IfErr (opened_of plan packets scanned) (λ _. packets_left ≡ packets) → IfErr (opened_of plan packets scanned) (λ _. scanned_left ≡ scanned)
      → IfErr packets_left (λ why. scanned_left ≡ Err why)
  unopened_too (Ok p) (Ok p_left) (Ok q) scanned_left first ran same also = tt
  unopened_too (Ok p) (Err why) (Ok q) scanned_left first ran same also = absurd ran
  unopened_too (Ok p) packets_left (Err cause) scanned_left first ran same also = rw same tt
  unopened_too (Err why) packets_left scanned scanned_left first ran same also = rw same (also ∙ first)

  -- the files that are open after the run are those at the plan's paths
  still_opened : (packets packets_left scanned scanned_left : Result DiskShelf OpenFault) → Opens plan.packets packets
      → IfOk packets (λ _. Opens (scanned_paths_of plan) scanned) → IfErr packets (λ why. scanned ≡ Err why)
      → IfOk (opened_of plan packets scanned) (λ files. IsOkAnd (opened_of plan packets_left scanned_left) (λ left.
      TellsRun plan (left_state_of files came.before) (left_state_of left came.after) Tells))
      → IfErr (opened_of plan packets scanned) (λ _. packets_left ≡ packets) → IfErr (opened_of plan packets scanned) (λ _. scanned_left ≡ scanned)
      → IfOk packets_left (AreOpenedAt plan.packets) × IfOk scanned_left (AreOpenedAt (scanned_paths_of plan))
  still_opened (Ok p) (Ok p_left) (Ok q) (Ok q_left) packets scanned first ran same also = (
    (packets_later ran.answer (disk_state_of p) (disk_state_of p_left) ran.packets_read).paths ∙ packets.0,
    (scanned_later ran.answer (disk_state_of q) (disk_state_of q_left) ran.scanned_read).paths ∙ scanned.0,
  )
  still_opened (Ok p) (Ok p_left) (Ok q) (Err why) packets scanned first ran same also = absurd ran
  still_opened (Ok p) (Err why) (Ok q) scanned_left packets scanned first ran same also = absurd ran
  still_opened (Ok p) packets_left (Err why) scanned_left packets scanned first ran same also = (rw same packets.0, rw also tt)
  still_opened (Err why) packets_left scanned scanned_left packets opened first ran same also = (rw same tt, rw (also ∙ first) tt)

  -- if the words have this plan, and its files were tried, the contract follows from what `run_opened` ensures
  pub performs : (words : List (List ℕ)) (run : Run) (packets scanned : Result DiskShelf OpenFault) → plan_of words ≡ Ok plan
      → Opens plan.packets packets → IfOk packets (λ _. Opens (scanned_paths_of plan) scanned) → IfErr packets (λ why. scanned ≡ Err why)
      → IfOk (opened_of plan packets scanned) (λ files. IsOkAnd (opened_of plan run.packets run.scanned) (λ left.
      TellsRun plan (left_state_of files came.before) (left_state_of left came.after) Tells))
      → IfErr (opened_of plan packets scanned) Tells → IfErr (opened_of plan packets scanned) (λ _. came.after ≡ came.before)
      → IfErr (opened_of plan packets scanned) (λ _. run.packets ≡ packets) → IfErr (opened_of plan packets scanned) (λ _. run.scanned ≡ scanned)
      → PerformsPlan words run came
  performs words run packets scanned planned packets_tried scanned_tried first ran tells unwritten same also =
      let still = still_opened packets run.packets scanned run.scanned packets_tried scanned_tried first ran same also in record {
        plan = plan;
        planned = planned;
        packets_opened = still.0;
        scanned_opened = still.1;
        packets_first = unopened_too packets run.packets scanned run.scanned first ran same also;
        done = performed run packets scanned packets_tried scanned_tried ran tells unwritten same also;
      }

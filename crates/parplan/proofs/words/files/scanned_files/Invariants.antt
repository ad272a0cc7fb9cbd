use Rattle.std.proofs.Common.{◌≡◌, ◌≤◌, length, map, filter, drop, option_map, ◌++◌}
use Rattle.parplan.specs.FileWords.{is_scanned_file, scanned_as, base_prefix}
use Rattle.parplan.proofs.words.files.scanned_files.Given as goal

-- the files so far, followed by the scanned files among the arguments that are left,
-- are all scanned files
abbrev pub invariant-loop-word : goal.invariant-loop-word
invariant-loop-word l = record {
  files : l.scanned.items ++ map (scanned_as (base_prefix (option_map (λ dir. dir.now) l.fn.base))) (filter is_scanned_file (map (λ word. word.now) (drop l.word-index l.words)))
      ≡ map (scanned_as (base_prefix (option_map (λ dir. dir.now) l.fn.base))) (filter is_scanned_file (map (λ word. word.now) l.words));
  few : length l.scanned.items ≤ l.word-index;
}

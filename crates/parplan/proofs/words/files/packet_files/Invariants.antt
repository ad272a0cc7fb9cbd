use Rattle.std.proofs.Common.{◌≡◌, ◌≤◌, length, map, filter, drop, ◌++◌}
use Rattle.parplan.specs.FileWords.{is_packet_file}
use Rattle.parplan.proofs.words.files.packet_files.Given as goal

-- the files so far, followed by the packet files among the arguments that are left,
-- are all packet files
abbrev pub invariant-loop-word : goal.invariant-loop-word
invariant-loop-word l = record {
  files : l.packets.items ++ filter is_packet_file (map (λ word. word.now) (drop l.word-index l.words))
      ≡ filter is_packet_file (map (λ word. word.now) l.words);
  few : length l.packets.items ≤ l.word-index;
}

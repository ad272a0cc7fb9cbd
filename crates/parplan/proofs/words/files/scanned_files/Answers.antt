use Rattle.std.proofs.Common.{arith}
use Rattle.std.proofs.lemmas.Grind.{common_steps}
use Rattle.parplan.proofs.words.files.scanned_files.Goals as goal

pub returns-in_err-prefix-clause-files : goal.returns-in_err-prefix-clause-files
returns-in_err-prefix-clause-files c = grind (arith, common_steps) steps 100000

pub returns-in_err-prefix-clause-few : goal.returns-in_err-prefix-clause-few
returns-in_err-prefix-clause-few c = grind (arith, common_steps) steps 100000

pub loop-word-init : goal.loop-word-init
loop-word-init c = grind (arith, common_steps) steps 100000

pub offset_bounds-words-word-index : goal.offset_bounds-words-word-index
offset_bounds-words-word-index c = grind (arith, common_steps) steps 100000

pub bounds-words-word-index : goal.bounds-words-word-index
bounds-words-word-index c = grind (arith, common_steps) steps 100000

pub slice_bounds-as_bytes-end : goal.slice_bounds-as_bytes-end
slice_bounds-as_bytes-end c = grind (arith, common_steps) steps 100000

pub as_bytes-requires-text-self : goal.as_bytes-requires-text-self
as_bytes-requires-text-self c = grind (arith, common_steps) steps 100000

pub slice_bounds-scanned_file-end : goal.slice_bounds-scanned_file-end
slice_bounds-scanned_file-end c = grind (arith, common_steps) steps 100000

pub scanned_file-requires-text-word : goal.scanned_file-requires-text-word
scanned_file-requires-text-word c = grind (arith, common_steps) steps 100000

pub returns-in_err-scanned_file-clause-files : goal.returns-in_err-scanned_file-clause-files
returns-in_err-scanned_file-clause-files c = grind (arith, common_steps) steps 400000

pub returns-in_err-scanned_file-clause-few : goal.returns-in_err-scanned_file-clause-few
returns-in_err-scanned_file-clause-few c = grind (arith, common_steps) steps 400000

pub returns-in_err-push-clause-files : goal.returns-in_err-push-clause-files
returns-in_err-push-clause-files c = grind (arith, common_steps) steps 400000

pub returns-in_err-push-clause-few : goal.returns-in_err-push-clause-few
returns-in_err-push-clause-few c = grind (arith, common_steps) steps 400000

pub loop-word-preserved : goal.loop-word-preserved
loop-word-preserved c = grind (arith, common_steps) steps 1500000

pub returns-clause-files : goal.returns-clause-files
returns-clause-files c = grind (arith, common_steps) steps 100000

pub returns-clause-few : goal.returns-clause-few
returns-clause-few c = grind (arith, common_steps) steps 100000

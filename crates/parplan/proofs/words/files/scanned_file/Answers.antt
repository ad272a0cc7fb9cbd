use Rattle.std.proofs.Common.{rules}
use Rattle.parplan.proofs.words.files.scanned_file.Goals as goal

pub returns : goal.returns
returns c = search rules steps 1000000

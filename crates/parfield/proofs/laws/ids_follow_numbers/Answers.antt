use Rattle.parfield.proofs.OrderLaws.{reversed_cmp}
use Rattle.parfield.proofs.laws.ids_follow_numbers.Goals as goal

pub returns : goal.returns
returns c = λ a b same p q. reversed_cmp a.0 b.0 same p q

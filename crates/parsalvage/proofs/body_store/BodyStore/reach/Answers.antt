use Rattle.std.proofs.Common.{rules}
use Rattle.parsalvage.proofs.body_store.BodyStore.reach.Goals as goal

pub returns-then-self-from-clause-store : goal.returns-then-self-from-clause-store
returns-then-self-from-clause-store c = search rules steps 1000000

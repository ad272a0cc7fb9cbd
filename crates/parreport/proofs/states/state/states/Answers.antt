use Rattle.std.proofs.Common.{◌≡◌, ◌∙◌, map}
use Rattle.std.proofs.lemmas.Result.{IfOk-weaker}
use Rattle.parreport.specs.Lookups.{looked_up_state_of}
use Rattle.parreport.specs.States.{checked_state_of}
use Rattle.parreport.proofs.LookupLaws.{looked_up_same}
use Rattle.parreport.proofs.StateLaws.{map-same}
use Rattle.parreport.proofs.states.state.states.Goals as goal

pub returns : goal.returns
returns c =
    let found = c.in_ok-lookups.ensures in let lookups = c.in_ok-lookups.lookups in
    let files = c.args.files.now in let contents = c.args.contents.now in let own = c.args.set_files.now in
    IfOk-weaker c.states_from.result (λ states. states.items ≡ map (looked_up_state_of lookups) own)
    (λ states. states.items ≡ map (checked_state_of files contents) own)
    (λ states e. e ∙ map-same (looked_up_state_of lookups) (checked_state_of files contents)
    (looked_up_same lookups files contents found.firsts found.names found.both) own) c.states_from.ensures

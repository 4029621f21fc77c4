use Rattle.blob_script.proofs.Words.{no_action_more}
use Rattle.blob_script.proofs.action.Action.read.Goals as goal

pub returns-in-len5-up : goal.returns-in-len5-up
returns-in-len5-up c = no_action_more c.args.words.now c.in-len5-up.len_at_least

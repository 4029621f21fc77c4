use Rattle.blob_base.proofs.KeyLists.{from-none}
use Rattle.blob_base.proofs.key_list.KeyList.new.Goals as goal

pub returns : goal.returns
returns g c = from-none c.new.result.items c.new.ensures.items

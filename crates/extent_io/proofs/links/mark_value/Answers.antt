use Rattle.store_model.specs.Hash.{bytes_of_state}
use Rattle.extent_io.proofs.links.mark_value.Goals as goal

pub returns : goal.returns
unfolding bytes_of_state
returns c = c.write_u32_into.ensures

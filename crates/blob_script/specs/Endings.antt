-- A status as the ending that the definitions speak of.
use Rattle.std.specs.Prelude.{Option, Some, None}
use Rattle.blob_base.specs.Refusals.{refusal_of}
use Rattle.blob_script.specs.declared.status.Status.{Status}
use Rattle.blob_script.specs.declared.status.Status.TheVariants as status
use Rattle.store_model.specs.Closing as model

-- none for a run that ended well
abbrev pub ending_of : Status → Option model.Ending
ending_of status.Done = None
ending_of (status.Malformed line) = Some (model.Malformed line)
ending_of (status.NotBuilt line) = Some (model.NotBuilt line)
ending_of status.ReadFault = Some model.ReadFault
ending_of status.WriteFault = Some model.WriteFault
ending_of status.DiskFault = Some model.DiskFault
ending_of (status.Refused why) = Some (model.Refused (refusal_of why))
ending_of status.OutOfMemory = Some model.OutOfMemory
ending_of status.Usage = Some model.Usage
ending_of (status.Damaged key link want got) = Some (model.Damaged key link want got)

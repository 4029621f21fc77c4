-- The type of a read's answer as the value that the definitions speak of.
use Rattle.txn.specs.Txns as value
use Rattle.txn.specs.declared.txn.Read.{Read}
use Rattle.txn.specs.declared.txn.Read.TheVariants as read

abbrev pub model_read : Read → value.Value
model_read read.Absent = value.Absent
model_read read.Own = value.Own
model_read read.Store = value.Stored
model_read read.Extended = value.Extended

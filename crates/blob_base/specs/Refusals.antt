-- Why a disk isn't opened as a store, in the words of the definitions.
use Rattle.blob_base.specs.declared.faults.StoreRefusal.{StoreRefusal}
use Rattle.blob_base.specs.declared.faults.StoreRefusal.TheVariants as refusal
use Rattle.store_model.specs.Closing as model

abbrev pub refusal_of : StoreRefusal → model.Refusal
refusal_of (refusal.TooSmall need have) = model.TooSmall need have
refusal_of (refusal.BadHalf half at) = model.BadHalf half at
refusal_of (refusal.BadTuple half at) = model.BadTuple half at
refusal_of (refusal.BadFrame half page) = model.BadFrame half page
refusal_of (refusal.OwnedTwice page) = model.OwnedTwice page

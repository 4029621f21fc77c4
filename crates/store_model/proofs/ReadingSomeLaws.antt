-- A disk has a reading: a store, or a reason why there is none.
use Rattle.std.proofs.Common.{ℕ, ◌≤◌, inl, inr, List, refl, arith}
use Rattle.std.proofs.lemmas.Bool.{cases_lt}
use Rattle.store_model.specs.Closing as why
use Rattle.store_model.specs.Disk.{HasPages, Image}
use Rattle.store_model.specs.Half.{picked}
use Rattle.store_model.specs.HalfRefusals.{HalfRefusal, RefusesHalf}
use Rattle.store_model.specs.HalfRefusals as half
use Rattle.store_model.specs.LogReading.{HasBodies, LacksBody, StoredBody}
use Rattle.store_model.specs.Reading.{AreAllKept, Found, Gives, KeptIn, Opened, Reading, Reads, Refused, RefusesLog, blocks_of_states, least_pages}
use Rattle.store_model.proofs.HalfCaseLaws.{HasHalf-or_refused}
use Rattle.store_model.proofs.KeptCaseLaws.{KeptIn-some}
use Rattle.store_model.proofs.LogCaseLaws.{AreOfBytes-bodies, HasBodies-or_lacks}
use Rattle.store_model.proofs.OwnerCaseLaws.{Apart-or_twice}
use Rattle.store_model.proofs.ReadingLaws.{AreAllKept-one, IsSmall, KeptIn-one}
use Rattle.store_model.proofs.ReadingOneLaws.{Starts}
use Rattle.store_model.proofs.TakingCaseLaws.{KeepsSomeOf, TakesEach-or_bad}

-- a reading
abbrev HasReading : ℕ → Image → Type 0
HasReading pages image = (reading : Reading) × Reads pages image reading

-- the picked half is refused
refused-reading : (pages : ℕ) (image : Image) (refusal : HalfRefusal) → least_pages ≤ pages → RefusesHalf pages image (picked (image 0)) refusal → HasReading pages image
refused-reading pages image (half.TooSmall need have) enough refused = (Refused (why.TooSmall need have), inr (enough, refl, refused))
refused-reading pages image (half.BadHalf at) enough refused = (Refused (why.BadHalf (picked (image 0)) at), (enough, refl, refused))
refused-reading pages image (half.BadTuple at) enough refused = (Refused (why.BadTuple (picked (image 0)) at), (enough, refl, refused))

-- its log is refused
log-reading : (pages : ℕ) (image : Image) (start : Found) (page : ℕ) → Starts pages image (picked (image 0)) start → RefusesLog image (picked (image 0)) start page
    → HasReading pages image
log-reading pages image start page starts refuses = (Refused (why.BadFrame (picked (image 0)) page), (refl, (start, (starts, refuses))))

-- a store is found, whose blocks may be apart
found-reading : (pages : ℕ) (image : Image) (found : Found) → Gives pages image found → HasReading pages image
found-reading pages image found gives =
    elim (Apart-or_twice (blocks_of_states found.states)) [
      | inl apart ↦ (Opened found, (gives, apart))
      | inr twice ↦ (Refused (why.OwnedTwice twice.0), (found, (gives, twice.1)))
    ]

-- the log has bodies up to a closed gate
bodies-reading : (pages : ℕ) (image : Image) (start : Found) (bodies : List StoredBody) (gate : ℕ) → HasPages image → IsSmall start
    → Starts pages image (picked (image 0)) start → HasBodies image (picked (image 0)) bodies gate → HasReading pages image
bodies-reading pages image start bodies gate whole small starts log =
    elim (TakesEach-or_bad (KeptIn image start.layout) start bodies (KeptIn-one image start.layout) (KeptIn-some image start.layout) small
    (AreOfBytes-bodies image (picked (image 0)) 0 bodies gate whole log.are)) [
      | inl takes ↦ found-reading pages image takes.0 (record { start = start; finds = starts; bodies = bodies; gate = gate; log = log; takes = takes.1 })
      | inr bad ↦ log-reading pages image start bad.0 starts (inl (bodies, (gate, (log, bad.1))))
    ]

-- all of the entries are kept
all-kept : KeepsSomeOf (λ _. AreAllKept)
all-kept bodies entries = (entries, refl)

-- the log lacks a body
lacks-reading : (pages : ℕ) (image : Image) (start : Found) (bodies : List StoredBody) (gate : ℕ) → HasPages image → IsSmall start
    → Starts pages image (picked (image 0)) start → LacksBody image (picked (image 0)) bodies gate → HasReading pages image
lacks-reading pages image start bodies gate whole small starts log =
    elim (TakesEach-or_bad (λ _. AreAllKept) start bodies (λ others. AreAllKept-one) all-kept small
    (AreOfBytes-bodies image (picked (image 0)) 0 bodies gate whole log.are)) [
      | inl takes ↦ log-reading pages image start gate starts (inr (bodies, (gate, (log, inr ((takes.0, takes.1), refl)))))
      | inr bad ↦ log-reading pages image start bad.0 starts (inr (bodies, (gate, (log, inl bad.1))))
    ]

-- the picked half is found
half-reading : (pages : ℕ) (image : Image) (start : Found) → HasPages image → Starts pages image (picked (image 0)) start → HasReading pages image
half-reading pages image start whole starts =
    let small : IsSmall start = omega (arith, starts.spells.half.sound.most_units) in
    elim (HasBodies-or_lacks image (picked (image 0)) whole) [
      | inl has ↦ bodies-reading pages image start has.0 has.1.0 whole small starts has.1.1
      | inr lacks ↦ lacks-reading pages image start lacks.0 lacks.1.0 whole small starts lacks.1.1
    ]

-- A disk has a reading.
pub Reads-some : (pages : ℕ) (image : Image) → HasPages image → (reading : Reading) × Reads pages image reading
Reads-some pages image whole =
    elim (cases_lt pages least_pages) [
      | inl few ↦ (Refused (why.TooSmall least_pages pages), inl (few, refl, refl))
      | inr enough ↦ elim (HasHalf-or_refused pages image (picked (image 0)) whole) [
        | inr refused ↦ refused-reading pages image refused.0 enough refused.1
        | inl one ↦ half-reading pages image (record { layout = one.layout; last = one.last; states = one.states }) whole one.finds
      ]
    ]

-- What is read of a half, and why it is refused.
use Rattle.std.specs.Prelude.{ℕ, ◌≡◌, ◌*◌, ◌<◌, ◌≤◌, ◌⊎◌, List, length}
use Rattle.std.specs.List.{All}
use Rattle.std.specs.FinMap.{from_sorted}
use Rattle.blob_base.specs.Faults.{Rose}
use Rattle.blob_base.specs.declared.faults.IoFault.{IoFault}
use Rattle.blob_base.specs.declared.faults.IoFault.TheVariants as io
use Rattle.store_model.specs.Disk.{Image, page_bytes}
use Rattle.store_model.specs.Field.{AreGood, IsFirstBroken}
use Rattle.store_model.specs.HalfFields.{first_fields, other_fields, told_count, told_last, told_layout, told_length}
use Rattle.store_model.specs.HalfRefusals.{BadHalf, BadTuple, DoTuplesRise, FindsHalf, RefusesHalf, TooSmall, tuples_bytes}
use Rattle.store_model.specs.Key.{key_order}
use Rattle.store_model.specs.Layout.{data_pages, total_pages}
use Rattle.store_model.specs.State.{greatest_number}
use Rattle.store_model.specs.Tuple.{IsTuple}
use Rattle.check_point.specs.Tuples.{model_tuples}
use Rattle.check_point.specs.declared.read.HalfFault.{HalfFault}
use Rattle.check_point.specs.declared.read.HalfFault.TheVariants as fault
use Rattle.check_point.specs.declared.read.HalfFound.{HalfFound}
use Rattle.check_point.specs.declared.read.Header.{Header}
use Rattle.check_point.specs.declared.tuples.TuplesFault.{TuplesFault}
use Rattle.check_point.specs.declared.tuples.TuplesFault.TheVariants as tuples

-- a disk's fault, and that of tuples, as those of a half
abbrev pub half_fault : IoFault → HalfFault
half_fault io.Failed = fault.Failed
half_fault io.OutOfMemory = fault.OutOfMemory

abbrev pub tuples_fault : TuplesFault → HalfFault
tuples_fault tuples.EndEarly = fault.BadHalf 28
tuples_fault (tuples.BadTuple at) = fault.BadTuple at
tuples_fault tuples.OutOfMemory = fault.OutOfMemory

-- A half is found: its states are the tuples, in the order of their keys.
abbrev pub Finds : ℕ → Image → ℕ → HalfFound → Type 0
Finds pages image half found =
    FindsHalf pages image half found.layout found.last (from_sorted {R = key_order} (model_tuples found.states))

-- a half is refused, or couldn't be read
abbrev pub IsRefused : ℕ → Image → ℕ → HalfFault → Type 0
IsRefused pages image half (fault.TooSmall need have) = RefusesHalf pages image half (TooSmall need have)
IsRefused pages image half (fault.BadHalf at) = RefusesHalf pages image half (BadHalf at)
IsRefused pages image half (fault.BadTuple at) = RefusesHalf pages image half (BadTuple at)
IsRefused pages image half fault.Failed = Unit {0}
IsRefused pages image half fault.OutOfMemory = Unit {0}

-- A disk fails only where its count rose. Memory may be short at any time, and a half is refused for what it is.
abbrev pub HalfCameFrom : ℕ → ℕ → HalfFault → Type 0
HalfCameFrom before now (fault.TooSmall need have) = Unit {0}
HalfCameFrom before now (fault.BadHalf at) = Unit {0}
HalfCameFrom before now (fault.BadTuple at) = Unit {0}
HalfCameFrom before now fault.Failed = Rose before now
HalfCameFrom before now fault.OutOfMemory = Unit {0}

-- The layout fits a disk of so many pages, and the tuples fit the layout, with keys that rise and numbers up to the last one.
pub record IsFit (pages : ℕ) (found : HalfFound) : Type 0 where
  pub total : total_pages found.layout ≤ pages
  pub most : found.last ≤ greatest_number
  pub each : All (λ one. IsTuple (data_pages found.layout) one.0 one.1) (model_tuples found.states)
  pub born : All (λ one. one.1.born ≤ found.last) (model_tuples found.states)
  pub rise : DoTuplesRise (model_tuples found.states)
  pub room : length (tuples_bytes (model_tuples found.states)) ≤ page_bytes * found.layout.room

-- the page of a header tells this, on a disk of so many pages
pub record TellsHeader (pages : ℕ) (page : List ℕ) (header : Header) : Type 0 where
  pub first : AreGood page first_fields
  pub fits : total_pages (told_layout page) ≤ pages
  pub others : AreGood page (other_fields page)
  pub layout : header.layout ≡ told_layout page
  pub last : header.told.last ≡ told_last page
  pub count : header.told.count ≡ told_count page
  pub bytes : header.told.length ≡ told_length page

-- it is refused there, or couldn't be read
abbrev pub RefusesHeader : ℕ → List ℕ → HalfFault → Type 0
RefusesHeader pages page (fault.TooSmall need have) =
    AreGood page first_fields × (need ≡ total_pages (told_layout page)) × (have ≡ pages) × (pages < need)
RefusesHeader pages page (fault.BadHalf at) =
    IsFirstBroken page first_fields at
    ⊎ (AreGood page first_fields × (total_pages (told_layout page) ≤ pages) × IsFirstBroken page (other_fields page) at)
RefusesHeader pages page (fault.BadTuple at) = ⊥
RefusesHeader pages page fault.Failed = Unit {0}
RefusesHeader pages page fault.OutOfMemory = Unit {0}

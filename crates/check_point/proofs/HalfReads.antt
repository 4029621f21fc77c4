-- What was read of a half, put together.
use Rattle.std.proofs.Common.{◌≡◌, ℕ, ◌*◌, ◌<◌, ◌≤◌, inl, inr, List, [], length, take, drop, refl, sym, ap, ◌∙◌, subst, arith}
use Rattle.std.specs.FinMap.{from_sorted}
use Rattle.blob_base.specs.declared.faults.IoFault.{IoFault}
use Rattle.blob_base.specs.declared.faults.IoFault.TheVariants as io
use Rattle.disk_model.proofs.Areas.{pages-of}
use Rattle.store_model.specs.Disk.{Image, area_of, page_bytes}
use Rattle.store_model.specs.HalfFields.{told_last, told_layout, told_length}
use Rattle.store_model.specs.HalfRefusals.{AreFirst, AreTuples, EndsEarly, FindsHalf, HasHeader, IsRefusedTuple, rules_behind, stored_states, tuples_bytes}
use Rattle.store_model.specs.Images.{Story}
use Rattle.store_model.specs.Key.{key_order}
use Rattle.store_model.specs.Layout.{Layout, data_pages, header_page, states_page}
use Rattle.store_model.specs.Log.{body_pages}
use Rattle.store_model.specs.State.{State}
use Rattle.store_model.specs.TupleFields.{IsBadTuple}
use Rattle.std.proofs.lemmas.List.{length-map, take_all}
use Rattle.store_model.proofs.AreaLaws.{take-area}
use Rattle.store_model.proofs.HalfReadingLaws.{FindsHalf-read, length-stored_states}
use Rattle.check_point.specs.Reads.{IsRefused, RefusesHeader, TellsHeader, half_fault, tuples_fault}
use Rattle.check_point.specs.Tuples.{IsRefusal, model_tuple, model_tuples}
use Rattle.check_point.specs.declared.read.HalfFault.{HalfFault}
use Rattle.check_point.specs.declared.read.HalfFault.TheVariants as fault
use Rattle.check_point.specs.declared.read.Header.{Header}
use Rattle.check_point.specs.declared.tuples.Keyed.{Keyed}
use Rattle.check_point.specs.declared.tuples.TuplesFault.{TuplesFault}
use Rattle.check_point.specs.declared.tuples.TuplesFault.TheVariants as tuples

-- no bytes of none
take-none : (n : ℕ) (xs : List ℕ) → xs ≡ [] → [] ≡ take n xs
take-none n xs none = sym (take_all n [] (omega arith)) ∙ ap (λ (ys : List ℕ). take n ys) (sym none)

-- the bytes of the states, from the pages that they stand on
pub states-read : (story : Story) (first given count room : ℕ) (begun bytes : List ℕ) → given ≡ first → begun ≡ [] → count ≤ page_bytes * room
    → (begun ≡ take count (area_of story.reads given 0) → bytes ≡ take count (area_of story.reads given (body_pages count)))
    → bytes ≡ take count (area_of story.reads first room)
states-read story first given count room begun bytes same none most read =
    read (none ∙ take-none count (area_of story.reads given 0) refl)
    ∙ sym (take-area story.reads given (body_pages count) room count (pages-of story) (omega (arith, most)) (omega arith))
    ∙ ap (λ (p : ℕ). take count (area_of story.reads p room)) same

-- a header that was read
pub has-header : (pages half : ℕ) (image : Image) (header : Header) → TellsHeader pages (image (header_page half)) header → HasHeader pages image half
has-header pages half image header tells = record {
  layout = record { first = tells.first; fits = tells.fits };
  others = tells.others;
}

-- the bytes are those of the states that it tells
pub states-told : (pages half : ℕ) (old mid : Image) (header : Header) (bytes : List ℕ) → TellsHeader pages (old (header_page half)) header → mid ≡ old
    → bytes ≡ take header.told.length (area_of mid (states_page header.layout half) header.layout.room) → bytes ≡ stored_states old half
states-told pages half old mid header bytes tells same is =
    let page : List ℕ = old (header_page half) in
    is
    ∙ ap (λ (image : Image). take header.told.length (area_of image (states_page header.layout half) header.layout.room)) same
    ∙ ap (λ (n : ℕ). take n (area_of old (states_page header.layout half) header.layout.room)) tells.bytes
    ∙ ap (λ (layout : Layout). take (told_length page) (area_of old (states_page layout half) layout.room)) tells.layout

-- tuples under what the header tells
AreTuples-told : (pages half : ℕ) (old : Image) (header : Header) (extent : ℕ) (bytes : List ℕ) (found : List (List ℕ × State)) → TellsHeader pages (old (header_page half)) header
    → extent ≡ data_pages header.layout → bytes ≡ stored_states old half → AreTuples extent header.told.last bytes found → AreFirst old half found
AreTuples-told pages half old header extent bytes found tells data_is is are =
    let page : List ℕ = old (header_page half) in
    subst (λ (n : ℕ). AreTuples n (told_last page) (stored_states old half) found) (data_is ∙ ap data_pages tells.layout)
    (subst (λ (n : ℕ). AreTuples extent n (stored_states old half) found) tells.last
    (subst (λ (xs : List ℕ). AreTuples extent header.told.last xs found) is are))

-- a half that was read
pub half-found : (pages half : ℕ) (old : Story) (mid : Image) (header : Header) (extent : ℕ) (bytes : List ℕ) (found : List Keyed)
    → TellsHeader pages (old.reads (header_page half)) header → mid ≡ old.reads
    → bytes ≡ take header.told.length (area_of mid (states_page header.layout half) header.layout.room) → extent ≡ data_pages header.layout
    → AreTuples extent header.told.last bytes (model_tuples found) → length found ≡ header.told.count → tuples_bytes (model_tuples found) ≡ bytes
    → FindsHalf pages old.reads half header.layout header.told.last (from_sorted {R = key_order} (model_tuples found))
half-found pages half old mid header extent bytes found tells same is data_is are counted all =
    let told : bytes ≡ stored_states old.reads half = states-told pages half old.reads mid header bytes tells same is in
    let finds = FindsHalf-read pages old.reads half (model_tuples found) (pages-of old) (has-header pages half old.reads header tells)
    (AreTuples-told pages half old.reads header extent bytes (model_tuples found) tells data_is told are)
    (length-map found model_tuple ∙ counted ∙ tells.count) (all ∙ told) in
    subst (λ (layout : Layout). FindsHalf pages old.reads half layout header.told.last (from_sorted {R = key_order} (model_tuples found))) (sym tells.layout)
    (subst (λ (n : ℕ). FindsHalf pages old.reads half (told_layout (old.reads (header_page half))) n (from_sorted {R = key_order} (model_tuples found))) (sym tells.last) finds)

-- a header that is refused
pub header-refused : (pages half : ℕ) (image : Image) (e : HalfFault) → RefusesHeader pages (image (header_page half)) e → IsRefused pages image half e
header-refused pages half image (fault.TooSmall need have) refused = refused
header-refused pages half image (fault.BadHalf at) (inl first) = inl first
header-refused pages half image (fault.BadHalf at) (inr others) = inr (inl (record { first = others.0; fits = others.1 }, others.2))
header-refused pages half image (fault.BadTuple at) refused = absurd refused
header-refused pages half image fault.Failed refused = tt
header-refused pages half image fault.OutOfMemory refused = tt

-- a disk's fault refuses nothing
pub io-refused : (pages half : ℕ) (image : Image) (e : IoFault) → IsRefused pages image half (half_fault e)
io-refused pages half image io.Failed = tt
io-refused pages half image io.OutOfMemory = tt

-- tuples that are refused
pub tuples-refused : (pages half : ℕ) (old : Story) (mid : Image) (header : Header) (extent : ℕ) (bytes : List ℕ) (e : TuplesFault)
    → TellsHeader pages (old.reads (header_page half)) header → mid ≡ old.reads
    → bytes ≡ take header.told.length (area_of mid (states_page header.layout half) header.layout.room) → extent ≡ data_pages header.layout
    → IsRefusal extent header.told.last header.told.count bytes e → IsRefused pages old.reads half (tuples_fault e)
tuples-refused pages half old mid header extent bytes tuples.EndEarly tells same is data_is early =
    let told : bytes ≡ stored_states old.reads half = states-told pages half old.reads mid header bytes tells same is in
    let has : HasHeader pages old.reads half = has-header pages half old.reads header tells in
    let ends : EndsEarly old.reads half = record {
      tuples = early.tuples;
      are = AreTuples-told pages half old.reads header extent bytes early.tuples tells data_is told early.are;
      count = early.all ∙ tells.count;
      early = omega (arith, early.early, ap length told, length-stored_states pages old.reads half (pages-of old) has);
    } in
    inr (inr (has, ends, refl))
tuples-refused pages half old mid header extent bytes (tuples.BadTuple at) tells same is data_is refused =
    let page : List ℕ = old.reads (header_page half) in
    let told : bytes ≡ stored_states old.reads half = states-told pages half old.reads mid header bytes tells same is in
    let here : IsRefusedTuple old.reads half at = record {
      tuples = refused.tuples;
      are = AreTuples-told pages half old.reads header extent bytes refused.tuples tells data_is told refused.are;
      few = subst (λ (n : ℕ). length refused.tuples < n) tells.count refused.few;
      place = refused.place;
      bad = subst (λ (n : ℕ). IsBadTuple (rules_behind refused.tuples n) (data_pages (told_layout page)) (drop (length (tuples_bytes refused.tuples)) (stored_states old.reads half)) refused.place) tells.last
          (subst (λ (n : ℕ). IsBadTuple (rules_behind refused.tuples header.told.last) n (drop (length (tuples_bytes refused.tuples)) (stored_states old.reads half)) refused.place) (data_is ∙ ap data_pages tells.layout)
          (subst (λ (xs : List ℕ). IsBadTuple (rules_behind refused.tuples header.told.last) extent (drop (length (tuples_bytes refused.tuples)) xs) refused.place) told refused.bad));
      at_is = refused.at_is;
    } in
    (has-header pages half old.reads header tells, here)
tuples-refused pages half old mid header extent bytes tuples.OutOfMemory tells same is data_is refused = tt

-- The pages that states own.
use Rattle.std.proofs.Common.{◌≡◌, ℕ, suc, List, [], ◌∷◌, refl, sym, subst, ◌∙◌, Some}
use Rattle.std.specs.Prelude.{slice_get}
use Rattle.std.specs.List.{flat_map}
use Rattle.std.specs.FinMap.{FinMap, entries, entries_sorted, get, get-entries}
use Rattle.store_model.specs.Half.{IsHalf}
use Rattle.store_model.specs.Holds.{place_of}
use Rattle.store_model.specs.Key.{key_order}
use Rattle.store_model.specs.Layout.{Layout, data_pages}
use Rattle.store_model.specs.Reading.{blocks_of_states}
use Rattle.store_model.specs.Space.{AreBlocks, Block, blocks_of}
use Rattle.store_model.specs.State.{State}
use Rattle.store_model.proofs.SortedLaws.{find-at}
use Rattle.store_model.proofs.TupleBlockLaws.{AreBlocks-append, AreBlocks-none, IsTuple-blocks}

-- an entry of a map stands under its key
pub entry-there : (states : FinMap key_order State) (i : ℕ) (one : List ℕ × State) → slice_get (entries states) i ≡ Some one → get states one.0 ≡ Some one.1
entry-there states i one there = get-entries states one.0 ∙ find-at (entries states) i one.0 one (entries_sorted states) there refl

blocks-all : (pages : ℕ) (es : List (List ℕ × State)) → ((i : ℕ) (one : List ℕ × State) → slice_get es i ≡ Some one → AreBlocks pages (blocks_of (place_of one.1)))
    → AreBlocks pages (flat_map (λ (one : List ℕ × State). blocks_of (place_of one.1)) es)
blocks-all pages [] each = AreBlocks-none pages
blocks-all pages (e ∷ es) each =
    AreBlocks-append pages (blocks_of (place_of e.1)) (flat_map (λ (one : List ℕ × State). blocks_of (place_of one.1)) es) (each 0 e refl)
    (blocks-all pages es (λ i one there. each (suc i) one there))

-- those of a half are blocks of the data area
pub half-blocks : (layout : Layout) (last pages : ℕ) (states : FinMap key_order State) (owned : List Block) → IsHalf layout last states → owned ≡ blocks_of_states states → pages ≡ data_pages layout
    → AreBlocks pages owned
half-blocks layout last pages states owned half owned_is pages_are =
    subst (λ (n : ℕ). AreBlocks n owned) (sym pages_are)
    (subst (AreBlocks (data_pages layout)) (sym owned_is)
    (blocks-all (data_pages layout) (entries states) (λ i one there. IsTuple-blocks (data_pages layout) one.0 one.1 (half.tuples one.0 one.1 (entry-there states i one there)))))

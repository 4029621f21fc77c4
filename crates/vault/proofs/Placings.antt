-- The blocks and pages of changes that have their places, as they are poured.
use Rattle.std.proofs.Common.{◌≡◌, ℕ, zero, suc, ◌+◌, ◌%◌, ◌≤◌, Bool, true, false, cond, List, [], ◌∷◌, ◌++◌, length, map, take, drop, Option, Some, None, Result, Ok, Err, refl, sym, ◌∙◌, ap, subst, arith, append-nil, length-append}
use Rattle.std.specs.Prelude.{◌==◌, zip}
use Rattle.std.specs.List.{AllZip, enumerate_from, flat_map, range_with_len, sum_by}
use Rattle.std.proofs.lemmas.List.{length-map, take-append-drop}
use Rattle.std.proofs.lemmas.List.FromFn.{length-range_with_len}
use Rattle.frame_codec.specs.declared.entry.Write.{Write}
use Rattle.frame_codec.specs.declared.entry.Write.TheVariants as write
use Rattle.group_plan.specs.Plans.{DoesWrite, IsMadeBy}
use Rattle.store_model.specs.Disk.{page_bytes}
use Rattle.store_model.specs.Holds.{place_of}
use Rattle.store_model.specs.Places.{extent_count, extent_tiers, first_of, fit, found_then, head_then, place_with, tail_tiers, taken}
use Rattle.store_model.specs.Placing.{Holding, Need, Placed, Whole, kept_heads, new_blocks, new_place, pages_of_need, pages_written, place_all, place_of_need, placed_before, placed_then, tiers_of}
use Rattle.store_model.specs.Shape.{tier_of}
use Rattle.store_model.specs.Space.{Block, blocks_of, extent_blocks, tail_blocks}
use Rattle.txn.specs.Requests.{need_of}
use Rattle.txn.specs.Txns.{is_append}
use Rattle.txn.specs.declared.change.Change.{Change}
use Rattle.txn.specs.declared.change.Change.TheVariants as change
use Rattle.vault.specs.Pours.{pour_blocks, pour_pages, pours_by}

-- one head more
long-then : (head : ℕ) (rest : Result (List ℕ) ℕ) (heads : List ℕ) (n : ℕ) → ((more : List ℕ) → rest ≡ Ok more → length more ≡ n) → head_then head rest ≡ Ok heads → length heads ≡ suc n
long-then head (Ok more) heads n long is = let same : head ∷ more ≡ heads = cc is in ap length (sym same) ∙ ap suc (long more refl)
long-then head (Err tier) heads n long is = absurd (cc is)

-- as many heads are taken as there are tiers
pub length-taken : (pages : ℕ) (tiers : List ℕ) (owned : List Block) (heads : List ℕ) → taken pages tiers owned ≡ Ok heads → length heads ≡ length tiers
length-taken pages [] owned heads is = let same : [] ≡ heads = cc is in ap length (sym same)
length-taken pages (tier ∷ tiers) owned heads is =
    elim (fit owned tier pages) as (λ (o : Option ℕ). found_then tier o (λ head. taken pages tiers ((head, tier) ∷ owned)) ≡ Ok heads → length heads ≡ suc (length tiers)) [
      | None ↦ λ found. absurd (cc found)
      | Some head ↦ λ found.
          long-then head (taken pages tiers ((head, tier) ∷ owned)) heads (length tiers) (λ more here. length-taken pages tiers ((head, tier) ∷ owned) more here) found
    ] is

-- A change has its key's need, over what is known of its object, and a head for each block.
pub record IsPlaced (held : List ℕ → Option Holding) (one : List ℕ × Need) (placed : Placed) : Type 0 where
  pub key : placed.key ≡ one.0
  pub need : placed.need ≡ one.1
  pub old : placed.old ≡ held one.0
  pub count : length placed.heads ≡ length (tiers_of placed.need placed.old)

-- one change before others
placed-first : (held : List ℕ → Option Holding) (one : List ℕ × Need) (others : List (List ℕ × Need)) (placed : Placed) (rest : Result (List Placed) (List ℕ × ℕ)) (all : List Placed)
    → IsPlaced held one placed → ((more : List Placed) → rest ≡ Ok more → AllZip (IsPlaced held) others more) → placed_before placed rest ≡ Ok all → AllZip (IsPlaced held) (one ∷ others) all
placed-first held one others placed (Ok more) all first later is =
    let same : placed ∷ more ≡ all = cc is in subst (AllZip (IsPlaced held) (one ∷ others)) same (first, later more refl)
placed-first held one others placed (Err none) all first later is = absurd (cc is)

-- each change of those that find places has its own
pub all-placed : (pages : ℕ) (held : List ℕ → Option Holding) (needs : List (List ℕ × Need)) (owned : List Block) (placed : List Placed)
    → place_all pages held needs owned ≡ Ok placed → AllZip (IsPlaced held) needs placed
all-placed pages held [] owned placed is = let same : [] ≡ placed = cc is in subst (AllZip (IsPlaced held) []) same tt
all-placed pages held (one ∷ others) owned placed is =
    elim (taken pages (tiers_of one.1 (held one.0)) owned) as (λ (r : Result (List ℕ) ℕ). taken pages (tiers_of one.1 (held one.0)) owned ≡ r
    → placed_then one.0 r (λ heads. record { key = one.0; need = one.1; old = held one.0; heads = heads }) (λ p. place_all pages held others (new_blocks p ++ owned)) ≡ Ok placed
    → AllZip (IsPlaced held) (one ∷ others) placed) [
      | Ok heads ↦ λ found here.
          let first : Placed = record { key = one.0; need = one.1; old = held one.0; heads = heads } in
          placed-first held one others first (place_all pages held others (new_blocks first ++ owned)) placed
          (record { key = refl; need = refl; old = refl; count = length-taken pages (tiers_of one.1 (held one.0)) owned heads found })
          (λ more there. all-placed pages held others (new_blocks first ++ owned) more there) here
      | Err tier ↦ λ found here. absurd (cc here)
    ] refl is

zip-both : {X Y : Type 0} (a c : List X) (b d : List Y) → length a ≡ length b → zip (a ++ c) (b ++ d) ≡ zip a b ++ zip c d
zip-both [] c [] d same = refl
zip-both [] c (y ∷ b) d same = absurd (omega (arith, same))
zip-both (x ∷ a) c [] d same = absurd (omega (arith, same))
zip-both (x ∷ a) c (y ∷ b) d same = ap (λ bs. (x, y) ∷ bs) (zip-both a c b d (omega (arith, same)))

-- the blocks of extents
zip-extents : (a n : ℕ) (heads : List ℕ) → length heads ≡ n
    → zip heads (map tier_of (range_with_len a n)) ≡ flat_map (λ (head : ℕ × ℕ). (head.1, tier_of head.0) ∷ []) (enumerate_from a heads)
zip-extents a zero [] is = refl
zip-extents a (suc n) [] is = absurd (omega (arith, is))
zip-extents a zero (x ∷ heads) is = absurd (omega (arith, is))
zip-extents a (suc n) (x ∷ heads) is = ap (λ (bs : List Block). (x, tier_of a) ∷ bs) (zip-extents (a + 1) n heads (omega (arith, is)))

-- the block of a tail
zip-tail : (b : Bool) (heads : List ℕ) → length heads ≡ length {A = ℕ} (cond b [] (0 ∷ [])) → zip heads (cond b [] (0 ∷ [])) ≡ tail_blocks (first_of heads)
zip-tail true [] is = refl
zip-tail false [] is = absurd (omega (arith, is))
zip-tail true (x ∷ heads) is = absurd (omega (arith, is))
zip-tail false (x ∷ []) is = refl
zip-tail false (x ∷ y ∷ heads) is = absurd (omega (arith, is))

length-tiers : (n : ℕ) → length (extent_tiers n) ≡ n
length-tiers n = length-map (range_with_len 0 n) tier_of ∙ length-range_with_len 0 n

parts-long : (n a b h t d : ℕ) → a + b ≡ h → h ≡ n + t → a ≡ n → b ≡ t
parts-long n a b h t d whole is first = omega (arith, whole, is, first)

length-front : (n : ℕ) (xs : List ℕ) → n ≤ length xs → length (take n xs) ≡ n
length-front zero xs less = refl
length-front (suc n) [] less = absurd (omega (arith, less))
length-front (suc n) (x ∷ xs) less = ap suc (length-front n xs (omega (arith, less)))

-- the blocks that a whole content takes are those of its place
pub whole-blocks : (size : ℕ) (heads : List ℕ) → length heads ≡ length (extent_tiers (extent_count size) ++ tail_tiers size)
    → zip heads (extent_tiers (extent_count size) ++ tail_tiers size) ≡ blocks_of (place_with size heads)
whole-blocks size heads is =
    let n : ℕ = extent_count size in
    let all : length heads ≡ n + length (tail_tiers size) = is ∙ length-append (extent_tiers n) (tail_tiers size) ∙ ap (λ (m : ℕ). m + length (tail_tiers size)) (length-tiers n) in
    let front : length (take n heads) ≡ n = length-front n heads (omega (arith, all)) in
    let parts : length (take n heads) + length (drop n heads) ≡ length heads = sym (length-append (take n heads) (drop n heads)) ∙ ap length (take-append-drop n heads) in
    let behind : length (drop n heads) ≡ length (tail_tiers size) = omega (arith, all, front, parts) in
    ap (λ (hs : List ℕ). zip hs (extent_tiers n ++ tail_tiers size)) (sym (take-append-drop n heads))
    ∙ zip-both (take n heads) (drop n heads) (extent_tiers n) (tail_tiers size) (front ∙ sym (length-tiers n))
    ∙ ap (λ (bs : List Block). bs ++ zip (drop n heads) (tail_tiers size)) (zip-extents 0 n (take n heads) front)
    ∙ ap (λ (bs : List Block). extent_blocks (take n heads) ++ bs) (zip-tail (size % page_bytes == 0) (drop n heads) behind)

-- a content that is put is poured to the blocks that were taken for it, on as many pages
put-blocks : (key content : List ℕ) (number : ℕ) (need : Need) (old : Option Holding) (heads : List ℕ) (written : Write) → need ≡ Whole (length content)
    → length heads ≡ length (tiers_of need old) → DoesWrite key (change.Put content) number (place_of_need need (kept_heads need old ++ heads)) written
    → pour_blocks (pours_by (change.Put content) written) ≡ zip heads (tiers_of need old)
put-blocks key content number need old heads (write.Del at) is =
    subst (λ (n : Need). length heads ≡ length (tiers_of n old) → DoesWrite key (change.Put content) number (place_of_need n (kept_heads n old ++ heads)) (write.Del at)
    → [] ≡ zip heads (tiers_of n old)) (sym is) (λ count does. absurd does)
put-blocks key content number need old heads (write.Set at state) is =
    subst (λ (n : Need). length heads ≡ length (tiers_of n old) → DoesWrite key (change.Put content) number (place_of_need n (kept_heads n old ++ heads)) (write.Set at state)
    → blocks_of (place_of state.value) ++ [] ≡ zip heads (tiers_of n old)) (sym is) (λ count does.
    let made : IsMadeBy (change.Put content) number (place_with (length content) heads) state.value = does.2 in
    append-nil (blocks_of (place_of state.value)) ∙ ap blocks_of made.1 ∙ sym (whole-blocks (length content) heads count))

put-pages : (key content : List ℕ) (number : ℕ) (need : Need) (old : Option Holding) (heads : List ℕ) (written : Write) → need ≡ Whole (length content)
    → DoesWrite key (change.Put content) number (place_of_need need (kept_heads need old ++ heads)) written
    → sum_by pour_pages (pours_by (change.Put content) written) ≡ pages_of_need need old
put-pages key content number need old heads (write.Del at) is =
    subst (λ (n : Need). DoesWrite key (change.Put content) number (place_of_need n (kept_heads n old ++ heads)) (write.Del at) → 0 ≡ pages_of_need n old) (sym is) (λ does. absurd does)
put-pages key content number need old heads (write.Set at state) is =
    subst (λ (n : Need). DoesWrite key (change.Put content) number (place_of_need n (kept_heads n old ++ heads)) (write.Set at state)
    → sum_by pour_pages ((state.value, content) ∷ []) ≡ pages_of_need n old) (sym is) (λ does. omega arith)

zip-none : {X Y : Type 0} (xs : List X) → [] ≡ zip {K = X} {X = Y} xs []
zip-none [] = refl
zip-none (x ∷ xs) = refl

-- what is poured for a change
pub placed-blocks : (number : ℕ) (key : List ℕ) (one : Change) (placed : Placed) (written : Write) → is_append one ≡ false → placed.need ≡ need_of one
    → length placed.heads ≡ length (tiers_of placed.need placed.old) → DoesWrite key one number (new_place placed) written → pour_blocks (pours_by one written) ≡ new_blocks placed
placed-blocks number key (change.Put content) placed written whole is count does = put-blocks key content number placed.need placed.old placed.heads written is count does
placed-blocks number key (change.Append extension) placed written whole is count does = absurd (cc whole)
placed-blocks number key change.Del placed written whole is count does =
    zip-none placed.heads ∙ ap (λ (n : Need). zip placed.heads (tiers_of n placed.old)) (sym is)

pub placed-pages : (number : ℕ) (key : List ℕ) (one : Change) (placed : Placed) (written : Write) → is_append one ≡ false → placed.need ≡ need_of one
    → DoesWrite key one number (new_place placed) written → sum_by pour_pages (pours_by one written) ≡ pages_written placed
placed-pages number key (change.Put content) placed written whole is does = put-pages key content number placed.need placed.old placed.heads written is does
placed-pages number key (change.Append extension) placed written whole is does = absurd (cc whole)
placed-pages number key change.Del placed written whole is does = ap (λ (n : Need). pages_of_need n placed.old) (sym is)

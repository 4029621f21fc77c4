-- States that are put into the writer of a half, one behind the other.
use Rattle.std.proofs.Common.{◌≡◌, ℕ, ◌+◌, ◌/◌, ◌≤◌, List, [], ◌∷◌, ◌++◌, length, take, get_or, refl, sym, ap, subst, ◌∙◌, arith, Some}
use Rattle.std.specs.Prelude.{IsTrue, slice_get}
use Rattle.std.proofs.lemmas.List.{take_all, take_more}
use Rattle.std.proofs.lemmas.List.Concat.{length-flat_map}
use Rattle.std.proofs.lemmas.List.Folds.{length-flat_map-take}
use Rattle.std.proofs.lemmas.Option.{get_or_from_slice_get, slice_get_within}
use Rattle.check_point.specs.Halves.{Stand, filled_pages, spelled}
use Rattle.check_point.specs.Writers.{HasTaken, Parts}
use Rattle.disk_model.specs.Disks.{OnlyWrites}
use Rattle.disk_model.specs.declared.disk.Disk.{Ghosts}
use Rattle.disk_model.proofs.DiskLaws.{OnlyWrites-more, OnlyWrites-none}
use Rattle.relation.specs.Parts.{encoded_bytes}
use Rattle.store_model.specs.Disk.{Took, page_bytes}
use Rattle.store_model.specs.Images.{Within}
use Rattle.store_model.specs.Layout.{Layout, states_page}
use Rattle.store_model.specs.State.{State}
use Rattle.store_model.specs.Tuple.{spelling}

-- how many bytes the tuples of states take
pub length-spelled : (es : List (List ℕ × State)) → length (spelled es) ≡ encoded_bytes es
length-spelled es = length-flat_map (λ (e : List ℕ × State). spelling e.0 e.1) es

-- the first states take no more bytes than all of them
pub spelled-front : (es : List (List ℕ × State)) (i : ℕ) (one : List ℕ × State) → slice_get es i ≡ Some one
    → length (spelled (take i es)) + length (spelling one.0 one.1) ≤ length (spelled es)
spelled-front es i one there =
    let more = length-flat_map-take (λ (e : List ℕ × State). spelling e.0 e.1) es i one (slice_get_within es i one there) in
    let here : length (spelling (get_or es i one).0 (get_or es i one).1) ≡ length (spelling one.0 one.1) =
    ap (λ (e : List ℕ × State). length (spelling e.0 e.1)) (get_or_from_slice_get es i one one there) in
    omega (arith, more, here)

-- The first states are put.
pub record Putting {D : Type 0} (g : Ghosts D) (start now : Parts) (put : List (List ℕ × State)) (old new : D) : Type 0 where
  pub taken : HasTaken now put
  pub stands : IsTrue g.tells → Stand (states_page start.layout start.half) (now.taken / page_bytes) (spelled put) (g.story new).reads
  pub layout : now.layout ≡ start.layout
  pub half : now.half ≡ start.half
  pub last : now.last ≡ start.last
  pub wrote : OnlyWrites g (Within (states_page start.layout start.half) start.layout.room) old new
  pub writes : IsTrue g.tells → Took 0 (now.taken / page_bytes) 0 (g.calls old) (g.calls new)

-- none yet
pub Putting-none : {D : Type 0} (g : Ghosts D) (start : Parts) (disk : D) → HasTaken start [] → Putting g start start [] disk disk
Putting-none g start disk none =
    let nothing : start.taken ≡ 0 = sym none.ends.taken_is in
    record {
      taken = none;
      stands = λ tells i less. absurd (omega (arith, less, nothing));
      layout = refl;
      half = refl;
      last = refl;
      wrote = OnlyWrites-none g (Within (states_page start.layout start.half) start.layout.room) disk;
      writes = λ tells. record { reads = omega arith; writes = omega (arith, nothing); syncs = omega arith };
    }

-- the states up to one more
take-next : (es : List (List ℕ × State)) (i : ℕ) (one : List ℕ × State) → slice_get es i ≡ Some one → take i es ++ one ∷ [] ≡ take (i + 1) es
take-next es i one there =
    ap (λ (e : List ℕ × State). take i es ++ e ∷ []) (sym (get_or_from_slice_get es i one one there)) ∙ sym (take_more es i one (slice_get_within es i one there))

-- one more
pub Putting-next : {D : Type 0} (g : Ghosts D) (start now next : Parts) (es : List (List ℕ × State)) (i : ℕ) (one : List ℕ × State) (old mid new : D)
    → slice_get es i ≡ Some one → Putting g start now (take i es) old mid
    → HasTaken next (take i es ++ one ∷ [])
    → (IsTrue g.tells → Stand (states_page now.layout now.half) (next.taken / page_bytes) (spelled (take i es ++ one ∷ [])) (g.story new).reads)
    → next.layout ≡ now.layout → next.half ≡ now.half → next.last ≡ now.last → next.taken ≡ now.taken + length (spelling one.0 one.1)
    → OnlyWrites g (Within (states_page now.layout now.half) now.layout.room) mid new
    → (IsTrue g.tells → Took 0 (filled_pages now.taken (length (spelling one.0 one.1))) 0 (g.calls mid) (g.calls new))
    → Putting g start next (take (i + 1) es) old new
Putting-next g start now next es i one old mid new there so_far had stood layout half last more wrote took =
    let tuples = take-next es i one there in
    let place : states_page now.layout now.half ≡ states_page start.layout start.half =
    ap (λ (n : ℕ). states_page now.layout n) so_far.half ∙ ap (λ (l : Layout). states_page l start.half) so_far.layout in
    let room : now.layout.room ≡ start.layout.room = ap (λ (l : Layout). l.room) so_far.layout in
    record {
      taken = subst (HasTaken next) tuples had;
      stands = λ tells. subst (λ (es : List (List ℕ × State)). Stand (states_page start.layout start.half) (next.taken / page_bytes) (spelled es) (g.story new).reads) tuples
          (subst (λ (p : ℕ). Stand p (next.taken / page_bytes) (spelled (take i es ++ one ∷ [])) (g.story new).reads) place (stood tells));
      layout = layout ∙ so_far.layout;
      half = half ∙ so_far.half;
      last = last ∙ so_far.last;
      wrote = OnlyWrites-more g (Within (states_page now.layout now.half) now.layout.room) (Within (states_page start.layout start.half) start.layout.room) old mid new
          (λ p inside. record { from = omega (arith, inside.from, place); to = omega (arith, inside.to, place, room) }) so_far.wrote wrote;
      writes = λ tells. let before = so_far.writes tells in let after = took tells in
          record { reads = omega (arith, before.reads, after.reads); writes = omega (arith, before.writes, after.writes, more); syncs = omega (arith, before.syncs, after.syncs) };
    }

-- one more state has room where all of them have
pub put-room : (es : List (List ℕ × State)) (i room taken : ℕ) (one : List ℕ × State) → slice_get es i ≡ Some one → encoded_bytes es ≤ room → length (spelled (take i es)) ≡ taken
    → taken + length (spelling one.0 one.1) ≤ room
put-room es i room taken one there most is = omega (arith, spelled-front es i one there, length-spelled es, most, is)

-- another write of the states' pages
pub Putting-failed : {D : Type 0} (g : Ghosts D) (start now : Parts) (put : List (List ℕ × State)) (old mid new : D) → Putting g start now put old mid
    → OnlyWrites g (Within (states_page now.layout now.half) now.layout.room) mid new → OnlyWrites g (Within (states_page start.layout start.half) start.layout.room) old new
Putting-failed g start now put old mid new so_far wrote =
    let place : states_page now.layout now.half ≡ states_page start.layout start.half =
    ap (λ (n : ℕ). states_page now.layout n) so_far.half ∙ ap (λ (l : Layout). states_page l start.half) so_far.layout in
    let room : now.layout.room ≡ start.layout.room = ap (λ (l : Layout). l.room) so_far.layout in
    OnlyWrites-more g (Within (states_page now.layout now.half) now.layout.room) (Within (states_page start.layout start.half) start.layout.room) old mid new
    (λ p inside. record { from = omega (arith, inside.from, place); to = omega (arith, inside.to, place, room) }) so_far.wrote wrote

-- all of them
pub all-put : (es : List (List ℕ × State)) (i count : ℕ) → i ≡ count → length es ≡ count → take i es ≡ es
all-put es i count end long = take_all i es (omega (arith, end, long))

-- What is so of memory that has the same store, whatever memory its relation has spare.
use Rattle.std.proofs.Common.{◌≡◌, ℕ, ◌≤◌, List, length, Option, Some, inl, inr, refl, sym, ◌∙◌, ap, subst, arith}
use Rattle.std.specs.Prelude.{IfSome}
use Rattle.std.specs.FinMap.{FinMap}
use Rattle.std.specs.List.Sorted.{IsPermutation}
use Rattle.disk_model.specs.Disks.{OnlyWrites}
use Rattle.disk_model.specs.declared.disk.Disk.{Ghosts}
use Rattle.disk_model.proofs.DiskLaws.{OnlyWrites-none}
use Rattle.extent_alloc.specs.Parts.{Parts as SpaceParts}
use Rattle.meta_log.specs.Logs.{Parts}
use Rattle.relation.specs.Parts.{Parts as RelationParts, owned_by}
use Rattle.store_model.specs.Half.{IsHalf}
use Rattle.store_model.specs.Key.{key_order}
use Rattle.store_model.specs.Space.{Apart}
use Rattle.store_model.specs.State.{State}
use Rattle.store_model.specs.Images.{Story}
use Rattle.store_model.specs.Layout.{Layout, data_pages, total_pages}
use Rattle.store_model.specs.Log.{body_pages}
use Rattle.store_model.specs.Reading.{Found, blocks_of_states}
use Rattle.store_model.specs.Windows.{IsBodyPage}
use Rattle.vault.specs.Pours.{IsSecondPage, Pour}
use Rattle.vault.specs.Vaults.{InWindows, IsAtGate, IsAtRest, IsHeld, IsVault, SameStore, found_of}
use Rattle.vault.specs.declared.fault.Cause.{Cause}
use Rattle.vault.specs.declared.memory.Memory.{Memory}
use Rattle.vault.proofs.Turnings.{turned-none, turned-same, turned-wrote}

-- A disk is at rest with it.
pub IsAtRest-found : (pages : ℕ) (story : Story) (a b : Memory) → found_of a ≡ found_of b → a.log ≡ b.log → IsAtRest pages story a → IsAtRest pages story b
IsAtRest-found pages story a b found log rest = record {
  at =
      subst (λ (f : Found). IsAtGate pages story.reads f b.log.half b.log.gate) found
      (subst (λ (l : Parts). IsAtGate pages story.reads (found_of a) l.half l.gate) log rest.at);
  settled = rest.settled;
}

module _ {D : Type 0} (g : Ghosts D) (bytes : List ℕ) (pours : List Pour) (old new : D) where
  -- The windows of a commit go out from it.
  pub InWindows-same : (a b : Memory) → a.layout ≡ b.layout → a.log ≡ b.log → found_of a ≡ found_of b → InWindows g a bytes pours old new → InWindows g b bytes pours old new
  InWindows-same a b layout log found windows =
      let first = windows.first in
      record {
        mid = windows.mid;
        first = record {
          half = first.half;
          gate = first.gate;
          two = first.two;
          fits = first.fits;
          base = first.base;
          turned = turned-same g old first.base a b found log first.turned;
          start = elim first.start [
            | inl same ↦ inl same
            | inr from ↦ inr (λ tells was.
                let at = from tells (IsAtRest-found (g.size old) (g.story old) b a (sym found) (sym log) was) in
                (subst (λ (f : Found). IsAtGate (g.size first.base) (g.story first.base).reads f first.half first.gate) found at.0, at.1))
          ];
          wrote = first.wrote;
        };
        second = elim windows.second [
          | inl same ↦ inl same
          | inr both ↦
              inr (
                (λ tells.
                    let begins = both.0 tells in
                    record {
                      at = λ was.
                          let at = begins.at (IsAtRest-found (g.size old) (g.story old) b a (sym found) (sym log) was) in
                          (subst (λ (f : Found). IsAtGate (g.size first.base) (g.story first.base).reads f first.half first.gate) found at.0, at.1);
                      settled = begins.settled;
                      stands = begins.stands;
                    }),
                subst (λ (l : Layout). OnlyWrites g (IsSecondPage l pours first.half first.gate) windows.mid new) layout both.1,
              )
        ];
      }

  -- The disk keeps its size.
  pub InWindows-size : (a : Memory) → InWindows g a bytes pours old new → g.size new ≡ g.size old
  InWindows-size a windows =
      let first : g.size windows.mid ≡ g.size old = windows.first.wrote.keeps.size ∙ (turned-wrote g old windows.first.base a windows.first.turned).keeps.size in
      elim windows.second [
        | inl same ↦ ap g.size same ∙ first
        | inr both ↦ both.1.keeps.size ∙ first
      ]

-- Nothing may have been written.
pub InWindows-none : {D : Type 0} (g : Ghosts D) (before : Memory) (bytes : List ℕ) (pours : List Pour) (disk : D) → body_pages (length bytes) ≤ 510
    → InWindows g before bytes pours disk disk
InWindows-none g before bytes pours disk short = record {
  mid = disk;
  first = record {
    half = 0;
    gate = 0;
    two = omega arith;
    fits = omega (arith, short);
    base = disk;
    turned = turned-none g before disk;
    start = inl refl;
    wrote = OnlyWrites-none g (IsBodyPage 0 0 bytes) disk;
  };
  second = inl refl;
}

-- memory that has the same store, whatever its space
pub found-store : (a b : Memory) → SameStore a b → found_of a ≡ found_of b
found-store a b same = λ i. record { layout = sym same.layout i; last = sym same.last i; states = (sym same.relation i).states }

-- A vault stays what it is where the space is taken out of its memory,
pub IsVault-same : {D : Type 0} (g : Ghosts D) (disk : D) (a b : Memory) (shut : Option Cause) → SameStore a b → IsHeld b → IsVault g disk a shut → IsVault g disk b shut
IsVault-same g disk a b shut same held vault = record {
  held = held;
  fits = omega (arith, vault.fits, ap (λ (l : Layout). total_pages l) same.layout);
  none = λ yet. ap (λ (l : Parts). l.next) same.log ∙ vault.none yet ∙ sym (ap (λ (l : Parts). l.gate) same.log);
  rest = λ tells yet. IsAtRest-found (g.size disk) (g.story disk) a b (found-store a b same) (sym same.log) (vault.rest tells yet);
}

-- and where a space is put back whose blocks are those that the states own.
pub IsVault-spaced : {D : Type 0} (g : Ghosts D) (disk : D) (a : Memory) (shut : Option Cause) (space : SpaceParts) → IsVault g disk a shut
    → IsPermutation space.owned (owned_by a.relation.states) → space.pages ≡ data_pages a.layout
    → IsVault g disk (record { layout = a.layout; relation = a.relation; space = Some space; log = a.log; last = a.last }) shut
IsVault-spaced g disk a shut space vault owned pages = record {
  held = record { half = vault.held.half; apart = vault.held.apart; log = vault.held.log; owned = owned; pages = pages };
  fits = vault.fits;
  none = vault.none;
  rest = λ tells yet. record { at = (vault.rest tells yet).at; settled = (vault.rest tells yet).settled };
}

-- And it stays one where its relation has more memory spare.
pub IsVault-reserved : {D : Type 0} (g : Ghosts D) (disk : D) (a : Memory) (relation : RelationParts) (shut : Option Cause) → relation.states ≡ a.relation.states
    → IsVault g disk a shut → IsVault g disk (record { layout = a.layout; relation = relation; space = a.space; log = a.log; last = a.last }) shut
IsVault-reserved g disk a relation shut same vault =
    let now : Memory = record { layout = a.layout; relation = relation; space = a.space; log = a.log; last = a.last } in
    record {
      held = record {
        half = subst (λ (m : FinMap key_order State). IsHalf a.layout a.last m) (sym same) vault.held.half;
        apart = subst (λ (m : FinMap key_order State). Apart (blocks_of_states m)) (sym same) vault.held.apart;
        log = vault.held.log;
        owned = subst (λ (m : FinMap key_order State). IfSome a.space (λ space. IsPermutation space.owned (owned_by m))) (sym same) vault.held.owned;
        pages = vault.held.pages;
      };
      fits = vault.fits;
      none = vault.none;
      rest = λ tells yet.
          IsAtRest-found (g.size disk) (g.story disk) a now (λ i. record { layout = a.layout; last = a.last; states = sym same i }) refl (vault.rest tells yet);
    }
